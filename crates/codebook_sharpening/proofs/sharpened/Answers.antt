use Rattle.std.proofs.Common.{◌≡◌, suc, ◌+◌, ◌-◌, refl, w16, SFits, arith, rules}
use Rattle.std.proofs.lemmas.Int.{to_z-of_z}
use Rattle.fixed.specs.Lists.{at}
use Rattle.fixed.proofs.Bounds.{got}
use Rattle.codebook_sharpening.specs.Sharpenings.{raised, sharpened_to, sharpened}
use Rattle.codebook_sharpening.proofs.sharpened.Goals as goal

pub loop-place-init : goal.loop-place-init
unfolding sharpened_to
loop-place-init c =
    let e : c.args.lag - c.args.lag ≡ 0 = omega arith in
    rw e (omega arith, refl)

pub loop-place-preserved : goal.loop-place-preserved
unfolding sharpened_to raised
loop-place-preserved c =
    let xs = c.loop-place.samples in
    let place = c.loop-place.place in
    let n = place - c.args.lag in
    let x : SFits w16 (at xs place) = search rules in
    let y : SFits w16 (at xs n) = search rules in
    let e : place + 1 - c.args.lag ≡ suc n = omega arith in
    let p : c.args.lag + n ≡ place = omega arith in
    (omega arith, rw (e, p, got w16 c.add.type_inv c.add.ensures, to_z-of_z w16 _ x, got w16 c.fractional-earlier.type_inv c.fractional-earlier.ensures, to_z-of_z w16 _ y, ← c.loop-place.invariant.1))

pub returns : goal.returns
unfolding sharpened
returns c =
    let e : c.loop-place.place - c.args.lag ≡ 40 - c.args.lag = omega arith in
    rw (e, to_z-of_z w16 c.args.sharp_q15 c.ranges.sharp_q15) at c.loop-place.invariant.1
