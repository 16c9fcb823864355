use Rattle.std.proofs.Common.{◌≡◌, ℤ, ◌<◌, refl, sym, ◌∙◌, w16, arith, rules, add-one, to_z, of_z}
use mir.Facts.{to_z-of_z}
use borrow.Author.Tests.{eq-eqb, ne_eqb}
use Rattle.fixed.proofs.Bounds.{got}
use Rattle.fixed.specs.Lists.{at}
use Rattle.codebook_steps.specs.Steps.{exceeds, none_in}
use Rattle.codebook_choice.specs.Choices.{best_step}
use Rattle.codebook_choice.proofs.Tracks.{candidate, number_more, number_less, best_of}
use Rattle.codebook_choice.proofs.Lists.best.Goals.{then-exceeds, else-exceeds}
use Rattle.codebook_choice.proofs.Lists.best.Goals as goal

pub loop-n-init : goal.loop-n-init
unfolding best_step none_in
loop-n-init c = record { within = omega arith; held = rw (c.ratio-held.ensures, c.none_in-none.ensures) (refl, refl, refl) }

pub loop-n-preserved : goal.loop-n-preserved
loop-n-preserved c =
    let cs = c.args.self.correlation.now in
    let squares = c.args.squares.now in
    let energies = c.args.energies.now in
    let track = c.track.inside.number in
    let sum : ℤ = to_z w16 (of_z w16 c.args.sum) in
    let n = c.loop-n.n in
    let i = c.loop-n.invariant in
    let y : to_z w16 (of_z w16 (at squares n)) ≡ at squares n = search rules in
    let z : to_z w16 (of_z w16 (at energies n)) ≡ at energies n = search rules in
    let held = best_step (candidate cs squares energies sum track) track n in
    let t : c.exceeds.result ≡ exceeds (at squares n) (at energies n) held.square held.energy = rw (i.held.1, i.held.2) (rw (y, z) at c.exceeds.ensures) in
    elim c.if-exceeds.branch [
      | then-exceeds w ↦
          record { within = omega (arith, w.found-is); held = rw (add-one n, w.found-is, w.held-is, y, z) (number_more cs squares energies sum track n c.track.invariant (omega arith) (sym t ∙ w.if-exceeds.true)) }
      | else-exceeds w ↦
          record { within = rw w.found-is i.within; held = rw (add-one n, w.found-is, w.held-is) (number_less cs squares energies sum track n c.loop-n.found _ _ c.track.invariant (sym t ∙ w.if-exceeds.false) i.held) }
    ]

pub invariant_of-result : goal.invariant_of-result
unfolding none_in
invariant_of-result c = rw c.none_in-none.ensures (omega arith)

pub returns-then-found-eq-POSITIONS_PER_TRACK : goal.returns-then-found-eq-POSITIONS_PER_TRACK
returns-then-found-eq-POSITIONS_PER_TRACK c f is =
    let a = c.args in
    let t : a.track < 5 = omega arith in
    let e : c.loop-n.n ≡ 8 = omega arith in
    let s = to_z-of_z c.ranges.sum in
    let h = rw (eq-eqb c.loop-n.found 8 c.if-found-eq-POSITIONS_PER_TRACK.true, e, c.track.view_is, s) at c.loop-n.invariant.held.0 in
    (rw c.track.view_is at c.none_in-none.ensures) ∙ sym h ∙ best_of a.self.correlation.now a.squares.now a.energies.now a.sum a.track f t is

pub returns : goal.returns
returns c f is =
    let a = c.args in
    let t : a.track < 5 = omega arith in
    let e : c.loop-n.n ≡ 8 = omega arith in
    let s = to_z-of_z c.ranges.sum in
    let h = rw (ne_eqb c.loop-n.found 8 (λ (q : c.loop-n.found ≡ 8). absurd (omega arith)), e, c.track.view_is, s) at c.loop-n.invariant.held.0 in
    let x : to_z w16 (of_z w16 c.loop-n.held.square) ≡ c.loop-n.held.square = search rules in
    let y : to_z w16 (of_z w16 c.loop-n.held.energy) ≡ c.loop-n.held.energy = search rules in
    rw (x, y, got w16 c.total.type_inv c.total.ensures, c.place.view_is, c.place-place.ensures, s) (sym h ∙ best_of a.self.correlation.now a.squares.now a.energies.now a.sum a.track f t is)
