use mathlib.Core.Path.{◌≡◌, sym, ◌∙◌}
use mathlib.Core.Bool.{Bool}
use mathlib.Core.List.{List}
use Prim.Native.Nat.{ℕ, suc, ◌<◌, ◌+◌, ◌-◌, ◌*◌, ◌^◌, min, max}
use native.Mathlib.Nat.{le_refl}
use native.Mathlib.Omega.{arith}
use borrow.Author.Rules.{rules}
use borrow.Author.Tests.{leb-true}
use lib.IntN.{ℤ, pos}
use lib.Signed.{lt_z}
use lib.ListN.{replicate, length-set}
use mir.Syntax.{w16, w32}
use mir.Val.{to_z, of_z}
use Rattle.fixed.specs.Lists.{at, between, dot}
use Rattle.fixed.proofs.Bounds.{got}
use Rattle.fixed.proofs.Lists.{filled_all, none_placed, zeros, placed_more}
use Rattle.sums.specs.Plain.{squared, peak}
use Rattle.sums.proofs.Sums.{energy_is}
use Rattle.sums.proofs.Reaches.{peak_le}
use Rattle.pitch_correlation.specs.Correlations.{loud, filtered, normalized, correlation_at, correlations_from}
use Rattle.pitch_correlation.proofs.Growth.{Known, first_quiet, next_quiet}
use Rattle.pitch_correlation.proofs.correlated.Goals as goal

-- what is known before the first walk
scale : (x : List ℤ) (s : ℕ) (b : Bool) → s ≡ squared (at x) 40 → b ≡ lt_z (pos 67108864) (pos (min (2 * s) 2147483647)) → b ≡ loud x
unfolding loud
scale x s b e f = f ∙ rw (e, energy_is x 40)

known : (ts hs : List ℤ) (room p q : ℕ) → (room < 2 ^ 30) × (room * squared (at ts) 40 < 2 ^ 60) → q ≡ peak (at hs) 40 → p ≡ max q 4096 → Known ts hs room p
known ts hs room p q r e f = (r.0, r.1, omega (arith, f), λ k h. omega (arith, e, f, peak_le (at hs) 40 k h))

pub energy_and_sum-at_low-requires : goal.energy_and_sum-at_low-requires
energy_and_sum-at_low-requires c t =
    let a = c.args in
    let h = rw c.squares40-squares.ensures at (leb-true c.squares40-squares.result c.room-room.result t) in
    rw c.scaled_all-filtered.ensures
    (first_quiet a.target.now a.impulse.now c.room-room.result c.max-peak.result (known _ _ _ _ _ c.room-room.ensures c.peak.ensures c.max-peak.ensures) c.is_loud-loud.result a.first.now h)

pub loop-next-init : goal.loop-next-init
unfolding filtered correlation_at normalized
loop-next-init c =
    let a = c.args in
    let l = c.is_loud-loud.result in
    let r = c.energy_and_sum-at_low.result in
    let corr : ℕ → ℤ = correlation_at l a.excitation.now a.target.now a.impulse.now a.low a.first.now in
    let v : ℤ = to_z w16 (of_z w16 c.normalized.result) in
    let z : a.low - a.low ≡ 0 = omega arith in
    let o : a.low + 1 - 1 - a.low ≡ 0 = omega arith in
    let e : to_z w32 (of_z w32 r.energy) ≡ r.energy = search rules in
    let s : to_z w32 (of_z w32 r.sum) ≡ r.sum = search rules in
    let en : to_z w32 (of_z w32 r.energy) ≡ dot c.scaled_all-filtered.result c.scaled_all-filtered.result 40 = e ∙ c.energy_and_sum-at_low.ensures.0 in
    let su : to_z w32 (of_z w32 r.sum) ≡ dot c.scaled_all-filtered.result a.target.now 40 = s ∙ c.energy_and_sum-at_low.ensures.1 in
    let n : v ≡ corr a.low = rw (got w16 c.normalized.type_inv c.normalized.ensures, en, su, z, c.scaled_all-filtered.ensures) in
    record {
      ordered = c.requires.0;
      in_table = c.requires.1;
      roots_are = c.inverse_table-roots.ensures;
      known = known _ _ _ _ _ c.room-room.ensures c.peak.ensures c.max-peak.ensures;
      loud_is = scale _ _ _ c.squares40-squares.ensures c.is_loud-loud.ensures;
      filtered_is = rw (o, c.scaled_all-filtered.ensures);
      energy_is = en;
      long = length-set (replicate 148 (pos 0)) a.low v;
      placed = placed_more corr (λ k. pos 0) a.low a.low 148 (replicate 148 (pos 0)) v (le_refl a.low) (omega (arith, c.requires.0, c.requires.1)) n (none_placed corr (λ k. pos 0) a.low 148 (replicate 148 (pos 0)) (zeros 148));
    }

pub energy_and_sum-at_next-requires : goal.energy_and_sum-at_next-requires
energy_and_sum-at_next-requires c t =
    let a = c.args in
    let p = c.room-room.result in
    let h = rw c.most_added.ensures.0 at (leb-true _ p (sym c.is_within-plain.ensures ∙ t)) in
    rw c.update-filtered.ensures
    (next_quiet a.target.now a.impulse.now p _ c.loop-next.invariant.known _ _ c.loop-next.filtered _ c.loop-next.invariant.energy_is h)

pub loop-next-preserved : goal.loop-next-preserved
unfolding filtered correlation_at normalized
loop-next-preserved c =
    let a = c.args in
    let l = c.is_loud-loud.result in
    let n = c.loop-next.next in
    let r = c.energy_and_sum-at_next.result in
    let corr : ℕ → ℤ = correlation_at l a.excitation.now a.target.now a.impulse.now a.low a.first.now in
    let v : ℤ = to_z w16 (of_z w16 c.normalized-in-loop-next.result) in
    let k = n - 1 - a.low in
    let o : n + 1 - 1 - a.low ≡ suc k = omega arith in
    let p : n - a.low ≡ suc k = omega arith in
    let q : a.low + suc k ≡ n = omega arith in
    let m : to_z w16 (of_z w16 (at a.excitation.now (154 - n))) ≡ at a.excitation.now (154 - n) = search rules in
    let f : c.update-filtered.result ≡ filtered l a.excitation.now a.impulse.now a.low a.first.now (suc k) =
    rw (c.update-filtered.ensures, m, c.loop-next.invariant.filtered_is, q)
    in
    let e : to_z w32 (of_z w32 r.energy) ≡ r.energy = search rules in
    let s : to_z w32 (of_z w32 r.sum) ≡ r.sum = search rules in
    let en : to_z w32 (of_z w32 r.energy) ≡ dot c.update-filtered.result c.update-filtered.result 40 = e ∙ c.energy_and_sum-at_next.ensures.0 in
    let su : to_z w32 (of_z w32 r.sum) ≡ dot c.update-filtered.result a.target.now 40 = s ∙ c.energy_and_sum-at_next.ensures.1 in
    let w : v ≡ corr n = rw (got w16 c.normalized-in-loop-next.type_inv c.normalized-in-loop-next.ensures, en, su, p, f) in
    record {
      ordered = c.loop-next.invariant.ordered;
      in_table = c.loop-next.invariant.in_table;
      roots_are = c.loop-next.invariant.roots_are;
      known = c.loop-next.invariant.known;
      loud_is = c.loop-next.invariant.loud_is;
      filtered_is = rw o f;
      energy_is = en;
      long = length-set c.loop-next.correlation n v ∙ c.loop-next.invariant.long;
      placed = placed_more corr (λ k. pos 0) a.low n 148 c.loop-next.correlation v (omega arith) (omega (arith, c.loop-next.invariant.long)) w c.loop-next.invariant.placed;
    }

pub returns : goal.returns
unfolding correlations_from
returns c =
    let a = c.args in
    let l = c.is_loud-loud.result in
    let corr : ℕ → ℤ = correlation_at l a.excitation.now a.target.now a.impulse.now a.low a.first.now in
    let e : c.loop-next.next ≡ a.end = omega arith in
    rw (← c.loop-next.invariant.loud_is) (filled_all (between corr (λ k. pos 0) a.low a.end) (pos 0) 148 c.loop-next.correlation c.loop-next.invariant.long (rw e at c.loop-next.invariant.placed))
