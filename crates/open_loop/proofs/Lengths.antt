-- A detector's lists: 143 old words and 80 new, joined, and the 143 that it keeps.
use mathlib.Core.Path.{◌≡◌, refl, ◌∙◌}
use mathlib.Core.Bool.{Bool, true, false}
use mathlib.Core.List.{List}
use Prim.Native.Nat.{ℕ, ◌+◌, ◌-◌, ◌<◌}
use native.Mathlib.Omega.{arith}
use borrow.Author.Tests.{ltb-true, ltb-false}
use lib.Dec.{eqb, ltb}
use lib.IntN.{ℤ, pos}
use lib.ListN.{length, take, drop, replicate}
use Rattle.std.proofs.Common.{◌++◌}
use Rattle.std.proofs.lemmas.List.{length-append, length-drop, length-take-le, get_or-take, get_or-drop, get_or_append_left, get_or-append_right}
use Rattle.fixed.specs.Lists.{at, part, copied}
use Rattle.fixed.proofs.Lists.{length_tabulate, filled_all, copied_whole}
use Rattle.open_loop.specs.declared.Detector.{Detector}
use Rattle.open_loop.specs.Detectors.{joined_at, joined, Pitch_ol}

pub kept_length : (d : Detector) (samples : List ℤ) → length d.history_q0 ≡ 143 → length (Pitch_ol d samples).after.history_q0 ≡ 143
unfolding Pitch_ol part
kept_length d samples e = go (eqb (length samples) 80) refl
  where
    words : List ℤ
    words = joined d.history_q0 samples

    go : (t : Bool) → eqb (length samples) 80 ≡ t → length (Pitch_ol d samples).after.history_q0 ≡ 143
    go true q = rw q (length_tabulate (λ k. at words (80 + k)) (pos 0) 143)
    go false q = rw q e

-- the old words copied to the front of 223, and the new behind them
pub joined_by : (old new zs : List ℤ) → length old ≡ 143 → length new ≡ 80 → length zs ≡ 80 →
    take 143 (old ++ zs) ++ (new ++ drop 80 (drop 143 (old ++ zs))) ≡ joined old new
unfolding joined
joined_by old new zs o n z =
    filled_all (joined_at old new) (pos 0) 223 (front ++ (new ++ drop 80 (drop 143 (old ++ zs)))) (simp (length-append, length-drop) (omega (arith, front_long, o, n, z))) (λ k h. go k h (ltb k 143) refl)
  where
    front : List ℤ
    front = take 143 (old ++ zs)

    front_long : length front ≡ 143
    front_long = length-take-le 143 (old ++ zs) (simp length-append (omega (arith, o, z)))

    go : (k : ℕ) → k < 223 → (t : Bool) → ltb k 143 ≡ t → at (front ++ (new ++ drop 80 (drop 143 (old ++ zs)))) k ≡ joined_at old new k
    go k h true q =
        let l = ltb-true k 143 q in
        get_or_append_left front (new ++ drop 80 (drop 143 (old ++ zs))) (pos 0) k (omega (arith, front_long)) ∙ get_or-take 143 (old ++ zs) k (pos 0) l
        ∙ get_or_append_left old zs (pos 0) k (omega (arith, o)) ∙ rw q
    go k h false q =
        let l = ltb-false k 143 q in
        get_or-append_right front (new ++ drop 80 (drop 143 (old ++ zs))) 143 k (pos 0) front_long l
        ∙ get_or_append_left new (drop 80 (drop 143 (old ++ zs))) (pos 0) (k - 143) (omega (arith, n)) ∙ rw q

-- the last 143 of 223 words
pub kept_by : (xs : List ℤ) → length xs ≡ 223 → copied (take 143 (drop 80 xs)) (replicate 143 (pos 0)) ≡ part xs 80 143
unfolding part
kept_by xs h =
    let l : length (take 143 (drop 80 xs)) ≡ 143 = length-take-le 143 (drop 80 xs) (omega (arith, length-drop 80 xs)) in
    rw (copied_whole 143 (take 143 (drop 80 xs)) (replicate 143 (pos 0)) l refl)
    (filled_all (λ k. at xs (80 + k)) (pos 0) 143 (take 143 (drop 80 xs)) l (λ k b. get_or-take 143 (drop 80 xs) k (pos 0) b ∙ get_or-drop 80 xs k (pos 0)))
