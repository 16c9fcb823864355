-- What the two answers to an open-loop lag tell of its check, for every upper lag.
use mathlib.Core.Path.{◌≡◌, refl, sym, ap}
use mathlib.Core.Bool.{Bool, true, false}
use Prim.Native.Nat.{ℕ}
use Rattle.std.proofs.Common.{Result, Ok, Err}
use Rattle.fixed.proofs.Clips.{contradiction}
use Rattle.refusal.specs.Refused.{accepts}
use Rattle.refusal.specs.Checks.{within}
use Rattle.refusal.proofs.Checkings.{value_or}
use Rattle.refusal.specs.declared.Refusal.{Refusal}
use Rattle.pitch.specs.declared.OpenLoopLag.{OpenLoopLag}
use Rattle.pitch.specs.Kinds.{told_lag, try_within}

module _ (upper n : ℕ) {o : Result OpenLoopLag Refusal} (e : told_lag o ≡ try_within upper n) where
  pub lag_taken : {l : OpenLoopLag} → o ≡ Ok l → (within 20 upper n ≡ true) × (l.0 ≡ n)
  lag_taken {l} c = go (within 20 upper n) refl
    where
      go : (t : Bool) → within 20 upper n ≡ t → (within 20 upper n ≡ true) × (l.0 ≡ n)
      go true q = (q, ap (value_or 0) (rw (c, q) at e))
      go false q = contradiction (sym (ap accepts (rw (c, q) at e)))

  pub lag_refused : {r : Refusal} → o ≡ Err r → within 20 upper n ≡ false
  lag_refused {r} c = go (within 20 upper n) refl
    where
      go : (t : Bool) → within 20 upper n ≡ t → within 20 upper n ≡ false
      go true q = contradiction (ap accepts (rw (c, q) at e))
      go false q = q
