-- What a list of checks lets through, by the answer to the checks alone.
use mathlib.Core.Path.{◌≡◌, refl, ap, sym, ◌∙◌}
use mathlib.Core.Bool.{Bool, true, false}
use mathlib.Core.List.{List, [], ◌∷◌}
use Prim.Native.Nat.{ℕ}
use lib.IntN.{ℤ}
use Rattle.std.proofs.Common.{Result, Ok, Err}
use Rattle.refusal.specs.declared.Refusal.{Refusal}
use Rattle.refusal.specs.Refused.{Told, values, refused, number, detail, told}
use Rattle.refusal.specs.Checks.{Check, checked}

module _ {A : Type 0} (refuse : ℕ → ℤ → A) (accepted : A) where
  abbrev by_answer : Told (Unit {0}) → A
  by_answer (values u) = accepted
  by_answer (refused n d) = refuse n d

  by_checks : (cs : List Check) → by_answer (checked cs refused (values tt)) ≡ checked cs refuse accepted
  by_checks [] = refl
  by_checks (c ∷ cs) = go c.passes refl (by_checks cs)
    where
      go : (t : Bool) → c.passes ≡ t → by_answer (checked cs refused (values tt)) ≡ checked cs refuse accepted → by_answer (checked (c ∷ cs) refused (values tt)) ≡ checked (c ∷ cs) refuse accepted
      go true q rest = rw q rest
      go false q rest = rw q

  module _ (cs : List Check) (r : Result (Unit {0}) Refusal) (e : told r ≡ checked cs refused (values tt)) where
    by_told : by_answer (told r) ≡ checked cs refuse accepted
    by_told = ap by_answer e ∙ by_checks cs

    -- one fails
    pub refused_by : {f : Refusal} → r ≡ Err f → checked cs refuse accepted ≡ refuse (number f) (detail f)
    refused_by g = sym by_told ∙ ap (λ (t : Result (Unit {0}) Refusal). by_answer (told t)) g

    -- all pass
    pub accepted_by : {u : Unit {0}} → r ≡ Ok u → checked cs refuse accepted ≡ accepted
    accepted_by g = sym by_told ∙ ap (λ (t : Result (Unit {0}) Refusal). by_answer (told t)) g
