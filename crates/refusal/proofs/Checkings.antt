-- A list of checks: it accepts where every check passes, and refuses, leaving the state as it was, where one does not.
use mathlib.Core.Path.{◌≡◌, refl, sym, ◌∙◌}
use mathlib.Core.Bool.{Bool, true, false, cond}
use mathlib.Core.List.{List, [], ◌∷◌}
use mathlib.Core.Logic.{◌⊎◌, inl, inr}
use Prim.Native.Nat.{ℕ}
use native.Mathlib.Omega.{arith}
use lib.IntN.{ℤ}
use Rattle.fixed.proofs.Clips.{contradiction}
use Rattle.refusal.specs.declared.Refusal.{Refusal}
use Rattle.refusal.specs.Refused.{Told, values, refused, accepts, number, detail, turned_down}
use Rattle.refusal.specs.Checks.{Check, Outcome, checked, unless_refused}

abbrev pub Passes : List Check → Type 0
Passes [] = Unit {0}
Passes (c ∷ cs) = (c.passes ≡ true) × Passes cs

-- the values of an answer, or a where it has none
abbrev pub value_or : {A : Type 0} → A → Told A → A
value_or a (values b) = b
value_or a (refused n d) = a

-- all pass: what is accepted
pub passed_all : {A : Type 0} (refuse : ℕ → ℤ → A) (a : A) (cs : List Check) → Passes cs → checked cs refuse a ≡ a
passed_all refuse a [] p = refl
passed_all refuse a (c ∷ cs) (h, p) = rw h (passed_all refuse a cs p)

-- values were told: all pass, and they are those
pub accepted_all : {A : Type 0} (v w : A) (cs : List Check) → checked cs refused (values v) ≡ values w → Passes cs × (v ≡ w)
accepted_all v w [] e = (tt, cc)
accepted_all v w (c ∷ cs) e = go c.passes refl (accepted_all v w cs)
  where
    go : (t : Bool) → c.passes ≡ t → (checked cs refused (values v) ≡ values w → Passes cs × (v ≡ w)) → Passes (c ∷ cs) × (v ≡ w)
    go true q rest = let r = rest (rw q at e) in ((q, r.0), r.1)
    go false q rest = let f : refused c.number c.detail ≡ values w = rw q at e in let z : ◌≡◌ {A = ℕ} 0 1 = cc in absurd (omega arith)

module _ {A S : Type 0} (s : S) (a : Outcome A S) where
  -- all pass: what is accepted
  pub passed : (cs : List Check) → Passes cs → unless_refused cs s a ≡ a
  passed cs p = passed_all (λ n d. record { answer = refused n d; after = s }) a cs p

  -- an answer with values: all pass
  pub passes : (cs : List Check) → accepts (unless_refused cs s a).answer ≡ true → Passes cs
  passes [] e = tt
  passes (c ∷ cs) e = go c.passes refl (passes cs)
    where
      go : (t : Bool) → c.passes ≡ t → (accepts (unless_refused cs s a).answer ≡ true → Passes cs) → (c.passes ≡ true) × Passes cs
      go true q rest = (q, rest (rw q at e))
      go false q rest = contradiction (rw q at e)

  -- not all pass: a refusal, and the state as it was
  abbrev Refuses : List Check → Type 0
  Refuses cs = (accepts (unless_refused cs s a).answer ≡ false) × ((unless_refused cs s a).after ≡ s)

  pub failed : (cs : List Check) → (Passes cs → ⊥) → Refuses cs
  failed [] n = absurd (n tt)
  failed (c ∷ cs) n = go c.passes refl (failed cs)
    where
      go : (t : Bool) → c.passes ≡ t → ((Passes cs → ⊥) → Refuses cs) → Refuses (c ∷ cs)
      go true q rest = rw q (rest (λ p. n (q, p)))
      go false q rest = rw q (refl, refl)

  -- so a refusal leaves the state as it was, where a refusal of what is let through does
  pub refused_kept : (cs : List Check) → (accepts a.answer ≡ false → a.after ≡ s) → accepts (unless_refused cs s a).answer ≡ false → (unless_refused cs s a).after ≡ s
  refused_kept [] h e = h e
  refused_kept (c ∷ cs) h e = go c.passes refl (refused_kept cs h)
    where
      go : (t : Bool) → c.passes ≡ t → (accepts (unless_refused cs s a).answer ≡ false → (unless_refused cs s a).after ≡ s) → (unless_refused (c ∷ cs) s a).after ≡ s
      go true q rest = rw q (rest (rw q at e))
      go false q rest = rw q

  -- or where it has values
  pub kept : (cs : List Check) → accepts a.answer ≡ true → accepts (unless_refused cs s a).answer ≡ false → (unless_refused cs s a).after ≡ s
  kept cs h e = refused_kept cs (λ f. contradiction (sym f ∙ h)) e

-- one check by itself, for an entry that hands on what a callee told: where it accepted, the check passes and the values are its own
module _ {A : Type 0} (c : Check) (v : A) where
  pub accepted_alone : (w : A) → values w ≡ checked (c ∷ []) refused (values v) → (c.passes ≡ true) × (w ≡ v)
  accepted_alone w e = let r = accepted_all v w (c ∷ []) (sym e) in (r.0.0, sym r.1)

  -- where it refused, so does a list that begins with the check, whatever follows it
  pub refused_alone : {B : Type 0} (rest : Told B) (r : Refusal) →
      turned_down {A = A} r ≡ checked (c ∷ []) refused (values v) → turned_down r ≡ cond c.passes rest (refused c.number c.detail)
  refused_alone rest r e = go c.passes refl
    where
      go : (t : Bool) → c.passes ≡ t → turned_down r ≡ cond c.passes rest (refused c.number c.detail)
      go true q = let f : turned_down {A = A} r ≡ values v = rw q at e in let z : ◌≡◌ {A = ℕ} 0 1 = cc in absurd (omega arith)
      go false q =
          let f : turned_down {A = A} r ≡ refused c.number c.detail = rw q at e in
          let g : number r ≡ c.number = cc in
          let h : detail r ≡ c.detail = cc in
          rw (q, g, h)

-- whose refusal it is: that of the first check that fails, and those before it pass
abbrev pub GivenBy : List Check → ℕ → ℤ → Type 0
GivenBy [] n d = ⊥
GivenBy (c ∷ cs) n d = ((c.passes ≡ false) × (c.number ≡ n) × (c.detail ≡ d)) ⊎ ((c.passes ≡ true) × GivenBy cs n d)

module _ {A : Type 0} (v : A) (n : ℕ) (d : ℤ) where
  pub given_by : (cs : List Check) → checked cs refused (values v) ≡ refused n d → GivenBy cs n d
  given_by [] e = let z : ◌≡◌ {A = ℕ} 0 1 = cc in absurd (omega arith)
  given_by (c ∷ cs) e = go c.passes refl (given_by cs)
    where
      go : (t : Bool) → c.passes ≡ t → (checked cs refused (values v) ≡ refused n d → GivenBy cs n d) → GivenBy (c ∷ cs) n d
      go true q rest = inr (q, rest (rw q at e))
      go false q rest = let f : ◌≡◌ {A = Told A} (refused c.number c.detail) (refused n d) = rw q at e in inl (q, cc, cc)
