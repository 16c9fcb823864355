-- An answer and what follows it, and checks before an answer: what their values and their refusals tell.
use mathlib.Core.Path.{◌≡◌, refl, ap}
use mathlib.Core.Bool.{Bool, true, false, cond}
use mathlib.Core.List.{List, [], ◌∷◌}
use Prim.Native.Nat.{ℕ}
use native.Mathlib.Omega.{arith}
use lib.IntN.{ℤ}
use Rattle.fixed.proofs.Clips.{contradiction}
use Rattle.refusal.specs.Refused.{Told, values, refused, accepts, put, and_then}
use Rattle.refusal.specs.Checks.{Check, Outcome, checked, unless_refused, whole_or_nothing}
use Rattle.refusal.proofs.Checkings.{Passes, value_or}

pub no_values : {A X : Type 0} {n : ℕ} {d : ℤ} {a : A} → refused n d ≡ values a → X
no_values e = let z : ◌≡◌ {A = ℕ} 0 1 = cc in absurd (omega arith)

unit_told : {A : Type 0} (t : Told A) → accepts t ≡ true → put (λ a. tt {0}) t ≡ values tt
unit_told (values a) e = refl
unit_told (refused n d) e = contradiction e

-- ---- an answer, and what follows each of its values
pub record Follows {A B : Type 0} (t : Told A) (next : A → Told B) (b : B) : Type 0 where
  pub value : A
  pub told : t ≡ values value
  pub rest : next value ≡ values b

pub follows : {A B : Type 0} (t : Told A) (next : A → Told B) (b : B) → and_then t next ≡ values b → Follows t next b
follows (values a) next b e = record { value = a; told = refl; rest = e }
follows (refused n d) next b e = no_values e

pub accepts_next : {A B : Type 0} (t : Told A) (next : A → Told B) → accepts t ≡ true → ((a : A) → t ≡ values a → accepts (next a) ≡ true) →
    accepts (and_then t next) ≡ true
accepts_next (values a) next e h = h a refl
accepts_next (refused n d) next e h = contradiction e

-- ---- an answer behind checks
-- it has values: all pass, and they are those of what is checked
pub checked_values : {A : Type 0} (t : Told A) (w : A) (cs : List Check) → checked cs refused t ≡ values w → Passes cs × (t ≡ values w)
checked_values t w [] e = (tt, e)
checked_values t w (c ∷ cs) e = go c.passes refl (checked_values t w cs)
  where
    go : (b : Bool) → c.passes ≡ b → (checked cs refused t ≡ values w → Passes cs × (t ≡ values w)) → Passes (c ∷ cs) × (t ≡ values w)
    go true q rest = let r = rest (rw q at e) in ((q, r.0), r.1)
    go false q rest = no_values (rw q at e)

-- where what is checked has values, the refusals are those of the checks
pub by_checks : {A : Type 0} (t : Told A) (cs : List Check) → (Passes cs → accepts t ≡ true) →
    put (λ a. tt {0}) (checked cs refused t) ≡ checked cs refused (values tt)
by_checks t [] h = unit_told t (h tt)
by_checks t (c ∷ cs) h = go c.passes refl (λ p. by_checks t cs p)
  where
    go : (b : Bool) → c.passes ≡ b → ((Passes cs → accepts t ≡ true) → put (λ a. tt {0}) (checked cs refused t) ≡ checked cs refused (values tt)) →
        put (λ a. tt {0}) (checked (c ∷ cs) refused t) ≡ checked (c ∷ cs) refused (values tt)
    go true q rest = rw q (rest (λ p. h (q, p)))
    go false q rest = rw q refl

-- checks whose numbers all have a property: so has that of a refusal by them
module _ (P : ℕ → Type 0) where
  abbrev pub Numbered : List Check → Type 0
  Numbered [] = Unit {0}
  Numbered (c ∷ cs) = P c.number × Numbered cs

  pub numbered : {A : Type 0} (t : Told A) (n : ℕ) (d : ℤ) (cs : List Check) → Numbered cs → (t ≡ refused n d → P n) → checked cs refused t ≡ refused n d → P n
  numbered t n d [] ps h e = h e
  numbered {A = A} t n d (c ∷ cs) (p, ps) h e = go c.passes refl (numbered t n d cs ps h)
    where
      go : (b : Bool) → c.passes ≡ b → (checked cs refused t ≡ refused n d → P n) → P n
      go true q rest = rest (rw q at e)
      go false q rest =
          let f : ◌≡◌ {A = Told A} (refused c.number c.detail) (refused n d) = rw q at e in
          let g : c.number ≡ n = cc in
          rw (← g) p

-- the answer of an entry with a state is that of its checks, and then of what they let through
pub told_of : {A S : Type 0} (s : S) (a : Outcome A S) (cs : List Check) → (unless_refused cs s a).answer ≡ checked cs refused a.answer
told_of s a [] = refl
told_of s a (c ∷ cs) = go c.passes (told_of s a cs)
  where
    go : (b : Bool) → (unless_refused cs s a).answer ≡ checked cs refused a.answer →
        (cond b (unless_refused cs s a) (record { answer = refused c.number c.detail; after = s })).answer ≡ cond b (checked cs refused a.answer) (refused c.number c.detail)
    go true rest = rest
    go false rest = refl

-- ---- an answer of several parts, with the state after them
module _ {A S : Type 0} (s : S) where
  pub whole : (t : Told (A × S)) (a : A) → (whole_or_nothing s t).answer ≡ values a → t ≡ values (a, (whole_or_nothing s t).after)
  whole (values (b, after)) a e = ap (λ c. values (c, after)) (ap (value_or a) e)
  whole (refused n d) a e = no_values e

  pub nothing : (t : Told (A × S)) → accepts (whole_or_nothing s t).answer ≡ false → (whole_or_nothing s t).after ≡ s
  nothing (values (b, after)) e = let z : ◌≡◌ {A = ℕ} 0 1 = cc in absurd (omega arith)
  nothing (refused n d) e = refl

  pub without_state : (t : Told (A × S)) → put (λ a. tt {0}) (whole_or_nothing s t).answer ≡ put (λ a. tt {0}) t
  without_state (values (a, after)) = refl
  without_state (refused n d) = refl
