-- What is known where a whole record stands.
use mathlib.Core.Path.{◌≡◌, refl}
use mathlib.Core.Bool.{Bool, true, false}
use mathlib.Core.List.{List}
use Prim.Native.Nat.{ℕ, zero, suc, ◌+◌, ◌-◌, ◌≤◌, ◌<◌}
use native.Mathlib.Omega.{arith}
use borrow.Author.Tests.{lt-ltb, le-leb, lt-leb, ltb-true, leb-true}
use lib.Dec.{ltb, leb}
use lib.IntN.{pos}
use lib.ListN.{length, get_or, drop, length-drop}
use lib.Seq.{length-take-le}
use Rattle.refusal.specs.Refused.{values, refused}
use Rattle.feed.specs.Records.{lengths, body_length, whole, header, body}

-- a kind, and the place of the next record
pub record Whole (feed : List ℕ) (at kind next : ℕ) : Type 0 where
  pub known : kind ≤ 6
  pub after : next ≡ at + 1 + body_length kind
  pub inside : next ≤ length feed

apart : {X : Type 0} → ◌≡◌ {A = ℕ} 0 1 → X
apart e = absurd (omega arith)

module _ (feed : List ℕ) (at kind next : ℕ) where
  pub whole_is : header feed at ≡ values (whole kind next) → Whole feed at kind next
  unfolding header
  whole_is e = there (ltb at (length feed)) refl
    where
      k : ℕ
      k = get_or feed at 0

      fits : (t : Bool) → leb (body_length k) (length feed - (at + 1)) ≡ t → ltb at (length feed) ≡ true → leb k 6 ≡ true → Whole feed at kind next
      fits true q p r =
          let f : values (whole k (at + 1 + body_length k)) ≡ values (whole kind next) = rw (p, r, q) at e in
          let a : k ≡ kind = cc in
          let b : at + 1 + body_length k ≡ next = cc in
          let g : body_length k ≤ length feed - (at + 1) = leb-true (body_length k) (length feed - (at + 1)) q in
          let h : at < length feed = ltb-true at (length feed) p in
          record { known = omega (arith, leb-true k 6 r); after = rw (← a) (omega arith); inside = omega arith }
      fits false q p r = apart (let f = rw (p, r, q) at e in cc)

      known : (t : Bool) → leb k 6 ≡ t → ltb at (length feed) ≡ true → Whole feed at kind next
      known true q p = fits (leb (body_length k) (length feed - (at + 1))) refl p q
      known false q p = apart (let f = rw (p, q) at e in cc)

      there : (t : Bool) → ltb at (length feed) ≡ t → Whole feed at kind next
      there true q = known (leb k 6) refl q
      there false q = apart (let f = rw q at e in cc)

  -- its body has the length that the kind fixes
  pub body_has : header feed at ≡ values (whole kind next) → length (body feed at) ≡ body_length kind
  unfolding body
  body_has e =
      let w = whole_is e in
      rw e (length-take-le (body_length kind) (drop (at + 1) feed) (simp length-drop (omega arith)))

-- a kind at most 6 that is none of 0 to 5
above_2 : (k : ℕ) → (k ≡ 0 → ⊥) → (k ≡ 1 → ⊥) → (k ≡ 2 → ⊥) → 3 ≤ k
above_2 k a b c = omega arith

above_5 : (k : ℕ) → 3 ≤ k → k ≤ 6 → (k ≡ 3 → ⊥) → (k ≡ 4 → ⊥) → (k ≡ 5 → ⊥) → k ≡ 6
above_5 k l h a b c = omega arith

pub last_kind : (k : ℕ) → k ≤ 6 → (k ≡ 0 → ⊥) → (k ≡ 1 → ⊥) → (k ≡ 2 → ⊥) → (k ≡ 3 → ⊥) → (k ≡ 4 → ⊥) → (k ≡ 5 → ⊥) → k ≡ 6
last_kind k h a b c d e f = above_5 k (above_2 k a b c) h d e f

-- 01, number 10: a kind 1 to 6 as the very last byte has none of its body's bytes
has_body : (kind : ℕ) → 1 ≤ kind → kind ≤ 6 → 1 ≤ body_length kind
unfolding lengths
has_body zero h l = absurd (omega arith)
has_body (suc zero) h l = omega arith
has_body (suc (suc zero)) h l = omega arith
has_body (suc (suc (suc zero))) h l = omega arith
has_body (suc (suc (suc (suc zero)))) h l = omega arith
has_body (suc (suc (suc (suc (suc zero))))) h l = omega arith
has_body (suc (suc (suc (suc (suc (suc zero)))))) h l = omega arith
has_body (suc (suc (suc (suc (suc (suc (suc n))))))) h l = absurd (omega arith)

pub kind_alone : (feed : List ℕ) (at : ℕ) → at + 1 ≡ length feed → 1 ≤ get_or feed at 0 → get_or feed at 0 ≤ 6 → header feed at ≡ refused 10 (pos 0)
unfolding header
kind_alone feed at e h l =
    let none : length feed - (at + 1) ≡ 0 = omega arith in
    let some : 0 < body_length (get_or feed at 0) = has_body (get_or feed at 0) h l in
    rw (lt-ltb at (length feed) (omega arith), le-leb (get_or feed at 0) 6 l, none, lt-leb (body_length (get_or feed at 0)) 0 some)
