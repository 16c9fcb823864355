-- Which places are dropped, and that at least four starts stay in each track.
use mathlib.Core.Path.{◌≡◌, refl, ap, sym, ◌∙◌}
use mathlib.Core.Bool.{Bool, true, false, cond, ◌&&◌}
use mathlib.Core.List.{List}
use mathlib.Core.Logic.{◌⊎◌, inl, inr, ⊎_elim}
use Prim.Native.Nat.{ℕ, zero, suc, ◌+◌, ◌-◌, ◌*◌, ◌/◌, ◌%◌, ◌^◌, ◌≤◌, ◌<◌, min}
use native.Mathlib.Omega.{arith}
use lib.Dec.{eqb}
use lib.IntN.{ℤ, pos, negsuc, nat_abs}
use lib.ListN.{length, set, length-set}
use lib.Seq.{get_or-set_same, get_or-set_other}
use lib.Signed.{le_z, lt_z}
use borrow.Author.Tests.{eqb-true, eqb-false, le-leb}
use Rattle.fixed.specs.Lists.{at}
use Rattle.fixed.specs.Operators.{abs_s}
use Rattle.fixed.proofs.Bounds.{either}
use Rattle.fixed.proofs.Lists.{length_tabulate, at_tabulate}
use Rattle.codebook_target.specs.declared.Smallest.{Smallest}
use Rattle.codebook_target.specs.Starts.{lesser, least, Left, without, drop_one, dropped, magnitudes_of, set_sign, may_start, starts_in}

-- ---- the place found
-- one of a track's
abbrev pub OfTrack : ℕ → ℕ → Type 0
OfTrack track p = (p % 5 ≡ track) × (p < 40)

-- it is the last dropped, or one of the track
found : (left : List ℤ) (last track n : ℕ) → track < 5 → n ≤ 8 → ((least left last track n).place ≡ last) ⊎ OfTrack track (least left last track n).place
unfolding least lesser
found left last track zero t l = inl refl
found left last track (suc n) t l =
    either (λ (x : Smallest). (x.place ≡ last) ⊎ OfTrack track x.place)
    (le_z (pos 0) (at left (track + 5 * n)) && lt_z (at left (track + 5 * n)) (least left last track n).value)
    (record { place = track + 5 * n; value = at left (track + 5 * n) }) (least left last track n)
    (inr (omega arith, omega arith)) (found left last track n t (omega arith))

pub least_lt : (left : List ℤ) (last track n : ℕ) → last < 40 → track < 5 → n ≤ 8 → (least left last track n).place < 40
least_lt left last track n h t l = ⊎_elim (λ (e : (least left last track n).place ≡ last). omega arith) (λ (e : OfTrack track (least left last track n).place). e.1) (found left last track n t l)

-- ---- how many starts a drop takes away
bit_le : (b : Bool) → cond b 1 0 ≤ 1
bit_le true = omega arith
bit_le false = omega arith

module _ (w v : List ℤ) (t : ℕ) where
  -- none where the track stays as it was
  same : (n : ℕ) → ((k : ℕ) → at w (t + 5 * k) ≡ at v (t + 5 * k)) → starts_in w t n ≡ starts_in v t n
  unfolding starts_in
  same zero e = refl
  same (suc n) e = rw (same n e, e n)

  -- at most one where it changes at one place
  one_less : (p n : ℕ) → ((k : ℕ) → (t + 5 * k ≡ p → ⊥) → at w (t + 5 * k) ≡ at v (t + 5 * k)) →
      (t + 5 * n ≤ p → starts_in w t n ≡ starts_in v t n) × (starts_in w t n ≤ starts_in v t n + 1)
  unfolding starts_in
  one_less p zero e = (λ h. refl, omega arith)
  one_less p (suc n) e = go (one_less p n e) (eqb (t + 5 * n) p) refl
    where
      go : (t + 5 * n ≤ p → starts_in w t n ≡ starts_in v t n) × (starts_in w t n ≤ starts_in v t n + 1) → (b : Bool) → eqb (t + 5 * n) p ≡ b →
          (t + 5 * suc n ≤ p → starts_in w t n + cond (may_start w (t + 5 * n)) 1 0 ≡ starts_in v t n + cond (may_start v (t + 5 * n)) 1 0)
          × (starts_in w t n + cond (may_start w (t + 5 * n)) 1 0 ≤ starts_in v t n + cond (may_start v (t + 5 * n)) 1 0 + 1)
      go i true q =
          let h = eqb-true (t + 5 * n) p q in
          let s = i.0 (omega arith) in
          (λ l. absurd (omega arith), omega (arith, bit_le (may_start w (t + 5 * n))))
      go i false q =
          let h = e n (eqb-false (t + 5 * n) p q) in
          rw h (λ l. rw (i.0 (omega arith)), omega (arith, i.1))

-- ---- after n drops
-- the last place dropped holds -1, or it is place 0 and nothing is dropped yet; track t lost at most one start for each drop in it
record Kept (n : ℕ) (d : Left) : Type 0 where
  size : length d.words ≡ 40
  inside : d.last < 40
  gone : ((n ≡ 0) × (d.last ≡ 0)) ⊎ (at d.words d.last ≡ negsuc 0)
  many : (t : ℕ) → t < 5 → 8 ≤ starts_in d.words t 8 + min (n - 4 * t) 4

-- a place of the track goes
module _ (n : ℕ) (d : Left) (p : ℕ) (h : n < 20) (k : Kept n d) where
  after : List ℤ
  after = set d.words p (negsuc 0)

  other : (q : ℕ) → (q ≡ p → ⊥) → at d.words q ≡ at after q
  unfolding after
  other q o = sym (get_or-set_other d.words p q (negsuc 0) (pos 0) o)

  here : p < 40 → at after p ≡ negsuc 0
  unfolding after
  here l = get_or-set_same d.words p (negsuc 0) (pos 0) (omega (arith, k.size))

  of_track : OfTrack (n / 4) p → (t : ℕ) → t < 5 → 8 ≤ starts_in after t 8 + min (suc n - 4 * t) 4
  of_track o t l = go (eqb t (n / 4)) refl
    where
      go : (b : Bool) → eqb t (n / 4) ≡ b → 8 ≤ starts_in after t 8 + min (suc n - 4 * t) 4
      go true q = omega (arith, eqb-true t (n / 4) q, k.many t l, (one_less d.words after t p 8 (λ i x. other (t + 5 * i) x)).1)
      go false q =
          let e = eqb-false t (n / 4) q in
          omega (arith, k.many t l, same d.words after t 8 (λ i. other (t + 5 * i) (λ (x : t + 5 * i ≡ p). e (omega arith))))

  -- a place that is gone goes again
  again : p < 40 → at d.words p ≡ negsuc 0 → (t : ℕ) → t < 5 → 8 ≤ starts_in after t 8 + min (suc n - 4 * t) 4
  again l e t u = omega (arith, k.many t u, same d.words after t 8 (λ i. every (t + 5 * i)))
    where
      every : (q : ℕ) → at d.words q ≡ at after q
      every q = go (eqb q p) refl
        where
          go : (b : Bool) → eqb q p ≡ b → at d.words q ≡ at after q
          go true x = rw (eqb-true q p x) (e ∙ sym (here l))
          go false x = other q (eqb-false q p x)

-- one drop more
drop_kept : (n : ℕ) (d : Left) → n < 20 → Kept n d → Kept (suc n) (drop_one d (n / 4))
unfolding drop_one without after
drop_kept n d h k =
    record {
      size = length-set d.words p (negsuc 0) ∙ k.size;
      inside = small;
      gone = inr (here n d p h k small);
      many = ⊎_elim marked_anew (of_track n d p h k) (found d.words d.last (n / 4) 8 (omega arith) (omega arith));
    }
  where
    p : ℕ
    p = (least d.words d.last (n / 4) 8).place

    small : p < 40
    small = least_lt d.words d.last (n / 4) 8 k.inside (omega arith) (omega arith)

    marked_anew : p ≡ d.last → (t : ℕ) → t < 5 → 8 ≤ starts_in (set d.words p (negsuc 0)) t 8 + min (suc n - 4 * t) 4
    marked_anew e =
        ⊎_elim (λ (x : (n ≡ 0) × (d.last ≡ 0)). of_track n d p h k (omega (arith, e, x), small))
        (λ (x : at d.words d.last ≡ negsuc 0). again n d p h k small (ap (at d.words) e ∙ x)) k.gone

-- every place holds a magnitude at first, and so may start
whole : (mags : List ℤ) (t n : ℕ) → t < 5 → n ≤ 8 → ((i : ℕ) → i < 40 → may_start mags i ≡ true) → starts_in mags t n ≡ n
unfolding starts_in
whole mags t zero h l e = refl
whole mags t (suc n) h l e = rw (whole mags t n h (omega arith) e, e (t + 5 * n) (omega arith)) (omega arith)

kept : (mags : List ℤ) (n : ℕ) → n ≤ 20 → length mags ≡ 40 → ((i : ℕ) → i < 40 → may_start mags i ≡ true) → Kept n (dropped mags n)
unfolding dropped
kept mags zero h l e = record { size = l; inside = omega arith; gone = inl (refl, refl); many = λ t u. omega (arith, whole mags t 8 u (omega arith) e) }
kept mags (suc n) h l e = drop_kept n (dropped mags n) (omega arith) (kept mags n (omega arith) l e)

-- 01: 'So at least four starts stay in each track'
pub four_stay : (cs : List ℤ) (t : ℕ) → t < 5 → 4 ≤ starts_in (set_sign (magnitudes_of cs)) t 8
unfolding set_sign magnitudes_of abs_s
four_stay cs t h =
    let f : ℕ → ℤ = λ i. abs_s (at cs i) in
    omega (arith, (kept (magnitudes_of cs) 20 (omega arith) (length_tabulate f (pos 0) 40) (λ i l. rw (at_tabulate f (pos 0) 40 i l) (le-leb 0 (min (nat_abs (at cs i)) (2 ^ 15 - 1)) (omega arith)))).many t h)
