-- The greatest exponent of a list, found from its first coefficient to its last; and the list on that scale.
use mathlib.Core.Path.{◌≡◌, refl, ◌∙◌}
use mathlib.Core.Bool.{Bool, true, false, cond}
use mathlib.Core.List.{List, [], ◌∷◌, map}
use Prim.Native.Nat.{ℕ, suc}
use native.Mathlib.Omega.{arith}
use lib.IntN.{ℤ, pos}
use lib.ListN.{length, get_or}
use lib.Signed.{lt_z}
use Rattle.std.specs.List.{fold}
use Rattle.std.proofs.lemmas.List.{length-map, get_or-map}
use Rattle.fixed.specs.Operators.{add}
use Rattle.fixed.specs.Lists.{tabulate}
use Rattle.fixed.proofs.Lists.{filled_all}
use Rattle.gain_pitch.specs.declared.ScaledWord.{ScaledWord}
use Rattle.gain_coefficients.specs.Energies.{e_max, levelled, on_one_scale}

-- the greater of an exponent held and that of the next coefficient
abbrev pub greater : ℤ → ScaledWord → ℤ
greater m c = cond (lt_z m c.exponent) c.exponent m

pub folded : (cs : List ScaledWord) (m : ℤ) → fold greater m cs ≡ e_max m cs
unfolding e_max
folded [] m = refl
folded (c ∷ cs) m = folded cs (greater m c)

-- the first counts once
same : {A : Type 0} (t : Bool) (a : A) → cond t a a ≡ a
same true a = refl
same false a = refl

pub scaled : (cs : List ScaledWord) (n : ℕ) (d : ScaledWord) → length cs ≡ suc n →
    on_one_scale cs ≡ tabulate (λ k. levelled (add (e_max (get_or cs 0 d).exponent cs) (pos 1)) (get_or cs k d)) (suc n)
unfolding on_one_scale e_max
scaled [] n d e = absurd (omega arith)
scaled (c ∷ cs) n d e =
    rw (same (lt_z c.exponent c.exponent) c.exponent)
    (let f = levelled (add (e_max c.exponent cs) (pos 1)) in
    filled_all (λ k. f (get_or (c ∷ cs) k d)) (pos 0) (suc n) (map f (c ∷ cs)) (length-map (c ∷ cs) f ∙ e) (λ k h. get_or-map f (c ∷ cs) k d (pos 0) (omega (arith, e))))
