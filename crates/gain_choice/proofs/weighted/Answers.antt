use mathlib.Core.Path.{◌≡◌, ap, ◌∙◌}
use lib.IntN.{ℤ, pos, ◌+ℤ◌, ◌*ℤ◌}
use lib.Signed.{shr_z}
use mir.Syntax.{w16, w32}
use mir.Val.{SFits, to_z, of_z}
use mir.Facts.{to_z-of_z}
use borrow.Author.Rules.{rules}
use Rattle.fixed.specs.Operators.{L_mult, L_mac, mult, L_Extract, Mpy_32_16}
use Rattle.fixed.specs.declared.Halves.{Halves}
use Rattle.fixed.proofs.Bounds.{got, fits_16_32}
use Rattle.gain_choice.proofs.Terms.{q15_fits, below_right, half_term, half_fits, term_fits, term_is}
use Rattle.gain_choice.proofs.weighted.Goals as goal

-- the halves are words
high_word : (c : goal.After-exact-2) → SFits w16 c.split-halves.result.high
high_word c = search rules

low_word : (c : goal.After-exact-2) → SFits w16 c.split-halves.result.low
low_word c = search rules

-- half of the product
abbrev half_of : (c : goal.After-exact-2) → ℤ
half_of c = half_term c.split-halves.result.high c.split-halves.result.low c.args.product

value : (c : goal.After-exact-2) →
    to_z w32 (of_z w32 c.exact.result) +ℤ to_z w32 (of_z w32 (shr_z (to_z w32 (of_z w32 c.exact-2.result)) 32768)) ≡ half_of c
value c =
    let h : ℤ = c.split-halves.result.high in
    let l : ℤ = c.split-halves.result.low in
    let n : ℤ = c.args.product in
    let hi : to_z w16 (of_z w16 h) ≡ h = to_z-of_z (high_word c) in
    let lo : to_z w16 (of_z w16 l) ≡ l = to_z-of_z (low_word c) in
    let p : to_z w16 (of_z w16 n) ≡ n = to_z-of_z c.ranges.product in
    let x : to_z w32 (of_z w32 c.exact.result) ≡ h *ℤ n = got w32 c.exact.type_inv (c.exact.ensures ∙ rw (hi, p)) in
    let y : to_z w32 (of_z w32 c.exact-2.result) ≡ l *ℤ n = got w32 c.exact-2.type_inv (c.exact-2.ensures ∙ rw (lo, p)) in
    rw (x, y, to_z-of_z (fits_16_32 (q15_fits l n (below_right l n (low_word c) c.requires))))

halved : (c : goal.After-exact-2) → SFits w32 (half_of c)
halved c = half_fits c.split-halves.result.high c.split-halves.result.low c.args.product (high_word c) (low_word c) c.requires

product_fits : (c : goal.After-exact-2) → SFits w32 (pos 2 *ℤ half_of c)
product_fits c = term_fits c.split-halves.result.high c.split-halves.result.low c.args.product (high_word c) (low_word c) c.requires

pub overflow_add-result : goal.overflow_add-result
overflow_add-result c = rw (value c) (halved c)

pub overflow_mul-result : goal.overflow_mul-result
overflow_mul-result c = rw (value c, to_z-of_z (halved c)) (product_fits c)

pub returns : goal.returns
unfolding Mpy_32_16 L_Extract
returns c =
    let n : ℤ = c.args.product in
    let halves : c.split-halves.result ≡ L_Extract c.args.weight = rw (c.split-halves.ensures, to_z-of_z c.ranges.weight) in
    rw (value c, to_z-of_z (halved c), to_z-of_z (product_fits c))
    (term_is c.split-halves.result.high c.split-halves.result.low n (high_word c) (low_word c) c.requires
    ∙ ap (λ (x : Halves). L_mac (L_mult x.high n) (mult x.low n) (pos 1)) halves)
