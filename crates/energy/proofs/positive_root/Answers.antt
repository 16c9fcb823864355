use mathlib.Core.Path.{◌≡◌, ap, ◌∙◌}
use Prim.Native.Nat.{ℕ, ◌+◌, ◌-◌, ◌*◌, ◌/◌, ◌%◌, ◌^◌, ◌<◌, ◌≤◌}
use native.Mathlib.Numerals.{add-one}
use native.Mathlib.Omega.{arith}
use lib.Count.{count_leading_zeros}
use lib.Dec.{eqb}
use lib.IntN.{pos}
use mir.Syntax.{w32}
use mir.Facts.{to_z_pos}
use Rattle.fixed.specs.Operators.{normal, exponent}
use Rattle.fixed.specs.Line.{table_line}
use Rattle.energy.specs.Root.{halved, root_in}
use Rattle.fixed.proofs.Norms.{one_zero, norm_is, normal_range, normal_is}
use Rattle.fixed.proofs.Shifts.{half_le}
use Rattle.energy.proofs.Roots.{halved_range}
use Rattle.energy.proofs.positive_root.Goals as goal

-- what the line is taken at, and how large it is
chosen : (u m : ℕ) → (0 < u) × (u < 2 ^ 31) → m ≡ halved (u * 2 ^ (count_leading_zeros 32 u - 1) % 2 ^ 32) (30 - (count_leading_zeros 32 u - 1)) → m ≡ halved (normal u) (exponent u)
chosen u m h e = rw (e, normal_is u h.0 h.1, norm_is u h.0 h.1)

range : (u m : ℕ) → (0 < u) × (u < 2 ^ 31) → m ≡ halved (u * 2 ^ (count_leading_zeros 32 u - 1) % 2 ^ 32) (30 - (count_leading_zeros 32 u - 1)) → (2 ^ 29 ≤ m) × (m < 2 ^ 31)
range u m h e =
    let r = normal_range u h.0 h.1 in
    rw (chosen u m h e) (halved_range (normal u) (eqb (exponent u % 2) 0) r.0 r.1)

small : (line k : ℕ) → line < 2 ^ 32 → line / 2 ^ (k + 1) < 2 ^ 31
small line k h = rw (add-one k) (omega (arith, half_le line k))

pub overflow_sub-shift : goal.overflow_sub-shift
overflow_sub-shift c = one_zero c.args.u c.requires.1

pub overflow_sub-i : goal.overflow_sub-i
overflow_sub-i c = omega (arith, range c.args.u c.even_exponent_halved-m.result c.requires c.even_exponent_halved-m.ensures)

pub bounds-table-i : goal.bounds-table-i
bounds-table-i c = omega (arith, range c.args.u c.even_exponent_halved-m.result c.requires c.even_exponent_halved-m.ensures)

pub bounds-table-i-2 : goal.bounds-table-i-2
bounds-table-i-2 c = omega (arith, range c.args.u c.even_exponent_halved-m.result c.requires c.even_exponent_halved-m.ensures)

pub returns : goal.returns
unfolding root_in table_line
returns c =
    let e = chosen c.args.u c.even_exponent_halved-m.result c.requires c.even_exponent_halved-m.ensures in
    to_z_pos w32 (small c.interpolated-line.result ((30 - (count_leading_zeros 32 c.args.u - 1)) / 2) c.interpolated-line.type_inv)
    ∙ ap pos (rw (c.interpolated-line.ensures, e, norm_is c.args.u c.requires.0 c.requires.1))
