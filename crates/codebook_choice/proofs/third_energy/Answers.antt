use mathlib.Core.Path.{sym, ◌∙◌}
use native.Mathlib.Omega.{arith}
use lib.IntN.{ℤ, pos, ◌+ℤ◌, ◌*ℤ◌}
use mir.Syntax.{w16}
use mir.Val.{SFits}
use Rattle.codebook_choice.proofs.Units.{Within}
use Rattle.codebook_choice.proofs.Energies.{four_times, in_3, ok_3, read_3, half_ok, word_ok, read_energy, third_plain}
use Rattle.codebook_choice.proofs.third_energy.Goals as goal

-- the whole sum
module _ {base own a b : ℤ} (f : SFits w16 base) (g : SFits w16 own) (i : SFits w16 a) (j : SFits w16 b) where
  sum_in : Within 294912 294903 (pos 4 *ℤ base +ℤ own +ℤ pos 2 *ℤ a +ℤ pos 2 *ℤ b)
  sum_in = in_3 4 131072 131068 base own a b (four_times base f.sfits) g.sfits i.sfits j.sfits

pub overflow_add-result-3 : goal.overflow_add-result-3
overflow_add-result-3 c = let z = c.ranges in ok_3 4 131072 131068 (four_times c.args.base z.base.sfits) (omega arith) (omega arith) (omega arith) z.base z.own z.a z.b

pub overflow_add-result-4 : goal.overflow_add-result-4
overflow_add-result-4 c = let z = c.ranges in half_ok 294912 294903 (read_3 4 131072 131068 (four_times c.args.base z.base.sfits) (omega arith) (omega arith) (omega arith) z.base z.own z.a z.b) (sum_in z.base z.own z.a z.b) (omega arith) (omega arith)

pub overflow_cast-result-5 : goal.overflow_cast-result-5
overflow_cast-result-5 c = let z = c.ranges in word_ok 294912 294903 (read_3 4 131072 131068 (four_times c.args.base z.base.sfits) (omega arith) (omega arith) (omega arith) z.base z.own z.a z.b) (sum_in z.base z.own z.a z.b) (omega arith) (omega arith)

pub returns : goal.returns
returns c =
    let z = c.ranges in
    read_energy 294912 294903 (read_3 4 131072 131068 (four_times c.args.base z.base.sfits) (omega arith) (omega arith) (omega arith) z.base z.own z.a z.b) (sum_in z.base z.own z.a z.b) (omega arith) (omega arith)
    ∙ sym (third_plain c.args.base c.args.own z.base.sfits z.own.sfits c.args.a z.a.sfits c.args.b z.b.sfits)
