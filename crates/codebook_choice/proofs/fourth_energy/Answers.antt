use mathlib.Core.Path.{sym, ◌∙◌}
use Prim.Native.Nat.{◌<◌}
use native.Mathlib.Omega.{arith}
use lib.IntN.{ℤ, pos, ◌+ℤ◌, ◌*ℤ◌}
use lib.Signed.{mag}
use mir.Syntax.{w16, w32}
use mir.Val.{SFits}
use Rattle.codebook_choice.proofs.Units.{Within, within_32}
use Rattle.codebook_choice.proofs.Energies.{sum_ok, read_times, read_sum, sixteen_times, fourth_sum, ok_3, read_3, half_ok, word_ok, read_energy, fourth_plain}
use Rattle.codebook_choice.proofs.fourth_energy.Goals as goal

-- the whole sum, as it is and as the local holds it
module _ {base own a b c : ℤ} (f : SFits w16 base) (g : SFits w16 own) (i : SFits w16 a) (j : SFits w16 b) (k : SFits w16 c) (low : mag base < 18432) where
  sum_in : Within 524288 524265 (pos 16 *ℤ base +ℤ own +ℤ pos 2 *ℤ a +ℤ pos 2 *ℤ b +ℤ pos 2 *ℤ c)
  sum_in = fourth_sum base own f.sfits g.sfits a i.sfits b j.sfits c k.sfits low

  sum_fits : SFits w32 (pos 16 *ℤ base +ℤ own +ℤ pos 2 *ℤ a +ℤ pos 2 *ℤ b +ℤ pos 2 *ℤ c)
  sum_fits = within_32 524288 524265 (pos 16 *ℤ base +ℤ own +ℤ pos 2 *ℤ a +ℤ pos 2 *ℤ b +ℤ pos 2 *ℤ c) sum_in (omega arith) (omega arith)

pub overflow_add-result-3 : goal.overflow_add-result-3
overflow_add-result-3 c = let z = c.ranges in ok_3 16 294912 294896 (sixteen_times c.args.base c.requires) (omega arith) (omega arith) (omega arith) z.base z.own z.a z.b

pub overflow_add-result-4 : goal.overflow_add-result-4
overflow_add-result-4 c = let z = c.ranges in sum_ok (read_3 16 294912 294896 (sixteen_times c.args.base c.requires) (omega arith) (omega arith) (omega arith) z.base z.own z.a z.b) (read_times 2 (omega arith) z.c) (sum_fits z.base z.own z.a z.b z.c c.requires)

pub overflow_add-result-5 : goal.overflow_add-result-5
overflow_add-result-5 c =
    let z = c.ranges in
    let e = read_sum (read_3 16 294912 294896 (sixteen_times c.args.base c.requires) (omega arith) (omega arith) (omega arith) z.base z.own z.a z.b) (read_times 2 (omega arith) z.c) (sum_fits z.base z.own z.a z.b z.c c.requires) in
    half_ok 524288 524265 e (sum_in z.base z.own z.a z.b z.c c.requires) (omega arith) (omega arith)

pub overflow_cast-result-6 : goal.overflow_cast-result-6
overflow_cast-result-6 c =
    let z = c.ranges in
    let e = read_sum (read_3 16 294912 294896 (sixteen_times c.args.base c.requires) (omega arith) (omega arith) (omega arith) z.base z.own z.a z.b) (read_times 2 (omega arith) z.c) (sum_fits z.base z.own z.a z.b z.c c.requires) in
    word_ok 524288 524265 e (sum_in z.base z.own z.a z.b z.c c.requires) (omega arith) (omega arith)

pub returns : goal.returns
returns c =
    let z = c.ranges in
    let e = read_sum (read_3 16 294912 294896 (sixteen_times c.args.base c.requires) (omega arith) (omega arith) (omega arith) z.base z.own z.a z.b) (read_times 2 (omega arith) z.c) (sum_fits z.base z.own z.a z.b z.c c.requires) in
    read_energy 524288 524265 e (sum_in z.base z.own z.a z.b z.c c.requires) (omega arith) (omega arith)
    ∙ sym (fourth_plain c.args.base c.args.own z.base.sfits z.own.sfits c.args.a z.a.sfits c.args.b z.b.sfits c.args.c z.c.sfits c.requires)
