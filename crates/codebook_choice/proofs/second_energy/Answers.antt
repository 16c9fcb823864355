use mathlib.Core.Path.{sym}
use native.Mathlib.Omega.{arith}
use lib.IntN.{ℤ, pos, ◌+ℤ◌, ◌*ℤ◌}
use lib.Signed.{shr_z}
use mir.Syntax.{w16, w32}
use mir.Val.{SFits}
use mir.Facts.{to_z-of_z}
use Rattle.fixed.proofs.Bounds.{ok, fits_16_32, sum_32, shift_fits}
use Rattle.codebook_choice.proofs.Units.{within_32, within_4, within_more}
use Rattle.codebook_choice.proofs.Energies.{second_sum, second_rounded, second_plain, twice_fits}
use Rattle.codebook_choice.proofs.second_energy.Goals as goal

-- what the locals hold
module _ (base own a : ℤ) (f : SFits w16 base) (g : SFits w16 own) (h : SFits w16 a) where
  sum_fits : SFits w32 (base +ℤ own +ℤ pos 2 *ℤ a)
  sum_fits = within_32 131072 131068 (base +ℤ own +ℤ pos 2 *ℤ a) (second_sum base own f.sfits g.sfits a h.sfits) (omega arith) (omega arith)

  all_fits : SFits w32 (base +ℤ own +ℤ pos 2 *ℤ a +ℤ pos 2)
  all_fits = within_32 131072 131070 (base +ℤ own +ℤ pos 2 *ℤ a +ℤ pos 2) (second_rounded base own f.sfits g.sfits a h.sfits) (omega arith) (omega arith)

  word_fits : SFits w16 (shr_z (base +ℤ own +ℤ pos 2 *ℤ a +ℤ pos 2) 4)
  word_fits =
      ok w16 (shr_z (base +ℤ own +ℤ pos 2 *ℤ a +ℤ pos 2) 4)
      (within_4 (base +ℤ own +ℤ pos 2 *ℤ a +ℤ pos 2) (within_more 131072 131070 131072 131071 (base +ℤ own +ℤ pos 2 *ℤ a +ℤ pos 2) (second_rounded base own f.sfits g.sfits a h.sfits) (omega arith) (omega arith)))

pub overflow_cast-result-4 : goal.overflow_cast-result-4
overflow_cast-result-4 c =
    let f = c.ranges.base in
    let g = c.ranges.own in
    let h = c.ranges.cross in
    let s = all_fits c.args.base c.args.own c.args.cross f g h in
    rw (to_z-of_z f, to_z-of_z (fits_16_32 f), to_z-of_z g, to_z-of_z (fits_16_32 g), to_z-of_z (sum_32 f g), to_z-of_z h, to_z-of_z (fits_16_32 h), to_z-of_z (twice_fits h), to_z-of_z (sum_fits c.args.base c.args.own c.args.cross f g h), to_z-of_z s, to_z-of_z (shift_fits 4 s))
    (word_fits c.args.base c.args.own c.args.cross f g h)

pub returns : goal.returns
returns c =
    let f = c.ranges.base in
    let g = c.ranges.own in
    let h = c.ranges.cross in
    let s = all_fits c.args.base c.args.own c.args.cross f g h in
    rw (to_z-of_z f, to_z-of_z (fits_16_32 f), to_z-of_z g, to_z-of_z (fits_16_32 g), to_z-of_z (sum_32 f g), to_z-of_z h, to_z-of_z (fits_16_32 h), to_z-of_z (twice_fits h), to_z-of_z (sum_fits c.args.base c.args.own c.args.cross f g h), to_z-of_z s, to_z-of_z (shift_fits 4 s), to_z-of_z (word_fits c.args.base c.args.own c.args.cross f g h))
    (sym (second_plain c.args.base c.args.own f.sfits g.sfits c.args.cross h.sfits))
