-- One name for an `unfolding` line that computes the definitions of this crate.
use Rattle.std.specs.Int.Count.{count_leading_zeros}
use Rattle.fixed.specs.Operators.{add, sub, negate, abs_s, L_add, L_sub, L_negate, L_abs, L_mult, L_mac, L_msu, L_mac_overflow, L_mac_flagged, mult, extract_h, round, extract_l, L_deposit_h, low_half, L_Extract, Mpy_32, Mpy_32_16, shift_at, even_bits, norm_l, div_s}
use Rattle.fixed.specs.Line.{line, table_line}
use Rattle.fixed.specs.Lists.{tabulate_from, tabulate, part, shifted, copied, L_sum, dot, better, best}

unfoldable pub fixed_opens : Unit {0}
unfolding count_leading_zeros add sub negate abs_s L_add L_sub L_negate L_abs L_mult L_mac L_msu L_mac_overflow L_mac_flagged mult extract_h round extract_l L_deposit_h low_half L_Extract Mpy_32 Mpy_32_16 shift_at even_bits norm_l div_s line table_line tabulate_from tabulate part shifted copied L_sum dot better best
fixed_opens = tt
