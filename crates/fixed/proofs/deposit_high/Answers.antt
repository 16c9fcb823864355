use Prim.Native.Nat.{suc, ◌+◌, ◌*◌}
use native.Mathlib.Omega.{arith}
use lib.IntN.{ℤ, pos, negsuc, ◌*ℤ◌}
use mir.Syntax.{w16, w32}
use mir.Val.{SFits}
use mir.Facts.{to_z-of_z}
use Rattle.fixed.specs.Operators.{L_deposit_h}
use Rattle.fixed.proofs.Bounds.{fits_16_32, ok}
use Rattle.fixed.proofs.Signs.{neg_pos}
use Rattle.fixed.proofs.deposit_high.Goals as goal

deposited : (z : ℤ) → SFits w16 z → SFits w32 (z *ℤ pos 65536)
deposited (pos n) f = ok w32 _ (omega (arith, f.sfits))
deposited (negsuc n) f = rw (neg_pos (suc n * 65536) (n * 65536 + 65535) (omega arith)) (ok w32 _ (omega (arith, f.sfits)))

pub returns : goal.returns
unfolding L_deposit_h
returns c = let f = c.ranges.v in let g = fits_16_32 f in let d = deposited c.args.v f in simp to_z-of_z
