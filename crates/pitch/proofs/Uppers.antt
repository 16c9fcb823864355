-- Both upper lags lie from 40 to 143, where the laws of the windows and of the indexes hold.
use Prim.Native.Nat.{◌≤◌}
use native.Mathlib.Omega.{arith}
use Rattle.pitch.specs.declared.UpperLag.{UpperLag}
use Rattle.pitch.specs.declared.UpperLag.TheVariants.{Player, Handset}
use Rattle.pitch.specs.Kinds.{upper_samples}

pub upper_from_40 : (u : UpperLag) → 40 ≤ upper_samples u
upper_from_40 Player = omega arith
upper_from_40 Handset = omega arith

pub upper_to_143 : (u : UpperLag) → upper_samples u ≤ 143
upper_to_143 Player = omega arith
upper_to_143 Handset = omega arith
