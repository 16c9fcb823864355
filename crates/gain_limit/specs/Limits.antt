-- The limit of the pitch gain. 01, number 2, refuses where 'a limit choice is not 0 (unrestricted) or 1 (resonance)'.
use Rattle.std.specs.Prelude.{[], ◌∷◌, ℕ, zero, suc, ℤ, pos}
use Rattle.refusal.specs.Refused.{Told, values, refused}
use Rattle.refusal.specs.Checks.{checked, known_limit}
use Rattle.gain_limit.specs.declared.GainLimit.{GainLimit}
use Rattle.gain_limit.specs.declared.GainLimit.TheVariants.{Unrestricted, Resonance}

-- the number of each choice
abbrev pub limit_number : GainLimit → ℕ
limit_number Unrestricted = 0
limit_number Resonance = 1

-- the greatest pitch gain, Q14, under each ('gp_limit' of Qua_gain)
abbrev pub gp_limit : ℕ → ℤ
gp_limit zero = pos 32767
gp_limit (suc n) = pos 15565

-- 01, number 2
unfoldable pub limit_choice : ℕ → Told ℕ
limit_choice n = checked (known_limit n ∷ []) refused (values n)
