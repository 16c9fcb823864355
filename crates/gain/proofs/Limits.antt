-- 02, request 14: the proofs of the statements on the limit, and their examples computed.
use mathlib.Core.Path.{◌≡◌, refl, ◌∙◌}
use mathlib.Core.Bool.{true}
use mathlib.Core.List.{List}
use Prim.Native.Nat.{ℕ, ◌<◌, ◌≤◌}
use native.Mathlib.Omega.{arith}
use lib.IntN.{ℤ, pos, negsuc, nat_abs}
use lib.Signed.{le_z}
use borrow.Author.Tests.{lt-ltb, le-leb}
use Rattle.refusal.specs.Refused.{values, refused}
use Rattle.refusal.specs.Checks.{Check}
use Rattle.refusal.proofs.Checkings.{Passes, passed_all, accepted_all}
use Rattle.gain_table.specs.Rows.{pitch}
use Rattle.gain_table.proofs.Rules.{rule, pitch_small}
use Rattle.gain_limit.specs.Limits.{gp_limit}
use Rattle.gain_choice.specs.Rows.{within_limit, LowestOfLeast}
use Rattle.gain_choice.proofs.Leasts.{only_one}
use Rattle.gain.specs.declared.QuantizedGain.{QuantizedGain}
use Rattle.gain.specs.Rows.{Qua_gain, gain_checks, quantize}
use Rattle.gain.specs.Opens.{gain_opens}
use Rattle.gain.specs.Statement.{Beside, LimitsOfTheStage, AnsweredToo, LimitsOfTheEntry, row_of, Examples}
use Rattle.gain.proofs.Chosen.{chosen_row, in_resonance}

-- every row is within the unrestricted limit
all_allowed : (k : ℕ) → k < 128 → within_limit (gp_limit 0) k ≡ true
all_allowed k h = below (pitch k) (pitch_small k h)
  where
    below : (z : ℤ) → nat_abs z ≤ 32767 → le_z z (pos 32767) ≡ true
    below (pos n) l = le-leb n 32767 l
    below (negsuc n) l = refl

-- of any distances
module _ (d : ℕ → ℤ) (free held : ℕ) (F : LowestOfLeast (within_limit (gp_limit 0)) d 128 free) (H : LowestOfLeast (within_limit (gp_limit 1)) d 128 held) where
  -- a row below 96 that is chosen unrestricted is the lowest of least under the resonance limit too
  chosen_too : free < 96 → LowestOfLeast (within_limit (gp_limit 1)) d 128 free
  chosen_too h =
      let r = F.row in
      record {
        row = r;
        allowed = (rule free r).pitch_limit ∙ lt-ltb free 96 h;
        least = λ k l w. F.least k l (all_allowed k l);
        lowest = λ k l w. F.lowest k l (all_allowed k (omega arith));
      }

  beside : Beside d free held
  beside =
      record {
        never_below = F.least held H.row (all_allowed held H.row);
        equal = λ h. only_one (within_limit (gp_limit 1)) d 128 held free H (chosen_too (omega arith));
        only_then = λ e. omega (arith, e, in_resonance held H.row H.allowed);
      }

pub limits_of_the_stage : LimitsOfTheStage
unfolding LimitsOfTheStage
limits_of_the_stage xs ys zs exponent fraction =
    beside _ _ _ (chosen_row xs ys zs exponent fraction 0) (chosen_row xs ys zs exponent fraction 1)

-- the checks of both choices are the same but for the choice, and both are known
module _ (xs ys zs : List ℤ) (exponent : ℤ) (fraction : ℕ) where
  abbrev checks : ℕ → List Check
  checks = gain_checks xs ys zs exponent fraction

  abbrev told : ℕ → QuantizedGain
  told choice = Qua_gain xs ys zs exponent fraction (gp_limit choice)

  both_pass : Passes (checks 0) → Passes (checks 1)
  both_pass (a, (b, (c, (l, rest)))) = (a, (b, (c, (refl, rest))))

  answered : (q : QuantizedGain) → quantize xs ys zs exponent fraction 0 ≡ values q → AnsweredToo xs ys zs exponent fraction q
  unfolding quantize LimitsOfTheStage
  answered q e =
      let p = accepted_all (told 0) q (checks 0) e in
      record {
        other = told 1;
        answered = passed_all refused (values (told 1)) (checks 1) (both_pass p.0);
        beside = rw (← p.1) (limits_of_the_stage xs ys zs exponent fraction);
      }

pub limits_of_the_entry : LimitsOfTheEntry
unfolding LimitsOfTheEntry
limits_of_the_entry = answered

-- ---- the examples, a declaration each
row_95 : row_of (pos 5) (pos 2) (pos 10) (pos 8) 0 ≡ 95
unfolding gain_opens
row_95 = refl

row_95_held : row_of (pos 5) (pos 2) (pos 10) (pos 8) 1 ≡ 95
unfolding gain_opens
row_95_held = refl

row_96 : row_of (pos 0) (pos 0) (pos 0) (negsuc 19) 0 ≡ 96
unfolding gain_opens
row_96 = refl

row_96_held : row_of (pos 0) (pos 0) (pos 0) (negsuc 19) 1 ≡ 84
unfolding gain_opens
row_96_held = refl

pub examples : Examples
unfolding Examples
examples = (row_95, row_95_held, row_96, row_96_held)
