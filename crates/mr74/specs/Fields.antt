-- What a record answers, in numbers.
use Rattle.std.specs.Prelude.{Bool, false, cond, ℕ, eqb, ℤ, pos}
use Rattle.fixed.specs.Lists.{at}
use Rattle.refusal.specs.Refused.{Told, values, refused}
use Rattle.selection_answers.specs.Lines.{Line, none, line}
use Rattle.mr74.specs.Details.{sign_magnitude}

-- the fields of a line, zeros behind the last
pub record Fields : Type 0 where
  pub number : ℕ
  pub negative : Bool
  pub magnitude : ℕ
  pub line : ℕ
  pub first : ℤ
  pub second : ℤ
  pub third : ℤ
  pub fourth : ℤ

-- number 0, the kind and four fields, or a refusal's number and detail and zeros
abbrev pub accepted_line : ℕ → ℤ → ℤ → ℤ → ℤ → Fields
accepted_line k a b c d = record { number = 0; negative = false; magnitude = 0; line = k; first = a; second = b; third = c; fourth = d }

-- the words of `filter` stand apart, and 7 says that the feed ends
abbrev pub fields_of : Told Line → Fields
fields_of (values none) = accepted_line 7 (pos 0) (pos 0) (pos 0) (pos 0)
fields_of (values (line k fs)) =
    cond (eqb k 5) (accepted_line 5 (pos 0) (pos 0) (pos 0) (pos 0)) (accepted_line k (at fs 0) (at fs 1) (at fs 2) (at fs 3))
fields_of (refused n d) =
    record {
      number = n;
      negative = (sign_magnitude d).negative;
      magnitude = (sign_magnitude d).magnitude;
      line = 0;
      first = pos 0;
      second = pos 0;
      third = pos 0;
      fourth = pos 0;
    }
