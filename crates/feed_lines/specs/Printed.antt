-- 01, 'Feed and program': what the program prints of an answer, name and record number aside.
use Rattle.std.specs.Prelude.{Bool, true, false, List, [], ℕ, ℤ, pos, neg_ℤ}
use Rattle.refusal.specs.Refused.{Told, values, refused}
use Rattle.selection_answers.specs.Lines.{Line, none, line}
use Rattle.feed_lines.specs.declared.Fields.{Fields}
use Rattle.feed_lines.specs.declared.Fields.TheVariants.{None, Reset, Open, Pitch, Pulses, Gain, Filter, Lag, Refused}

-- a sign and a magnitude
abbrev pub signed : Bool → ℕ → ℤ
signed false n = pos n
signed true n = neg_ℤ (pos n)

-- the line of each kind, with the words that stand beside an answer, or the refusal
abbrev pub told_fields : Fields → List ℤ → Told Line
told_fields None words = values none
told_fields Reset words = values (line 0 [])
told_fields (Open fields) words = values (line 1 fields)
told_fields (Pitch fields) words = values (line 2 fields)
told_fields (Pulses fields) words = values (line 3 fields)
told_fields (Gain fields) words = values (line 4 fields)
told_fields Filter words = values (line 5 words)
told_fields (Lag fields) words = values (line 6 fields)
told_fields (Refused f) words = refused f.number (signed f.negative f.magnitude)
