-- The answers of the gain stage as the structs that cross to Rust and C.
use Rattle.std.specs.Prelude.{false, pos}
use Rattle.refusal.specs.Refused.{Told, values, refused}
use Rattle.gain_pitch.specs.declared.PitchGain.{PitchGain}
use Rattle.gain.specs.declared.QuantizedGain.{QuantizedGain}
use Rattle.mr74.specs.Details.{sign_magnitude}
use Rattle.mr74.specs.declared.gain_row.PitchGainAnswer.{PitchGainAnswer}
use Rattle.mr74.specs.declared.gain_row.GainAnswer.{GainAnswer}

-- number 0, the five numbers and the two counts, or a refusal's number and detail and zeros
abbrev pub pitch_gain_answer : Told PitchGain → PitchGainAnswer
pitch_gain_answer (values g) =
    record {
      number = 0;
      magnitude = 0;
      gain_q14 = g.gain_q14;
      yy = g.yy.word;
      yy_exponent = g.yy.exponent;
      xy = g.xy.word;
      xy_exponent = g.xy.exponent;
      energy_clips = g.clips.energy;
      target_clips = g.clips.target;
    }
pitch_gain_answer (refused n d) =
    record {
      number = n;
      magnitude = (sign_magnitude d).magnitude;
      gain_q14 = pos 0;
      yy = pos 0;
      yy_exponent = pos 0;
      xy = pos 0;
      xy_exponent = pos 0;
      energy_clips = 0;
      target_clips = 0;
    }

-- and the index with its row and the five counts
abbrev pub gain_answer : Told QuantizedGain → GainAnswer
gain_answer (values q) =
    record {
      number = 0;
      negative = false;
      magnitude = 0;
      index = q.index;
      pitch_q14 = q.row.pitch_q14;
      correction_q12 = q.row.correction_q12;
      energy_q10 = q.row.energy_q10;
      energy_clips = q.pitch_clips.energy;
      target_clips = q.pitch_clips.target;
      innovation_clips = q.innovation_clips.energy;
      target_innovation_clips = q.innovation_clips.target;
      adaptive_innovation_clips = q.innovation_clips.adaptive;
    }
gain_answer (refused n d) =
    record {
      number = n;
      negative = (sign_magnitude d).negative;
      magnitude = (sign_magnitude d).magnitude;
      index = 0;
      pitch_q14 = pos 0;
      correction_q12 = pos 0;
      energy_q10 = pos 0;
      energy_clips = 0;
      target_clips = 0;
      innovation_clips = 0;
      target_innovation_clips = 0;
      adaptive_innovation_clips = 0;
    }
