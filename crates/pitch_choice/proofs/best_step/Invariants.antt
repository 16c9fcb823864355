use Rattle.std.proofs.Common.{◌≡◌, ◌<◌, ◌-◌}
use Rattle.pitch_choice.specs.Choices.{step_value, best_step}
use Rattle.pitch_choice.proofs.best_step.Given as goal

abbrev pub invariant-loop-step : goal.invariant-loop-step
invariant-loop-step l =
    (l.best < l.step) × (l.best ≡ best_step l.correlation l.lag (l.step - 1)) × (l.greatest ≡ step_value l.correlation l.lag l.best)
