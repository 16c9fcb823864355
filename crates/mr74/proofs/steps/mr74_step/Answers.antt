use mathlib.Core.List.{[]}
use Rattle.std.proofs.Common.{rules}
use Rattle.mr74.proofs.steps.mr74_step.Goals as goal

-- no words stand beside a refusal
pub returns-in-Err : goal.returns-in-Err
returns-in-Err c =
    let e = c.step_answer.ensures [] in
    search rules
