use Rattle.drum_cases.proofs.Task.{drum_task}
use Rattle.drum_cases.proofs.judged_as_stated.Goals as goal

pub returns : goal.returns
returns c = drum_task
