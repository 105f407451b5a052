use Rattle.std.proofs.Common.{length}
use Rattle.mark_cases.proofs.print_cases.Given as goal

abbrev pub decreases-loop-rest : goal.decreases-loop-rest
decreases-loop-rest l = length l.rest
