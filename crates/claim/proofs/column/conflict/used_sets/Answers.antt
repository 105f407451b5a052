use Rattle.std.proofs.Common.{refl}
use Rattle.claim.proofs.Sets.{none_used}
use Rattle.claim.proofs.column.conflict.used_sets.Goals as goal

pub loop-lblock-init : goal.loop-lblock-init
loop-lblock-init c = (none_used c.args.lblocks.now, refl)
