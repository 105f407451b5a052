use Rattle.std.proofs.Common.{refl}
use Rattle.sheet.specs.declared.parts.Loop.{Loop as Header}
use Rattle.claim.proofs.Loopings.{no_headers}
use Rattle.claim.proofs.column.looping.loop_headers.Goals as goal

abbrev no_header : Header
no_header = record { header = 0; bound = 0 }

pub loop-number-init : goal.loop-number-init
loop-number-init c = (no_headers c.args.loops.now, refl)
