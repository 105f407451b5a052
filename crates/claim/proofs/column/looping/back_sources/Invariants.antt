use Rattle.std.proofs.Common.{take}
use Rattle.claim.specs.Tables.{SourceTable}
use Rattle.claim.proofs.Loopings.{Square}
use Rattle.claim.proofs.column.looping.back_sources.Given as goal

abbrev pub invariant-loop-back : goal.invariant-loop-back
invariant-loop-back l = SourceTable (take l.back-index l.backs) l.sources × Square l.sources
