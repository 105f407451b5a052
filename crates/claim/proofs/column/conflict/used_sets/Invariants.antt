use Rattle.std.proofs.Common.{◌≡◌, length, take}
use Rattle.claim.specs.Tables.{UsedTable}
use Rattle.claim.proofs.column.conflict.used_sets.Given as goal

abbrev pub invariant-loop-lblock : goal.invariant-loop-lblock
invariant-loop-lblock l = UsedTable (take l.lblock-index l.lblocks) l.used × (length l.used ≡ 64)
