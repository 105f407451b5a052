use Rattle.std.proofs.Common.{◌≡◌, length}
use Rattle.claim.specs.Tables.{HeaderTable}
use Rattle.claim.proofs.column.looping.loop_headers.Given as goal

abbrev pub invariant-loop-number : goal.invariant-loop-number
invariant-loop-number l = HeaderTable l.loops l.number l.headers × (length l.headers ≡ 128)
