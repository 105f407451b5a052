use Rattle.std.proofs.Common.{◌*◌, ◌^◌, length, take}
use Rattle.claim.specs.Parts.{multipliers}
use Rattle.claim.specs.Tables.{FactTable, AllNear}
use Rattle.claim.proofs.column.fact.fact_shares.Given as goal

abbrev pub invariant-loop-fact : goal.invariant-loop-fact
invariant-loop-fact l = FactTable (take (length l.yielded) (multipliers l.pairs)) (take (length l.yielded) l.facts) l.shares × AllNear (length l.yielded * 2 ^ 55) l.shares
