use Rattle.std.proofs.Common.{◌≡◌, length}
use Rattle.sheet.specs.Kept.{used_among}
use Rattle.claim.proofs.Sets.{RanksTo}
use Rattle.claim.proofs.column.conflict.set_ranks.Given as goal

abbrev pub invariant-loop-set : goal.invariant-loop-set
invariant-loop-set l = RanksTo l.lblocks l.set l.ranks × (l.count ≡ used_among l.lblocks l.set) × (length l.ranks ≡ 64)
