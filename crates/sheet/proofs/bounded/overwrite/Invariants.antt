use Rattle.std.proofs.Common.{◌≡◌, replicate, take, length}
use Rattle.sheet.proofs.bounded.overwrite.Given as goal

abbrev pub invariant-loop-i : goal.invariant-loop-i
invariant-loop-i g l = (take l.i l.items ≡ replicate l.i l.item) × (length l.items ≡ length l.initial.items)
