use Rattle.std.proofs.Common.{arith}
use Rattle.std.proofs.lemmas.List.{replicate_more}
use Rattle.sheet.proofs.bounded.BoundedVec.refill.Goals as goal

pub loop-preserved : goal.loop-preserved
loop-preserved g c = let e = replicate_more c.loop.counter c.args.item in (cc, omega arith, cc)
