use Rattle.std.proofs.Common.{◌≡◌}
use Rattle.claim.proofs.Taken.{Taken}
use Rattle.claim.proofs.certificate.read.read.Given as goal

abbrev pub invariant-loop-row : goal.invariant-loop-row
invariant-loop-row l = Taken l.words l.rows l.claim.0 l.scale.value l._row l.reader.at × (l.reader.words.now ≡ l.words)
