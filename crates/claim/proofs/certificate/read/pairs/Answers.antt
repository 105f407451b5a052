use Rattle.std.proofs.Common.{◌+◌, ◌-◌, ◌*◌, ◌∙◌, arith}
use Rattle.claim.proofs.Pairs.{part_pairs}
use Rattle.claim.proofs.certificate.read.pairs.Goals as goal

pub returns : goal.returns
returns c =
    let p = part_pairs c.args.words.now c.args.rows (3 + 2 * c.args.rows - 3) (omega arith) c.requires in
    record { listed = c.as_chunks.ensures.front ∙ p.0; length = c.as_chunks.ensures.front_len ∙ p.1 }
