use Rattle.std.proofs.Common.{ap, ◌∙◌}
use Rattle.sheet.proofs.Pairs.{pair_went}
use Rattle.sheet.proofs.draft.Draft.lblock.Goals as goal

pub returns : goal.returns
returns c =
    let f = c.in_ok-first.ensures in
    let s = c.in_ok-second.ensures in
    let g = c.in_ok-cost_word.ensures in record {
      same = s.same ∙ f.same;
      read = pair_went _ _ _ _ _ _ _ _ _ _ _ c.requires.ready (ap (λ r. r.now) f.same) f.read c.in_ok-lblock_word.ensures s.read g.0 g.2 c.past_lblock.ensures;
    }
