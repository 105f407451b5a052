use Rattle.std.proofs.Common.{ap}
use Rattle.sheet.proofs.Stepping.{word_steps}
use Rattle.sheet.proofs.draft.Draft.step.Goals as goal

pub returns : goal.returns
returns c = let f = c.in_ok-word.ensures in record {
  same = f.same;
  read = word_steps _ _ _ _ _ c.requires.ready _ _ _ _ (ap (λ r. r.now) f.same) f.read c.item.ensures;
}
