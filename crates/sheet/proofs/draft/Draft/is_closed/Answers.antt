use Rattle.std.proofs.Common.{eqb, rules}
use Rattle.std.proofs.lemmas.Iterator.{YieldsList-from_slice}
use Rattle.std.proofs.lemmas.Iterator.Search.{any_from_yields_List}
use Rattle.sheet.proofs.Drafts.{any_is}
use Rattle.sheet.proofs.draft.Draft.is_closed.Goals as goal

pub returns : goal.returns
returns c = rw any_is (any_from_yields_List (λ b. eqb b.owner c.args.owner) _ _ _ c.any.ensures.ran (YieldsList-from_slice c.args.self.now.backs.list.items cc) (λ x b q k. search rules))
