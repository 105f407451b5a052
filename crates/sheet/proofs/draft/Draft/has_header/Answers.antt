use Rattle.std.proofs.Common.{eqb, rules}
use Rattle.std.proofs.lemmas.Iterator.{YieldsList-from_slice}
use Rattle.std.proofs.lemmas.Iterator.Search.{any_from_yields_List}
use Rattle.sheet.proofs.Drafts.{any_is}
use Rattle.sheet.proofs.draft.Draft.has_header.Goals as goal

pub returns : goal.returns
returns c = rw any_is (any_from_yields_List (λ l. eqb c.args.header l.header) _ _ _ c.any.ensures.ran (YieldsList-from_slice c.args.self.now.loops.list.items cc) (λ x b q k. search rules))
