use Rattle.std.proofs.Common.{not, ◌&&◌, eqb, rules}
use Rattle.std.proofs.lemmas.Iterator.{YieldsList-from_slice}
use Rattle.std.proofs.lemmas.Iterator.Search.{any_from_yields_List}
use Rattle.words.specs.Lists.{any}
use Rattle.sheet.specs.Drafts.{backs_of}
use Rattle.sheet.proofs.Drafts.{any_is}
use Rattle.sheet.proofs.draft.Draft.has_entry.Goals as goal

pub returns : goal.returns
returns c = rw any_is
    (any_from_yields_List (λ e. eqb e.to c.args.header && not (any (eqb e.from) (backs_of c.args.self.now.backs.list.items c.args.owner))) _ _ _ c.any.ensures.ran (YieldsList-from_slice c.args.self.now.edges.list.items cc) (λ x b q k. search rules))
