use Rattle.std.proofs.Common.{Bool, eqb, nat_lt, ◌&&◌, ◌∙◌, sym, ap, rules, tests}
use Rattle.std.proofs.lemmas.Iterator.{YieldsList-from_slice}
use Rattle.std.proofs.lemmas.Iterator.Consumers.{YieldsList-from_filter, count_from_yields_List}
use Rattle.sheet.specs.declared.parts.Edge.{Edge}
use Rattle.sheet.proofs.Drafts.{any_count}
use Rattle.sheet.proofs.draft.Draft.has_edge.Goals as goal

pub returns : goal.returns
returns c =
    let es = c.args.self.now.edges.list.items in
    let same : Edge → Bool = λ e. eqb c.args.from e.from && eqb c.args.to e.to in
    ap (nat_lt 0) (count_from_yields_List c.filter-same.result c.count.result c.count.ensures.ran
    (YieldsList-from_filter _ same (YieldsList-from_slice es cc) c.filter-same.ensures.closure (λ x b q k. search (rules, tests))))
    ∙ sym (any_count same es)
