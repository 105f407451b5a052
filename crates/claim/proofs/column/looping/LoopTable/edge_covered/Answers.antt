use Rattle.std.proofs.Common.{rules, ◌-ℤ◌, ◌∙◌, ap₂}
use Rattle.claim.specs.Tableau.{sheet_in, weights_in}
use Rattle.claim.proofs.Edges.{edge_test}
use Rattle.claim.proofs.column.looping.LoopTable.edge_covered.Goals as goal

pub returns : goal.returns
returns c =
    let t = c.args.self.now.tableau in
    search rules
    ∙ edge_test (sheet_in t) (weights_in t) t.sized t.scale.value c.args.edge c.sub-total.result.0
    (c.sub-total.ensures ∙ ap₂ ◌-ℤ◌ (c.sub.ensures ∙ ap₂ ◌-ℤ◌ c.share.ensures.share c.at.ensures.value) c.at-2.ensures.value)
