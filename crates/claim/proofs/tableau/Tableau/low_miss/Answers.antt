use Rattle.std.proofs.Common.{rules, length, ap}
use Rattle.sheet.specs.Rows.{M}
use Rattle.claim.specs.Tableau.{sheet_in, passes}
use Rattle.claim.proofs.Leading.{low_each}
use Rattle.claim.proofs.tableau.Tableau.low_miss.Goals as goal

pub returns : goal.returns
returns c =
    let t = c.args.self.now in
    low_each _ (passes t) _ _ c.find.result M (length (sheet_in t).lblocks) (length c.lblocks-lblocks.result.now) (ap length c.lblocks-lblocks.ensures) c.find.ensures.ran (λ k e q. search rules, λ k e q. search rules)
