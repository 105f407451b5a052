use Rattle.std.proofs.Common.{rules, map, length, sym, ap, ◌∙◌, subst}
use Rattle.words.specs.Lists.{below}
use Rattle.sheet.specs.Rows.{N}
use Rattle.claim.specs.Shares.{FirstLow}
use Rattle.claim.specs.Tableau.{sheet_in, passes}
use Rattle.claim.proofs.Leading.{low_each}
use Rattle.claim.proofs.tableau.Tableau.low_block.Goals as goal

pub returns : goal.returns
returns c =
    let t = c.of-facts.result.tableau in
    let e = c.of-facts.ensures in
    subst (λ t. FirstLow (passes t) (map N (below (sheet_in t).blocks)) c.find.result) e
    (low_each _ (passes t) _ _ c.find.result N (sheet_in t).blocks (length c.blocks-blocks.result.now) (ap length c.blocks-blocks.ensures.listed ∙ sym (ap (λ t. (sheet_in t).blocks) e)) c.find.ensures.ran (λ k e q. search rules, λ k e q. search rules))
