use Rattle.std.proofs.Common.{◌-◌, length, get_or, pos, ◌+ℤ◌, sym, ap, ◌∙◌, ap₂}
use Rattle.claim.specs.Parts.{multipliers}
use Rattle.claim.specs.Tableau.{sheet_in, weights_in}
use Rattle.claim.proofs.Totals.{total_right}
use Rattle.claim.proofs.tableau.Tableau.right_side.Goals as goal

pub returns : goal.returns
returns c =
    let t = c.args.self.now in
    c.add-2.ensures
    ∙ ap₂ ◌+ℤ◌
    (c.add.ensures ∙ ap₂ ◌+ℤ◌ c.at.ensures.value (c.at-2.ensures.value ∙ ap (λ n. get_or (multipliers t.rows.outs.now) (n - 1) (pos 0)) (ap length c.blocks-blocks.ensures.listed)))
    c.sum.ensures.sum
    ∙ sym (total_right (sheet_in t) (weights_in t) t.sized)
