use Rattle.std.proofs.Common.{◌+◌, ◌^◌, get_or, ◌+ℤ◌, sym, ◌∙◌, subst, ap₂, arith}
use Rattle.claim.proofs.Blocks.{total_part}
use Rattle.claim.specs.Shares.{Near}
use Rattle.claim.proofs.Nears.{near_fits, near_add}
use Rattle.claim.proofs.Facts.{nothing}
use Rattle.sheet.proofs.Sheets.{sheet_sound}
use Rattle.claim.proofs.column.fact.FactShares.block_total.Goals as goal

pub add-requires-4 : goal.add-requires-4
add-requires-4 c =
    let t = c.args.self.now.tableau in
    let a = subst (Near (2 ^ 41)) (sym c.add.ensures) (near_add (2 ^ 40) (2 ^ 40) c.at.result.0 c.at-2.result.0 c.at.ensures.near c.at-2.ensures.near) in
    let x = c.args.self.now.near c.args.b nothing (omega (arith, c.requires.inside, (sheet_sound t.sheet.now).few_blocks)) in
    let b = subst (Near (2 ^ 41 + 2 ^ 60)) (sym c.add-2.ensures) (near_add (2 ^ 41) (2 ^ 60) c.add.result.0 (get_or c.args.self.now.shares c.args.b nothing).0 a x) in
    let s = subst (Near (2 ^ 50)) (sym c.add-3.ensures) (near_add (2 ^ 49) (2 ^ 49) c.sum.result.0 c.sum-2.result.0 c.sum.ensures.near c.sum-2.ensures.near) in
    near_fits (2 ^ 41 + 2 ^ 60 + 2 ^ 50) _ (omega arith) (near_add (2 ^ 41 + 2 ^ 60) (2 ^ 50) c.add-2.result.0 c.add-3.result.0 b s)

pub returns : goal.returns
returns c =
    let t = c.args.self.now.tableau in
    let f = c.args.block.first in
    let n = c.args.block.lblocks in
    c.add-4.ensures
    ∙ ap₂ ◌+ℤ◌
    (c.add-2.ensures ∙ ap₂ ◌+ℤ◌ (c.add.ensures ∙ ap₂ ◌+ℤ◌ c.at.ensures.value c.at-2.ensures.value)
    (c.args.self.now.shared c.args.b nothing (omega (arith, c.requires.inside, (sheet_sound t.sheet.now).few_blocks))))
    (c.add-3.ensures ∙ ap₂ ◌+ℤ◌ (c.sum.ensures.sum ∙ total_part f n t.rows.arrivals.now) (c.sum-2.ensures.sum ∙ total_part f n t.rows.departures.now))
