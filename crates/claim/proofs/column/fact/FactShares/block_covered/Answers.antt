use Rattle.std.proofs.Common.{◌*◌, ◌<◌, length, get_or, pos, sym, refl, ap, ◌∙◌, arith}
use Rattle.sheet.specs.View.{items}
use Rattle.sheet.specs.BlockTable.{no_block}
use Rattle.claim.specs.Shares.{fact_share}
use Rattle.claim.specs.Tableau.{weights_in}
use Rattle.claim.proofs.Blocks.{block_inside, block_seen, hits_part}
use Rattle.claim.proofs.column.fact.FactShares.block_covered.Goals as goal

pub returns : goal.returns
returns c =
    let t = c.args.self.now.tableau in
    let I = items t.sheet.now in
    let s = c.blocks-2.ensures.sound in
    let b = c.args.b in
    let bs = c.blocks-2.result.now in
    let e = c.blocks-2.ensures.listed in
    let h : b < length bs = omega (arith, c.requires, ap length e) in
    let k = block_inside I s bs e b h in
    let x = get_or bs b no_block in
    c.reaches.ensures
    ∙ sym (block_seen I s bs e b h (weights_in t) t.sized c.lblocks.result.now I.facts c.lblocks.ensures refl t.scale.value
    (fact_share (weights_in t).facts I.facts b) c.block_total.result.0 (pos (c.hit_cycles.result.0 * t.scale.value)) c.hit_cycles.result.0
    refl c.block_total.ensures (c.hit_cycles.ensures.cost ∙ hits_part x.first x.lblocks c.lblocks.result.now (omega (arith, k.0, ap length c.lblocks.ensures))) refl)
