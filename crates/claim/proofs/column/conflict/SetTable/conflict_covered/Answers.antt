use Rattle.std.proofs.Common.{rules, ◌+ℤ◌, ◌∙◌, ap₂, arith}
use Rattle.sheet.specs.Conflict.{used}
use Rattle.claim.specs.Tableau.{sheet_in, weights_in}
use Rattle.claim.proofs.Edges.{conflict_test}
use Rattle.claim.proofs.Sets.{rank_below, used_of, set_fits, ends_of}
use Rattle.claim.proofs.column.conflict.SetTable.conflict_covered.Goals as goal

pub offset_bounds-self-conflict : goal.offset_bounds-self-conflict
offset_bounds-self-conflict c = omega (arith, set_fits c.args.self.now.tableau.sheet.now c.args.conflict c.requires)

pub bounds-self-conflict : goal.bounds-self-conflict
bounds-self-conflict c = set_fits c.args.self.now.tableau.sheet.now c.args.conflict c.requires

pub invariant_of-column : goal.invariant_of-column
invariant_of-column c =
    let t = c.args.self.now.tableau in
    let S = sheet_in t in
    let s = c.args.conflict.set in
    let u = used_of S c.args.conflict c.requires in
    let r = c.args.self.now.ranked s (set_fits t.sheet.now c.args.conflict c.requires) in
    record { ends = ends_of S c.args.conflict c.requires; ranked = r; used = omega (arith, r, rank_below (used S) s S.sets u.0 u.1, t.sized.sets) }

pub returns : goal.returns
returns c =
    let t = c.args.self.now.tableau in
    let S = sheet_in t in
    let u = used_of S c.args.conflict c.requires in
    search rules
    ∙ conflict_test S (weights_in t) t.sized t.scale.value c.args.conflict u.0 u.1
    c.add-total.result.0 (c.add-total.ensures ∙ ap₂ ◌+ℤ◌ c.source_share.ensures.share c.target_share.ensures.share)
