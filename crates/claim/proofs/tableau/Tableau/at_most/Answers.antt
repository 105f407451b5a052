use Rattle.std.proofs.Common.{◌+◌, ◌-◌, ◌*◌, ◌≤◌, length, sym, ap, ◌∙◌, inl, inr, arith}
use Rattle.std.proofs.lemmas.Bool.{le-leb, lt-leb, cases_lt}
use Rattle.sheet.specs.Rows.{in_row}
use Rattle.sheet.specs.View.{view, items}
use Rattle.sheet.proofs.Sound.{length-loops}
use Rattle.claim.proofs.Division.{rows_are}
use Rattle.claim.proofs.Signs.{at_end, at_bounded, at_join, at_miss}
use Rattle.claim.proofs.tableau.Tableau.at_most.Goals as goal

pub returns-then-row-blocks : goal.returns-then-row-blocks
returns-then-row-blocks c = sym (at_end (view c.args.self.now.sheet.now) c.args.row (in_row 0) (omega (arith, c.if-row-blocks.true, ap length c.blocks-blocks.ensures.listed)))

pub returns-then-row-blocks-2 : goal.returns-then-row-blocks-2
returns-then-row-blocks-2 c =
    let I = items c.args.self.now.sheet.now in
    let e = ap length c.blocks-blocks.ensures.listed in
    sym (at_bounded (view c.args.self.now.sheet.now) c.args.row (in_row 0) (omega (arith, c.if-row-blocks.false, e)) (omega (arith, c.if-row-blocks-2.true, e, ap length c.loops.ensures, ap length c.facts.ensures, length-loops I.backs 0 I.loops)))

pub overflow_sub-result : goal.overflow_sub-result
overflow_sub-result c = omega (arith, c.rows.ensures, rows_are (items c.args.self.now.sheet.now), ap length c.lblocks.ensures)

pub returns : goal.returns
returns c =
    let S = view c.args.self.now.sheet.now in
    let I = items c.args.self.now.sheet.now in
    let r = c.args.row in
    let m = c.rows.result - length c.lblocks.result.now in
    let l : 2 * S.blocks + length S.loops + length S.facts ≤ r =
    omega (arith, c.if-row-blocks-2.false, ap length c.blocks-blocks.ensures.listed, ap length c.loops.ensures, ap length c.facts.ensures, length-loops I.backs 0 I.loops) in
    elim (cases_lt r m) [
      | inl h ↦ lt-leb m r h ∙ sym (at_join S r (in_row 0) l (omega (arith, h, c.rows.ensures, ap length c.lblocks.ensures)))
      | inr h ↦ le-leb m r h ∙ sym (at_miss S r (in_row 0) (omega (arith, h, c.rows.ensures, ap length c.lblocks.ensures)) c.requires)
    ]
