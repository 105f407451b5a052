use Rattle.std.proofs.Common.{◌^◌, [], length, get_or, pos, ◌*ℤ◌, neg_ℤ, None, sym, ap, ◌∙◌, subst, ap₂, arith}
use Rattle.std.proofs.lemmas.List.{length-map}
use Rattle.sheet.specs.declared.parts.Loop.{Loop as Header}
use Rattle.sheet.specs.View.{items}
use Rattle.sheet.proofs.Sound.{length-loops}
use Rattle.claim.specs.Parts.{multiplier}
use Rattle.claim.specs.Shares.{Near}
use Rattle.claim.specs.Tableau.{weights_in}
use Rattle.claim.specs.Tables.{HeaderAt}
use Rattle.claim.proofs.Nears.{near_fits, near_neg}
use Rattle.claim.proofs.Loopings.{share_none, share_back, share_entry, found, found_near}
use Rattle.sheet.proofs.Sheets.{sheet_sound}
use Rattle.claim.proofs.column.looping.LoopTable.share.Goals as goal

abbrev no_header : Header
no_header = record { header = 0; bound = 0 }

pub at-multiplier-requires : goal.at-multiplier-requires
at-multiplier-requires c =
    let L = c.args.self.now in
    let I = items L.tableau.sheet.now in
    let h = found L c.args.edge.to c.in-Some.number c.requires.1 c.in-Some.ensures in
    omega (arith, h.0, length-map L.tableau.rows.loops.now multiplier, L.tableau.sized.loops, length-loops I.backs 0 I.loops)

pub mul-requires : goal.mul-requires
mul-requires c =
    near_fits (2 ^ 54) _ (omega arith)
    (found_near c.args.self.now c.args.edge.to c.in-Some.number c.requires.1 c.in-Some.ensures c.loops.result.now c.loops.ensures no_header c.at-multiplier.result.0 c.at-multiplier.ensures.near)

pub neg-requires : goal.neg-requires
neg-requires c =
    let n = found_near c.args.self.now c.args.edge.to c.in-Some.number c.requires.1 c.in-Some.ensures c.loops.result.now c.loops.ensures no_header c.at-multiplier.result.0 c.at-multiplier.ensures.near in
    near_fits (2 ^ 54) _ (omega arith) (near_neg (2 ^ 54) c.mul.result.0 (subst (Near (2 ^ 54)) (sym c.mul.ensures) n))

pub returns-in_default-clause-share : goal.returns-in_default-clause-share
returns-in_default-clause-share c =
    let L = c.args.self.now in
    let I = items L.tableau.sheet.now in
    let h = subst (HeaderAt I.loops (length I.loops) c.args.edge.to) (sym c.in_default.ensures) (L.headed c.args.edge.to None c.requires.1) in
    sym (share_none I (sheet_sound L.tableau.sheet.now) (weights_in L.tableau).loops c.args.edge no_header h)

pub returns-then-comes_from-clause-share : goal.returns-then-comes_from-clause-share
returns-then-comes_from-clause-share c =
    let L = c.args.self.now in
    let I = items L.tableau.sheet.now in
    let s = sheet_sound L.tableau.sheet.now in
    let k = c.in-Some.number in
    let h = found L c.args.edge.to k c.requires.1 c.in-Some.ensures in
    let v = sym (L.sourced k c.args.edge.from [] (omega (arith, h.0, s.few_loops)) c.requires.0) ∙ sym c.if-comes_from.ensures in
    c.at-multiplier.ensures.value ∙ sym (share_back I s (weights_in L.tableau).loops c.args.edge no_header k h.0 (h.1 no_header) v)

pub returns-else-comes_from-clause-share : goal.returns-else-comes_from-clause-share
returns-else-comes_from-clause-share c =
    let L = c.args.self.now in
    let I = items L.tableau.sheet.now in
    let s = sheet_sound L.tableau.sheet.now in
    let k = c.in-Some.number in
    let h = found L c.args.edge.to k c.requires.1 c.in-Some.ensures in
    let v = sym (L.sourced k c.args.edge.from [] (omega (arith, h.0, s.few_loops)) c.requires.0) ∙ sym c.if-comes_from.ensures in
    c.neg.ensures ∙ ap neg_ℤ (c.mul.ensures ∙ ap₂ (λ y m. y *ℤ pos m) c.at-multiplier.ensures.value (ap (λ hs. (get_or hs k no_header).bound) c.loops.ensures))
    ∙ sym (share_entry I s (weights_in L.tableau).loops c.args.edge no_header k h.0 (h.1 no_header) v)

pub returns-else-comes_from-clause-near : goal.returns-else-comes_from-clause-near
returns-else-comes_from-clause-near c =
    let n = found_near c.args.self.now c.args.edge.to c.in-Some.number c.requires.1 c.in-Some.ensures c.loops.result.now c.loops.ensures no_header c.at-multiplier.result.0 c.at-multiplier.ensures.near in
    subst (Near (2 ^ 54)) (sym c.neg.ensures) (near_neg (2 ^ 54) c.mul.result.0 (subst (Near (2 ^ 54)) (sym c.mul.ensures) n))
