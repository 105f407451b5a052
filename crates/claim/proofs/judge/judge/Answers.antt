use Rattle.std.proofs.Common.{Some, None, sym, ap, ◌∙◌}
use Rattle.sheet.specs.View.{view}
use Rattle.claim.specs.Parts.{multipliers, certificate_of}
use Rattle.claim.proofs.Judged.{judged_safe}
use Rattle.claim.proofs.Judgement.{judge_laws, column_refused, claim_refused, claim_accepted, found_signs, found_column, found_claim}
use Rattle.sheet.proofs.Sheets.{sheet_sound}
use Rattle.claim.proofs.judge.judge.Goals as goal

pub returns-in-Some-low_column-clause-answer : goal.returns-in-Some-low_column-clause-answer
returns-in-Some-low_column-clause-answer c =
    let S = view c.args.sheet.now in
    let C = certificate_of c.in_ok-certificate.certificate in
    let t = c.new-tableau in
    let e = ap view t.ensures.sheet in
    let d = ap (λ d. d.value) t.ensures.scale in
    let m = ap multipliers (sym t.ensures.pairs) ∙ t.result.whole in
    let k = c.in-Some-low_column.column in
    column_refused S c.args.words.now c.rows.result C c.rows.ensures c.in_ok-certificate.ensures.0 (found_signs t.result S C e d m None c.in_default.ensures) k
    (found_column t.result S C e d m (Some k) c.in-Some-low_column.ensures)

pub returns-then-not-within-clause-answer : goal.returns-then-not-within-clause-answer
returns-then-not-within-clause-answer c =
    let S = view c.args.sheet.now in
    let C = certificate_of c.in_ok-certificate.certificate in
    let t = c.new-tableau in
    let e = ap view t.ensures.sheet in
    let d = ap (λ d. d.value) t.ensures.scale in
    let m = ap multipliers (sym t.ensures.pairs) ∙ t.result.whole in
    claim_refused S c.args.words.now c.rows.result C c.rows.ensures c.in_ok-certificate.ensures.0 (found_signs t.result S C e d m None c.in_default.ensures)
    (found_column t.result S C e d m None c.in_default-low_column.ensures)
    (found_claim t.result S C e d m c.right_side.result.0 _ c.right_side.ensures c.if-not-within.ensures)

pub returns : goal.returns
returns c =
    let S = view c.args.sheet.now in
    let C = certificate_of c.in_ok-certificate.certificate in
    let t = c.new-tableau in
    let e = ap view t.ensures.sheet in
    let d = ap (λ d. d.value) t.ensures.scale in
    let m = ap multipliers (sym t.ensures.pairs) ∙ t.result.whole in
    let a = claim_accepted S c.args.words.now c.rows.result C c.rows.ensures c.in_ok-certificate.ensures.0 (found_signs t.result S C e d m None c.in_default.ensures)
    (found_column t.result S C e d m None c.in_default-low_column.ensures)
    (found_claim t.result S C e d m c.right_side.result.0 _ c.right_side.ensures c.if-not-within.ensures) in
    record { answer = a; covers = judged_safe S c.args.words.now C.W (sheet_sound c.args.sheet.now).formed a; laws = judge_laws }
