use Rattle.std.proofs.Common.{rules, ◌≡◌, ℕ, Bool, true, not, ◌||◌, length, get_or, pos, ◌∙◌, arith}
use lib.Signed.{le_z}
use Rattle.std.proofs.lemmas.List.{length-map}
use Rattle.sheet.specs.Rows.{rows, at_most, in_row}
use Rattle.claim.specs.Tableau.{sheet_in}
use Rattle.claim.specs.Judge.{sign_tests}
use Rattle.claim.specs.Parts.{multiplier, multipliers}
use Rattle.claim.specs.Shares.{as_tested}
use Rattle.claim.proofs.Leading.{low_at}
use Rattle.claim.proofs.Signs.{length-signs, get_or-signs}
use Rattle.claim.proofs.tableau.Tableau.negative_row.Goals as goal

pub returns : goal.returns
returns c =
    let ps = c.args.self.now.pairs.now in
    let ys = multipliers ps in
    let rs = rows (sheet_in c.args.self.now) in
    let t : ℕ → Bool = λ i. not (at_most (get_or rs i (in_row 0))) || le_z (pos 0) (get_or ys i (pos 0)) in
    let e : length ys ≡ length ps = length-map ps multiplier in
    low_at _ as_tested _ _ c.find.result (sign_tests ys rs) true t (length ps) (omega (arith, length-signs ys rs (e ∙ c.args.self.now.paired), e)) (λ k l. get_or-signs ys rs k (in_row 0) true (omega (arith, e)) (omega (arith, c.args.self.now.paired))) c.find.ensures.ran
    (λ k e q. search rules, λ k e q. search rules)
