use Rattle.std.proofs.Common.{◌*◌, ◌^◌, get_or, pos, refl, ap, ◌∙◌, arith}
use Rattle.std.proofs.lemmas.Nat.{mul-lt}
use Rattle.sheet.specs.Sheet.{no_lblock}
use Rattle.claim.specs.Tableau.{sheet_in, weights_in}
use Rattle.claim.proofs.Edges.{miss_test}
use Rattle.sheet.proofs.Sheets.{sheet_sound}
use Rattle.claim.proofs.tableau.Tableau.miss_covered.Goals as goal

pub reaches-requires : goal.reaches-requires
reaches-requires c =
    let t = c.args.self.now in
    let e = c.extra_cycles-cost.ensures ∙ ap (λ vs. (get_or vs c.args.v no_lblock).extra) c.lblocks.ensures in
    let f = (sheet_sound t.sheet.now).lblocks_fit c.args.v no_lblock c.requires in
    omega (arith, mul-lt c.extra_cycles-cost.result.0 t.scale.value (2 ^ 14) (2 ^ 20) (omega (arith, e, f.1)) (omega (arith, t.scale.small)))

pub returns : goal.returns
returns c =
    let t = c.args.self.now in
    c.reaches.ensures
    ∙ miss_test (sheet_in t) (weights_in t) t.sized t.scale.value c.args.v c.extra_cycles-cost.result.0 (pos (c.extra_cycles-cost.result.0 * t.scale.value)) c.at.result.0 refl
    (c.extra_cycles-cost.ensures ∙ ap (λ vs. (get_or vs c.args.v no_lblock).extra) c.lblocks.ensures) c.at.ensures.value
