use Rattle.std.proofs.Common.{rules, ◌≡◌, ◌*◌, ◌^◌, length, map, pos, ◌+ℤ◌, sym, ap, ◌∙◌, subst, arith}
use Rattle.std.proofs.lemmas.Int.{ints}
use Rattle.std.proofs.lemmas.List.{length-map, map-id}
use Rattle.std.proofs.lemmas.Iterator.{YieldsList-from_slice, YieldsList-from_map, items_from_drains}
use Rattle.claim.specs.Parts.{multiplier, multipliers}
use Rattle.claim.specs.Shares.{total, Near}
use Rattle.claim.proofs.Nears.{near_more}
use Rattle.claim.proofs.SignedSums.{multipliers_fit, fold_total, near_total}
use Rattle.claim.proofs.rows.value.sum.Goals as goal

pub sum-requires-clause-fits : goal.sum-requires-clause-fits
sum-requires-clause-fits c =
    let ps = c.args.pairs.now in
    multipliers_fit ps (YieldsList-from_map _ multiplier (YieldsList-from_slice ps (search rules)) (search rules) (λ x r q k. search rules)) (omega (arith, length-map ps multiplier, c.requires))

pub returns : goal.returns
returns c =
    let ps = c.args.pairs.now in
    let xs = c.sum.ensures.ran.0 in
    let d = c.sum.ensures.ran.1 tt in
    let m : map (λ x. x) xs ≡ multipliers ps =
    items_from_drains {s = c.map.result} xs (d.1.0, d.1.1, λ _. (d.0, d.1.2)) (YieldsList-from_map _ multiplier (YieldsList-from_slice ps (search rules)) (search rules) (λ x r q k. search rules)) in
    let e : c.sum.result ≡ total (multipliers ps) = c.sum.ensures.ran.2 ∙ fold_total (pos 0) xs ∙ ap (λ ys. pos 0 +ℤ total ys) (sym (map-id xs) ∙ m) ∙ omega (arith, ints) in
    let n : Near (2 ^ 49) c.sum.result = subst (Near (2 ^ 49)) (sym e) (near_more (length ps * 2 ^ 40) (2 ^ 49) (total (multipliers ps)) (omega (arith, c.requires)) (near_total ps)) in
    record { sum = search rules ∙ e; near = search (rules, n) }
