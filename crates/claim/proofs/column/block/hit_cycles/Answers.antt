use Rattle.std.proofs.Common.{rules, ◌≡◌, ◌^◌, ◌≤◌, sum_by, arith}
use Rattle.std.proofs.lemmas.List.Elements.{All-from_get_or}
use Rattle.std.proofs.lemmas.List.Sums.{sum_by-le}
use Rattle.sheet.specs.Sheet.{no_lblock}
use Rattle.claim.proofs.column.block.hit_cycles.Goals as goal

pub returns-clause-small : goal.returns-clause-small
returns-clause-small c =
    let vs = c.args.lblocks.now in
    let e : c.sum.result ≡ sum_by (λ v. v.hit) vs = search rules in
    omega (arith, e, sum_by-le (λ v. v.hit) (2 ^ 14) vs (All-from_get_or (λ v. v.hit ≤ 2 ^ 14) vs no_lblock (λ n h. omega (arith, (c.requires.cheap n no_lblock h).0))), c.requires.few)
