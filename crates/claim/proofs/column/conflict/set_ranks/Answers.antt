use Rattle.std.proofs.Common.{◌≡◌, ◌+◌, true, false, ◌∙◌, arith}
use Rattle.std.proofs.lemmas.List.{length-set}
use Rattle.sheet.specs.Kept.{used_among}
use Rattle.sheet.proofs.Used.{used_few}
use Rattle.claim.proofs.Sets.{more_ranks, more_count}
use Rattle.claim.proofs.column.conflict.set_ranks.Goals as goal
use Rattle.claim.proofs.column.conflict.set_ranks.Goals.{then-used, else-used}

pub overflow_add-count : goal.overflow_add-count
overflow_add-count c = omega (arith, c.loop-set.invariant.1, used_few c.args.lblocks.now c.loop-set.set, c.loop-set-test.true)

pub loop-set-preserved : goal.loop-set-preserved
loop-set-preserved c =
    let vs = c.args.lblocks.now in
    let n = c.loop-set.set in
    let k = c.loop-set.count in
    let t = c.loop-set.ranks in
    let e : c.if-used.count ≡ used_among vs (n + 1) =
    elim c.if-used.branch [
      | then-used w ↦ more_count vs n k c.if-used.count true true c.used_sets.result c.used_sets.ensures c.loop-set-test.true w.if-used.true c.loop-set.invariant.1 w.count-is
      | else-used w ↦ more_count vs n k c.if-used.count true false c.used_sets.result c.used_sets.ensures c.loop-set-test.true w.if-used.false c.loop-set.invariant.1 (omega (arith, w.count-is))
    ] in
    (more_ranks vs n k t c.loop-set.invariant.2 c.loop-set-test.true c.loop-set.invariant.1 c.loop-set.invariant.0, e, length-set t n k ∙ c.loop-set.invariant.2)
