use Rattle.std.proofs.Common.{◌≡◌, ◌+◌, ◌<◌, ◌≤◌, [], ◌++◌, length, sym, ◌∙◌, subst, arith}
use Rattle.std.proofs.lemmas.Bool.{cond-true, cond-false}
use Rattle.std.proofs.lemmas.List.{append-nil}
use Rattle.std.proofs.lemmas.Result.{err_from_is_err_and}
use Rattle.sheet.specs.Conflict.{used}
use Rattle.sheet.specs.ConflictList.{conflicts_of}
use Rattle.sheet.specs.Traversal.{sheet_of, edges_of}
use Rattle.sheet.proofs.Added.{rest_more, rest_all, all_parts, passing_more, passing_over, passing_all, many_found}
use Rattle.sheet.proofs.traversal.reach.Reach.list_all.Goals as goal
use Rattle.sheet.proofs.traversal.reach.Reach.list_all.Goals.{then-is_used+in_ok-list_set, else-is_used}

pub returns-in_err-list_set : goal.returns-in_err-list_set
returns-in_err-list_set c =
    let S = sheet_of c.args.g.now in
    let s = c.loop-set.set in
    let xs = c.loop-set.out.list.items in
    let p = err_from_is_err_and c.from_residual.result c.from_residual.ensures.1 in
    let few : length xs ≤ 4096 = omega (arith, c.loop-set.out.few, c.loop-set.out.list.ok.0) in
    let h = subst (λ a. 4096 < length xs + length a) (sym (cond-true (used S s) (conflicts_of S s) [] cc)) c.in_err-list_set.ensures.0 in
    rw p.1 (many_found S s p.0 (sym c.loop-set.invariant.passes ∙ passing_over S xs s c.loop-set-test.true few h) (p.2 ∙ c.in_err-list_set.ensures.1))

pub loop-set-preserved : goal.loop-set-preserved
loop-set-preserved c =
    let S = sheet_of c.args.g.now in
    let s = c.loop-set.set in
    let xs = c.loop-set.out.list.items in
    let ys = c.if-is_used.out.list.items in
    let few : length ys ≤ 4096 = omega (arith, c.if-is_used.out.few, c.if-is_used.out.list.ok.0) in
    let e : ys ≡ xs ++ edges_of S s = elim c.if-is_used.branch [
      | then-is_used+in_ok-list_set w ↦ rw (w.out-is, cond-true (used S s) (conflicts_of S s) [] cc) w.in_ok-list_set.ensures
      | else-is_used w ↦ rw (w.out-is, cond-false (used S s) (conflicts_of S s) [] cc) (sym (append-nil xs))
    ] in record {
      whole = rest_more (edges_of S) S.sets _ xs ys s c.loop-set-test.true c.loop-set.invariant.whole e;
      passes = passing_more S xs ys s c.loop-set-test.true e few ∙ c.loop-set.invariant.passes;
    }

pub returns : goal.returns
returns c =
    let S = sheet_of c.args.g.now in
    let xs = c.loop-set.out.list.items in (
      sym c.loop-set.invariant.passes ∙ passing_all S xs c.loop-set.set c.loop-set-test.false,
      rest_all (edges_of S) S.sets _ xs c.loop-set.set c.loop-set-test.false c.loop-set.invariant.whole ∙ all_parts S,
    )
