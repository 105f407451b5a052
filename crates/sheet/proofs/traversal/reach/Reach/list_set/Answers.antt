use Rattle.std.proofs.Common.{◌+◌, ◌<◌, Err, [], ◌++◌, length, sym, refl, ◌∙◌, ap, subst}
use Rattle.std.proofs.lemmas.Bool.{cond-true, cond-false, eq-eqb, ne_eqb}
use Rattle.std.proofs.lemmas.List.{append-nil, append_assoc}
use Rattle.std.proofs.lemmas.Result.{err_from_is_err_and}
use Rattle.words.specs.Lists.{below, joined}
use Rattle.sheet.specs.Conflict.{START, at, in_set}
use Rattle.sheet.specs.ConflictList.{conflicts_from}
use Rattle.sheet.specs.Traversal.{sheet_of, Added, edges_from}
use Rattle.sheet.proofs.Added.{added_after, rest_more, rest_over, rest_all, of_parts}
use Rattle.sheet.proofs.traversal.reach.Reach.list_set.Goals as goal
use Rattle.sheet.proofs.traversal.reach.Reach.list_set.Goals.{then-b-set+in_ok-list_from-2, else-b-set}

pub returns-in_err-list_from-2 : goal.returns-in_err-list_from-2
returns-in_err-list_from-2 c =
    let S = sheet_of c.args.g.now in
    let s = c.args.set in
    let v = c.loop-v.v in
    let xs = c.args.out.now.list.items in
    let ys = c.list_from.new.out.list.items in
    let rest = joined (edges_from S s) (below (length S.lblocks)) in
    let p = err_from_is_err_and c.from_residual-in_err-list_from-2.result c.from_residual-in_err-list_from-2.ensures.1 in
    let h = subst (λ a. 4096 < length c.loop-v.out.list.items + length a) (sym (cond-true (in_set S s (at v)) (conflicts_from S s (at v)) [] (eq-eqb _ s c.if-b-set.true))) c.in_err-list_from-2.ensures.0 in
    let k = rest_over (edges_from S s) (length S.lblocks) (ys ++ rest) c.loop-v.out.list.items ys rest v c.loop-v-test.true c.loop-v.invariant refl h in
    rw p.1 (subst (λ a. Added s xs a (Err p.0) ys) (of_parts S s)
    (added_after s xs (conflicts_from S s START) rest ys (Err p.0) ys c.in_ok-list_from.ensures (k, p.2 ∙ c.in_err-list_from-2.ensures.1)))

pub loop-v-preserved : goal.loop-v-preserved
loop-v-preserved c =
    let S = sheet_of c.args.g.now in
    let s = c.args.set in
    let v = c.loop-v.v in
    let xs = c.loop-v.out.list.items in
    rest_more (edges_from S s) (length S.lblocks) _ xs c.if-b-set.out.list.items v c.loop-v-test.true c.loop-v.invariant
    (elim c.if-b-set.branch [
      | then-b-set+in_ok-list_from-2 w ↦
          rw w.out-is (w.in_ok-list_from-2.ensures ∙ ap (λ a. xs ++ a) (sym (cond-true (in_set S s (at v)) (conflicts_from S s (at v)) [] (eq-eqb _ s w.if-b-set.true))))
      | else-b-set w ↦ rw (w.out-is, cond-false (in_set S s (at v)) (conflicts_from S s (at v)) [] (ne_eqb _ s w.if-b-set.false)) (sym (append-nil xs))
    ])

pub returns : goal.returns
returns c =
    let S = sheet_of c.args.g.now in
    let s = c.args.set in
    let n = length S.lblocks in
    let rest = joined (edges_from S s) (below n) in
    let xs = c.args.out.now.list.items in
    rest_all (edges_from S s) n (c.list_from.new.out.list.items ++ rest) c.loop-v.out.list.items c.loop-v.v c.loop-v-test.false c.loop-v.invariant
    ∙ ap (λ a. a ++ rest) c.in_ok-list_from.ensures ∙ append_assoc xs (conflicts_from S s START) rest ∙ ap (λ a. xs ++ a) (of_parts S s)
