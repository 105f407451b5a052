use Rattle.std.proofs.Common.{◌+◌, ◌<◌, ◌++◌, length, length-append, sym, refl, ◌∙◌, ap, subst, arith}
use Rattle.std.proofs.lemmas.List.{append-nil}
use Rattle.std.proofs.lemmas.Result.{err_from_is_err_and}
use Rattle.words.specs.Lists.{below, joined}
use Rattle.sheet.specs.Conflict.{END}
use Rattle.sheet.specs.Traversal.{sheet_of, Added, edge_at, edge_to}
use Rattle.sheet.proofs.Added.{added_after, rest_more, rest_over, rest_all, from_parts, seen_to, seen_at, other_at}
use Rattle.sheet.proofs.traversal.reach.Reach.list.Goals as goal
use Rattle.sheet.proofs.traversal.reach.Reach.list.Goals.{then-b-self+in_ok-list_to, else-b-self}

pub returns-in_err-list_to : goal.returns-in_err-list_to
returns-in_err-list_to c =
    let S = sheet_of c.args.g.now in
    let r = c.args.self.now in
    let s = r.source.set in
    let u = r.source.from in
    let v = c.loop-v.v in
    let xs = c.args.out.now.list.items in
    let ys = c.loop-v.out.list.items in
    let first = joined (edge_at S s u) (below (length S.lblocks)) in
    let p = err_from_is_err_and c.from_residual.result c.from_residual.ensures.1 in
    let h = subst (λ a. 4096 < length ys + length a) (seen_at S r c.requires.reached v c.if-b-self.true) c.in_err-list_to.ensures.0 in
    let k : 4096 < length xs + length first = rest_over (edge_at S s u) (length S.lblocks) (xs ++ first) ys xs first v c.loop-v-test.true c.loop-v.invariant refl h in
    rw p.1 (
      subst (λ a. 4096 < length xs + length a) (from_parts S s u) (omega (arith, k, length-append first (edge_to S s u END))),
      p.2 ∙ c.in_err-list_to.ensures.1,
    )

pub loop-v-preserved : goal.loop-v-preserved
loop-v-preserved c =
    let S = sheet_of c.args.g.now in
    let r = c.args.self.now in
    let v = c.loop-v.v in
    let xs = c.loop-v.out.list.items in
    rest_more (edge_at S r.source.set r.source.from) (length S.lblocks) _ xs c.if-b-self.out.list.items v c.loop-v-test.true c.loop-v.invariant
    (elim c.if-b-self.branch [
      | then-b-self+in_ok-list_to w ↦ rw w.out-is (w.in_ok-list_to.ensures ∙ ap (λ a. xs ++ a) (seen_at S r c.requires.reached v w.if-b-self.true))
      | else-b-self w ↦ rw (w.out-is, other_at S r.source.set v r.source.from w.if-b-self.false) (sym (append-nil xs))
    ])

pub returns : goal.returns
returns c =
    let S = sheet_of c.args.g.now in
    let r = c.args.self.now in
    let n = length S.lblocks in
    let xs = c.args.out.now.list.items in
    let ys = c.loop-v.out.list.items in
    let first = joined (edge_at S r.source.set r.source.from) (below n) in
    subst (λ a. Added r.source.set xs a c.list_to-2.result c.list_to-2.new.out.list.items) (from_parts S r.source.set r.source.from)
    (added_after r.source.set xs first (edge_to S r.source.set r.source.from END) ys c.list_to-2.result c.list_to-2.new.out.list.items
    (rest_all (edge_at S r.source.set r.source.from) n (xs ++ first) ys c.loop-v.v c.loop-v-test.false c.loop-v.invariant)
    (subst (λ a. Added r.source.set ys a c.list_to-2.result c.list_to-2.new.out.list.items) (seen_to S r c.requires.reached END) c.list_to-2.ensures))
