use Rattle.std.proofs.Common.{◌≡◌, ℕ, ◌<◌, ◌≤◌, true, false, length, sym, ◌∙◌, subst, arith}
use Rattle.std.proofs.lemmas.Bool.{ltb-true, ltb-false}
use Rattle.std.proofs.lemmas.List.{get_or_read}
use Rattle.std.proofs.ByRecursion.{All-get_or}
use Rattle.sheet.specs.Conflict.{at, more, in_set}
use Rattle.sheet.specs.Traversal.{sheet_of, saw, Front}
use Rattle.sheet.proofs.Front.{front_done}
use Rattle.sheet.proofs.traversal.reach.Reach.run.Goals as goal

pub spread-requires-clause-leads : goal.spread-requires-clause-leads
spread-requires-clause-leads c =
    let S = sheet_of c.args.g.now in
    let r = c.loop-x.self in
    let f = c.loop-x.invariant.0.going in
    let x = c.in-Some.field-0.now in
    let i = c.loop-x.head in
    let xs = c.as_slice.result.now in
    let h = c.in-Some.ensures.lookup in
    let l : i < length xs = ltb-true i (length xs) (sym h.0) in
    let P : ℕ → Type 0 = λ q. (q < length S.lblocks) × (in_set S r.source.set (at q) ≡ false) × (saw r (at q) ≡ true) in
    let p = subst P (sym (get_or_read xs i x l h.1 0)) (rw c.as_slice.ensures.items (All-get_or P r.queue.list.items i 0 (rw c.as_slice.ensures.items at l) f.inner)) in
    λ y a. more (f.sound (at x) p.2) p.1 a

pub returns : goal.returns
returns c =
    let S = sheet_of c.args.g.now in
    let r = c.loop-x.self in
    let on = c.loop-x.invariant.0 in
    let source_is = on.same_source ∙ c.begin.ensures.source in
    let h = c.in_default.ensures.lookup in
    let done : length r.queue.list.items ≤ c.loop-x.head = rw c.as_slice.ensures.items at (ltb-false c.loop-x.head (length c.as_slice.result.now) (sym h.0)) in
    record {
      source_is = source_is;
      sized = on.going.sized;
      found = front_done S c.args.source.set c.args.source.from r.seen.list.items r.ended r.queue.list.items
          (subst (λ a. Front S a.set a.from r.seen.list.items r.ended r.queue.list.items) source_is on.going)
          (λ y a. on.kept y (c.begin.ensures.saw y a))
          (λ i l. c.loop-x.invariant.2 i (omega arith));
    }
