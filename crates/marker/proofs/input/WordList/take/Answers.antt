use Rattle.std.proofs.Common.{◌++◌, vec_items, sym, ap, ◌∙◌, arith}
use Rattle.marker.specs.Input.{first_list}
use Rattle.marker.proofs.Taking.{of_chunks, begun, taken_all, taken_end, taken_more}
use Rattle.marker.proofs.input.WordList.take.Goals as goal

pub loop-chunk-init : goal.loop-chunk-init
loop-chunk-init c = record {
  taken = ap (λ ws. ws ++ of_chunks c.into_iter-chunk-iterator.result.n c.into_iter-chunk-iterator.result.iter.rest.now) c.clear.ensures.items
      ∙ ap (λ t. of_chunks t.n t.iter.rest.now) c.into_iter-chunk-iterator.ensures.into_iter_gives
      ∙ ap (λ i. of_chunks c.take-chunk-items.result.n i.rest.now) c.take-chunk-items.ensures.source
      ∙ ap (λ n. of_chunks n c.iter.result.rest.now) c.take-chunk-items.ensures.count
      ∙ ap (of_chunks 4096) (c.iter.ensures.rest ∙ c.as_chunks.ensures.front)
      ∙ begun c.args.input.now;
  room = omega (arith, c.take-chunk-items.ensures.count, ap (λ t. t.n) c.into_iter-chunk-iterator.ensures.into_iter_gives);
}

pub push_reserved-requires : goal.push_reserved-requires
push_reserved-requires c = omega (arith, c.loop-chunk.self.room, c.in-Some.ensures.steps.1)

pub loop-chunk-preserved : goal.loop-chunk-preserved
loop-chunk-preserved c = record {
  taken = taken_more (first_list c.args.input.now) (vec_items c.loop-chunk.self.words) c.loop-chunk.chunk-iterator.n c.loop-chunk.chunk-iterator.iter.rest.now c.loop-chunk.invariant.taken
      (vec_items c.push_reserved.new.self) _ c.next.new.self.n c.in-Some.chunk.now c.next.new.self.iter.rest.now
      c.in-Some.ensures.steps.1 c.in-Some.ensures.steps.0 c.push_reserved.ensures.items (omega arith) (sym c.if-is_end.ensures);
  room = omega (arith, c.in-Some.ensures.steps.1);
}

pub returns-then-is_end : goal.returns-then-is_end
returns-then-is_end c =
    taken_end (first_list c.args.input.now) (vec_items c.loop-chunk.self.words) c.loop-chunk.chunk-iterator.n c.loop-chunk.chunk-iterator.iter.rest.now c.loop-chunk.invariant.taken
    (vec_items c.push_reserved.new.self) _ c.next.new.self.n c.in-Some.chunk.now c.next.new.self.iter.rest.now
    c.in-Some.ensures.steps.1 c.in-Some.ensures.steps.0 c.push_reserved.ensures.items (omega arith) (sym c.if-is_end.ensures)

pub returns : goal.returns
returns c = taken_all (first_list c.args.input.now) (vec_items c.loop-chunk.self.words) c.loop-chunk.chunk-iterator.n c.loop-chunk.chunk-iterator.iter.rest.now c.loop-chunk.invariant.taken (λ h. (c.in-None.ensures.steps h).0)
