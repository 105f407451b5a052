use Rattle.std.proofs.Common.{◌≡◌, ◌+◌, ◌++◌, vec_items, vec_len}
use Rattle.marker.specs.Input.{first_list}
use Rattle.marker.specs.declared.input.TheConstants.{MOST_WORDS}
use Rattle.marker.proofs.Taking.{of_chunks}
use Rattle.marker.proofs.input.WordList.take.Given as goal

abbrev pub invariant-loop-chunk : goal.invariant-loop-chunk
invariant-loop-chunk l = record {
  taken : vec_items l.self.words ++ of_chunks l.chunk-iterator.n l.chunk-iterator.iter.rest.now ≡ first_list l.input;
  room : vec_len l.self.words + l.chunk-iterator.n ≡ MOST_WORDS;
}
