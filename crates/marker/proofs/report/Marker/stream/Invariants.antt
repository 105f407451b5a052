use Rattle.std.proofs.Common.{◌≡◌, ◌-◌, ◌*◌, ◌≤◌, length, drop, vec_items}
use Rattle.sheet.specs.View.{view}
use Rattle.marker.specs.Stream.{stream}
use Rattle.marker.proofs.Going.{Going}
use Rattle.marker.proofs.report.Marker.stream.Given as goal

abbrev pub invariant-loop-taken : goal.invariant-loop-taken
invariant-loop-taken l = record {
  within : 4 * l.place ≤ length l.input;
  room : l.self.room ≡ l.initial.self.room;
  going : Going (view l.initial.self.room.sheet) l.input (vec_items l.initial.text) (stream (view l.initial.self.room.sheet) l.start (drop (4 * l.start) l.input)) l.place (vec_items l.text);
}

abbrev pub decreases-loop-taken : goal.decreases-loop-taken
decreases-loop-taken l = length l.input - 4 * l.place
