use Rattle.std.proofs.Common.{◌≡◌, ◌+◌, length, take}
use Rattle.line.specs.Text.{over_at}
use Rattle.line.proofs.Fields.{after}
use Rattle.line.proofs.layout.Layout.put.Given as goal

abbrev pub invariant-loop-field : goal.invariant-loop-field
invariant-loop-field l =
    (l.at ≡ l.initial.at + length (after (take l.field-index l.self.fields.now)))
    × (l.out ≡ over_at l.initial.at (after (take l.field-index l.self.fields.now)) l.initial.out)
