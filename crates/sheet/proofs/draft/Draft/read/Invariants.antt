use Rattle.std.proofs.Common.{◌≡◌, ◌-◌, length}
use Rattle.sheet.specs.ReadSheet.{start}
use Rattle.sheet.specs.Sections.{Goes, Ready, state_of}
use Rattle.sheet.specs.Tried.{items_of}
use Rattle.sheet.proofs.draft.Draft.read.Given as goal

abbrev pub invariant-loop-next : goal.invariant-loop-next
invariant-loop-next l =
    Goes l.words start 0 (state_of l.section (items_of l.self)) l.reader.at
    × Ready l.section (items_of l.self)
    × (l.reader.words.now ≡ l.words)

abbrev pub decreases-loop-next : goal.decreases-loop-next
decreases-loop-next l = length l.words - l.reader.at
