-- What writing a line from a place on answers and leaves. Assumes nothing.
use Rattle.std.specs.Prelude.{◌≡◌, ℕ, ◌+◌, ◌<◌, ◌≤◌, List, length, Ok, Err, Result}
use Rattle.line.specs.declared.fault.LineFault.{LineFault}
use Rattle.line.specs.declared.fault.LineFault.TheVariants.{TooShort}
use Rattle.line.specs.Text.{over_at}

-- Where there is room, the text is written, and the answer is the place after it. Else nothing is written, and the answer is the text's length.
abbrev pub Written : List ℕ → ℕ → List ℕ → Result ℕ LineFault → List ℕ → Type 0
Written entry at text (Ok n) exit = (at + length text ≤ length entry) × (n ≡ at + length text) × (exit ≡ over_at at text entry)
Written entry at text (Err e) exit = (length entry < at + length text) × (e ≡ TooShort (length text)) × (exit ≡ entry)
