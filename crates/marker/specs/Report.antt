-- What is printed for an input, and which sheet is held afterwards. Assumes nothing.
use Rattle.std.specs.Prelude.{◌≡◌, ℕ, ◌*◌, List, [], ◌++◌, length, drop}
use Rattle.words.specs.Words.{Answer, accepted, refused}
use Rattle.sheet.specs.declared.timing.Sheet.{Sheet as Held}
use Rattle.sheet.specs.Sheet.{Sheet}
use Rattle.sheet.specs.ConflictList.{conflicts}
use Rattle.sheet.specs.Rows.{rows, columns}
use Rattle.sheet.specs.ReadSheet.{read_sheet}
use Rattle.sheet.specs.View.{view}
use Rattle.line.specs.declared.lines.SheetNumbers.{SheetNumbers}
use Rattle.line.specs.declared.lines.Item.TheVariants.{Sheet as SheetItem}
use Rattle.line.specs.Lines.{sheet_text, refusal_text}
use Rattle.marker.specs.Input.{first_list}
use Rattle.marker.specs.Stream.{stream}

abbrev pub numbers_of : Sheet → SheetNumbers
numbers_of S = record {
  blocks = S.blocks;
  edges = length S.edges;
  lblocks = length S.lblocks;
  rows = length (rows S);
  columns = length (columns S (conflicts S));
}

-- the line of an accepted sheet, or that of the refusal
abbrev pub sheet_line : Answer Sheet → List ℕ
sheet_line (accepted S) = sheet_text (numbers_of S)
sheet_line (refused r) = refusal_text SheetItem r

-- what is printed for the sheet that the input begins with
abbrev pub sheet_report : List ℕ → List ℕ
sheet_report bytes = sheet_line (read_sheet (first_list bytes))

-- after an accepted sheet of so many words, the stream; after a refused one, nothing
abbrev pub after_sheet : Answer Sheet → ℕ → List ℕ → List ℕ
after_sheet (accepted S) taken bytes = stream S taken (drop (4 * taken) bytes)
after_sheet (refused r) taken bytes = []

-- The lines that are printed for an input. Its first list is read as the sheet.
abbrev pub report : List ℕ → List ℕ
report bytes =
    let ws = first_list bytes in
    sheet_line (read_sheet ws) ++ after_sheet (read_sheet ws) (length ws) bytes

-- The sheet that was read is held; after a refusal, the one before.
abbrev pub AfterAnswer : Answer Sheet → Held → Held → Type 0
AfterAnswer (accepted S) before after = view after ≡ S
AfterAnswer (refused r) before after = after ≡ before

abbrev pub HeldAfter : List ℕ → Held → Held → Type 0
HeldAfter ws before after = AfterAnswer (read_sheet ws) before after
