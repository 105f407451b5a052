-- The text of a field, and of a line. Assumes nothing.
use Rattle.std.specs.Prelude.{ℕ, List, ◌∷◌, map, codes, decimal}
use Rattle.line.specs.declared.field.Word.{Word}
use Rattle.line.specs.declared.field.Word.TheVariants.{Accepted, At, Blocks, Claim, Columns, Edges, Finish, In, LBlocks, Line, Refused, Rows, Run, Sheet, Step, Stream, Words}
use Rattle.line.specs.declared.field.Field.{Field}
use Rattle.line.specs.declared.field.Field.TheVariants.{Number, Word as InWords}
use Rattle.line.specs.Text.{line_of}

abbrev pub word_text : Word → List ℕ
word_text Accepted = codes "accepted"
word_text At = codes "at"
word_text Blocks = codes "blocks"
word_text Claim = codes "claim"
word_text Columns = codes "columns"
word_text Edges = codes "edges"
word_text Finish = codes "finish"
word_text In = codes "in"
word_text LBlocks = codes "lblocks"
word_text Line = codes "line"
word_text Refused = codes "refused"
word_text Rows = codes "rows"
word_text Run = codes "run"
word_text Sheet = codes "sheet"
word_text Step = codes "step"
word_text Stream = codes "stream"
word_text Words = codes "words"

abbrev pub field_text : Field → List ℕ
field_text (Number n) = decimal n
field_text (InWords w) = word_text w

-- a line by its first word and the fields after it
abbrev pub layout_text : Word → List Field → List ℕ
layout_text head fields = line_of (word_text head ∷ map field_text fields)
