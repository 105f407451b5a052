-- The text of each line. Assumes nothing.
use Rattle.std.specs.Prelude.{ℕ, List, [], ◌∷◌, codes, decimal, Ok, Err, Result}
use Rattle.words.specs.Words.{Answer, accepted, refused}
use Rattle.words.specs.declared.refusal.Refusal.{Refusal}
use Rattle.words.specs.declared.refusal.Layer.{Layer}
use Rattle.words.specs.declared.refusal.Layer.TheVariants.{Words as words, Sheet as sheet, Claim as claim, Run as run, Line as line}
use Rattle.line.specs.declared.lines.SheetNumbers.{SheetNumbers}
use Rattle.line.specs.declared.lines.Item.{Item}
use Rattle.line.specs.declared.lines.Item.TheVariants.{Sheet, Claim, Step, Finish, Stream}
use Rattle.line.specs.Text.{line_of}

-- sheet blocks B edges E lblocks L rows R columns C
abbrev pub sheet_text : SheetNumbers → List ℕ
sheet_text n =
    line_of
    (codes "sheet"
    ∷ codes "blocks" ∷ decimal n.blocks
    ∷ codes "edges" ∷ decimal n.edges
    ∷ codes "lblocks" ∷ decimal n.lblocks
    ∷ codes "rows" ∷ decimal n.rows
    ∷ codes "columns" ∷ decimal n.columns
    ∷ [])

-- accepted W
abbrev pub accepted_text : ℕ → List ℕ
accepted_text cycles = line_of (codes "accepted" ∷ decimal cycles ∷ [])

abbrev pub item_text : Item → List ℕ
item_text Sheet = codes "sheet"
item_text Claim = codes "claim"
item_text Step = codes "step"
item_text Finish = codes "finish"
item_text Stream = codes "stream"

abbrev pub layer_text : Layer → List ℕ
layer_text words = codes "words"
layer_text sheet = codes "sheet"
layer_text claim = codes "claim"
layer_text run = codes "run"
layer_text line = codes "line"

-- ITEM refused NUMBER at PLACE in LAYER
abbrev pub refusal_text : Item → Refusal → List ℕ
refusal_text item r =
    line_of (item_text item ∷ codes "refused" ∷ decimal r.number ∷ codes "at" ∷ decimal r.place ∷ codes "in" ∷ layer_text r.layer ∷ [])

-- the line of an answer: that of the value, or that of the refusal
abbrev pub answer_text : {A R : Type 0} → (A → List ℕ) → (R → List ℕ) → Result A R → List ℕ
answer_text value refusal (Ok x) = value x
answer_text value refusal (Err e) = refusal e

-- the line of a certificate that was judged
abbrev pub claim_text : Answer ℕ → List ℕ
claim_text (accepted cycles) = accepted_text cycles
claim_text (refused r) = refusal_text Claim r
