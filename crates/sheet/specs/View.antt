-- The sheet that the code holds, as the definitions speak of it. Assumes nothing.
use Rattle.std.specs.Prelude.{List, [], ◌∷◌}
use Rattle.sheet.specs.declared.timing.Sheet.{Sheet as Held}
use Rattle.sheet.specs.Sheet.{Sheet}
use Rattle.sheet.specs.Conflict.{START, at, END, Conflict}
use Rattle.sheet.specs.Drafts.{Items, sheet_of}
use Rattle.sheet.specs.Tried.{items_of}

abbrev pub items : Held → Items
items s = items_of s.draft

abbrev pub view : Held → Sheet
view s = sheet_of (items s)

-- The blank sheet: one block with one l-block, at set 0 and tag 0, that costs nothing.
abbrev pub blank_items : Items
blank_items = record {
  sets = 1;
  blocks = record { first = 0; lblocks = 1 } ∷ [];
  lblocks = record { block = 0; set = 0; tag = 0; hit = 0; extra = 0 } ∷ [];
  edges = [];
  loops = [];
  backs = [];
  facts = [];
}

abbrev pub blank : Sheet
blank = record {
  sets = 1;
  blocks = 1;
  lblocks = record { block = 0; set = 0; tag = 0; hit = 0; extra = 0 } ∷ [];
  edges = [];
  loops = [];
  facts = [];
}

-- its conflict edges
abbrev pub blank_conflicts : List Conflict
blank_conflicts = record { set = 0; from = START; to = at 0 } ∷ record { set = 0; from = at 0; to = END } ∷ []
