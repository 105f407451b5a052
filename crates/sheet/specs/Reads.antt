-- What reading a sheet answers. Assumes nothing.
use Rattle.std.specs.Prelude.{◌≡◌, ℕ, List, Ok, Err, Result}
use Rattle.std.proofs.Math.Option.{none}
use Rattle.words.specs.Words.{accepted, refused}
use Rattle.sheet.specs.declared.fault.SheetFault.{SheetFault}
use Rattle.sheet.specs.Faults.{sheet_refusal}
use Rattle.sheet.specs.declared.timing.Sheet.{Sheet as Held}
use Rattle.sheet.specs.Sheet.{Sheet}
use Rattle.sheet.specs.Conflict.{Conflict, used_sets}
use Rattle.sheet.specs.ConflictList.{conflicts}
use Rattle.sheet.specs.ReadSheet.{passing, finished, read_sheet}
use Rattle.sheet.specs.SheetWords.{PartsFit, ReadsSheets, FitsWellFormed}
use Rattle.sheet.specs.FirstFault.{FirstFault, RefusalsPlaced, LowestFirst, RefusalsNumbered}
use Rattle.sheet.specs.BlockTable.{Laid}
use Rattle.sheet.specs.Drafts.{Items, sheet_of}
use Rattle.sheet.specs.View.{view}

-- What the items keep that were read up to END.
abbrev pub Readable : Items → Type 0
Readable I = PartsFit (sheet_of I) × Laid I.blocks I.lblocks 0

-- The items are read up to END, and only the conflict edges are left to be found; or the fault is the answer.
abbrev pub ReadItems : List ℕ → Result (Unit {0}) SheetFault → Items → Type 0
ReadItems ws (Ok u) I = (read_sheet ws ≡ finished (sheet_of I)) × Readable I
ReadItems ws (Err e) I = read_sheet ws ≡ refused (sheet_refusal e)

-- The conflict edges are found, or the set that passes the limit.
abbrev pub Found : Sheet → Result (Unit {0}) SheetFault → List Conflict → Type 0
Found S (Ok u) cs = (passing S (used_sets S) 0 ≡ none) × (cs ≡ conflicts S)
Found S (Err e) cs = finished S ≡ refused (sheet_refusal e)

-- Reading a list of words: the sheet that they encode is held afterwards, or the fault is the answer and the sheet stays that was held.
abbrev pub Reading : List ℕ → Held → Result (Unit {0}) SheetFault → Held → Type 0
Reading ws before (Ok u) after = read_sheet ws ≡ accepted (view after)
Reading ws before (Err e) after = (read_sheet ws ≡ refused (sheet_refusal e)) × (after ≡ before)

-- The laws of reading: what is accepted is exactly the encoding of a sheet that fits; the first fault is the answer, at its place, the lower number
-- first, with the number of its layer.
pub record ReaderLaws : Type 0 where
  pub exact : ReadsSheets
  pub formed : FitsWellFormed
  pub first : FirstFault
  pub placed : RefusalsPlaced
  pub lowest : LowestFirst
  pub numbered : RefusalsNumbered
