-- The blank sheet fits, and has its two conflict edges. Assumes nothing.
use Rattle.std.proofs.Common.{◌≡◌, [], ◌∷◌, length, refl, arith}
use Rattle.words.specs.Words.{accepted}
use Rattle.sheet.specs.Conflict.{used_sets}
use Rattle.sheet.specs.ConflictList.{conflicts}
use Rattle.sheet.specs.ReadSheet.{read_sheet}
use Rattle.sheet.specs.SheetWords.{encode}
use Rattle.sheet.specs.Drafts.{sheet_of}
use Rattle.sheet.specs.Kept.{Kept}
use Rattle.sheet.specs.View.{blank, blank_items, blank_conflicts}
use Rattle.sheet.proofs.Laid.{laid_none, laid_block, laid_lblock}
use Rattle.sheet.proofs.ReadSheet.{read_fits}

pub blank_listed : conflicts (sheet_of blank_items) ≡ blank_conflicts
blank_listed = refl

pub blank_used : length (used_sets (sheet_of blank_items)) ≡ 1
blank_used = refl

blank_read : read_sheet (encode blank) ≡ accepted blank
blank_read = refl

pub blank_kept : Kept blank_items
blank_kept = record {
  fits = (read_fits (encode blank) blank blank_read).1;
  laid = laid_lblock (record { first = 0; lblocks = 1 } ∷ []) [] 1 (record { block = 0; set = 0; tag = 0; hit = 0; extra = 0 }) (laid_block [] [] 1 laid_none (omega arith)) (omega arith) (omega arith) refl;
}
