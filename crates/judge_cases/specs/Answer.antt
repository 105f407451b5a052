-- The line of a case. Assumes nothing.
use Rattle.std.specs.Prelude.{ℕ, List}
use Rattle.words.specs.Words.{Answer, accepted, refused}
use Rattle.sheet.specs.Sheet.{Sheet}
use Rattle.sheet.specs.ReadSheet.{read_sheet}
use Rattle.claim.specs.ReadCertificate.{judged}
use Rattle.line.specs.declared.lines.Item.TheVariants.{Sheet as SheetItem}
use Rattle.line.specs.Lines.{claim_text, refusal_text}

-- the line of a sheet that was read and a certificate
abbrev pub sheet_text : Answer Sheet → List ℕ → List ℕ
sheet_text (accepted S) certificate = claim_text (judged S certificate)
sheet_text (refused r) certificate = refusal_text SheetItem r

-- the line of a sheet's words and a certificate's
abbrev pub case_text : List ℕ → List ℕ → List ℕ
case_text sheet certificate = sheet_text (read_sheet sheet) certificate
