use Rattle.sheet.proofs.Finding.{reader_laws}
use Rattle.sheet.proofs.room.SheetRoom.read.Goals as goal

pub returns-in_err-read-clause-laws : goal.returns-in_err-read-clause-laws
returns-in_err-read-clause-laws c = reader_laws

pub returns-in_err-find-clause-laws : goal.returns-in_err-find-clause-laws
returns-in_err-find-clause-laws c = reader_laws

pub returns-clause-laws : goal.returns-clause-laws
returns-clause-laws c = reader_laws
