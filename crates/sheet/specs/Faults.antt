-- What is reported of each fault of a sheet: a fault of a word is reported as the word layer does. Assumes nothing.
use Rattle.words.specs.Faults.{word_refusal}
use Rattle.words.specs.Words.{refusal, too_many, wrong_edge, wrong_loop, wrong_fact, too_many_conflicts}
use Rattle.sheet.specs.declared.fault.SheetFault.{SheetFault}
use Rattle.sheet.specs.declared.fault.SheetFault.TheVariants.{Word, TooMany, WrongEdge, WrongLoop, WrongFact, TooManyConflicts}
use Rattle.sheet.specs.Kinds.{Refusal}

abbrev pub sheet_refusal : SheetFault → Refusal
sheet_refusal (Word fault) = word_refusal fault
sheet_refusal (TooMany place) = refusal too_many place
sheet_refusal (WrongEdge place) = refusal wrong_edge place
sheet_refusal (WrongLoop place) = refusal wrong_loop place
sheet_refusal (WrongFact place) = refusal wrong_fact place
sheet_refusal (TooManyConflicts set) = refusal too_many_conflicts set
