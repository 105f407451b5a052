-- What is reported of a fault of a line. Assumes nothing.
use Rattle.line.specs.declared.fault.LineFault.{LineFault}
use Rattle.line.specs.declared.fault.LineFault.TheVariants.{TooShort}
use Rattle.words.specs.declared.refusal.Refusal.{Refusal}
use Rattle.words.specs.Words.{refusal, too_short}

abbrev pub line_refusal : LineFault → Refusal
line_refusal (TooShort needed) = refusal too_short needed
