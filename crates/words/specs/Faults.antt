-- What is reported of each fault of a word. Assumes nothing.
use Rattle.words.specs.declared.refusal.WordFault.{WordFault}
use Rattle.words.specs.declared.refusal.WordFault.TheVariants.{NotDue, EndsEarly, WrongEnd, OutOfLimit}
use Rattle.words.specs.Words.{Refusal, refusal, not_due, ends_early, wrong_end, out_of_limit}

abbrev pub word_refusal : WordFault → Refusal
word_refusal (NotDue place) = refusal not_due place
word_refusal (EndsEarly place) = refusal ends_early place
word_refusal (WrongEnd place) = refusal wrong_end place
word_refusal (OutOfLimit place) = refusal out_of_limit place
