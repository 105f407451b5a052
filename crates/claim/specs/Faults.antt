-- What is reported of each fault of a claim: a fault of a word is reported as the word layer does. Assumes nothing.
use Rattle.words.specs.Faults.{word_refusal}
use Rattle.words.specs.Words.{refusal, wrong_pairs, wrong_sign, negative_multiplier, column_too_low, claim_too_low}
use Rattle.claim.specs.Kinds.{Refusal}
use Rattle.claim.specs.declared.fault.ClaimFault.{ClaimFault}
use Rattle.claim.specs.declared.fault.ClaimFault.TheVariants.{Word, WrongPairs, WrongSign, NegativeMultiplier, ColumnTooLow, ClaimTooLow}

abbrev pub claim_refusal : ClaimFault → Refusal
claim_refusal (Word fault) = word_refusal fault
claim_refusal (WrongPairs place) = refusal wrong_pairs place
claim_refusal (WrongSign place) = refusal wrong_sign place
claim_refusal (NegativeMultiplier row) = refusal negative_multiplier row
claim_refusal (ColumnTooLow column) = refusal column_too_low column
claim_refusal ClaimTooLow = refusal claim_too_low 0
