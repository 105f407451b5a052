-- The words after the sheet: what is printed of each, and how many words it takes. Assumes nothing.
use Rattle.std.specs.Prelude.{◌≡◌, ℕ, zero, suc, ◌+◌, ◌*◌, List, [], ◌∷◌, ◌++◌, length, drop, Some, None, Ok, Err, Option, Result}
use Rattle.std.specs.declared.alloc.AllocError.{AllocError}
use Rattle.words.specs.declared.word.Kind.{Kind}
use Rattle.words.specs.declared.word.Kind.TheVariants.{Reserved as NONE, Head as HEAD, Block as BLOCK, LBlock as LBLOCK, Cost as COST, Edge as EDGE, Loop as LOOP, Back as BACK, Fact as FACT, Claim as CLAIM, High as HIGH, Low as LOW, Start as START, Step as STEP, Finish as FINISH, End as END}
use Rattle.words.specs.Words.{kind, refusal, not_due, ends_early}
use Rattle.sheet.specs.Sheet.{Sheet}
use Rattle.claim.specs.ReadCertificate.{judged}
use Rattle.line.specs.declared.lines.Item.TheVariants.{Stream as StreamItem}
use Rattle.line.specs.Lines.{claim_text, refusal_text}
use Rattle.marker.specs.Input.{first_word, first_list}

-- What is done at a place of the input: a text is printed, and reading goes on after so many words, or stops.
pub data Next : Type 0 where
  goes_on : List ℕ → ℕ → Next
  stops : List ℕ → Next

-- a certificate, which takes the words of its list
abbrev pub certificate : Sheet → List ℕ → Next
certificate S ws = goes_on (claim_text (judged S ws)) (length ws)

-- a word that is not due
abbrev pub stray : ℕ → Next
stray place = goes_on (refusal_text StreamItem (refusal not_due place)) 1

-- a word of a run; marking of runs is not built yet
abbrev pub run_word : Next
run_word = stops []

-- by the kind of the word that the bytes begin with
abbrev pub at_kind : Kind → Sheet → ℕ → List ℕ → Next
at_kind CLAIM S place bytes = certificate S (first_list bytes)
at_kind START S place bytes = run_word
at_kind STEP S place bytes = run_word
at_kind FINISH S place bytes = run_word
at_kind NONE S place bytes = stray place
at_kind HEAD S place bytes = stray place
at_kind BLOCK S place bytes = stray place
at_kind LBLOCK S place bytes = stray place
at_kind COST S place bytes = stray place
at_kind EDGE S place bytes = stray place
at_kind LOOP S place bytes = stray place
at_kind BACK S place bytes = stray place
at_kind FACT S place bytes = stray place
at_kind HIGH S place bytes = stray place
at_kind LOW S place bytes = stray place
at_kind END S place bytes = stray place

-- fewer than four bytes: the input's end, or a broken last word
abbrev pub ending : ℕ → List ℕ → Next
ending place [] = stops []
ending place (b ∷ bytes) = stops (refusal_text StreamItem (refusal ends_early place))

abbrev pub at_word : Option ℕ → Sheet → ℕ → List ℕ → Next
at_word (Some w) S place bytes = at_kind (kind w) S place bytes
at_word None S place bytes = ending place bytes

abbrev pub next : Sheet → ℕ → List ℕ → Next
next S place bytes = at_word (first_word bytes) S place bytes

-- the text of a step, and the lines that follow the words that it takes
abbrev pub and_then : Next → (ℕ → List ℕ) → List ℕ
and_then (goes_on text taken) lines = text ++ lines taken
and_then (stops text) lines = text

-- The lines of at most so many steps, from a place of the input on, where these bytes are left.
abbrev pub steps : ℕ → Sheet → ℕ → List ℕ → List ℕ
steps zero S place bytes = []
steps (suc n) S place bytes = and_then (next S place bytes) (λ taken. steps n S (place + taken) (drop (4 * taken) bytes))

-- All lines: each step but the last takes a word, so that there are always enough steps.
abbrev pub stream : Sheet → ℕ → List ℕ → List ℕ
stream S place bytes = steps (suc (length bytes)) S place bytes

-- The stream is the next step, and the stream from there: the number of steps above plays no part.
abbrev pub StepByStep : Type 0
StepByStep =
    (S : Sheet) (place : ℕ) (bytes : List ℕ)
    → stream S place bytes ≡ and_then (next S place bytes) (λ taken. stream S (place + taken) (drop (4 * taken) bytes))

-- What was done at a place, and answered: how many words were taken, or none where reading stops. For want of memory, the text is as it was.
abbrev pub Done : Next → List ℕ → Result (Option ℕ) AllocError → List ℕ → Type 0
Done (goes_on text taken) before (Ok (Some n)) after = (n ≡ taken) × (after ≡ before ++ text)
Done (goes_on text taken) before (Ok None) after = ⊥
Done (goes_on text taken) before (Err e) after = after ≡ before
Done (stops text) before (Ok (Some n)) after = ⊥
Done (stops text) before (Ok None) after = after ≡ before ++ text
Done (stops text) before (Err e) after = after ≡ before
