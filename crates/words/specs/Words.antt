-- Words of 32 bits: their kind, their payload and its fields; and what a refusal says. Assumes nothing.
use Rattle.std.specs.Prelude.{ℕ, ◌+◌, ◌*◌, ◌/◌, ◌%◌, ◌^◌, Bool, true, false, ◌&&◌, List, [], ◌∷◌, ◌++◌, length, ◌==◌, nat_le, slice_index_or}
use Rattle.std.proofs.Math.Option.{Option, none, some}
use Rattle.words.specs.Lists.{any}
pub use Rattle.words.specs.declared.word.Kind.{Kind}
pub use Rattle.words.specs.declared.word.Kind.TheVariants.{Reserved as NONE, Head as HEAD, Block as BLOCK, LBlock as LBLOCK, Cost as COST, Edge as EDGE, Loop as LOOP, Back as BACK, Fact as FACT, Claim as CLAIM, High as HIGH, Low as LOW, Start as START, Step as STEP, Finish as FINISH, End as END}
pub use Rattle.words.specs.declared.refusal.Layer.{Layer}
pub use Rattle.words.specs.declared.refusal.Layer.TheVariants.{Words as words, Sheet as sheet, Claim as claim, Run as run, Line as line}
pub use Rattle.words.specs.declared.refusal.Refusal.{Refusal}

-- The code of each of the sixteen kinds. NONE is the kind 0, which no word of a list has.
abbrev pub code : Kind → ℕ
code NONE = 0
code HEAD = 1
code BLOCK = 2
code LBLOCK = 3
code COST = 4
code EDGE = 5
code LOOP = 6
code BACK = 7
code FACT = 8
code CLAIM = 9
code HIGH = 10
code LOW = 11
code START = 12
code STEP = 13
code FINISH = 14
code END = 15

abbrev pub in_order : List Kind
in_order = NONE ∷ HEAD ∷ BLOCK ∷ LBLOCK ∷ COST ∷ EDGE ∷ LOOP ∷ BACK ∷ FACT ∷ CLAIM ∷ HIGH ∷ LOW ∷ START ∷ STEP ∷ FINISH ∷ END ∷ []

-- Bits 31 to 28 of a word are its kind, the other 28 its payload.
abbrev pub kind : ℕ → Kind
kind w = slice_index_or in_order (w / 2 ^ 28) NONE

abbrev pub payload : ℕ → ℕ
payload w = w % 2 ^ 28

abbrev pub word : Kind → ℕ → ℕ
word k p = code k * 2 ^ 28 + p

abbrev pub same_kind : Kind → Kind → Bool
same_kind a b = code a == code b

abbrev pub one_of : Kind → List Kind → Bool
one_of k ks = any (same_kind k) ks

-- The fields of a payload. Upper is bits 27 to 14, lower bits 13 to 0.
abbrev pub upper : ℕ → ℕ
upper p = p / 2 ^ 14

abbrev pub lower : ℕ → ℕ
lower p = p % 2 ^ 14

-- LBLOCK: the set in bits 27 to 20, the tag in 19 to 0
abbrev pub set_field : ℕ → ℕ
set_field p = p / 2 ^ 20

abbrev pub tag_field : ℕ → ℕ
tag_field p = p % 2 ^ 20

-- FACT: i in bits 27 to 21, j in 20 to 14, k lower
abbrev pub i_field : ℕ → ℕ
i_field p = p / 2 ^ 21

abbrev pub j_field : ℕ → ℕ
j_field p = p / 2 ^ 14 % 2 ^ 7

-- HIGH: minus in bit 27, the magnitude's upper 12 bits in 11 to 0, the others unused
abbrev pub minus_bit : ℕ → Bool
minus_bit p = p / 2 ^ 27 == 1

abbrev pub unused_bits : ℕ → ℕ
unused_bits p = p / 2 ^ 12 % 2 ^ 15

abbrev pub top_field : ℕ → ℕ
top_field p = p % 2 ^ 12

-- Two fields of a payload, the lower one of n bits.
abbrev pub fields : ℕ → ℕ → ℕ → ℕ
fields n high low = high * 2 ^ n + low

-- words, and END with their number
abbrev pub ended : List ℕ → List ℕ
ended ws = ws ++ (word END (length ws) ∷ [])

-- tests on a field and on a list
abbrev pub within : ℕ → ℕ → ℕ → Bool
within low high n = nat_le low n && nat_le n high

abbrev pub empty : List ℕ → Bool
empty [] = true
empty (w ∷ ws) = false

-- What each layer can find wrong.
pub data Fault : Type 0 where
  -- words: a kind that is not due; the list ends before END; END's count is wrong or a word follows it; a field is outside its limit
  not_due ends_early wrong_end out_of_limit : Fault
  -- sheet: too many items; a wrong edge, loop or fact; too many conflict edges
  too_many wrong_edge wrong_loop wrong_fact too_many_conflicts : Fault
  -- claim: END where W or a pair is due or HIGH where END is; an unused bit, minus zero or minus on W; the judge's three
  wrong_pairs wrong_sign negative_multiplier column_too_low claim_too_low : Fault
  -- run: not the going run's ticket; a step along no edge, over a loop's bound, over the limit; a finish that breaks a fact, or not at the last block
  wrong_ticket wrong_step over_bound over_limit breaks_fact not_last : Fault
  -- line: the output is too short
  too_short : Fault

abbrev pub number_of : Fault → ℕ
number_of not_due = 1
number_of ends_early = 2
number_of wrong_end = 3
number_of out_of_limit = 4
number_of too_many = 5
number_of wrong_edge = 6
number_of wrong_loop = 7
number_of wrong_fact = 8
number_of too_many_conflicts = 9
number_of wrong_pairs = 10
number_of wrong_sign = 11
number_of negative_multiplier = 12
number_of column_too_low = 13
number_of claim_too_low = 14
number_of wrong_ticket = 15
number_of wrong_step = 16
number_of over_bound = 17
number_of over_limit = 18
number_of breaks_fact = 19
number_of not_last = 20
number_of too_short = 21

abbrev pub layer_of : Fault → Layer
layer_of not_due = words
layer_of ends_early = words
layer_of wrong_end = words
layer_of out_of_limit = words
layer_of too_many = sheet
layer_of wrong_edge = sheet
layer_of wrong_loop = sheet
layer_of wrong_fact = sheet
layer_of too_many_conflicts = sheet
layer_of wrong_pairs = claim
layer_of wrong_sign = claim
layer_of negative_multiplier = claim
layer_of column_too_low = claim
layer_of claim_too_low = claim
layer_of wrong_ticket = run
layer_of wrong_step = run
layer_of over_bound = run
layer_of over_limit = run
layer_of breaks_fact = run
layer_of not_last = run
layer_of too_short = line

abbrev pub refusal : Fault → ℕ → Refusal
refusal f place = record { number = number_of f; place = place; layer = layer_of f }

pub data Answer (A : Type 0) : Type 0 where
  accepted : A → Answer A
  refused : Refusal → Answer A

-- What a word must meet, and the refusal if it does not. They are tried in order: the first that fails is the answer.
pub record Check : Type 0 where
  pub holds : Bool
  pub otherwise : Refusal

abbrev pub demand : Bool → Fault → ℕ → Check
demand t f place = record { holds = t; otherwise = refusal f place }

abbrev pub first_failing : List Check → Option Refusal
first_failing [] = none
first_failing (c ∷ cs) = elim c.holds [ true ↦ first_failing cs | false ↦ some c.otherwise ]
