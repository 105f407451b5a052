-- Reading a certificate, word by word, and what the judge answers to the words. Assumes nothing.
use Rattle.std.specs.Prelude.{ℕ, zero, suc, ◌-◌, Bool, true, false, not, ◌&&◌, List, [], ◌∷◌, ◌++◌, length, ℤ, pos, neg_ℤ, ◌==◌}
use Rattle.std.proofs.Math.Option.{none, some}
use Rattle.sheet.specs.Sheet.{Sheet}
use Rattle.sheet.specs.ConflictList.{conflicts}
use Rattle.sheet.specs.Rows.{rows}
use Rattle.claim.specs.Certificate.{Certificate}
use Rattle.claim.specs.Judge.{Verdict, passed, negative, low_column, low_claim, judge}
use Rattle.claim.specs.Kinds.{Kind, NONE, HEAD, BLOCK, LBLOCK, COST, EDGE, LOOP, BACK, FACT, CLAIM, HIGH, LOW, START, STEP, FINISH, END}
use Rattle.words.specs.Words.{kind, payload, same_kind, one_of, fields, minus_bit, unused_bits, top_field}
use Rattle.words.specs.Words.{refusal, Answer, accepted, refused, Check, demand, first_failing}
use Rattle.words.specs.Words.{not_due, ends_early, wrong_end, out_of_limit, wrong_pairs, wrong_sign, negative_multiplier, column_too_low, claim_too_low}
use Rattle.words.specs.Words.{within, empty}

-- Where the reader stands, with so many pairs left after it: before CLAIM; before the HIGH of W, and before its LOW; before a pair's HIGH, or END
-- where none is left; before a pair's LOW. `top` and `minus` are what the HIGH said.
pub data Stand : Type 0 where
  at_claim : (left : ℕ) → Stand
  at_W : (left : ℕ) → Stand
  at_W_low : (left top : ℕ) → Stand
  at_pair : (left : ℕ) → Stand
  at_low : (left : ℕ) (minus : Bool) (top : ℕ) → Stand

-- `read` is the certificate so far.
pub record State : Type 0 where
  pub stand : Stand
  pub read : Certificate

abbrev pub stands : Stand → Certificate → State
stands d C = record { stand = d; read = C }

-- A certificate is CLAIM, the claim W as HIGH and LOW, one HIGH and LOW pair for each row, END. So these kinds are due (else 1):
abbrev pub due : Stand → List Kind
due (at_claim n) = CLAIM ∷ []
due (at_W n) = HIGH ∷ []
due (at_W_low n t) = LOW ∷ []
due (at_pair zero) = END ∷ []
due (at_pair (suc n)) = HIGH ∷ []
due (at_low n m t) = LOW ∷ []

-- END where W or a pair is due, HIGH where END is due (10, tried before 1)
abbrev pub barred : Stand → List Kind
barred (at_claim n) = []
barred (at_W n) = END ∷ []
barred (at_W_low n t) = []
barred (at_pair zero) = HIGH ∷ []
barred (at_pair (suc n)) = END ∷ []
barred (at_low n m t) = []

-- whether the HIGH of W is due
abbrev pub W_due : Stand → Bool
W_due (at_claim n) = false
W_due (at_W n) = true
W_due (at_W_low n t) = false
W_due (at_pair n) = false
W_due (at_low n m t) = false

-- whether a LOW with payload p makes the pair minus zero
abbrev pub minus_zero : Stand → ℕ → Bool
minus_zero (at_claim n) p = false
minus_zero (at_W n) p = false
minus_zero (at_W_low n t) p = false
minus_zero (at_pair n) p = false
minus_zero (at_low n m t) p = m && fields 28 t p == 0

-- What a word of each kind must meet besides being due. Its payload is p, its place i, and `rest` the words after it.
-- Minus zero is found at the LOW, and is refused at the HIGH before it.
abbrev pub checks : Stand → Kind → ℕ → ℕ → List ℕ → List Check
checks d CLAIM p i rest =
    demand (within 1 1048575 p) out_of_limit i ∷ []
checks d HIGH p i rest =
    demand (unused_bits p == 0) wrong_sign i
    ∷ demand (not (W_due d && minus_bit p)) wrong_sign i ∷ []
checks d LOW p i rest =
    demand (not (minus_zero d p)) wrong_sign (i - 1) ∷ []
checks d END p i rest =
    demand (p == i) wrong_end i
    ∷ demand (empty rest) wrong_end (suc i) ∷ []
-- these are never due
checks d NONE p i rest = []
checks d HEAD p i rest = []
checks d BLOCK p i rest = []
checks d LBLOCK p i rest = []
checks d COST p i rest = []
checks d EDGE p i rest = []
checks d LOOP p i rest = []
checks d BACK p i rest = []
checks d FACT p i rest = []
checks d START p i rest = []
checks d STEP p i rest = []
checks d FINISH p i rest = []

-- all that a word must meet
abbrev pub demands : State → ℕ → ℕ → List ℕ → List Check
demands st w i rest =
    demand (not (one_of (kind w) (barred st.stand))) wrong_pairs i
    ∷ demand (one_of (kind w) (due st.stand)) not_due i
    ∷ checks st.stand (kind w) (payload w) i rest

-- The certificate with D, with W, with one more multiplier.
abbrev pub with_D : Certificate → ℕ → Certificate
with_D C d = record { W = C.W; D = d; multipliers = C.multipliers }

abbrev pub with_W : Certificate → ℕ → Certificate
with_W C w = record { W = w; D = C.D; multipliers = C.multipliers }

abbrev pub with_multiplier : Certificate → ℤ → Certificate
with_multiplier C y = record { W = C.W; D = C.D; multipliers = C.multipliers ++ (y ∷ []) }

abbrev pub signed : Bool → ℕ → ℤ
signed true m = neg_ℤ (pos m)
signed false m = pos m

-- The state after a word that meets its demands.
abbrev pub past_claim : Stand → Stand
past_claim (at_claim n) = at_W n
past_claim (at_W n) = at_W n
past_claim (at_W_low n t) = at_W n
past_claim (at_pair n) = at_W n
past_claim (at_low n m t) = at_W n

abbrev pub past_high : Stand → ℕ → Stand
past_high (at_claim n) p = at_claim n
past_high (at_W n) p = at_W_low n (top_field p)
past_high (at_W_low n t) p = at_W_low n t
past_high (at_pair zero) p = at_pair zero
past_high (at_pair (suc n)) p = at_low n (minus_bit p) (top_field p)
past_high (at_low n m t) p = at_low n m t

abbrev pub past_low : Stand → Certificate → ℕ → State
past_low (at_claim n) C p = stands (at_claim n) C
past_low (at_W n) C p = stands (at_W n) C
past_low (at_W_low n t) C p = stands (at_pair n) (with_W C (fields 28 t p))
past_low (at_pair n) C p = stands (at_pair n) C
past_low (at_low n m t) C p = stands (at_pair n) (with_multiplier C (signed m (fields 28 t p)))

abbrev pub next : Stand → Certificate → Kind → ℕ → State
next d C CLAIM p = stands (past_claim d) (with_D C p)
next d C HIGH p = stands (past_high d p) C
next d C LOW p = past_low d C p
next d C END p = stands d C
next d C NONE p = stands d C
next d C HEAD p = stands d C
next d C BLOCK p = stands d C
next d C LBLOCK p = stands d C
next d C COST p = stands d C
next d C EDGE p = stands d C
next d C LOOP p = stands d C
next d C BACK p = stands d C
next d C FACT p = stands d C
next d C START p = stands d C
next d C STEP p = stands d C
next d C FINISH p = stands d C

-- Reading on from a state: `rest` are the words that are left, and the first of them is word i.
abbrev pub read_from : State → List ℕ → ℕ → Answer Certificate
read_from st [] i = refused (refusal ends_early i)
read_from st (w ∷ rest) i =
    elim (first_failing (demands st w i rest)) [
      | some r ↦ refused r
      | none ↦ elim (same_kind (kind w) END) [
        | true ↦ accepted st.read
        | false ↦ read_from (next st.stand st.read (kind w) (payload w)) rest (suc i)
      ]
    ]

-- a certificate for so many rows
abbrev pub start : ℕ → State
start n = stands (at_claim n) (record { W = 0; D = 0; multipliers = [] })

abbrev pub read_certificate : ℕ → List ℕ → Answer Certificate
read_certificate n ws = read_from (start n) ws 0

-- 12 at the row, 13 at the column, 14 at 0, or W
abbrev pub answered : ℕ → Verdict → Answer ℕ
answered W passed = accepted W
answered W (negative row) = refused (refusal negative_multiplier row)
answered W (low_column column) = refused (refusal column_too_low column)
answered W low_claim = refused (refusal claim_too_low 0)

abbrev pub judged : Sheet → List ℕ → Answer ℕ
judged S ws =
    elim (read_certificate (length (rows S)) ws) [
      | refused r ↦ refused r
      | accepted C ↦ answered C.W (judge S (conflicts S) C)
    ]
