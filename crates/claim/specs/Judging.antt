-- What judging a list of words answers, and the laws of judging. Assumes nothing.
use Rattle.std.specs.Prelude.{◌≡◌, ℕ, ◌≤◌, List, [], ◌∷◌, map, ℤ, pos, ◌+ℤ◌, ◌*ℤ◌, Ok, Err, Result}
use Rattle.words.specs.Words.{accepted, refused}
use Rattle.sheet.specs.Sheet.{Sheet}
use Rattle.sheet.specs.Rows.{Row, Column, rows, coefficient}
use Rattle.sheet.specs.Walk.{Lawful}
use Rattle.claim.specs.Items.{Conflict}
use Rattle.claim.specs.declared.amount.Cycles.{Cycles}
use Rattle.claim.specs.declared.fault.ClaimFault.{ClaimFault}
use Rattle.claim.specs.Cache.{Residence, Costs, trace}
use Rattle.claim.specs.Certificate.{Certificate, Passes, combined}
use Rattle.claim.specs.CertificateFault.{CertificateFirstFault, CertificateCut, JudgeNumbered}
use Rattle.claim.specs.CertificateWords.{ReadsCertificates, JudgedRight}
use Rattle.claim.specs.Faults.{claim_refusal}
use Rattle.claim.specs.ReadCertificate.{judged, with_W}
use Rattle.claim.specs.Safety.{Safe}

-- W, or the fault.
abbrev pub Judging : Sheet → List ℕ → Result Cycles ClaimFault → Type 0
Judging S ws (Ok w) = judged S ws ≡ accepted w.0
Judging S ws (Err e) = judged S ws ≡ refused (claim_refusal e)

-- Every lawful walk of the sheet, on every cache and whatever that holds at the start, costs at most W.
abbrev pub Covers : Sheet → ℕ → Type 0
Covers S W = (w : List ℕ) → Lawful S w → (R R' : Residence) (c : ℕ) → Costs S R (trace S w) c R' → c ≤ W

-- Row by row: each row's share, its coefficients times its multiplier, is added to the totals of all columns.
abbrev pub add_row : Sheet → ℤ → Row → List Column → List ℤ → List ℤ
add_row S y r [] ts = []
add_row S y r (x ∷ xs) [] = []
add_row S y r (x ∷ xs) (t ∷ ts) = (t +ℤ (y *ℤ coefficient S r x)) ∷ add_row S y r xs ts

abbrev pub by_rows : Sheet → List ℤ → List Row → List Column → List ℤ → List ℤ
by_rows S [] rs xs ts = ts
by_rows S (y ∷ ys) [] xs ts = ts
by_rows S (y ∷ ys) (r ∷ rs) xs ts = by_rows S ys rs xs (add_row S y r xs ts)

-- It ends in the totals that are added up column by column.
abbrev pub RowWise : Type 0
RowWise =
    (S : Sheet) (ys : List ℤ) (xs : List Column)
    → by_rows S ys (rows S) xs (map (λ x. pos 0) xs) ≡ map (λ x. combined ys (rows S) (λ r. coefficient S r x)) xs

-- What passes with a claim passes with every higher one.
abbrev pub Monotone : Type 0
Monotone = (S : Sheet) (cs : List Conflict) (C : Certificate) (W : ℕ) → C.W ≤ W → Passes S cs C → Passes S cs (with_W C W)

-- W is answered exactly to the words of a certificate that passes and claims W; the words that are read are exactly those of the certificates within
-- the limits of the fields; what passes bounds every lawful walk; the first fault is the answer, with the number of its layer.
pub record JudgeLaws : Type 0 where
  pub exact : JudgedRight
  pub reads : ReadsCertificates
  pub safe : Safe
  pub first : CertificateFirstFault
  pub cut : CertificateCut
  pub numbered : JudgeNumbered
  pub row_wise : RowWise
  pub monotone : Monotone
