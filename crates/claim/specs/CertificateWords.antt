-- The words of a certificate, and the laws of reading and judging them. Assumes nothing.
use Rattle.std.specs.Prelude.{◌≡◌, ℕ, suc, ◌/◌, ◌%◌, ◌^◌, ◌<◌, ◌≤◌, ◌↔◌, List, [], ◌∷◌, ◌++◌, length, ℤ, pos, negsuc}
use Rattle.std.specs.List.{AllByRecursion}
use Rattle.words.specs.Lists.{joined}
use Rattle.sheet.specs.Sheet.{Sheet, WellFormed}
use Rattle.sheet.specs.Walk.{Lawful}
use Rattle.claim.specs.Cache.{Residence, Costs, trace}
use Rattle.sheet.specs.ConflictList.{conflicts}
use Rattle.sheet.specs.Rows.{rows}
use Rattle.claim.specs.Certificate.{Certificate, Passes}
use Rattle.claim.specs.Kinds.{CLAIM, HIGH, LOW}
use Rattle.words.specs.Words.{word, fields, ended, accepted}
use Rattle.claim.specs.ReadCertificate.{read_certificate, judged}

abbrev pub magnitude : ℤ → ℕ
magnitude (pos m) = m
magnitude (negsuc m) = suc m

-- 1 is minus
abbrev pub sign : ℤ → ℕ
sign (pos m) = 0
sign (negsuc m) = 1

abbrev pub pair_words : ℤ → List ℕ
pair_words y = word HIGH (fields 27 (sign y) (magnitude y / 2 ^ 28)) ∷ word LOW (magnitude y % 2 ^ 28) ∷ []

-- CLAIM, the claim W, a pair for each row
abbrev pub claim_words : Certificate → List ℕ
claim_words C = (word CLAIM C.D ∷ pair_words (pos C.W)) ++ joined pair_words C.multipliers

abbrev pub encode_certificate : Certificate → List ℕ
encode_certificate C = ended (claim_words C)

-- a certificate for n rows, within the limits of the fields
pub record CertificateFits (n : ℕ) (C : Certificate) : Type 0 where
  pub scale : (1 ≤ C.D) × (C.D ≤ 1048575)
  pub claim_fits : C.W < 2 ^ 40
  pub each_row : length C.multipliers ≡ n
  pub multipliers_fit : AllByRecursion (λ y. magnitude y < 2 ^ 40) C.multipliers
  pub counted : length (claim_words C) < 2 ^ 28

-- The words that are accepted are exactly those of the certificates that fit, and the certificate is read off them.
abbrev pub ReadsCertificates : Type 0
ReadsCertificates =
    (n : ℕ) (ws : List ℕ) (C : Certificate)
    → (read_certificate n ws ≡ accepted C) ↔ ((ws ≡ encode_certificate C) × CertificateFits n C)

-- words of a certificate that passes and claims W
pub record Proves (S : Sheet) (ws : List ℕ) (W : ℕ) : Type 0 where
  pub certificate : Certificate
  pub encoded : ws ≡ encode_certificate certificate
  pub fits : CertificateFits (length (rows S)) certificate
  pub passes : Passes S (conflicts S) certificate
  pub claims : certificate.W ≡ W

-- The judge answers W exactly to the words of a certificate that passes and claims W.
abbrev pub JudgedRight : Type 0
JudgedRight = (S : Sheet) (ws : List ℕ) (W : ℕ) → (judged S ws ≡ accepted W) ↔ Proves S ws W

-- So W bounds every lawful walk, on every cache and whatever that holds at the start.
abbrev pub JudgedSafe : Type 0
JudgedSafe =
    (S : Sheet) (ws : List ℕ) (W : ℕ) → WellFormed S → judged S ws ≡ accepted W
    → (w : List ℕ) → Lawful S w
    → (R R' : Residence) (c : ℕ) → Costs S R (trace S w) c R'
    → c ≤ W
