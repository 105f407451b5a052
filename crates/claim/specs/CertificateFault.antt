-- Laws of the refusals of a certificate's words: the first fault is the answer, whatever comes after it. Assumes nothing.
use Rattle.std.specs.Prelude.{◌≡◌, ℕ, suc, ◌≤◌, ◌≢◌, ◌⊎◌, List, ◌++◌, length, take}
use Rattle.sheet.specs.Sheet.{Sheet}
use Rattle.claim.specs.Kinds.{Refusal, words, claim}
use Rattle.words.specs.Words.{refused}
use Rattle.claim.specs.ReadCertificate.{read_certificate, judged}

-- A refusal is for the words up to its place, and at most one more (minus zero is found at the LOW after it): any other words may follow these.
abbrev pub CertificateFirstFault : Type 0
CertificateFirstFault =
    (n : ℕ) (ws us : List ℕ) (r : Refusal) → read_certificate n ws ≡ refused r → r.number ≢ 2
    → read_certificate n (take (suc (suc r.place)) ws ++ us) ≡ refused r

-- A list that ends before END is refused at its length.
abbrev pub CertificateCut : Type 0
CertificateCut = (n : ℕ) (ws : List ℕ) (r : Refusal) → read_certificate n ws ≡ refused r → r.number ≡ 2 → r.place ≡ length ws

-- A refusal of the judge is one of the word layer, 1 to 4, or one of the claim layer, 10 to 14.
abbrev pub Numbered : Refusal → Type 0
Numbered r = ((1 ≤ r.number) × (r.number ≤ 4) × (r.layer ≡ words)) ⊎ ((10 ≤ r.number) × (r.number ≤ 14) × (r.layer ≡ claim))

abbrev pub JudgeNumbered : Type 0
JudgeNumbered = (S : Sheet) (ws : List ℕ) (r : Refusal) → judged S ws ≡ refused r → Numbered r
