-- For the code that reads a certificate: what each of its parts is read as. Assumes nothing.
use Rattle.std.specs.Prelude.{◌≡◌, ℕ, suc, ◌+◌, ◌^◌, ◌<◌, List, [], ◌∷◌, map, length, take, drop, ℤ, Ok, Err, Result, slice_index}
use Rattle.words.specs.declared.word.Payload.{Payload}
use Rattle.words.specs.Words.{kind, payload, fields, minus_bit, unused_bits, top_field, accepted, refused}
use Rattle.claim.specs.Kinds.{HIGH, END}
use Rattle.claim.specs.declared.amount.Cycles.{Cycles}
use Rattle.claim.specs.declared.scaled.Denominator.{Denominator}
use Rattle.claim.specs.declared.certificate.Certificate.{Certificate as Held}
use Rattle.claim.specs.declared.fault.ClaimFault.{ClaimFault}
use Rattle.claim.specs.Faults.{claim_refusal}
use Rattle.claim.specs.Certificate.{Certificate}
use Rattle.claim.specs.ReadCertificate.{Stand, State, stands, at_claim, at_W, at_pair, due, barred, with_D, with_W, with_multiplier, signed, read_from, read_certificate}

-- the multiplier that the two words of a pair give
abbrev pub multiplier : List ℕ → ℤ
multiplier p = signed (minus_bit (payload (slice_index p 0))) (fields 28 (top_field (payload (slice_index p 0))) (payload (slice_index p 1)))

abbrev pub multipliers : List (List ℕ) → List ℤ
multipliers ps = map multiplier ps

-- Reading on from one state at place i answers what reading on from another at place j does.
abbrev pub Onward : List ℕ → State → ℕ → State → ℕ → Type 0
Onward ws s i t j = read_from s (drop i ws) i ≡ read_from t (drop j ws) j

-- Reading on from a state at place i answers this fault.
abbrev pub Refuses : List ℕ → State → ℕ → ClaimFault → Type 0
Refuses ws s i e = read_from s (drop i ws) i ≡ refused (claim_refusal e)

-- The HIGH at place i, where one is due.
abbrev pub HighRead : List ℕ → ℕ → Result Payload ClaimFault → ℕ → Type 0
HighRead ws i (Ok p) j = (i < length ws) × (kind (slice_index ws i) ≡ HIGH) × (p.0 ≡ payload (slice_index ws i)) × (unused_bits p.0 ≡ 0) × (j ≡ i + 1)
HighRead ws i (Err e) j = (d : Stand) (C : Certificate) → due d ≡ HIGH ∷ [] → barred d ≡ END ∷ [] → Refuses ws (stands d C) i e

-- D.
abbrev pub ScaleRead : List ℕ → ℕ → Result Denominator ClaimFault → ℕ → Type 0
ScaleRead ws i (Ok d) j = ((n : ℕ) (C : Certificate) → Onward ws (stands (at_claim n) C) i (stands (at_W n) (with_D C d.value)) j) × (i < length ws) × (j ≡ i + 1)
ScaleRead ws i (Err e) j = (n : ℕ) (C : Certificate) → Refuses ws (stands (at_claim n) C) i e

-- W.
abbrev pub ClaimRead : List ℕ → ℕ → Result Cycles ClaimFault → ℕ → Type 0
ClaimRead ws i (Ok w) j = ((n : ℕ) (C : Certificate) → Onward ws (stands (at_W n) C) i (stands (at_pair n) (with_W C w.0)) j) × (w.0 < 2 ^ 40) × (i + 1 < length ws) × (j ≡ i + 2)
ClaimRead ws i (Err e) j = (n : ℕ) (C : Certificate) → Refuses ws (stands (at_W n) C) i e

-- The pair of a row.
abbrev pub PairRead : List ℕ → ℕ → Result (Unit {0}) ClaimFault → ℕ → Type 0
PairRead ws i (Ok u) j =
    ((n : ℕ) (C : Certificate) → Onward ws (stands (at_pair (suc n)) C) i (stands (at_pair n) (with_multiplier C (multiplier (take 2 (drop i ws))))) j)
    × (i + 1 < length ws) × (j ≡ i + 2)
PairRead ws i (Err e) j = (n : ℕ) (C : Certificate) → Refuses ws (stands (at_pair (suc n)) C) i e

-- END.
abbrev pub EndRead : List ℕ → ℕ → Result (Unit {0}) ClaimFault → Type 0
EndRead ws i (Ok u) = (i < length ws) × ((C : Certificate) → read_from (stands (at_pair 0) C) (drop i ws) i ≡ accepted C)
EndRead ws i (Err e) = (C : Certificate) → Refuses ws (stands (at_pair 0) C) i e

-- The certificate that the code holds, whose multipliers stand in the caller's words.
abbrev pub certificate_of : Held → Certificate
certificate_of c = record { W = c.claim.0; D = c.scale.value; multipliers = multipliers c.pairs.now }

-- A certificate for n rows, or the fault.
abbrev pub CertificateRead : ℕ → List ℕ → Result Held ClaimFault → Type 0
CertificateRead n ws (Ok c) =
    (read_certificate n ws ≡ accepted (certificate_of c)) × (length c.pairs.now ≡ n) × (c.claim.0 < 2 ^ 40)
CertificateRead n ws (Err e) = read_certificate n ws ≡ refused (claim_refusal e)
