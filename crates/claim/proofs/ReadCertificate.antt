-- The certificates that are accepted are those that fit. Assumes nothing.
use Rattle.std.proofs.Common.{◌≡◌, ℕ, zero, suc, ◌+◌, ◌*◌, ◌/◌, ◌%◌, ◌^◌, ◌<◌, ◌≤◌, Bool, true, false, not, ◌&&◌, eqb, List, [], ◌∷◌, ◌++◌, length, ℤ, pos, negsuc, neg_ℤ, sym, refl, ap, ◌∙◌, subst, ⊎_elim, zero-add, arith}
use mathlib.Core.Option.{none}
use Rattle.std.specs.List.{AllByRecursion}
use Rattle.std.proofs.lemmas.List.{append_assoc, append-nil, length-append, length_push}
use Rattle.std.proofs.ByRecursion.{All-push}
use Rattle.std.proofs.lemmas.Bool.{false≢true, eqb-true, eq-eqb, ne_eqb, not-true, not_from_false}
use Rattle.std.proofs.lemmas.Nat.{shr_split, shr-shr, mod_below, shr_below}
use Rattle.words.specs.Lists.{joined}
use Rattle.claim.specs.Certificate.{Certificate}
use Rattle.claim.specs.Kinds.{Kind, NONE, CLAIM, HIGH, LOW, END}
use Rattle.words.specs.Words.{kind, payload, word, same_kind, one_of, fields, minus_bit, unused_bits, top_field, accepted, first_failing}
use Rattle.words.specs.Words.{empty}
use Rattle.claim.specs.ReadCertificate.{Stand, at_claim, at_W, at_W_low, at_pair, at_low, State, stands, due, barred, checks, demands, next, signed, with_D, with_W, with_multiplier, read_from, read_certificate, start}
use Rattle.claim.specs.CertificateWords.{magnitude, sign, pair_words, claim_words, encode_certificate, CertificateFits, ReadsCertificates}
use Rattle.words.proofs.Words.{payload_below, OneOf, is_one_of, all_hold, step_split, step_on, step_end, none_fails, kind_word, payload_word, within_true, true_within, high_field, low_field, end_kind, due_word}

pub joined_push : {A B : Type 0} (f : A → List B) (xs : List A) (x : A) → joined f (xs ++ (x ∷ [])) ≡ joined f xs ++ f x
joined_push f [] x = append-nil (f x)
joined_push f (y ∷ xs) x = ap (λ z. f y ++ z) (joined_push f xs x) ∙ sym (append_assoc (f y) (joined f xs) (f x))

abbrev pub bit : Bool → ℕ
bit true = 1
bit false = 0

-- a HIGH with no unused bit is its sign and its upper part
high_payload : (p : ℕ) → p < 2 ^ 28 → eqb (unused_bits p) 0 ≡ true → p ≡ fields 27 (bit (minus_bit p)) (top_field p)
high_payload p b u =
    go (p / 2 ^ 27) refl
  where
    z : p / 2 ^ 12 % 2 ^ 15 ≡ 0
    z = eqb-true (p / 2 ^ 12 % 2 ^ 15) 0 u

    go : (r : ℕ) → p / 2 ^ 27 ≡ r → p ≡ fields 27 (bit (eqb r 1)) (top_field p)
    go zero e = omega (arith, z, shr_split p 12, shr_split (p / 2 ^ 12) 15, shr-shr p 12 15)
    go (suc zero) e = omega (arith, z, shr_split p 12, shr_split (p / 2 ^ 12) 15, shr-shr p 12 15)
    go (suc (suc r)) e = absurd (omega (arith, shr_below p 1 27 b))

abbrev pub so_far : Stand → Certificate → List ℕ
so_far (at_claim n) C = []
so_far (at_W n) C = word CLAIM C.D ∷ []
so_far (at_W_low n t) C = word CLAIM C.D ∷ word HIGH (fields 27 0 t) ∷ []
so_far (at_pair n) C = claim_words C
so_far (at_low n m t) C = claim_words C ++ (word HIGH (fields 27 (bit m) t) ∷ [])

-- what holds of a certificate so far, with n pairs left of N
pub record Partly (N n : ℕ) (C : Certificate) : Type 0 where
  pub scale : (1 ≤ C.D) × (C.D ≤ 1048575)
  pub claim_fits : C.W < 2 ^ 40
  pub each_row : n + length C.multipliers ≡ N
  pub multipliers_fit : AllByRecursion (λ y. magnitude y < 2 ^ 40) C.multipliers

abbrev pub Holds : ℕ → Stand → Certificate → Type 0
Holds N (at_claim n) C = (n ≡ N) × (C.multipliers ≡ [])
Holds N (at_W n) C = (n ≡ N) × (C.multipliers ≡ []) × (1 ≤ C.D) × (C.D ≤ 1048575)
Holds N (at_W_low n t) C = (n ≡ N) × (C.multipliers ≡ []) × (1 ≤ C.D) × (C.D ≤ 1048575) × (t < 2 ^ 12)
Holds N (at_pair n) C = Partly N n C
Holds N (at_low n m t) C = Partly N (suc n) C × (t < 2 ^ 12)

-- one word more
abbrev pub Step : ℕ → Stand → Certificate → Kind → ℕ → Type 0
Step N d C k p =
    Holds N (next d C k p).stand (next d C k p).read
    × (so_far (next d C k p).stand (next d C k p).read ≡ so_far d C ++ (word k p ∷ []))

signed_is : (m : Bool) (M : ℕ) → (m && eqb M 0) ≡ false → (sign (signed m M) ≡ bit m) × (magnitude (signed m M) ≡ M)
signed_is true zero e = absurd (false≢true (sym e))
signed_is true (suc M) e = (refl, refl)
signed_is false M e = (refl, refl)

fields_below : (t p : ℕ) → t < 2 ^ 12 → p < 2 ^ 28 → fields 28 t p < 2 ^ 40
fields_below t p h b = omega arith

pair_read : (y : ℤ) (s t p : ℕ) → sign y ≡ s → magnitude y ≡ fields 28 t p → p < 2 ^ 28
    → pair_words y ≡ word HIGH (fields 27 s t) ∷ word LOW p ∷ []
pair_read y s t p e m b = rw (e, m, high_field 28 t p b, low_field 28 t p b)

pub step : (N : ℕ) (d : Stand) (C : Certificate) (k : Kind) (p i : ℕ) (rest : List ℕ) → Holds N d C → OneOf k (due d)
    → AllByRecursion (λ c. c.holds ≡ true) (checks d k p i rest) → p < 2 ^ 28 → same_kind k END ≡ false → Step N d C k p
step N (at_claim n) C k p i rest inv o h b ne = ⊎_elim (λ e. subst P (sym e) at h) (λ z. absurd z) o
  where
    P : Kind → Type 0
    P k = AllByRecursion (λ c. c.holds ≡ true) (checks (at_claim n) k p i rest) → Step N (at_claim n) C k p

    at : P CLAIM
    at h = let r = within_true 1 1048575 p h.0 in ((inv.0, inv.1, r.0, r.1), refl)
step N (at_W n) C k p i rest inv o h b ne = ⊎_elim (λ e. subst P (sym e) at h) (λ z. absurd z) o
  where
    P : Kind → Type 0
    P k = AllByRecursion (λ c. c.holds ≡ true) (checks (at_W n) k p i rest) → Step N (at_W n) C k p

    at : P HIGH
    at h =
        let m = not-true (minus_bit p) h.1.0 in
        let q : p ≡ fields 27 0 (top_field p) = subst (λ x. p ≡ fields 27 (bit x) (top_field p)) m (high_payload p b h.0) in
        ((inv.0, inv.1, inv.2, inv.3, mod_below p (2 ^ 12) (omega arith)), ap (λ x. word CLAIM C.D ∷ word HIGH x ∷ []) (sym q))
step N (at_W_low n t) C k p i rest inv o h b ne = ⊎_elim (λ e. subst P (sym e) at h) (λ z. absurd z) o
  where
    P : Kind → Type 0
    P k = AllByRecursion (λ c. c.holds ≡ true) (checks (at_W_low n t) k p i rest) → Step N (at_W_low n t) C k p

    at : P LOW
    at h = (
      record {
        scale = (inv.2, inv.3);
        claim_fits = fields_below t p inv.4 b;
        each_row = omega (arith, inv.0, ap length inv.1);
        multipliers_fit = subst (λ ys. AllByRecursion (λ y. magnitude y < 2 ^ 40) ys) (sym inv.1) tt;
      },
      rw (inv.1, pair_read (pos (fields 28 t p)) 0 t p refl refl b) refl,
    )
step N (at_pair zero) C k p i rest inv o h b ne = ⊎_elim (λ e. absurd (false≢true (sym ne ∙ ap (λ k. same_kind k END) e))) (λ z. absurd z) o
step N (at_pair (suc n)) C k p i rest inv o h b ne = ⊎_elim (λ e. subst P (sym e) at h) (λ z. absurd z) o
  where
    P : Kind → Type 0
    P k = AllByRecursion (λ c. c.holds ≡ true) (checks (at_pair (suc n)) k p i rest) → Step N (at_pair (suc n)) C k p

    at : P HIGH
    at h = ((inv, mod_below p (2 ^ 12) (omega arith)), ap (λ x. claim_words C ++ (word HIGH x ∷ [])) (sym (high_payload p b h.0)))
step N (at_low n m t) C k p i rest inv o h b ne = ⊎_elim (λ e. subst P (sym e) at h) (λ z. absurd z) o
  where
    P : Kind → Type 0
    P k = AllByRecursion (λ c. c.holds ≡ true) (checks (at_low n m t) k p i rest) → Step N (at_low n m t) C k p

    at : P LOW
    at h =
        let y : ℤ = signed m (fields 28 t p) in
        let s = signed_is m (fields 28 t p) (not-true (m && eqb (fields 28 t p) 0) h.0) in
        let f : magnitude y < 2 ^ 40 = subst (λ x. x < 2 ^ 40) (sym s.1) (fields_below t p inv.1 b) in (
          record {
            scale = inv.0.scale;
            claim_fits = inv.0.claim_fits;
            each_row = omega (arith, inv.0.each_row, length_push C.multipliers y);
            multipliers_fit = All-push (λ y. magnitude y < 2 ^ 40) C.multipliers y inv.0.multipliers_fit f;
          },
          ap (λ z. (word CLAIM C.D ∷ pair_words (pos C.W)) ++ z) (joined_push pair_words C.multipliers y)
              ∙ ap (λ z. (word CLAIM C.D ∷ pair_words (pos C.W)) ++ (joined pair_words C.multipliers ++ z)) (pair_read y (bit m) t p s.0 s.1 b)
              ∙ simp append_assoc,
        )

-- END
done : (N : ℕ) (d : Stand) (C : Certificate) (p i : ℕ) (rest : List ℕ) → Holds N d C → one_of END (due d) ≡ true
    → AllByRecursion (λ c. c.holds ≡ true) (checks d END p i rest) → p < 2 ^ 28 → i ≡ length (so_far d C)
    → (so_far d C ++ (word END p ∷ rest) ≡ encode_certificate C) × CertificateFits N C
done N (at_claim n) C p i rest inv o h b e = absurd (false≢true o)
done N (at_W n) C p i rest inv o h b e = absurd (false≢true o)
done N (at_W_low n t) C p i rest inv o h b e = absurd (false≢true o)
done N (at_pair zero) C p i rest inv o h b e = go rest h.1.0
  where
    q : p ≡ length (claim_words C)
    q = eqb-true p i h.0 ∙ e

    go : (rest : List ℕ) → empty rest ≡ true → (claim_words C ++ (word END p ∷ rest) ≡ encode_certificate C) × CertificateFits N C
    go [] t = (
      ap (λ x. claim_words C ++ (word END x ∷ [])) q,
      record {
        scale = inv.scale;
        claim_fits = inv.claim_fits;
        each_row = sym (zero-add (length C.multipliers)) ∙ inv.each_row;
        multipliers_fit = inv.multipliers_fit;
        counted = subst (λ x. x < 2 ^ 28) q b;
      },
    )
    go (w ∷ ws) t = absurd (false≢true t)
done N (at_pair (suc n)) C p i rest inv o h b e = absurd (false≢true o)
done N (at_low n m t) C p i rest inv o h b e = absurd (false≢true o)

-- no kind is NONE
due_some : (d : Stand) → one_of NONE (due d) ≡ false
due_some (at_claim n) = refl
due_some (at_W n) = refl
due_some (at_W_low n t) = refl
due_some (at_pair zero) = refl
due_some (at_pair (suc n)) = refl
due_some (at_low n m t) = refl

module _ (N : ℕ) (R : Certificate) where
  -- the words so far and those that are left are the certificate's
  sound : (ws : List ℕ) (st : State) (i : ℕ) → Holds N st.stand st.read → i ≡ length (so_far st.stand st.read)
      → read_from st ws i ≡ accepted R → (so_far st.stand st.read ++ ws ≡ encode_certificate R) × CertificateFits N R
  sound [] st i inv li e = let z : ◌≡◌ {A = ℕ} 0 1 = cc in absurd (omega arith)
  sound (w ∷ rest) st i inv li e =
      let r = step_split (first_failing (demands st w i rest)) (same_kind (kind w) END) (accepted C) (read_from (next d C (kind w) (payload w)) rest (suc i)) R e in
      let h = all_hold (demands st w i rest) r.0 in
      let q = due_word w (due d) h.1.0 (due_some d) in
      ⊎_elim
      (λ x.
      let k = end_kind (kind w) x.0 in
      let c : C ≡ R = cc x.1 in
      let f = done N d C (payload w) i rest inv (subst (λ k. one_of k (due d) ≡ true) k h.1.0) (subst (λ k. AllByRecursion (λ c. c.holds ≡ true) (checks d k (payload w) i rest)) k h.1.1) (payload_below w) li in
      (ap (λ z. so_far d C ++ (z ∷ rest)) (q ∙ ap (λ k. word k (payload w)) k) ∙ f.0 ∙ ap encode_certificate c, subst (CertificateFits N) c f.1))
      (λ x.
      let s = step N d C (kind w) (payload w) i rest inv (is_one_of (kind w) (due d) h.1.0) h.1.1 (payload_below w) x.0 in
      let g = sound rest (next d C (kind w) (payload w)) (suc i) s.0 (omega (arith, li, ap length s.1, length_push (so_far d C) (word (kind w) (payload w)))) x.1 in
      (ap (λ z. so_far d C ++ (z ∷ rest)) q ∙ sym (append_assoc (so_far d C) (word (kind w) (payload w) ∷ []) rest) ∙ ap (λ z. z ++ rest) (sym s.1) ∙ g.0, g.1))
      r.1
    where
      d : Stand
      d = st.stand

      C : Certificate
      C = st.read

-- The other way: from a state over words to a state.
record Runs (st : State) (ws : List ℕ) (st' : State) : Type 0 where
  on : (rest : List ℕ) (i : ℕ) → read_from st (ws ++ rest) i ≡ read_from st' rest (i + length ws)

runs_none : {st : State} → Runs st [] st
runs_none {st} = record { on = λ rest i. ap (read_from st rest) (omega arith) }

runs_on : {a b c : State} {ws us : List ℕ} → Runs a ws b → Runs b us c → Runs a (ws ++ us) c
runs_on {a} {b} {c} {ws} {us} f g = record {
  on = λ rest i.
      ap (λ z. read_from a z i) (append_assoc ws us rest) ∙ f.on (us ++ rest) i ∙ g.on rest (i + length ws)
      ∙ ap (read_from c rest) (omega (arith, length-append ws us));
}

reads_on : (st : State) (w : ℕ) (rest : List ℕ) (i : ℕ) → first_failing (demands st w i rest) ≡ none → same_kind (kind w) END ≡ false
    → read_from st (w ∷ rest) i ≡ read_from (next st.stand st.read (kind w) (payload w)) rest (suc i)
reads_on st w rest i e f =
    step_on (first_failing (demands st w i rest)) (same_kind (kind w) END) (accepted st.read) (read_from (next st.stand st.read (kind w) (payload w)) rest (suc i)) e f

run_word : (d : Stand) (C : Certificate) (k : Kind) (p : ℕ) → one_of k (barred d) ≡ false → one_of k (due d) ≡ true
    → ((i : ℕ) (rest : List ℕ) → AllByRecursion (λ c. c.holds ≡ true) (checks d k p i rest)) → same_kind k END ≡ false → p < 2 ^ 28
    → Runs (stands d C) (word k p ∷ []) (next d C k p)
run_word d C k p n o h ne b = record {
  on = λ rest i.
      reads_on (stands d C) (word k p) rest i
      (none_fails (demands (stands d C) (word k p) i rest) (
        subst (λ j. not (one_of j (barred d)) ≡ true) (sym ek) (not_from_false (one_of k (barred d)) n),
        (
          subst (λ j. one_of j (due d) ≡ true) (sym ek) o,
          subst (λ j. AllByRecursion (λ c. c.holds ≡ true) (checks d j (payload (word k p)) i rest)) (sym ek)
              (subst (λ x. AllByRecursion (λ c. c.holds ≡ true) (checks d k x i rest)) (sym ep) (h i rest)),
        ),
      ))
      (subst (λ j. same_kind j END ≡ false) (sym ek) ne)
      ∙ ap (λ j. read_from (next d C j (payload (word k p))) rest (suc i)) ek
      ∙ ap (λ x. read_from (next d C k x) rest (suc i)) ep
      ∙ ap (read_from (next d C k p) rest) (omega arith);
}
  where
    ek : kind (word k p) ≡ k
    ek = kind_word k p b

    ep : payload (word k p) ≡ p
    ep = payload_word k p b

-- the parts of a HIGH
module _ (s t : ℕ) (s2 : s < 2) (t12 : t < 2 ^ 12) where
  shifted : fields 27 s t ≡ fields 12 (s * 2 ^ 15) t
  shifted = omega arith

  top_is : top_field (fields 27 s t) ≡ t
  top_is = ap (λ x. x % 2 ^ 12) shifted ∙ low_field 12 (s * 2 ^ 15) t t12

  unused_is : unused_bits (fields 27 s t) ≡ 0
  unused_is = ap (λ x. x / 2 ^ 12 % 2 ^ 15) shifted ∙ ap (λ x. x % 2 ^ 15) (high_field 12 (s * 2 ^ 15) t t12) ∙ ap (λ x. x % 2 ^ 15) w ∙ low_field 15 s 0 (omega arith)
    where
      w : s * 2 ^ 15 ≡ fields 15 s 0
      w = omega arith

  minus_is : minus_bit (fields 27 s t) ≡ eqb s 1
  minus_is = ap (λ x. eqb x 1) (high_field 27 s t (omega arith))

  high_below : fields 27 s t < 2 ^ 28
  high_below = omega arith

half_below : (m : ℕ) → m < 2 ^ 40 → m / 2 ^ 28 < 2 ^ 12
half_below m h = shr_below m 12 28 h

sign_below : (y : ℤ) → sign y < 2
sign_below (pos m) = omega arith
sign_below (negsuc m) = omega arith

-- the sign and the magnitude, read back
back_is : (y : ℤ) → signed (eqb (sign y) 1) (fields 28 (magnitude y / 2 ^ 28) (magnitude y % 2 ^ 28)) ≡ y
back_is (pos m) = ap pos (shr_split m 28)
back_is (negsuc m) = ap (λ x. neg_ℤ (pos x)) (shr_split (suc m) 28)

no_minus_zero : (y : ℤ) → (eqb (sign y) 1 && eqb (fields 28 (magnitude y / 2 ^ 28) (magnitude y % 2 ^ 28)) 0) ≡ false
no_minus_zero (pos m) = refl
no_minus_zero (negsuc m) = ap (λ x. eqb x 0) (shr_split (suc m) 28) ∙ ne_eqb (suc m) 0 (λ e. omega arith)

run_pair : (n : ℕ) (C : Certificate) (y : ℤ) → magnitude y < 2 ^ 40 → Runs (stands (at_pair (suc n)) C) (pair_words y) (stands (at_pair n) (with_multiplier C y))
run_pair n C y h =
    subst (λ x. Runs (stands (at_pair (suc n)) C) (pair_words y) (stands (at_pair n) (with_multiplier C x)))
    (rw (minus_is s t s2 t12, top_is s t s2 t12) (back_is y))
    (runs_on
    (run_word (at_pair (suc n)) C HIGH p refl refl (λ i rest. (eq-eqb (unused_bits p) 0 (unused_is s t s2 t12), (refl, tt))) refl (high_below s t s2 t12))
    (run_word (at_low n (minus_bit p) (top_field p)) C LOW (magnitude y % 2 ^ 28) refl refl
    (λ i rest. (rw (minus_is s t s2 t12, top_is s t s2 t12) (not_from_false _ (no_minus_zero y)), tt)) refl (mod_below (magnitude y) (2 ^ 28) (omega arith))))
  where
    s : ℕ
    s = sign y

    t : ℕ
    t = magnitude y / 2 ^ 28

    s2 : s < 2
    s2 = sign_below y

    t12 : t < 2 ^ 12
    t12 = half_below (magnitude y) h

    p : ℕ
    p = fields 27 s t

-- a certificate with more multipliers
abbrev with_multipliers : Certificate → List ℤ → Certificate
with_multipliers C ys = record { W = C.W; D = C.D; multipliers = C.multipliers ++ ys }

run_pairs : (C : Certificate) (ys : List ℤ) → AllByRecursion (λ y. magnitude y < 2 ^ 40) ys
    → Runs (stands (at_pair (length ys)) C) (joined pair_words ys) (stands (at_pair 0) (with_multipliers C ys))
run_pairs C [] h =
    subst (λ z. Runs (stands (at_pair 0) C) [] (stands (at_pair 0) (record { W = C.W; D = C.D; multipliers = z }))) (sym (append-nil C.multipliers)) runs_none
run_pairs C (y ∷ ys) h =
    subst (λ z. Runs (stands (at_pair (suc (length ys))) C) (pair_words y ++ joined pair_words ys) (stands (at_pair 0) (record { W = C.W; D = C.D; multipliers = z })))
    (append_assoc C.multipliers (y ∷ []) ys)
    (runs_on (run_pair (length ys) C y h.0) (run_pairs (with_multiplier C y) ys h.1))

run_claim : (n : ℕ) (C : Certificate) (d : ℕ) → 1 ≤ d → d ≤ 1048575 → Runs (stands (at_claim n) C) (word CLAIM d ∷ []) (stands (at_W n) (with_D C d))
run_claim n C d l u = run_word (at_claim n) C CLAIM d refl refl (λ i rest. (true_within 1 1048575 d l u, tt)) refl (omega arith)

run_W : (n : ℕ) (C : Certificate) (w : ℕ) → w < 2 ^ 40 → Runs (stands (at_W n) C) (pair_words (pos w)) (stands (at_pair n) (with_W C w))
run_W n C w h =
    subst (λ x. Runs (stands (at_W n) C) (pair_words (pos w)) (stands (at_pair n) (with_W C x))) (rw (top_is 0 t s2 t12) (shr_split w 28))
    (runs_on
    (run_word (at_W n) C HIGH p refl refl (λ i rest. (eq-eqb (unused_bits p) 0 (unused_is 0 t s2 t12), (not_from_false (minus_bit p) (minus_is 0 t s2 t12), tt))) refl (high_below 0 t s2 t12))
    (run_word (at_W_low n (top_field p)) C LOW (w % 2 ^ 28) refl refl (λ i rest. (refl, tt)) refl (mod_below w (2 ^ 28) (omega arith))))
  where
    t : ℕ
    t = w / 2 ^ 28

    s2 : 0 < 2
    s2 = omega arith

    t12 : t < 2 ^ 12
    t12 = half_below w h

    p : ℕ
    p = fields 27 0 t

run_end : (C : Certificate) (i : ℕ) → i < 2 ^ 28 → read_from (stands (at_pair 0) C) (word END i ∷ []) i ≡ accepted C
run_end C i b =
    step_end (first_failing (demands st w i [])) (same_kind (kind w) END) (accepted C) (read_from (next st.stand C (kind w) (payload w)) [] (suc i))
    (none_fails (demands st w i []) (
      subst (λ j. not (one_of j (HIGH ∷ [])) ≡ true) (sym ek) refl,
      (
        subst (λ j. one_of j (END ∷ []) ≡ true) (sym ek) refl,
        subst (λ j. AllByRecursion (λ c. c.holds ≡ true) (checks (at_pair 0) j (payload w) i [])) (sym ek) (eq-eqb (payload w) i (payload_word END i b), (refl, tt)),
      ),
    ))
    (subst (λ j. same_kind j END ≡ true) (sym ek) refl)
  where
    st : State
    st = stands (at_pair 0) C

    w : ℕ
    w = word END i

    ek : kind w ≡ END
    ek = kind_word END i b

complete : (n : ℕ) (C : Certificate) → CertificateFits n C → read_certificate n (encode_certificate C) ≡ accepted C
complete n C f =
    (runs_on
    (subst (λ m. Runs (start m) (word CLAIM C.D ∷ pair_words (pos C.W)) (stands (at_pair (length ys)) C₁)) f.each_row
    (runs_on (run_claim (length ys) (start n).read C.D f.scale.0 f.scale.1) (run_W (length ys) (with_D (start n).read C.D) C.W f.claim_fits)))
    (run_pairs C₁ ys f.multipliers_fit)
    ).on (word END (length (claim_words C)) ∷ []) 0
    ∙ ap (read_from (stands (at_pair 0) C) (word END (length (claim_words C)) ∷ [])) (zero-add (length (claim_words C)))
    ∙ run_end C (length (claim_words C)) f.counted
  where
    ys : List ℤ
    ys = C.multipliers

    C₁ : Certificate
    C₁ = record { W = C.W; D = C.D; multipliers = [] }

pub reads_certificates : ReadsCertificates
reads_certificates n ws C = (
  (λ e. sound n C ws (start n) 0 (refl, refl) refl e),
  (λ x. ap (read_certificate n) x.0 ∙ complete n C x.1),
)
