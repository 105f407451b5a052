-- Words and their kinds, payloads and fields; what checks that pass say. Assumes nothing.
use Rattle.std.proofs.Common.{◌≡◌, ℕ, zero, suc, ◌+◌, ◌*◌, ◌/◌, ◌%◌, ◌^◌, ◌<◌, ◌≤◌, Bool, true, false, leb, ◌⊎◌, List, [], ◌∷◌, get_or, sym, refl, ap, ◌∙◌, inl, inr, ⊎_elim, arith}
use mathlib.Core.Option.{Option, none, some}
use Rattle.std.specs.List.{AllByRecursion}
use Rattle.std.proofs.lemmas.Bool.{false≢true, and_parts, and_from, leb-true, le-leb, or_cases, eqb-true}
use Rattle.std.proofs.lemmas.Nat.{shr_high, mod_low, shr_split, shr-shr, mod_below}
use Rattle.words.specs.Words.{Kind, NONE, HEAD, BLOCK, LBLOCK, COST, EDGE, LOOP, BACK, FACT, CLAIM, HIGH, LOW, START, STEP, FINISH, END}
use Rattle.words.specs.Words.{code, in_order, kind, payload, word, same_kind, one_of, fields, i_field, j_field, lower, Refusal, Answer, accepted, refused, Check, first_failing, within}

at_code : (k : Kind) → get_or in_order (code k) NONE ≡ k
at_code NONE = refl
at_code HEAD = refl
at_code BLOCK = refl
at_code LBLOCK = refl
at_code COST = refl
at_code EDGE = refl
at_code LOOP = refl
at_code BACK = refl
at_code FACT = refl
at_code CLAIM = refl
at_code HIGH = refl
at_code LOW = refl
at_code START = refl
at_code STEP = refl
at_code FINISH = refl
at_code END = refl

-- a number is the code of the kind with its place, or has none
code_at : (n : ℕ) → (get_or in_order n NONE ≡ NONE) ⊎ (code (get_or in_order n NONE) ≡ n)
code_at zero = inr refl
code_at (suc zero) = inr refl
code_at (suc (suc zero)) = inr refl
code_at (suc (suc (suc zero))) = inr refl
code_at (suc (suc (suc (suc zero)))) = inr refl
code_at (suc (suc (suc (suc (suc zero))))) = inr refl
code_at (suc (suc (suc (suc (suc (suc zero)))))) = inr refl
code_at (suc (suc (suc (suc (suc (suc (suc zero))))))) = inr refl
code_at (suc (suc (suc (suc (suc (suc (suc (suc zero)))))))) = inr refl
code_at (suc (suc (suc (suc (suc (suc (suc (suc (suc zero))))))))) = inr refl
code_at (suc (suc (suc (suc (suc (suc (suc (suc (suc (suc zero)))))))))) = inr refl
code_at (suc (suc (suc (suc (suc (suc (suc (suc (suc (suc (suc zero))))))))))) = inr refl
code_at (suc (suc (suc (suc (suc (suc (suc (suc (suc (suc (suc (suc zero)))))))))))) = inr refl
code_at (suc (suc (suc (suc (suc (suc (suc (suc (suc (suc (suc (suc (suc zero))))))))))))) = inr refl
code_at (suc (suc (suc (suc (suc (suc (suc (suc (suc (suc (suc (suc (suc (suc zero)))))))))))))) = inr refl
code_at (suc (suc (suc (suc (suc (suc (suc (suc (suc (suc (suc (suc (suc (suc (suc zero))))))))))))))) = inr refl
code_at (suc (suc (suc (suc (suc (suc (suc (suc (suc (suc (suc (suc (suc (suc (suc (suc n)))))))))))))))) = inl refl

pub kind_word : (k : Kind) (p : ℕ) → p < 2 ^ 28 → kind (word k p) ≡ k
kind_word k p h = ap (λ n. get_or in_order n NONE) (shr_high (code k) 28 p h) ∙ at_code k

pub payload_word : (k : Kind) (p : ℕ) → p < 2 ^ 28 → payload (word k p) ≡ p
payload_word k p h = mod_low (code k) 28 p h

pub payload_below : (w : ℕ) → payload w < 2 ^ 28
payload_below w = mod_below w (2 ^ 28) (omega arith)

-- a word is its kind and its payload
pub is_word : (w : ℕ) → (kind w ≡ NONE → ⊥) → w ≡ word (kind w) (payload w)
is_word w h = ⊎_elim (λ e. absurd (h e)) (λ e. sym (shr_split w 28) ∙ ap (λ n. n * 2 ^ 28 + w % 2 ^ 28) (sym e)) (code_at (w / 2 ^ 28))

pub same_code : (j k : Kind) → code j ≡ code k → j ≡ k
same_code j k e = sym (at_code j) ∙ ap (λ n. get_or in_order n NONE) e ∙ at_code k

-- a kind is one of a list
abbrev pub OneOf : Kind → List Kind → Type 0
OneOf k [] = ⊥
OneOf k (j ∷ js) = (k ≡ j) ⊎ OneOf k js

pub is_one_of : (k : Kind) (ks : List Kind) → one_of k ks ≡ true → OneOf k ks
is_one_of k [] t = absurd (false≢true t)
is_one_of k (j ∷ js) t =
    ⊎_elim (λ e. inl (same_code k j (eqb-true (code k) (code j) e))) (λ e. inr (is_one_of k js e)) (or_cases (same_kind k j) (one_of k js) t)

pub end_kind : (k : Kind) → same_kind k END ≡ true → k ≡ END
end_kind k t = same_code k END (eqb-true (code k) 15 t)

-- a word whose kind is due is its kind and its payload
pub due_word : (w : ℕ) (ks : List Kind) → one_of (kind w) ks ≡ true → one_of NONE ks ≡ false → w ≡ word (kind w) (payload w)
due_word w ks t n = is_word w (λ e. false≢true (sym n ∙ ap (λ k. one_of k ks) (sym e) ∙ t))

-- checks
pub all_hold : (cs : List Check) → first_failing cs ≡ none → AllByRecursion (λ c. c.holds ≡ true) cs
all_hold [] e = tt
all_hold (c ∷ cs) e = go c.holds refl e (λ e. all_hold cs e)
  where
    go : (b : Bool) → c.holds ≡ b → ◌≡◌ {A = Option Refusal} (elim b [ true ↦ first_failing cs | false ↦ some c.otherwise ]) none
        → (first_failing cs ≡ none → AllByRecursion (λ c. c.holds ≡ true) cs) → (c.holds ≡ true) × AllByRecursion (λ c. c.holds ≡ true) cs
    go true q e more = (q, more e)
    go false q e more = let z : ◌≡◌ {A = ℕ} 0 1 = cc in absurd (omega arith)

pub none_fails : (cs : List Check) → AllByRecursion (λ c. c.holds ≡ true) cs → first_failing cs ≡ none
none_fails [] h = refl
none_fails (c ∷ cs) h = rw h.0 (none_fails cs h.1)

-- the two tests of a step
pub step_split : {A : Type 0} (o : Option Refusal) (b : Bool) (x y : Answer A) (a : A)
    → ◌≡◌ {A = Answer A} (elim o [ some r ↦ refused r | none ↦ elim b [ true ↦ x | false ↦ y ] ]) (accepted a)
    → (o ≡ none) × (((b ≡ true) × (x ≡ accepted a)) ⊎ ((b ≡ false) × (y ≡ accepted a)))
step_split (some r) b x y a e = let z : ◌≡◌ {A = ℕ} 0 1 = cc in absurd (omega arith)
step_split none true x y a e = (refl, inl (refl, e))
step_split none false x y a e = (refl, inr (refl, e))

pub step_on : {A : Type 0} (o : Option Refusal) (b : Bool) (x y : Answer A) → o ≡ none → b ≡ false
    → ◌≡◌ {A = Answer A} (elim o [ some r ↦ refused r | none ↦ elim b [ true ↦ x | false ↦ y ] ]) y
step_on (some r) b x y e f = let z : ◌≡◌ {A = ℕ} 0 1 = cc in absurd (omega arith)
step_on none true x y e f = absurd (false≢true (sym f))
step_on none false x y e f = refl

pub step_end : {A : Type 0} (o : Option Refusal) (b : Bool) (x y : Answer A) → o ≡ none → b ≡ true
    → ◌≡◌ {A = Answer A} (elim o [ some r ↦ refused r | none ↦ elim b [ true ↦ x | false ↦ y ] ]) x
step_end (some r) b x y e f = let z : ◌≡◌ {A = ℕ} 0 1 = cc in absurd (omega arith)
step_end none true x y e f = refl
step_end none false x y e f = absurd (false≢true f)

pub within_true : (low high n : ℕ) → within low high n ≡ true → (low ≤ n) × (n ≤ high)
within_true low high n t = let r = and_parts (leb low n) (leb n high) t in (leb-true low n r.0, leb-true n high r.1)

pub true_within : (low high n : ℕ) → low ≤ n → n ≤ high → within low high n ≡ true
true_within low high n l u = and_from (leb low n) (leb n high) (le-leb low n l) (le-leb n high u)

-- fields
pub fields_split : (n p : ℕ) → fields n (p / 2 ^ n) (p % 2 ^ n) ≡ p
fields_split n p = shr_split p n

pub high_field : (n a b : ℕ) → b < 2 ^ n → fields n a b / 2 ^ n ≡ a
high_field n a b h = shr_high a n b h

pub low_field : (n a b : ℕ) → b < 2 ^ n → fields n a b % 2 ^ n ≡ b
low_field n a b h = mod_low a n b h

pub i_split : (p : ℕ) → i_field p ≡ p / 2 ^ 14 / 2 ^ 7
i_split p = sym (shr-shr p 14 7)

pub fact_split : (p : ℕ) → fields 14 (fields 7 (i_field p) (j_field p)) (lower p) ≡ p
fact_split p = rw (i_split p) (ap (λ n. n * 2 ^ 14 + p % 2 ^ 14) (shr_split (p / 2 ^ 14) 7) ∙ shr_split p 14)
