-- For code: what the fact rows add to the columns of the blocks. Assumes nothing.
use Rattle.std.proofs.Common.{◌≡◌, ℕ, ◌+◌, ◌*◌, ◌^◌, ◌<◌, ◌≤◌, Bool, true, false, eqb, ◌≢◌, ◌⊎◌, List, length, get_or, take, set, replicate, ℤ, pos, ◌+ℤ◌, ◌-ℤ◌, ◌*ℤ◌, neg_ℤ, sym, ap, ◌∙◌, subst, ap₂, inl, inr, arith}
use lib.IntN.{*ℤ-zero}
use Rattle.std.proofs.lemmas.List.{get_or-set_same, get_or-set_other, get_or_default, get_or-replicate, length-set, take_all}
use Rattle.std.proofs.lemmas.Int.{ints}
use Rattle.std.proofs.lemmas.Bool.{eq-eqb, ne_eqb, cases_eq}
use Rattle.sheet.specs.Rows.{one_if}
use Rattle.claim.specs.Items.{Fact}
use Rattle.claim.specs.declared.scaled.Scaled.{Scaled}
use Rattle.claim.specs.Shares.{Near, fact_share}
use Rattle.claim.specs.Tables.{FactAdded, FactTable, AllNear}
use Rattle.claim.proofs.Ints.{*ℤ-negℤ, *ℤ-+ℤ}
use Rattle.claim.proofs.Nears.{near_zero, near_more, near_add, near_sub, near_times}
use Rattle.claim.proofs.Weights.{combined_more}

abbrev pub nothing : Scaled
nothing = record { 0 = pos 0 }

times_one : (y : ℤ) → y *ℤ pos 1 ≡ y
times_one y = omega (arith, ints)

-- the value of a fact's row at each block
value_i : (y : ℤ) (k : ℕ) → y *ℤ (pos 1 -ℤ (pos k *ℤ pos 0)) ≡ y
value_i y k = let e : pos 1 -ℤ (pos k *ℤ pos 0) ≡ pos 1 = omega (arith, ints, *ℤ-zero (pos k)) in ap (λ z. y *ℤ z) e ∙ times_one y

value_j : (y : ℤ) (k : ℕ) → y *ℤ (pos 0 -ℤ (pos k *ℤ pos 1)) ≡ neg_ℤ (y *ℤ pos k)
value_j y k = let e : pos 0 -ℤ (pos k *ℤ pos 1) ≡ neg_ℤ (pos k) = omega (arith, ints, times_one (pos k)) in ap (λ z. y *ℤ z) e ∙ *ℤ-negℤ y (pos k)

value_other : (y : ℤ) (k : ℕ) → y *ℤ (pos 0 -ℤ (pos k *ℤ pos 0)) ≡ pos 0
value_other y k = let e : pos 0 -ℤ (pos k *ℤ pos 0) ≡ pos 0 = omega (arith, ints, *ℤ-zero (pos k)) in ap (λ z. y *ℤ z) e ∙ *ℤ-zero y

abbrev value : ℤ → ℕ → Bool → Bool → ℤ
value y k s t = y *ℤ (one_if s -ℤ (pos k *ℤ one_if t))

pub fact_added : (t : List Scaled) (f : Fact) (y : ℤ) (a s : Scaled) → length t ≡ 128 → f.i < 128 → f.j < 128 → f.i ≢ f.j
    → a.0 ≡ (get_or t f.i nothing).0 +ℤ y → s.0 ≡ (get_or (set t f.i a) f.j nothing).0 -ℤ (y *ℤ pos f.k)
    → FactAdded f y t (set (set t f.i a) f.j s)
fact_added t f y a s n p q r e g b d h = go (cases_eq b f.j) (cases_eq b f.i)
  where
    long : length (set t f.i a) ≡ 128
    long = length-set t f.i a ∙ n

    before : (k : ℕ) → k < 128 → (get_or t k nothing).0 ≡ (get_or t k d).0
    before k l = ap (λ x. x.0) (get_or_default t k nothing d (omega arith))

    go : (b ≡ f.j) ⊎ (b ≡ f.j → ⊥) → (b ≡ f.i) ⊎ (b ≡ f.i → ⊥) → (get_or (set (set t f.i a) f.j s) b d).0 ≡ (get_or t b d).0 +ℤ value y f.k (eqb f.i b) (eqb f.j b)
    go (inl u) w =
        let o : f.i ≢ b = λ x. r (x ∙ u) in
        ap (λ x. (get_or (set (set t f.i a) f.j s) x d).0) u ∙ ap (λ x. x.0) (get_or-set_same (set t f.i a) f.j s d (omega (arith, long))) ∙ g
        ∙ ap (λ x. x.0 -ℤ (y *ℤ pos f.k)) (get_or-set_other t f.i f.j a nothing (λ x. r (sym x)))
        ∙ sym (ap₂ (λ m v. m +ℤ v) (ap (λ x. (get_or t x d).0) u ∙ sym (before f.j q)) (ap₂ (value y f.k) (ne_eqb f.i b o) (eq-eqb f.j b (sym u)) ∙ value_j y f.k) ∙ omega (arith, ints))
    go (inr u) (inl w) =
        ap (λ x. x.0) (get_or-set_other (set t f.i a) f.j b s d u) ∙ ap (λ x. (get_or (set t f.i a) x d).0) w ∙ ap (λ x. x.0) (get_or-set_same t f.i a d (omega arith)) ∙ e
        ∙ sym (ap₂ (λ m v. m +ℤ v) (ap (λ x. (get_or t x d).0) w ∙ sym (before f.i p)) (ap₂ (value y f.k) (eq-eqb f.i b (sym w)) (ne_eqb f.j b (λ x. u (sym x))) ∙ value_i y f.k))
    go (inr u) (inr w) =
        ap (λ x. x.0) (get_or-set_other (set t f.i a) f.j b s d u ∙ get_or-set_other t f.i b a d w)
        ∙ sym (ap (λ v. (get_or t b d).0 +ℤ v) (ap₂ (value y f.k) (ne_eqb f.i b (λ x. w (sym x))) (ne_eqb f.j b (λ x. u (sym x))) ∙ value_other y f.k) ∙ omega (arith, ints))

near_one : (y : ℤ) (s : Bool) → Near (2 ^ 40) y → Near (2 ^ 40) (y *ℤ one_if s)
near_one y true h = near_times (2 ^ 40) 1 1 y (omega arith) h
near_one y false h = near_more (2 ^ 40 * 0) (2 ^ 40) (y *ℤ pos 0) (omega arith) (near_times (2 ^ 40) 0 0 y (omega arith) h)

near_part : (y : ℤ) (k : ℕ) (t : Bool) → k < 2 ^ 14 → Near (2 ^ 40) y → Near (2 ^ 54) (y *ℤ (pos k *ℤ one_if t))
near_part y k true l h = subst (λ z. Near (2 ^ 54) (y *ℤ z)) (sym (times_one (pos k))) (near_times (2 ^ 40) (2 ^ 14) k y (omega arith) h)
near_part y k false l h = subst (λ z. Near (2 ^ 54) (y *ℤ z)) (sym (*ℤ-zero (pos k))) (near_more (2 ^ 40 * 0) (2 ^ 54) (y *ℤ pos 0) (omega arith) (near_times (2 ^ 40) 0 0 y (omega arith) h))

times_sub : (y a b : ℤ) → y *ℤ (a -ℤ b) ≡ (y *ℤ a) -ℤ (y *ℤ b)
times_sub y a b = *ℤ-+ℤ y a (neg_ℤ b) ∙ ap (λ z. (y *ℤ a) +ℤ z) (*ℤ-negℤ y b)

near_value : (y : ℤ) (k : ℕ) (s t : Bool) → k < 2 ^ 14 → Near (2 ^ 40) y → Near (2 ^ 55) (value y k s t)
near_value y k s t l h =
    subst (Near (2 ^ 55)) (sym (times_sub y (one_if s) (pos k *ℤ one_if t)))
    (near_more (2 ^ 40 + 2 ^ 54) (2 ^ 55) ((y *ℤ one_if s) -ℤ (y *ℤ (pos k *ℤ one_if t))) (omega arith) (near_sub (2 ^ 40) (2 ^ 54) (y *ℤ one_if s) (y *ℤ (pos k *ℤ one_if t)) (near_one y s h) (near_part y k t l h)))

pub added_near : (m : ℕ) (t u : List Scaled) (f : Fact) (y : ℤ) → FactAdded f y t u → f.k < 2 ^ 14 → Near (2 ^ 40) y → AllNear m t → AllNear (m + 2 ^ 55) u
added_near m t u f y a l h n b d p =
    subst (Near (m + 2 ^ 55)) (sym (a b d p)) (near_add m (2 ^ 55) (get_or t b d).0 (value y f.k (eqb f.i b) (eqb f.j b)) (n b d p) (near_value y f.k (eqb f.i b) (eqb f.j b) l h))

-- the loop over the facts
pub no_facts : (ys : List ℤ) (fs : List Fact) → FactTable (take 0 ys) (take 0 fs) (replicate 128 nothing) × AllNear 0 (replicate 128 nothing)
no_facts ys fs = (
  λ b d h. ap (λ x. x.0) (get_or-replicate 128 b nothing d h),
  λ b d h. subst (λ x. Near 0 x.0) (sym (get_or-replicate 128 b nothing d h)) (near_zero 0),
)

pub more_facts : (ys : List ℤ) (fs : List Fact) (i : ℕ) (e : Fact) (t u : List Scaled) → i < length ys → i < length fs → FactTable (take i ys) (take i fs) t
    → FactAdded (get_or fs i e) (get_or ys i (pos 0)) t u → FactTable (take (i + 1) ys) (take (i + 1) fs) u
more_facts ys fs i e t u l m h a b d p =
    a b d p ∙ ap (λ z. z +ℤ value (get_or ys i (pos 0)) (get_or fs i e).k (eqb (get_or fs i e).i b) (eqb (get_or fs i e).j b)) (h b d p)
    ∙ sym (combined_more ys fs (λ f. one_if (eqb f.i b) -ℤ (pos f.k *ℤ one_if (eqb f.j b))) i e l m)

pub all_facts : (ys : List ℤ) (fs : List Fact) (i : ℕ) (t : List Scaled) → length ys ≤ i → length fs ≤ i → FactTable (take i ys) (take i fs) t → FactTable ys fs t
all_facts ys fs i t l m h b d p = h b d p ∙ ap₂ (λ zs gs. fact_share zs gs b) (take_all i ys l) (take_all i fs m)
