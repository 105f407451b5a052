-- The laws of judging that are not about walks. Assumes nothing.
use Rattle.std.proofs.Common.{◌≡◌, ℕ, suc, ◌-◌, ◌*◌, ◌≤◌, List, [], ◌∷◌, map, length, ℤ, pos, ◌+ℤ◌, ◌*ℤ◌, refl, ap, ◌∙◌, subst, ap₂, inl, inr, ⊎_elim, mul-le-mul_right, arith}
use Rattle.std.specs.List.{AllByRecursion}
use Rattle.std.proofs.lemmas.Int.{ints}
use Rattle.words.specs.Words.{kind, payload, same_kind, refusal, not_due, ends_early, wrong_end, out_of_limit, wrong_pairs, wrong_sign, negative_multiplier, column_too_low, claim_too_low, Answer, accepted, refused, first_failing}
use Rattle.sheet.specs.Sheet.{Sheet}
use Rattle.sheet.specs.ConflictList.{conflicts}
use Rattle.sheet.specs.Rows.{Row, Column, rows, coefficient}
use Rattle.sheet.proofs.FirstFault.{failing_one, step_refused}
use Rattle.claim.specs.Kinds.{Kind, NONE, HEAD, BLOCK, LBLOCK, COST, EDGE, LOOP, BACK, FACT, CLAIM, HIGH, LOW, START, STEP, FINISH, END, Refusal}
use Rattle.claim.specs.Certificate.{Certificate, combined}
use Rattle.claim.specs.CertificateFault.{Numbered, JudgeNumbered}
use Rattle.claim.specs.Judge.{Verdict, passed, negative, low_column, low_claim, judge}
use Rattle.claim.specs.Judging.{add_row, by_rows, RowWise, Monotone}
use Rattle.claim.specs.ReadCertificate.{Stand, State, checks, demands, next, read_from, read_certificate, start, answered}

map_same : {A B : Type 0} (f g : A → B) → ((x : A) → f x ≡ g x) → (xs : List A) → map f xs ≡ map g xs
map_same f g h [] = refl
map_same f g h (x ∷ xs) = ap₂ ◌∷◌ (h x) (map_same f g h xs)

added : (S : Sheet) (y : ℤ) (r : Row) (g : Column → ℤ) (xs : List Column) → add_row S y r xs (map g xs) ≡ map (λ x. g x +ℤ (y *ℤ coefficient S r x)) xs
added S y r g [] = refl
added S y r g (x ∷ xs) = ap (λ ts. (g x +ℤ (y *ℤ coefficient S r x)) ∷ ts) (added S y r g xs)

rows_added : (S : Sheet) (ys : List ℤ) (rs : List Row) (g : Column → ℤ) (xs : List Column) → by_rows S ys rs xs (map g xs) ≡ map (λ x. g x +ℤ combined ys rs (λ r. coefficient S r x)) xs
rows_added S [] rs g xs = map_same g (λ x. g x +ℤ pos 0) (λ x. omega (arith, ints)) xs
rows_added S (y ∷ ys) [] g xs = map_same g (λ x. g x +ℤ pos 0) (λ x. omega (arith, ints)) xs
rows_added S (y ∷ ys) (r ∷ rs) g xs =
    ap (by_rows S ys rs xs) (added S y r g xs) ∙ rows_added S ys rs (λ x. g x +ℤ (y *ℤ coefficient S r x)) xs
    ∙ map_same (λ x. (g x +ℤ (y *ℤ coefficient S r x)) +ℤ combined ys rs (λ r. coefficient S r x)) (λ x. g x +ℤ ((y *ℤ coefficient S r x) +ℤ combined ys rs (λ r. coefficient S r x))) (λ x. omega (arith, ints)) xs

pub row_wise : RowWise
row_wise S ys xs = rows_added S ys (rows S) (λ x. pos 0) xs ∙ map_same (λ x. pos 0 +ℤ combined ys (rows S) (λ r. coefficient S r x)) (λ x. combined ys (rows S) (λ r. coefficient S r x)) (λ x. omega (arith, ints)) xs

pub monotone : Monotone
monotone S cs C W h p = record {
  scaled = p.scaled;
  signed = p.signed;
  covered = p.covered;
  claimed = let m : C.W * C.D ≤ W * C.D = mul-le-mul_right C.D h in omega (arith, ints, p.claimed);
}

-- the number and the layer of each refusal
word_layer : (i : ℕ) → Numbered (refusal not_due i) × Numbered (refusal ends_early i) × Numbered (refusal wrong_end i) × Numbered (refusal out_of_limit i)
word_layer i = (
  inl (omega arith, omega arith, refl),
  inl (omega arith, omega arith, refl),
  inl (omega arith, omega arith, refl),
  inl (omega arith, omega arith, refl),
)

is_10 : (i : ℕ) → Numbered (refusal wrong_pairs i)
is_10 i = inr (omega arith, omega arith, refl)

is_11 : (i : ℕ) → Numbered (refusal wrong_sign i)
is_11 i = inr (omega arith, omega arith, refl)

checks_numbered : (d : Stand) (k : Kind) (p i : ℕ) (rest : List ℕ) → AllByRecursion (λ c. Numbered c.otherwise) (checks d k p i rest)
checks_numbered d CLAIM p i rest = ((word_layer i).3, tt)
checks_numbered d HIGH p i rest = (is_11 i, (is_11 i, tt))
checks_numbered d LOW p i rest = (is_11 (i - 1), tt)
checks_numbered d END p i rest = ((word_layer i).2, ((word_layer (suc i)).2, tt))
checks_numbered d NONE p i rest = tt
checks_numbered d HEAD p i rest = tt
checks_numbered d BLOCK p i rest = tt
checks_numbered d LBLOCK p i rest = tt
checks_numbered d COST p i rest = tt
checks_numbered d EDGE p i rest = tt
checks_numbered d LOOP p i rest = tt
checks_numbered d BACK p i rest = tt
checks_numbered d FACT p i rest = tt
checks_numbered d START p i rest = tt
checks_numbered d STEP p i rest = tt
checks_numbered d FINISH p i rest = tt

read_numbered : (ws : List ℕ) (st : State) (i : ℕ) (r : Refusal) → read_from st ws i ≡ refused r → Numbered r
read_numbered [] st i r e = let q : refusal ends_early i ≡ r = cc in subst Numbered q (word_layer i).1
read_numbered (w ∷ ws) st i r e =
    ⊎_elim (λ q. failing_one Numbered (demands st w i ws) r (is_10 i, ((word_layer i).0, checks_numbered st.stand (kind w) (payload w) i ws)) q)
    (λ x. ⊎_elim (λ y. let z : ◌≡◌ {A = ℕ} 0 1 = (let u = y.1 in cc) in absurd (omega arith)) (λ y. read_numbered ws (next st.stand st.read (kind w) (payload w)) (suc i) r y.1) x.1)
    (step_refused (first_failing (demands st w i ws)) (same_kind (kind w) END) (accepted st.read) (read_from (next st.stand st.read (kind w) (payload w)) ws (suc i)) r e)

verdict_numbered : (W : ℕ) (v : Verdict) (r : Refusal) → answered W v ≡ refused r → Numbered r
verdict_numbered W passed r e = let z : ◌≡◌ {A = ℕ} 0 1 = cc in absurd (omega arith)
verdict_numbered W (negative k) r e = let q : refusal negative_multiplier k ≡ r = cc in subst Numbered q (inr (omega arith, omega arith, refl))
verdict_numbered W (low_column k) r e = let q : refusal column_too_low k ≡ r = cc in subst Numbered q (inr (omega arith, omega arith, refl))
verdict_numbered W low_claim r e = let q : refusal claim_too_low 0 ≡ r = cc in subst Numbered q (inr (omega arith, omega arith, refl))

pub judge_numbered : JudgeNumbered
judge_numbered S ws r e = go (read_certificate (length (rows S)) ws) refl e
  where
    go : (a : Answer Certificate) → read_certificate (length (rows S)) ws ≡ a → ◌≡◌ {A = Answer ℕ} (elim a [ refused r ↦ refused r | accepted C ↦ answered C.W (judge S (conflicts S) C) ]) (refused r) → Numbered r
    go (refused q) h e = let u : q ≡ r = cc in subst Numbered u (read_numbered ws (start (length (rows S))) 0 q h)
    go (accepted C) h e = verdict_numbered C.W (judge S (conflicts S) C) r e
