-- Lists of a sheet with one more at the end. Assumes nothing.
use Rattle.std.proofs.Common.{◌≡◌, ℕ, zero, suc, ◌+◌, ◌<◌, ◌≤◌, Bool, true, false, cond, eqb, ◌≢◌, List, [], ◌∷◌, ◌++◌, map, length, get_or, filter, sym, refl, ap, ◌∙◌, ap₂, add-zero, arith}
use Rattle.std.specs.List.{AllByRecursion}
use Rattle.std.proofs.lemmas.List.{append-nil, length-map}
use Rattle.std.proofs.lemmas.List.Elements.{filter-append}
use Rattle.std.proofs.lemmas.Bool.{eq-eqb, ne_eqb, eqb-true, and_parts, and_from}
use Rattle.words.specs.Lists.{up_from, below, joined}
use Rattle.sheet.specs.Sheet.{Sheet, LBlock, Edge, lblock, no_lblock, fetches}
use Rattle.sheet.specs.ReadSheet.{same_edge}
use Rattle.sheet.specs.SheetWords.{of_block, Distinct}
use Rattle.words.proofs.Lists.{all_below}
use Rattle.words.proofs.Lists.{joined_push}

pub up_from_push : (i n : ℕ) → up_from i (suc n) ≡ up_from i n ++ ((i + n) ∷ [])
up_from_push i zero = ap (λ k. k ∷ []) (sym (add-zero i))
up_from_push i (suc n) = ap (λ r. i ∷ r) (up_from_push (suc i) n ∙ ap (λ k. up_from (suc i) n ++ (k ∷ [])) (omega arith))

pub below_push : (n : ℕ) → below (suc n) ≡ below n ++ (n ∷ [])
below_push n = up_from_push 0 n ∙ ap (λ k. below n ++ (k ∷ [])) (omega arith)

pub joined_below : {B : Type 0} (f : ℕ → List B) (n : ℕ) → joined f (below (suc n)) ≡ joined f (below n) ++ f n
joined_below f n = ap (joined f) (below_push n) ∙ joined_push f (below n) n

pub joined_same : {A B : Type 0} (f g : A → List B) (xs : List A) → AllByRecursion (λ x. f x ≡ g x) xs → joined f xs ≡ joined g xs
joined_same f g [] h = refl
joined_same f g (x ∷ xs) h = ap₂ ◌++◌ h.0 (joined_same f g xs h.1)

pub distinct_push : {A : Type 0} (xs : List A) (x : A) → Distinct xs → AllByRecursion (λ y. y ≢ x) xs → Distinct (xs ++ (x ∷ []))
distinct_push [] x d h = (tt, tt)
distinct_push (y ∷ ys) x d h = (more ys d.0, distinct_push ys x d.1 h.1)
  where
    more : (zs : List _) → AllByRecursion (λ z. y ≢ z) zs → AllByRecursion (λ z. y ≢ z) (zs ++ (x ∷ []))
    more [] k = (h.0, tt)
    more (z ∷ zs) k = (k.0, more zs k.1)

-- the l-blocks of a block, with one more l-block
module _ (vs : List LBlock) (v : LBlock) where
  pub of_other : (b : ℕ) → v.block ≢ b → of_block (vs ++ (v ∷ [])) b ≡ of_block vs b
  of_other b n = filter-append (λ x. eqb x.block b) vs (v ∷ []) ∙ rw (ne_eqb v.block b n) (append-nil (of_block vs b))

  pub of_same : (b : ℕ) → v.block ≡ b → of_block (vs ++ (v ∷ [])) b ≡ of_block vs b ++ (v ∷ [])
  of_same b e = filter-append (λ x. eqb x.block b) vs (v ∷ []) ∙ rw (eq-eqb v.block b e) refl

  pub joined_others : {B : Type 0} (f : List LBlock → List B) (n : ℕ) → n ≤ v.block
      → joined (λ b. f (of_block (vs ++ (v ∷ [])) b)) (below n) ≡ joined (λ b. f (of_block vs b)) (below n)
  joined_others f n l = joined_same _ _ (below n) (all_below (λ b. f (of_block (vs ++ (v ∷ [])) b) ≡ f (of_block vs b)) n (λ b u. ap f (of_other b (λ e. omega arith))))

-- no l-block is in a block past all
pub of_none : (vs : List LBlock) (b : ℕ) → AllByRecursion (λ v. v.block < b) vs → of_block vs b ≡ []
of_none [] b h = refl
of_none (v ∷ vs) b h = rw (ne_eqb v.block b (λ e. omega (arith, h.0))) (of_none vs b h.1)

-- edges
pub same_is : (e f : Edge) → same_edge e f ≡ true → e ≡ f
same_is e f t =
    let r = and_parts (eqb e.from f.from) (eqb e.to f.to) t in
    let p = eqb-true e.from f.from r.0 in
    let q = eqb-true e.to f.to r.1 in
    ap₂ (λ (a b : ℕ). record { from = a; to = b }) p q

pub is_same : (e f : Edge) → e ≡ f → same_edge e f ≡ true
is_same e f q = and_from _ _ (eq-eqb e.from f.from (ap (λ x. x.from) q)) (eq-eqb e.to f.to (ap (λ x. x.to) q))

-- the numbers of a block's l-blocks are as many
kept_map : {A B : Type 0} (p : B → Bool) (f : A → B) (xs : List A) → filter p (map f xs) ≡ map f (filter (λ x. p (f x)) xs)
kept_map p f [] = refl
kept_map p f (x ∷ xs) = go (p (f x)) (kept_map p f xs)
  where
    go : (b : Bool) → filter p (map f xs) ≡ map f (filter (λ x. p (f x)) xs)
        → cond b (f x ∷ filter p (map f xs)) (filter p (map f xs)) ≡ map f (cond b (x ∷ filter (λ x. p (f x)) xs) (filter (λ x. p (f x)) xs))
    go true e = ap (λ z. f x ∷ z) e
    go false e = e

map-up : {A : Type 0} (f g : ℕ → A) (i j n : ℕ) → ((k : ℕ) → f (i + k) ≡ g (j + k)) → map f (up_from i n) ≡ map g (up_from j n)
map-up f g i j zero h = refl
map-up f g i j (suc n) h =
    ap₂ ◌∷◌ (ap f (sym (add-zero i)) ∙ h 0 ∙ ap g (add-zero j))
    (map-up f g (suc i) (suc j) n (λ k. ap f (omega arith) ∙ h (suc k) ∙ ap g (omega arith)))

all_elements : {A : Type 0} (xs : List A) (d : A) → map (λ k. get_or xs k d) (below (length xs)) ≡ xs
all_elements [] d = refl
all_elements (x ∷ xs) d =
    ap (λ z. x ∷ z) (map-up (λ k. get_or (x ∷ xs) k d) (λ k. get_or xs k d) 1 0 (length xs) (λ k. let p : 1 + k ≡ suc k = omega arith in let q : k ≡ 0 + k = omega arith in ap (λ m. get_or (x ∷ xs) m d) p ∙ ap (λ m. get_or xs m d) q) ∙ all_elements xs d)

pub fetches_length : (S : Sheet) (b : ℕ) → length (fetches S b) ≡ length (of_block S.lblocks b)
fetches_length S b =
    sym (length-map (fetches S b) (lblock S))
    ∙ ap length (sym (kept_map (λ v. eqb v.block b) (lblock S) (below (length S.lblocks))))
    ∙ ap (λ z. length (of_block z b)) (all_elements S.lblocks no_lblock)
