-- A table of blocks: where each block's l-blocks begin, and how many there are. What it says of fetches and arrows. Assumes nothing.
use Rattle.std.proofs.Common.{◌≡◌, ℕ, zero, suc, ◌+◌, ◌-◌, ◌<◌, ◌≤◌, Bool, true, false, eqb, List, [], ◌∷◌, ◌++◌, length, filter, sym, refl, ap, ◌∙◌, ap₂, subst₂, ⊎_elim, append-nil, add-zero, suc-add, zero-add, arith, length-append}
use Rattle.std.specs.List.{ContainsAt as Has}
use Rattle.std.proofs.lemmas.List.Elements.{filter-append}
use Rattle.std.proofs.ByRecursion.{all-has}
use Rattle.std.proofs.lemmas.Bool.{eq-eqb, ne_eqb, cases_eq, cases_lt}
use Rattle.words.specs.Lists.{up_from}
use Rattle.sheet.specs.Sheet.{Sheet, lblock, fetches, WellFormed, last_block}
use Rattle.sheet.specs.Walk.{edge}
use Rattle.sheet.specs.Graph.{Holds, Table}
use Rattle.sheet.specs.Conflict.{Node, START, at, END, Arrow, starts, next, crosses, ends}

-- numbers in a row
up_from_++ : (i m n : ℕ) → up_from i (m + n) ≡ up_from i m ++ up_from (i + m) n
up_from_++ i zero n = ap₂ up_from (sym (add-zero i)) (zero-add n)
up_from_++ i (suc m) n =
    ap (up_from i) (suc-add m n) ∙ ap (λ r. i ∷ r) (up_from_++ (suc i) m n ∙ ap (λ k. up_from (suc i) m ++ up_from k n) (omega arith))

kept_none : (p : ℕ → Bool) (i n : ℕ) → ((k : ℕ) → i ≤ k → k < i + n → p k ≡ false) → filter p (up_from i n) ≡ []
kept_none p i zero h = refl
kept_none p i (suc n) h = rw (h i (omega arith) (omega arith)) (kept_none p (suc i) n (λ k l u. h k (omega arith) (omega arith)))

kept_each : (p : ℕ → Bool) (i n : ℕ) → ((k : ℕ) → i ≤ k → k < i + n → p k ≡ true) → filter p (up_from i n) ≡ up_from i n
kept_each p i zero h = refl
kept_each p i (suc n) h = rw (h i (omega arith) (omega arith)) (ap (λ r. i ∷ r) (kept_each p (suc i) n (λ k l u. h k (omega arith) (omega arith))))

pub fetches_are : (S : Sheet) (b f n : ℕ) → Holds S b f n → fetches S b ≡ up_from f n
fetches_are S b f n h =
    ap (λ k. filter own (up_from 0 k)) long
    ∙ ap (filter own) (up_from_++ 0 f (n + r) ∙ ap (λ ys. up_from 0 f ++ ys) (up_from_++ (0 + f) n r))
    ∙ filter-append own (up_from 0 f) (up_from (0 + f) n ++ up_from (0 + f + n) r)
    ∙ ap₂ ◌++◌ before (filter-append own (up_from (0 + f) n) (up_from (0 + f + n) r) ∙ ap₂ ◌++◌ during after)
    ∙ append-nil (up_from (0 + f) n) ∙ ap (λ k. up_from k n) (zero-add f)
  where
    own : ℕ → Bool
    own v = eqb (lblock S v).block b

    r : ℕ
    r = length S.lblocks - (f + n)

    long : length S.lblocks ≡ f + (n + r)
    long = let l = h.fits in omega arith

    before : filter own (up_from 0 f) ≡ []
    before = kept_none own 0 f (λ k l u. ne_eqb (lblock S k).block b (λ e. omega (arith, h.fits, h.outside k (omega (arith, h.fits)) e)))

    during : filter own (up_from (0 + f) n) ≡ up_from (0 + f) n
    during = kept_each own (0 + f) n (λ k l u. eq-eqb (lblock S k).block b (h.inside k (omega arith) (omega arith)))

    after : filter own (up_from (0 + f + n) r) ≡ []
    after = kept_none own (0 + f + n) r (λ k l u. ne_eqb (lblock S k).block b (λ e. let z = h.outside k (omega (arith, h.fits)) e in omega arith))

fetches_none : (S : Sheet) (b : ℕ) → ((v : ℕ) → v < length S.lblocks → (lblock S v).block ≡ b → ⊥) → fetches S b ≡ []
fetches_none S b h = kept_none (λ v. eqb (lblock S v).block b) 0 (length S.lblocks) (λ k l u. ne_eqb (lblock S k).block b (h k (omega arith)))

-- the first, the last and two neighbours of numbers in a row
row_first : (f n v : ℕ) (vs : List ℕ) → up_from f n ≡ v ∷ vs → (v ≡ f) × (0 < n)
row_first f zero v vs e = let z : ◌≡◌ {A = ℕ} 0 1 = cc in absurd (omega arith)
row_first f (suc n) v vs e = (cc, omega arith)

row_last : (us : List ℕ) (f n u : ℕ) → up_from f n ≡ us ++ (u ∷ []) → suc u ≡ f + n
row_last [] f zero u e = let z : ◌≡◌ {A = ℕ} 0 1 = cc in absurd (omega arith)
row_last [] f (suc zero) u e = let q : u ≡ f = cc in omega arith
row_last [] f (suc (suc n)) u e = let z : ◌≡◌ {A = ℕ} 0 1 = cc in absurd (omega arith)
row_last (y ∷ us) f zero u e = let z : ◌≡◌ {A = ℕ} 0 1 = cc in absurd (omega arith)
row_last (y ∷ us) f (suc n) u e = let q : up_from (suc f) n ≡ us ++ (u ∷ []) = cc in omega (arith, row_last us (suc f) n u q)

row_next : (us : List ℕ) (f n u v : ℕ) (vs : List ℕ) → up_from f n ≡ us ++ (u ∷ v ∷ vs) → (v ≡ suc u) × (f ≤ u) × (suc u < f + n)
row_next [] f zero u v vs e = let z : ◌≡◌ {A = ℕ} 0 1 = cc in absurd (omega arith)
row_next [] f (suc zero) u v vs e = let z : ◌≡◌ {A = ℕ} 0 1 = cc in absurd (omega arith)
row_next [] f (suc (suc n)) u v vs e = let p : u ≡ f = cc in let q : v ≡ suc f = cc in (omega arith, omega arith, omega arith)
row_next (y ∷ us) f zero u v vs e = let z : ◌≡◌ {A = ℕ} 0 1 = cc in absurd (omega arith)
row_next (y ∷ us) f (suc n) u v vs e =
    let q : up_from (suc f) n ≡ us ++ (u ∷ v ∷ vs) = cc in let r = row_next us (suc f) n u v vs q in (r.0, omega arith, omega arith)

row_split : (n f u : ℕ) → f ≤ u → suc u < f + n → (us : List ℕ) × (vs : List ℕ) × (up_from f n ≡ us ++ (u ∷ suc u ∷ vs))
row_split zero f u l h = absurd (omega arith)
row_split (suc zero) f u l h = absurd (omega arith)
row_split (suc (suc n)) f u l h = ⊎_elim
    (λ e. ([], up_from (suc (suc f)) n, ap (λ k. k ∷ suc k ∷ up_from (suc (suc f)) n) e))
    (λ d. let r = row_split (suc n) (suc f) u (omega arith) (omega arith) in (f ∷ r.0, r.1, ap (λ x. f ∷ x) r.2))
    (cases_eq f u)

row_end : (n f : ℕ) → (us : List ℕ) × (up_from f (suc n) ≡ us ++ ((f + n) ∷ []))
row_end zero f = ([], ap (λ k. k ∷ []) (sym (add-zero f)))
row_end (suc n) f = let r = row_end n (suc f) in (f ∷ r.0, ap (λ x. f ∷ x) (r.1 ∙ ap (λ k. r.0 ++ (k ∷ [])) (omega arith)))

-- the arrows, by the table; `size b` is one less than there are l-blocks, so that the last is `first b + size b`
pub data TableArrow (S : Sheet) (first size : ℕ → ℕ) (x y : Node) : Type 0 where
  from_start : x ≡ START → y ≡ at (first 0) → TableArrow S first size x y
  along : (b u : ℕ) → b < S.blocks → first b ≤ u → u < first b + size b → x ≡ at u → y ≡ at (suc u) → TableArrow S first size x y
  across : (a b : ℕ) → Has S.edges (edge a b) → x ≡ at (first a + size a) → y ≡ at (first b) → TableArrow S first size x y
  to_end : x ≡ at (first (last_block S) + size (last_block S)) → y ≡ END → TableArrow S first size x y

module _ (S : Sheet) (wf : WellFormed S) (first size : ℕ → ℕ) (table : Table S first size) where
  row : (b : ℕ) → b < S.blocks → fetches S b ≡ up_from (first b) (suc (size b))
  row b lt = fetches_are S b (first b) (suc (size b)) (table.holds b lt)

  pub ends_of : (a b : ℕ) → Has S.edges (edge a b) → (a < S.blocks) × (b < S.blocks)
  ends_of a b h = all-has (λ e. (e.from < S.blocks) × (e.to < S.blocks)) S.edges (edge a b) wf.joins_blocks h

  final : last_block S < S.blocks
  final = let h = wf.starts in omega arith

  last_of : (b u : ℕ) (us : List ℕ) → b < S.blocks → fetches S b ≡ us ++ (u ∷ []) → u ≡ first b + size b
  last_of b u us lt e = omega (arith, row_last us (first b) (suc (size b)) u (sym (row b lt) ∙ e))

  first_of : (b v : ℕ) (vs : List ℕ) → b < S.blocks → fetches S b ≡ v ∷ vs → v ≡ first b
  first_of b v vs lt e = (row_first (first b) (suc (size b)) v vs (sym (row b lt) ∙ e)).0

  -- two neighbours stand in a block that there is
  has_block : (b u v : ℕ) (us vs : List ℕ) → fetches S b ≡ us ++ (u ∷ v ∷ vs) → b < S.blocks
  has_block b u v us vs e = ⊎_elim (λ l. l)
      (λ h. let none = fetches_none S b (λ k l q. omega (arith, table.owned k l, q)) in
      absurd (omega (arith, ap length (sym none ∙ e), length-append us (u ∷ v ∷ vs)))) (cases_lt b S.blocks)

  pub table_arrow : {x y : Node} → Arrow S x y → TableArrow S first size x y
  table_arrow (starts {v = v} vs e) = from_start refl (ap at (first_of 0 v vs wf.starts e))
  table_arrow (next {u = u} {v = v} b us vs e) =
      let lt = has_block b u v us vs e in
      let r = row_next us (first b) (suc (size b)) u v vs (sym (row b lt) ∙ e) in
      along b u lt r.1 (omega arith) refl (ap at r.0)
  table_arrow (crosses {u = u} {v = v} a b us vs h e f) =
      across a b h (ap at (last_of a u us (ends_of a b h).0 e)) (ap at (first_of b v vs (ends_of a b h).1 f))
  table_arrow (ends {u = u} us e) = to_end (ap at (last_of (last_block S) u us final e)) refl

  pub arrow_table : {x y : Node} → TableArrow S first size x y → Arrow S x y
  arrow_table (from_start p q) = subst₂ (Arrow S) (sym p) (sym q) (starts (up_from (suc (first 0)) (size 0)) (row 0 wf.starts))
  arrow_table (along b u lt l h p q) =
      let r = row_split (suc (size b)) (first b) u l (omega arith) in
      subst₂ (Arrow S) (sym p) (sym q) (next b r.0 r.1 (row b lt ∙ r.2))
  arrow_table (across a b h p q) =
      let t = ends_of a b h in
      let r = row_end (size a) (first a) in
      subst₂ (Arrow S) (sym p) (sym q) (crosses a b r.0 (up_from (suc (first b)) (size b)) h (row a t.0 ∙ r.1) (row b t.1))
  arrow_table (to_end p q) =
      let r = row_end (size (last_block S)) (first (last_block S)) in
      subst₂ (Arrow S) (sym p) (sym q) (ends r.0 (row (last_block S) final ∙ r.1))
