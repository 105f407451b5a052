-- Blocks laid end to end over the l-blocks read so far, and the table that they are once the last is whole. Assumes nothing.
use Rattle.std.proofs.Common.{◌≡◌, ℕ, suc, ◌+◌, ◌-◌, ◌<◌, ◌≤◌, ◌⊎◌, List, [], ◌∷◌, ◌++◌, length, sym, ap, ◌∙◌, inl, inr, ⊎_elim, arith}
use Rattle.std.proofs.lemmas.List.{get_or_append_left, get_or_push, length_push}
use Rattle.std.proofs.lemmas.Bool.{cases_eq}
use Rattle.sheet.specs.Sheet.{Sheet, LBlock, no_lblock}
use Rattle.sheet.specs.BlockTable.{Block, no_block, first_of, size_of, count_of, block_of, Laid, Table}

pub laid_none : Laid [] [] 0
laid_none = record {
  none = λ e. omega arith;
  filled = λ b l. absurd (omega arith);
  begun = λ b l. absurd (omega arith);
  whole = λ b l. absurd (omega arith);
  lacks = λ b e. absurd (omega arith);
  inside = λ b v l. absurd (omega arith);
  outside = λ b v l. absurd (omega arith);
  owned = λ v l. absurd (omega arith);
}

-- where an l-block is lacking there is a block
pub laid_some : (bs : List Block) (vs : List LBlock) (n : ℕ) → Laid bs vs n → 1 ≤ n → 1 ≤ length bs
laid_some bs vs n l h = ⊎_elim (λ e. absurd (omega (arith, l.none e))) (λ d. omega arith) (cases_eq (length bs) 0)

-- where nothing is lacking every block is whole
laid_fits : (bs : List Block) (vs : List LBlock) → Laid bs vs 0 → (b : ℕ) → b < length bs → first_of bs b + count_of bs b ≤ length vs
laid_fits bs vs l b lt = ⊎_elim (λ e. omega (arith, l.lacks b e)) (λ d. l.whole b (omega arith)) (cases_eq (suc b) (length bs))

-- a block more
module _ (bs : List Block) (vs : List LBlock) (p : ℕ) (l : Laid bs vs 0) (h : 1 ≤ p) where
  abbrev new_block : Block
  new_block = record { first = length vs; lblocks = p }

  abbrev more_blocks : List Block
  more_blocks = bs ++ (new_block ∷ [])

  abbrev Old : ℕ → Type 0
  Old b = (b < length bs) × (first_of more_blocks b ≡ first_of bs b) × (count_of more_blocks b ≡ count_of bs b)

  abbrev New : ℕ → Type 0
  New b = (b ≡ length bs) × (first_of more_blocks b ≡ length vs) × (count_of more_blocks b ≡ p)

  blocks_long : length more_blocks ≡ length bs + 1
  blocks_long = length_push bs new_block

  old : (b : ℕ) → b < length bs → Old b
  old b lt = let g = get_or_append_left bs (new_block ∷ []) no_block b lt in (lt, ap (λ x. x.first) g, ap (λ x. x.lblocks) g)

  new : (b : ℕ) → b ≡ length bs → New b
  new b e = let g = get_or_push bs new_block no_block b (sym e) in (e, ap (λ x. x.first) g, ap (λ x. x.lblocks) g)

  old_or_new : (b : ℕ) → b < length more_blocks → Old b ⊎ New b
  old_or_new b lt = ⊎_elim (λ e. inr (new b e)) (λ d. inl (old b (omega (arith, blocks_long)))) (cases_eq b (length bs))

  pub laid_block : Laid (bs ++ (record { first = length vs; lblocks = p } ∷ [])) vs p
  laid_block = record {
    none = λ e. omega (arith, blocks_long);
    filled = λ b lt. ⊎_elim (λ o. omega (arith, l.filled b o.0)) (λ n. omega arith) (old_or_new b lt);
    begun = λ b lt. ⊎_elim (λ o. omega (arith, l.begun b o.0)) (λ n. omega arith) (old_or_new b lt);
    whole = λ b lt. let k : b < length bs = omega (arith, blocks_long) in let o = old b k in omega (arith, laid_fits bs vs l b k);
    lacks = λ b e. let n = new b (omega (arith, blocks_long)) in omega arith;
    inside = λ b v lt u f g. ⊎_elim
        (λ o. l.inside b v o.0 u (omega arith) (omega arith))
        (λ n. absurd (omega arith)) (old_or_new b lt);
    outside = λ b v lt u e. ⊎_elim
        (λ o. let r = l.outside b v o.0 u e in (omega arith, omega arith))
        (λ n. absurd (omega (arith, l.owned v u))) (old_or_new b lt);
    owned = λ v u. omega (arith, blocks_long, l.owned v u);
  }

-- an l-block more, of the last block
module _ (bs : List Block) (vs : List LBlock) (n : ℕ) (v : LBlock) (l : Laid bs vs n)
    (h : 1 ≤ n) (some : 1 ≤ length bs) (own : v.block ≡ length bs - 1) where
  abbrev more_lblocks : List LBlock
  more_lblocks = vs ++ (v ∷ [])

  lblocks_long : length more_lblocks ≡ length vs + 1
  lblocks_long = length_push vs v

  old_lblock : (u : ℕ) → u < length vs → block_of more_lblocks u ≡ block_of vs u
  old_lblock u lt = ap (λ x. x.block) (get_or_append_left vs (v ∷ []) no_lblock u lt)

  new_lblock : (u : ℕ) → u ≡ length vs → block_of more_lblocks u ≡ length bs - 1
  new_lblock u e = ap (λ x. x.block) (get_or_push vs v no_lblock u (sym e)) ∙ own

  -- a block that ends past the l-blocks so far is the last
  is_last : (b : ℕ) → b < length bs → length vs < first_of bs b + count_of bs b → b ≡ length bs - 1
  is_last b lt u = ⊎_elim (λ e. omega arith) (λ d. absurd (omega (arith, l.whole b (omega arith)))) (cases_eq (suc b) (length bs))

  pub laid_lblock : Laid bs (vs ++ (v ∷ [])) (n - 1)
  laid_lblock = record {
    none = λ e. absurd (omega arith);
    filled = l.filled;
    begun = λ b lt. omega (arith, lblocks_long, l.begun b lt);
    whole = λ b lt. omega (arith, lblocks_long, l.whole b lt);
    lacks = λ b e. omega (arith, lblocks_long, l.lacks b e);
    inside = λ b u lt k f g. ⊎_elim
        (λ e. new_lblock u e ∙ sym (is_last b lt (omega arith)))
        (λ d. let k' : u < length vs = omega (arith, lblocks_long) in old_lblock u k' ∙ l.inside b u lt k' f g) (cases_eq u (length vs));
    outside = λ b u lt k e. ⊎_elim
        (λ q. let z = new_lblock u q in let r = l.lacks b (omega arith) in (omega (arith, l.begun b lt), omega arith))
        (λ d. let k' : u < length vs = omega (arith, lblocks_long) in l.outside b u lt k' (sym (old_lblock u k') ∙ e)) (cases_eq u (length vs));
    owned = λ u k. ⊎_elim
        (λ e. omega (arith, new_lblock u e))
        (λ d. let k' : u < length vs = omega (arith, lblocks_long) in omega (arith, old_lblock u k', l.owned u k')) (cases_eq u (length vs));
  }

-- blocks all whole are a table
pub laid_table : (S : Sheet) (bs : List Block) → Laid bs S.lblocks 0 → S.blocks ≡ length bs → Table S (first_of bs) (size_of bs)
laid_table S bs l e = record {
  holds = λ b lt. let k : b < length bs = omega arith in let f = l.filled b k in let z = laid_fits bs S.lblocks l b k in record {
    fits = omega arith;
    inside = λ v g u. l.inside b v k (omega arith) g (omega arith);
    outside = λ v u q. let r = l.outside b v k u q in (r.0, omega arith);
  };
  owned = λ v u. omega (arith, l.owned v u);
}
