-- For code: the column of a block. Assumes nothing.
use Rattle.std.proofs.Common.{◌≡◌, ℕ, zero, suc, ◌+◌, ◌-◌, ◌*◌, ◌<◌, ◌≤◌, List, length, get_or, take, drop, ℤ, pos, sum_by, sym, refl, ap, ◌∙◌, subst, ap₂, arith}
use lib.Signed.{le_z}
use Rattle.std.proofs.Math.Seq.{drop-cons}
use Rattle.std.proofs.lemmas.List.{take-map, drop-map}
use Rattle.std.proofs.lemmas.List.Sums.{sum_by-cons}
use Rattle.words.specs.Lists.{up_from}
use Rattle.sheet.specs.Sheet.{no_lblock}
use Rattle.sheet.specs.BlockTable.{no_block, first_of, size_of, count_of, Holds}
use Rattle.sheet.specs.Drafts.{Items, sheet_of}
use Rattle.sheet.specs.Rows.{N}
use Rattle.sheet.specs.Sound.{Sound}
use Rattle.sheet.proofs.Table.{fetches_are}
use Rattle.claim.specs.Items.{Block, LBlock, Fact}
use Rattle.claim.specs.Parts.{multiplier, multipliers}
use Rattle.claim.specs.Shares.{total, Multipliers, Sized, fact_share, block_sum, covered}
use Rattle.claim.proofs.Totals.{total_block}

-- the n from f on, of the multipliers of a family and of the hits
pub total_part : (f n : ℕ) (ps : List (List ℕ)) → total (multipliers (take ((f + n) - f) (drop f ps))) ≡ total (take n (drop f (multipliers ps)))
total_part f n ps =
    let e : (f + n) - f ≡ n = omega arith in
    ap total (sym (take-map multiplier ((f + n) - f) (drop f ps)) ∙ ap₂ take e (sym (drop-map multiplier f ps)))

hits_from : (f n : ℕ) (vs : List LBlock) → f + n ≤ length vs → sum_by (λ v. v.hit) (take n (drop f vs)) ≡ sum_by (λ v. (get_or vs v no_lblock).hit) (up_from f n)
hits_from f zero vs h = refl
hits_from f (suc n) vs h =
    rw (drop-cons vs f no_lblock (omega arith))
    (sum_by-cons (λ v. v.hit) (get_or vs f no_lblock) (take n (drop (suc f) vs))
    ∙ ap (λ m. (get_or vs f no_lblock).hit + m) (hits_from (suc f) n vs (omega arith))
    ∙ sym (sum_by-cons (λ v. (get_or vs v no_lblock).hit) f (up_from (suc f) n)))

pub hits_part : (f n : ℕ) (vs : List LBlock) → f + n ≤ length vs → sum_by (λ v. v.hit) (take ((f + n) - f) (drop f vs)) ≡ sum_by (λ v. (get_or vs v no_lblock).hit) (up_from f n)
hits_part f n vs h = let e : (f + n) - f ≡ n = omega arith in ap (λ m. sum_by (λ v. v.hit) (take m (drop f vs))) e ∙ hits_from f n vs h

-- a block's l-blocks, by the table of blocks
pub block_holds : (I : Items) → Sound I → (b : ℕ) → b < length I.blocks → Holds (sheet_of I) b (first_of I.blocks b) (count_of I.blocks b)
block_holds I s b h = let f = s.filled b h in let e : suc (size_of I.blocks b) ≡ count_of I.blocks b = omega arith in subst (Holds (sheet_of I) b (first_of I.blocks b)) e (s.table.holds b h)

-- whether the column of block b is high enough, where its facts add x, its total is t and its hits cost w
pub block_test : (I : Items) → Sound I → (Y : Multipliers) → Sized (sheet_of I) Y → (d b : ℕ) → b < length I.blocks → (x t : ℤ) (w : ℕ)
    → x ≡ fact_share Y.facts I.facts b → t ≡ block_sum Y b (first_of I.blocks b) (count_of I.blocks b) x
    → w ≡ sum_by (λ v. (get_or I.lblocks v no_lblock).hit) (up_from (first_of I.blocks b) (count_of I.blocks b))
    → covered (sheet_of I) Y d (N b) ≡ le_z (pos (w * d)) t
block_test I s Y z d b h x t w e g k =
    let o = block_holds I s b h in
    ap₂ (λ m u. le_z (pos (m * d)) u) (ap (sum_by (λ v. (get_or I.lblocks v no_lblock).hit)) (fetches_are (sheet_of I) b (first_of I.blocks b) (count_of I.blocks b) o) ∙ sym k)
    (total_block (sheet_of I) Y z b (first_of I.blocks b) (count_of I.blocks b) o ∙ sym (g ∙ ap (block_sum Y b (first_of I.blocks b) (count_of I.blocks b)) e))

-- the same, where the code has the lists under other names
module _ (I : Items) (s : Sound I) (bs : List Block) (p : bs ≡ I.blocks) (b : ℕ) (h : b < length bs) where
  at_block : b < length I.blocks
  at_block = subst (λ bs. b < length bs) p h

  pub block_inside : ((get_or bs b no_block).first + (get_or bs b no_block).lblocks ≤ length I.lblocks) × ((get_or bs b no_block).lblocks ≤ 512) × (b < 128)
  block_inside =
      let f = (block_holds I s b at_block).fits in
      let e : get_or bs b no_block ≡ get_or I.blocks b no_block = ap (λ bs. get_or bs b no_block) p in
      let i : (get_or bs b no_block).first ≡ (get_or I.blocks b no_block).first = ap (λ x. x.first) e in
      let j : (get_or bs b no_block).lblocks ≡ (get_or I.blocks b no_block).lblocks = ap (λ x. x.lblocks) e in
      (omega arith, omega (arith, s.few_lblocks), omega (arith, at_block, s.few_blocks))

  pub block_seen : (Y : Multipliers) → Sized (sheet_of I) Y → (vs : List LBlock) (fs : List Fact) → vs ≡ I.lblocks → fs ≡ I.facts → (d : ℕ) (x t k : ℤ) (w : ℕ)
      → x ≡ fact_share Y.facts fs b → t ≡ block_sum Y b (get_or bs b no_block).first (get_or bs b no_block).lblocks x
      → w ≡ sum_by (λ v. (get_or vs v no_lblock).hit) (up_from (get_or bs b no_block).first (get_or bs b no_block).lblocks) → k ≡ pos (w * d)
      → covered (sheet_of I) Y d (N b) ≡ le_z k t
  block_seen Y z vs fs q r d x t k w e g m o =
      block_test I s Y z d b at_block x t w (subst (λ fs. x ≡ fact_share Y.facts fs b) r e)
      (subst (λ bs. t ≡ block_sum Y b (get_or bs b no_block).first (get_or bs b no_block).lblocks x) p g)
      (subst (λ bs. w ≡ sum_by (λ v. (get_or I.lblocks v no_lblock).hit) (up_from (get_or bs b no_block).first (get_or bs b no_block).lblocks)) p
      (subst (λ vs. w ≡ sum_by (λ v. (get_or vs v no_lblock).hit) (up_from (get_or bs b no_block).first (get_or bs b no_block).lblocks)) q m))
      ∙ ap (λ i. le_z i t) (sym o)
