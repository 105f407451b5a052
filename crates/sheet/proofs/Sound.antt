-- Every sheet that is kept is sound: each fact comes out of the truncated invariant by itself. Assumes nothing.
use Rattle.std.proofs.Common.{◌≡◌, ℕ, zero, suc, ◌+◌, ◌<◌, ◌≤◌, ◌≢◌, List, [], ◌∷◌, map, length, get_or, sym, refl, ap, ◌∙◌, subst, le_of_suc-le-suc, not-suc-le-zero, arith}
use mathlib.Core.Logic.{∥∥₁_elim}
use mathlib.Core.HLevel.{⊥_prop}
use native.Mathlib.Bridge.{le_prop}
use Rattle.std.specs.List.{AllByRecursion}
use Rattle.std.proofs.ByRecursion.{All-get_or, All-from_get_or}
use Rattle.sheet.specs.declared.parts.Loop.{Loop as Header}
use Rattle.sheet.specs.declared.parts.BackEdge.{BackEdge}
use Rattle.sheet.specs.Graph.{no_edge}
use Rattle.sheet.specs.Sheet.{LBlock, Edge, Fact, Loop, WellFormed}
use Rattle.sheet.specs.SheetWords.{Distinct, LBlockFits, EdgeFits, FactFits, LoopFits}
use Rattle.sheet.specs.BlockTable.{first_of, size_of, Table}
use Rattle.sheet.specs.Drafts.{Items, sheet_of, loop_of, loops_from}
use Rattle.sheet.specs.Kept.{Kept}
use Rattle.sheet.specs.Sound.{Sound}
use Rattle.sheet.proofs.ReadSheet.{parts_well_formed}
use Rattle.sheet.proofs.Laid.{laid_table}

pub length-loops : (bs : List BackEdge) (k : ℕ) (ls : List Header) → length (loops_from bs k ls) ≡ length ls
length-loops bs k [] = refl
length-loops bs k (l ∷ ls) = ap suc (length-loops bs (suc k) ls)

pub get_or-loops : (bs : List BackEdge) (k n : ℕ) (ls : List Header) (d : Header) (e : Loop) → n < length ls → get_or (loops_from bs k ls) n e ≡ loop_of bs (k + n) (get_or ls n d)
get_or-loops bs k n [] d e h = absurd (not-suc-le-zero h)
get_or-loops bs k zero (l ∷ ls) d e h = ap (λ m. loop_of bs m l) (omega arith)
get_or-loops bs k (suc n) (l ∷ ls) d e h = get_or-loops bs (suc k) n ls d e (le_of_suc-le-suc h) ∙ ap (λ m. loop_of bs m (get_or ls n d)) (omega arith)

-- no later loop has a header that all of them differ from
later : (bs : List BackEdge) (k : ℕ) (ls : List Header) (d : Header) (x : ℕ) → AllByRecursion (λ z. x ≢ z) (map (λ l. l.header) (loops_from bs k ls)) → (j : ℕ) → j < length ls → x ≡ (get_or ls j d).header → ⊥
later bs k [] d x a j q e = absurd (not-suc-le-zero q)
later bs k (l ∷ ls) d x a zero q e = a.0 e
later bs k (l ∷ ls) d x a (suc j) q e = later bs (suc k) ls d x a.1 j (le_of_suc-le-suc q) e

headers_apart : (bs : List BackEdge) (k : ℕ) (ls : List Header) (d : Header) → Distinct (map (λ l. l.header) (loops_from bs k ls)) → (i j : ℕ) → i < length ls → j < length ls
    → (get_or ls i d).header ≡ (get_or ls j d).header → i ≡ j
headers_apart bs k [] d h i j p q e = absurd (not-suc-le-zero p)
headers_apart bs k (l ∷ ls) d h zero zero p q e = refl
headers_apart bs k (l ∷ ls) d h zero (suc j) p q e = absurd (later bs (suc k) ls d l.header h.0 j (le_of_suc-le-suc q) e)
headers_apart bs k (l ∷ ls) d h (suc i) zero p q e = absurd (later bs (suc k) ls d l.header h.0 i (le_of_suc-le-suc p) (sym e))
headers_apart bs k (l ∷ ls) d h (suc i) (suc j) p q e = ap suc (headers_apart bs (suc k) ls d h.1 i j (le_of_suc-le-suc p) (le_of_suc-le-suc q) e)

module _ (I : Items) (t : ∥ Kept I ∥₁) where
  le : {m n : ℕ} → (Kept I → m ≤ n) → m ≤ n
  le f = ∥∥₁_elim t le_prop f

  same : {m n : ℕ} → (Kept I → m ≡ n) → m ≡ n
  same {m} {n} f =
      let a : m ≤ n = le (λ k. subst (λ x. m ≤ x) (f k) (omega arith)) in
      let b : n ≤ m = le (λ k. subst (λ x. n ≤ x) (sym (f k)) (omega arith)) in
      omega arith

  never : (Kept I → ⊥) → ⊥
  never f = ∥∥₁_elim t ⊥_prop f

  formed_of : Kept I → WellFormed (sheet_of I)
  formed_of k = parts_well_formed (sheet_of I) k.fits.parts

  table_of : Kept I → Table (sheet_of I) (first_of I.blocks) (size_of I.blocks)
  table_of k = laid_table (sheet_of I) I.blocks k.laid refl

  edge_of : (n : ℕ) (d : Edge) → n < length I.edges → Kept I → EdgeFits (length I.blocks) (get_or I.edges n d)
  edge_of n d h k = All-get_or (EdgeFits (length I.blocks)) I.edges n d h k.fits.parts.edges_fit.each

  fact_of : (n : ℕ) (d : Fact) → n < length I.facts → Kept I → FactFits (length I.blocks) (get_or I.facts n d)
  fact_of n d h k = All-get_or (FactFits (length I.blocks)) I.facts n d h k.fits.parts.facts_fit.each

  lblock_of : (n : ℕ) (d : LBlock) → n < length I.lblocks → Kept I → LBlockFits I.sets (length I.blocks) (get_or I.lblocks n d)
  lblock_of n d h k = All-get_or (LBlockFits I.sets (length I.blocks)) I.lblocks n d h k.fits.parts.blocks_fit.each

  abbrev loops : List Loop
  loops = loops_from I.backs 0 I.loops

  loop_fits : (n : ℕ) (d : Header) → n < length I.loops → Kept I → LoopFits (length I.blocks) I.edges (loop_of I.backs (0 + n) (get_or I.loops n d))
  loop_fits n d h k =
      subst (LoopFits (length I.blocks) I.edges) (get_or-loops I.backs 0 n I.loops d (loop_of I.backs 0 d) h)
      (All-get_or (LoopFits (length I.blocks) I.edges) loops n (loop_of I.backs 0 d) (subst (λ m. n < m) (sym (length-loops I.backs 0 I.loops)) h) k.fits.parts.loops_fit.each)

  pub sound : Sound I
  sound = record {
    formed = record {
      starts = le (λ k. (formed_of k).starts);
      filled = λ b h. le (λ k. (formed_of k).filled b h);
      few_sets = le (λ k. (formed_of k).few_sets);
      in_sets = λ v h. le (λ k. (formed_of k).in_sets v h);
      joins_blocks = All-from_get_or (λ e. (e.from < length I.blocks) × (e.to < length I.blocks)) I.edges no_edge (λ n h. (le (λ k. (edge_of n no_edge h k).from_block), le (λ k. (edge_of n no_edge h k).to_block)));
    };
    table = record {
      holds = λ b h. record {
        fits = le (λ k. ((table_of k).holds b h).fits);
        inside = λ v p q. same (λ k. ((table_of k).holds b h).inside v p q);
        outside = λ v p q. (le (λ k. (((table_of k).holds b h).outside v p q).0), le (λ k. (((table_of k).holds b h).outside v p q).1));
      };
      owned = λ v h. le (λ k. (table_of k).owned v h);
    };
    filled = λ b h. le (λ k. k.laid.filled b h);
    few_blocks = le (λ k. k.fits.parts.blocks_fit.few_blocks);
    few_lblocks = le (λ k. k.fits.parts.blocks_fit.few_lblocks);
    few_edges = le (λ k. k.fits.parts.edges_fit.few);
    few_loops = subst (λ n. n ≤ 32) (length-loops I.backs 0 I.loops) (le (λ k. k.fits.parts.loops_fit.few));
    few_facts = le (λ k. k.fits.parts.facts_fit.few);
    few_conflicts = le (λ k. k.fits.few_conflicts);
    lblocks_fit = λ v d h. (le (λ k. (lblock_of v d h k).hit_fits), le (λ k. (lblock_of v d h k).extra_fits));
    edges_fit = λ n d h. (le (λ k. (edge_of n d h k).from_block), le (λ k. (edge_of n d h k).to_block));
    loops_fit = λ n d h. (le (λ k. (loop_fits n d h k).header_block), le (λ k. (loop_fits n d h k).bound_fits));
    apart = λ i j d p q e. same (λ k. headers_apart I.backs 0 I.loops d k.fits.parts.loops_fit.distinct i j p q e);
    facts_fit = λ n d h. (le (λ k. (fact_of n d h k).i_block), le (λ k. (fact_of n d h k).j_block), λ e. never (λ k. (fact_of n d h k).differ e), le (λ k. (fact_of n d h k).k_fits));
  }
