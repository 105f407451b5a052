-- The arrows from START and from an l-block by the table of blocks. Assumes nothing.
use Rattle.std.proofs.Common.{◌≡◌, ℕ, suc, ◌+◌, ◌<◌, ◌≤◌, ◌⊎◌, List, length, get_or, sym, refl, ap, ◌∙◌, subst, inl, inr, arith}
use Rattle.std.specs.List.{ContainsAt as Has}
use Rattle.std.proofs.ByRecursion.{has_get_or}
use Rattle.sheet.specs.Sheet.{Sheet, Edge, lblock, WellFormed, last_block}
use Rattle.sheet.specs.Walk.{edge}
use Rattle.sheet.specs.Conflict.{Node, START, at, END, Arrow}
use Rattle.sheet.specs.Graph.{no_edge, Table}
use Rattle.sheet.proofs.Table.{TableArrow, from_start, along, across, to_end, table_arrow, arrow_table, ends_of}

pub has_edge : (es : List Edge) (b i : ℕ) → i < length es → (get_or es i no_edge).from ≡ b → Has es (edge b (get_or es i no_edge).to)
has_edge es b i l own = subst (λ a. Has es (edge a (get_or es i no_edge).to)) own (has_get_or es i no_edge l)

module _ (S : Sheet) (wf : WellFormed S) (first size : ℕ → ℕ) (table : Table S first size) where
  pub arrow_start : Arrow S START (at (first 0))
  arrow_start = arrow_table S wf first size table (from_start refl refl)

  pub start_only : {y : Node} → Arrow S START y → y ≡ at (first 0)
  start_only {y} a = go (table_arrow S wf first size table a)
    where
      go : TableArrow S first size START y → y ≡ at (first 0)
      go (from_start p q) = q
      go (along a u la lo hi p q) = cc
      go (across a t h p q) = cc
      go (to_end p q) = cc

  -- l-block x's block, and its place there
  module _ (x b : ℕ) (l : x < length S.lblocks) (own : (lblock S x).block ≡ b) where
    pub block_in : b < S.blocks
    block_in = subst (λ a. a < S.blocks) own (table.owned x l)

    pub place : (first b ≤ x) × (x < first b + suc (size b))
    place = (table.holds b block_in).outside x l own

    -- the block that has x is b
    its_block : (a : ℕ) → a < S.blocks → first a ≤ x → x < first a + suc (size a) → a ≡ b
    its_block a la lo hi = sym ((table.holds a la).inside x lo hi) ∙ own

    pub arrow_next : x < first b + size b → Arrow S (at x) (at (suc x))
    arrow_next h = arrow_table S wf first size table (along b x block_in place.0 h refl refl)

    pub arrow_edge : x ≡ first b + size b → (t : ℕ) → Has S.edges (edge b t) → Arrow S (at x) (at (first t))
    arrow_edge e t h = arrow_table S wf first size table (across b t h (ap at e) refl)

    pub arrow_end : x ≡ first b + size b → b ≡ last_block S → Arrow S (at x) END
    arrow_end e f = arrow_table S wf first size table (to_end (ap at (e ∙ ap (λ a. first a + size a) f)) refl)

    -- and no other arrows leave x
    pub arrow_cases : {y : Node} → Arrow S (at x) y → ((x < first b + size b) × (y ≡ at (suc x)))
        ⊎ ((x ≡ first b + size b) × (((t : ℕ) × Has S.edges (edge b t) × (y ≡ at (first t))) ⊎ ((b ≡ last_block S) × (y ≡ END))))
    arrow_cases {y} a = go (table_arrow S wf first size table a)
      where
        go : TableArrow S first size (at x) y → ((x < first b + size b) × (y ≡ at (suc x)))
            ⊎ ((x ≡ first b + size b) × (((t : ℕ) × Has S.edges (edge b t) × (y ≡ at (first t))) ⊎ ((b ≡ last_block S) × (y ≡ END))))
        go (from_start p q) = let z : ◌≡◌ {A = ℕ} 0 1 = cc in absurd (omega arith)
        go (along a u la lo hi p q) =
            let e : x ≡ u = cc in
            let f = its_block a la (omega arith) (omega arith) in
            inl (subst (λ c. x < first c + size c) f (omega arith), q ∙ ap (λ v. at (suc v)) (sym e))
        go (across a t h p q) =
            let e : x ≡ first a + size a = cc in
            let f = its_block a (ends_of S wf first size table a t h).0 (omega arith) (omega arith) in
            inr (e ∙ ap (λ c. first c + size c) f, inl (t, subst (λ c. Has S.edges (edge c t)) f h, q))
        go (to_end p q) =
            let e : x ≡ first (last_block S) + size (last_block S) = cc in
            let f = its_block (last_block S) (omega (arith, wf.starts)) (omega arith) (omega arith) in
            inr (e ∙ ap (λ c. first c + size c) f, inr (sym f, q))
