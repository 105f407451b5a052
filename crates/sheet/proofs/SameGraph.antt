-- Loops and facts have no part in the conflict edges of a sheet. Assumes nothing.
use Rattle.std.proofs.Common.{◌≡◌, ℕ, zero, suc, ◌+◌, true, false, not, ◌&&◌, ◌||◌, leb, List, [], ◌∷◌, ◌++◌, map, length, filter, refl, ap, ◌∙◌, ap₂}
use mathlib.Core.Path.{fun_ext}
use mathlib.Core.Option.{some}
use Rattle.words.specs.Lists.{below, any, joined}
use Rattle.sheet.specs.Sheet.{Sheet, WellFormed}
use Rattle.sheet.specs.Conflict.{Node, START, at, END, in_set, used_sets}
use Rattle.sheet.specs.ConflictList.{arrow, found, grown, reached, conflicting, members, conflicts_from, conflicts_of, conflicts}
use Rattle.sheet.specs.ReadSheet.{passing}
use Rattle.sheet.specs.Graph.{graph, Table}

module _ (S : Sheet) where
  same_arrow : (u v : Node) → arrow (graph S) u v ≡ arrow S u v
  same_arrow START START = refl
  same_arrow START (at v) = refl
  same_arrow START END = refl
  same_arrow (at u) START = refl
  same_arrow (at u) (at v) = refl
  same_arrow (at u) END = refl
  same_arrow END v = refl

  same_found : (s : ℕ) (u : Node) (xs : List ℕ) (v : Node) → found (graph S) s u xs v ≡ found S s u xs v
  same_found s u xs v = ap₂ ◌||◌ (same_arrow u v) (ap (λ p. any p xs) (fun_ext (λ x. ap (λ t. not (in_set S s (at x)) && t) (same_arrow (at x) v))))

  same_reached : (s : ℕ) (u : Node) (n : ℕ) → reached (graph S) s u n ≡ reached S s u n
  same_reached s u zero = refl
  same_reached s u (suc n) =
      ap (grown (graph S) s u) (same_reached s u n) ∙ ap (λ p. filter p (below (length S.lblocks))) (fun_ext (λ v. same_found s u (reached S s u n) (at v)))

  same_conflicting : (s : ℕ) (u v : Node) → conflicting (graph S) s u v ≡ conflicting S s u v
  same_conflicting s u v =
      ap (λ xs. found (graph S) s u xs v) (same_reached s u (suc (length S.lblocks))) ∙ same_found s u (reached S s u (suc (length S.lblocks))) v

  same_from : (s : ℕ) (u : Node) → conflicts_from (graph S) s u ≡ conflicts_from S s u
  same_from s u = ap (λ p. map (λ v. record { set = s; from = u; to = v }) (filter p (members S s ++ (END ∷ [])))) (fun_ext (same_conflicting s u))

  same_of : (s : ℕ) → conflicts_of (graph S) s ≡ conflicts_of S s
  same_of s = ap (λ f. joined f (START ∷ members S s)) (fun_ext (same_from s))

  pub same_conflicts : conflicts (graph S) ≡ conflicts S
  same_conflicts = ap (λ f. joined f (used_sets S)) (fun_ext same_of)

  pub same_passing : (ss : List ℕ) (n : ℕ) → passing (graph S) ss n ≡ passing S ss n
  same_passing [] n = refl
  same_passing (s ∷ ss) n =
      ap (λ cs. elim (leb (n + length cs) 4096) [ true ↦ passing (graph S) ss (n + length cs) | false ↦ some s ]) (same_of s)
      ∙ ap (λ t. elim (leb (n + length (conflicts_of S s)) 4096) [ true ↦ t | false ↦ some s ]) (same_passing ss (n + length (conflicts_of S s)))

  -- and none in how it is formed
  pub graph_formed : WellFormed S → WellFormed (graph S)
  graph_formed w = record { starts = w.starts; filled = w.filled; few_sets = w.few_sets; in_sets = w.in_sets; joins_blocks = w.joins_blocks }

  pub graph_table : (first size : ℕ → ℕ) → Table S first size → Table (graph S) first size
  graph_table first size t = record {
    holds = λ b l. let h = t.holds b l in record { fits = h.fits; inside = h.inside; outside = h.outside };
    owned = t.owned;
  }
