-- Every row holds of a lawful walk's events. Assumes nothing.
use Rattle.std.proofs.Common.{◌≡◌, ℕ, ◌+◌, ◌*◌, ◌<◌, ◌≤◌, Bool, true, false, cond, ◌&&◌, eqb, List, [], ◌∷◌, ◌++◌, map, length, sym, refl, ap, ◌∙◌, ap₂, inl, arith}
use Rattle.std.specs.List.{ContainsAt as Has, AllByRecursion}
use Rattle.std.proofs.lemmas.Bool.{eq-eqb, ne_eqb, eqb-true, eqb-false}
use Rattle.std.proofs.ByRecursion.{All-append, All-map, All-weaker, all-has, all_has_itself, all_kept_by}
use Rattle.words.specs.Lists.{below}
use Rattle.sheet.specs.Sheet.{Sheet, lblock, no_lblock, fetches, last_block, WellFormed}
use Rattle.sheet.specs.Walk.{edge, steps, Lawful}
use Rattle.claim.specs.Cache.{Residence, Costs, trace}
use Rattle.sheet.specs.Conflict.{IsConflict, used, used_sets}
use Rattle.claim.specs.Items.{START, Conflict}
use Rattle.sheet.specs.Rows.{Row, in_row, out_row, loop_row, fact_row, arrival_row, departure_row, set_row, miss_row, Column, rows, at_most, right_side, is_at, is_start, foreign}
use Rattle.words.proofs.Lists.{count}
use Rattle.claim.proofs.Sums.{count_is, count_++}
use Rattle.claim.proofs.Duality.{Related}
use Rattle.words.proofs.Lists.{all_below, all_kept, count_kept, any_get_or}
use Rattle.claim.proofs.Flow.{runs_in, runs_out, fetched}
use Rattle.claim.proofs.Loops.{loop_kept}
use Rattle.claim.proofs.Cost.{missed}
use Rattle.claim.proofs.Hops.{hops, arrivals, arrivals_other, departures, departures_other, firsts}
use Rattle.claim.proofs.Misses.{misses}
use Rattle.claim.proofs.Paths.{chain, hops_conflict}
use Rattle.claim.proofs.Events.{events, left_side, in_holds, out_holds, loop_holds, fact_holds, arrival_holds, departure_holds, set_holds, miss_holds}

-- the hops in each set of a list
abbrev pub all_hops : Sheet → List ℕ → List ℕ → List Conflict
all_hops S [] vs = []
all_hops S (s ∷ ss) vs = hops S s START vs ++ all_hops S ss vs

-- what only set z's hops pass
count_hops : (S : Sheet) (vs : List ℕ) (q : Conflict → Bool) (z : ℕ) → ((s : ℕ) → (z ≡ s → ⊥) → count q (hops S s START vs) ≡ 0)
    → (ss : List ℕ) → count q (all_hops S ss vs) ≡ count (eqb z) ss * count q (hops S z START vs)
count_hops S vs q z none [] = omega arith
count_hops S vs q z none (s ∷ ss) = count_++ q (hops S s START vs) (all_hops S ss vs) ∙ go (eqb z s) refl (count_hops S vs q z none ss)
  where
    go : (b : Bool) → eqb z s ≡ b → count q (all_hops S ss vs) ≡ count (eqb z) ss * count q (hops S z START vs)
        → count q (hops S s START vs) + count q (all_hops S ss vs) ≡ (cond b 1 0 + count (eqb z) ss) * count q (hops S z START vs)
    go true e r = omega (arith, r, ap (λ x. count q (hops S x START vs)) (eqb-true z s e))
    go false e r = omega (arith, r, none s (eqb-false z s e))

count_and : {A : Type 0} (p q : A → Bool) (xs : List A) → count p xs ≡ 0 → count (λ x. p x && q x) xs ≡ 0
count_and p q [] h = refl
count_and p q (x ∷ xs) h = go (p x) (q x) h (count_and p q xs (omega arith))
  where
    go : (a b : Bool) → cond a 1 0 + count p xs ≡ 0 → count (λ x. p x && q x) xs ≡ 0 → cond (a && b) 1 0 + count (λ x. p x && q x) xs ≡ 0
    go true b e r = absurd (omega arith)
    go false b e r = omega arith

module _ (S : Sheet) (wf : WellFormed S) where
  -- the set of an l-block is used once
  set_used : (v : ℕ) → v < length S.lblocks → used S (lblock S v).set ≡ true
  set_used v lt = any_get_or (λ b. eqb b.set (lblock S v).set) S.lblocks v no_lblock lt (eq-eqb (lblock S v).set (lblock S v).set refl)

  used_once : (s : ℕ) → s < S.sets → used S s ≡ true → count (eqb s) (used_sets S) ≡ 1
  used_once s lt u = count_kept (used S) s S.sets lt ∙ ap (λ b. cond b 1 0) u

  -- where things are
  pub lblocks_fetched : (w : List ℕ) → AllByRecursion (λ v. v < length S.lblocks) (trace S w)
  lblocks_fetched [] = tt
  lblocks_fetched (b ∷ w) =
      All-append (λ v. v < length S.lblocks) (fetches S b) (trace S w)
      (all_kept_by (λ v. eqb (lblock S v).block b) (λ v. v < length S.lblocks) (below (length S.lblocks))
      (all_below (λ v. v < length S.lblocks) (length S.lblocks) (λ k h. h)))
      (lblocks_fetched w)

  pub blocks_run : (a : ℕ) (w : List ℕ) → a < S.blocks → AllByRecursion (Has S.edges) (steps (a ∷ w)) → AllByRecursion (λ b. b < S.blocks) (a ∷ w)
  blocks_run a [] lt h = (lt, tt)
  blocks_run a (b ∷ w) lt h =
      (lt, blocks_run b w (all-has (λ e. (e.from < S.blocks) × (e.to < S.blocks)) S.edges (edge a b) wf.joins_blocks h.0).1 h.1)

  module _ (w : List ℕ) (law : Lawful S (0 ∷ w)) where
    abbrev pub taken : List Conflict
    taken = all_hops S (used_sets S) (trace S (0 ∷ w))

    abbrev vs : List ℕ
    vs = trace S (0 ∷ w)

    all_taken : (ss : List ℕ) → AllByRecursion (Has (used_sets S)) ss → AllByRecursion (IsConflict S) (all_hops S ss vs)
    all_taken [] h = tt
    all_taken (s ∷ ss) h =
        All-append (IsConflict S) (hops S s START vs) (all_hops S ss vs)
        (hops_conflict S s h.0 vs START START (inl refl) (inl refl) (chain S wf w law.underway.follows law.ends))
        (all_taken ss h.1)

    pub taken_conflicts : AllByRecursion (IsConflict S) taken
    taken_conflicts = all_taken (used_sets S) (all_has_itself (used_sets S))

    module _ (v : ℕ) (lt : v < length S.lblocks) where
      -- only the hops of v's set count
      only : (q : Conflict → Bool) → ((s : ℕ) → ((lblock S v).set ≡ s → ⊥) → count q (hops S s START vs) ≡ 0)
          → count q taken ≡ count q (hops S (lblock S v).set START vs)
      only q h =
          count_hops S vs q (lblock S v).set h (used_sets S)
          ∙ omega (arith, ap (λ n. n * count q (hops S (lblock S v).set START vs)) (used_once (lblock S v).set (wf.in_sets v lt) (set_used v lt)))

      pub arrive : count (eqb (lblock S v).block) (0 ∷ w) ≡ count (λ c. is_at v c.to) taken
      arrive = sym (only (λ c. is_at v c.to) (λ s n. arrivals_other S s v n START vs) ∙ arrivals S (lblock S v).set v refl START vs ∙ fetched S v lt (0 ∷ w))

      pub depart : count (eqb (lblock S v).block) (0 ∷ w) ≡ count (λ c. is_at v c.from) taken
      depart =
          sym (only (λ c. is_at v c.from) (λ s n. departures_other S s v n START refl vs)
          ∙ departures S (lblock S v).set v refl START vs ∙ omega (arith, fetched S v lt (0 ∷ w)))

      pub miss : {R R' : Residence} {c : ℕ} (r : Costs S R (trace S (0 ∷ w)) c R')
          → count (eqb v) (missed r) ≤ count (λ c. is_at v c.to && foreign S v c.from) taken
      miss r =
          omega (
            arith,
            misses S (lblock S v).set v refl (omega (arith, wf.in_sets v lt, wf.few_sets)) r START tt,
            only (λ c. is_at v c.to && foreign S v c.from)
                (λ s n. count_and (λ c. is_at v c.to) (λ c. foreign S v c.from) (hops S s START vs) (arrivals_other S s v n START vs)),
          )

    pub first : (s : ℕ) → s < S.sets → used S s ≡ true → count (λ c. eqb s c.set && is_start c.from) taken ≡ 1
    first s lt u =
        count_hops S vs (λ c. eqb s c.set && is_start c.from) s
        (λ z n. firsts S z s START vs ∙ ap (λ b. cond (b && true) 1 0) (ne_eqb s z n)) (used_sets S)
        ∙ ap₂ ◌*◌ (used_once s lt u) (firsts S s s START vs ∙ ap (λ b. cond (b && true) 1 0) (eq-eqb s s refl))

    module _ {R R' : Residence} {c : ℕ} (r : Costs S R (trace S (0 ∷ w)) c R') where
      abbrev pub happened : List Column
      happened = events (0 ∷ w) (steps (0 ∷ w)) (missed r) taken

      abbrev pub Holds : Row → Type 0
      Holds x = Related (at_most x) (left_side (0 ∷ w) (steps (0 ∷ w)) (missed r) taken S x) (right_side S x)

      abbrev L : ℕ
      L = length S.lblocks

      pub rows_hold : AllByRecursion Holds (rows S)
      rows_hold =
          All-append Holds _ (map miss_row (below L))
          (All-append Holds _ (map set_row (used_sets S))
          (All-append Holds _ (map departure_row (below L))
          (All-append Holds _ (map arrival_row (below L))
          (All-append Holds _ (map fact_row S.facts)
          (All-append Holds _ (map loop_row S.loops)
          (All-append Holds (map in_row (below S.blocks)) (map out_row (below S.blocks))
          (All-map Holds in_row (below S.blocks) (all_below (λ b. Holds (in_row b)) S.blocks
          (λ b h. in_holds (0 ∷ w) (steps (0 ∷ w)) (missed r) taken S b (runs_in b 0 w))))
          (All-map Holds out_row (below S.blocks) (all_below (λ b. Holds (out_row b)) S.blocks
          (λ b h. out_holds (0 ∷ w) (steps (0 ∷ w)) (missed r) taken S b (runs_out b (last_block S) 0 w law.ends)))))
          (All-map Holds loop_row S.loops (All-weaker _ (λ l. Holds (loop_row l))
          (λ l h. loop_holds (0 ∷ w) (steps (0 ∷ w)) (missed r) taken S l (loop_kept l (steps (0 ∷ w)) h)) S.loops law.underway.loops)))
          (All-map Holds fact_row S.facts (All-weaker _ (λ f. Holds (fact_row f))
          (λ f h. fact_holds (0 ∷ w) (steps (0 ∷ w)) (missed r) taken S f
          (omega (arith, h, count_is (eqb f.i) (0 ∷ w), ap (λ n. f.k * n) (count_is (eqb f.j) (0 ∷ w))))) S.facts law.facts)))
          (All-map Holds arrival_row (below L) (all_below (λ v. Holds (arrival_row v)) L
          (λ v h. arrival_holds (0 ∷ w) (steps (0 ∷ w)) (missed r) taken S v (arrive v h)))))
          (All-map Holds departure_row (below L) (all_below (λ v. Holds (departure_row v)) L
          (λ v h. departure_holds (0 ∷ w) (steps (0 ∷ w)) (missed r) taken S v (depart v h)))))
          (All-map Holds set_row (used_sets S) (all_kept (λ s. s < S.sets) (λ s. Holds (set_row s)) (used S)
          (λ s lt u. set_holds (0 ∷ w) (steps (0 ∷ w)) (missed r) taken S s (first s lt u)) (below S.sets) (all_below (λ s. s < S.sets) S.sets (λ k h. h)))))
          (All-map Holds miss_row (below L) (all_below (λ v. Holds (miss_row v)) L
          (λ v h. miss_holds (0 ∷ w) (steps (0 ∷ w)) (missed r) taken S v (miss v h r))))
