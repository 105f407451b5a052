-- The computed list of conflict edges is the list of exactly the conflict edges. Assumes nothing.
use Rattle.std.proofs.Common.{◌≡◌, ℕ, zero, suc, ◌<◌, ◌≤◌, Bool, true, false, not, ◌&&◌, eqb, ◌⊎◌, List, [], ◌∷◌, ◌++◌, length, sym, refl, ap, ◌∙◌, subst, ap₂, subst₂, inl, inr, ⊎_elim, arith}
use Rattle.std.specs.List.{ContainsAt as Has, AllByRecursion}
use Rattle.std.proofs.lemmas.Bool.{eq-eqb, eqb-true, false≢true, and_parts, and_from, or_cases, or_left, or_right, cases_Bool, cases_eq, not_from_false, not-true, both_ways}
use Rattle.std.proofs.ByRecursion.{all-has, All-map, All-append, All-weaker, all_has_itself, kept_by_passes, has_append_left, has_append_right}
use Rattle.words.specs.Lists.{below, any}
use Rattle.sheet.specs.Sheet.{Sheet, fetches, lblock, last_block}
use Rattle.sheet.specs.Walk.{edge}
use Rattle.sheet.specs.Conflict.{Node, START, at, END, Arrow, starts, next, crosses, ends, Leads, one, more, in_set, used, used_sets, IsConflict, Precedes, from_rank, to_rank}
use Rattle.sheet.specs.ConflictList.{first_is, last_is, next_is, arrow, found, reached, conflicting, set_lblocks, members, leads_to, conflicts_from, conflicts_of, conflicts, ListsConflicts}
use Rattle.sheet.proofs.Sorted.{Sorted, sorted_at, sorted_++, sorted_kept, sorted_weaker, sorted_map, sorted_joined, sorted_below, all_joined}
use Rattle.words.proofs.Lists.{count, all_below, all_kept, all_right, any_has, any_found, any_none, has_below, has_first, has_later, has_map, has_kept, has_joined, count_grows, count_le_length, below_all, length-below}

-- the tests on lists
first_sound : (xs : List ℕ) (v : ℕ) → first_is xs v ≡ true → (vs : List ℕ) × (xs ≡ v ∷ vs)
first_sound [] v t = absurd (false≢true t)
first_sound (x ∷ xs) v t = (xs, ap (λ y. y ∷ xs) (eqb-true x v t))

first_complete : (xs : List ℕ) (v : ℕ) (vs : List ℕ) → xs ≡ v ∷ vs → first_is xs v ≡ true
first_complete xs v vs e = rw e (eq-eqb v v refl)

last_sound : (xs : List ℕ) (u : ℕ) → last_is xs u ≡ true → (us : List ℕ) × (xs ≡ us ++ (u ∷ []))
last_sound [] u t = absurd (false≢true t)
last_sound (x ∷ []) u t = ([], ap (λ y. y ∷ []) (eqb-true x u t))
last_sound (x ∷ y ∷ xs) u t = let r = last_sound (y ∷ xs) u t in (x ∷ r.0, ap (λ ys. x ∷ ys) r.1)

last_at : (us : List ℕ) (u : ℕ) → last_is (us ++ (u ∷ [])) u ≡ true
last_at [] u = eq-eqb u u refl
last_at (x ∷ []) u = eq-eqb u u refl
last_at (x ∷ y ∷ us) u = last_at (y ∷ us) u

last_complete : (xs : List ℕ) (u : ℕ) (us : List ℕ) → xs ≡ us ++ (u ∷ []) → last_is xs u ≡ true
last_complete xs u us e = rw e (last_at us u)

next_sound : (xs : List ℕ) (u v : ℕ) → next_is xs u v ≡ true → (us : List ℕ) × (vs : List ℕ) × (xs ≡ us ++ (u ∷ v ∷ vs))
next_sound [] u v t = absurd (false≢true t)
next_sound (x ∷ []) u v t = absurd (false≢true t)
next_sound (x ∷ y ∷ xs) u v t = ⊎_elim
    (λ h. let p = and_parts (eqb x u) (eqb y v) h in ([], xs, ap₂ (λ a b. a ∷ b ∷ xs) (eqb-true x u p.0) (eqb-true y v p.1)))
    (λ h. let r = next_sound (y ∷ xs) u v h in (x ∷ r.0, r.1, ap (λ ys. x ∷ ys) r.2))
    (or_cases (eqb x u && eqb y v) (next_is (y ∷ xs) u v) t)

next_at : (us : List ℕ) (u v : ℕ) (vs : List ℕ) → next_is (us ++ (u ∷ v ∷ vs)) u v ≡ true
next_at [] u v vs = or_left _ (next_is (v ∷ vs) u v) (and_from (eqb u u) (eqb v v) (eq-eqb u u refl) (eq-eqb v v refl))
next_at (x ∷ []) u v vs = or_right (eqb x u && eqb u v) _ (next_at [] u v vs)
next_at (x ∷ y ∷ us) u v vs = or_right (eqb x u && eqb y v) _ (next_at (y ∷ us) u v vs)

next_complete : (xs : List ℕ) (u v : ℕ) (us vs : List ℕ) → xs ≡ us ++ (u ∷ v ∷ vs) → next_is xs u v ≡ true
next_complete xs u v us vs e = rw e (next_at us u v vs)

module _ (S : Sheet) where
  -- what a block fetches is of that block
  own : (b : ℕ) → AllByRecursion (λ v. ((lblock S v).block ≡ b) × (v < length S.lblocks)) (fetches S b)
  own b = all_kept (λ v. v < length S.lblocks) _ (λ v. eqb (lblock S v).block b) (λ v l t. (eqb-true (lblock S v).block b t, l))
      (below (length S.lblocks)) (all_below (λ v. v < length S.lblocks) (length S.lblocks) (λ k h. h))

  own_at : (b u : ℕ) (us vs : List ℕ) → fetches S b ≡ us ++ (u ∷ vs) → ((lblock S u).block ≡ b) × (u < length S.lblocks)
  own_at b u us vs e = (all_right (λ v. ((lblock S v).block ≡ b) × (v < length S.lblocks)) us (u ∷ vs) (subst (AllByRecursion _) e (own b))).0

  arrow_sound : (x y : Node) → arrow S x y ≡ true → Arrow S x y
  arrow_sound START START t = absurd (false≢true t)
  arrow_sound START (at v) t = let r = first_sound (fetches S 0) v t in starts r.0 r.1
  arrow_sound START END t = absurd (false≢true t)
  arrow_sound (at u) START t = absurd (false≢true t)
  arrow_sound (at u) (at v) t = ⊎_elim
      (λ h. let r = next_sound (fetches S (lblock S u).block) u v h in next (lblock S u).block r.0 r.1 r.2)
      (λ h. let r = any_found (λ e. last_is (fetches S e.from) u && first_is (fetches S e.to) v) S.edges h in
      let p = and_parts (last_is (fetches S r.0.from) u) (first_is (fetches S r.0.to) v) r.2 in
      let a = last_sound (fetches S r.0.from) u p.0 in
      let b = first_sound (fetches S r.0.to) v p.1 in
      crosses r.0.from r.0.to a.0 b.0 r.1 a.1 b.1)
      (or_cases (next_is (fetches S (lblock S u).block) u v) _ t)
  arrow_sound (at u) END t = let r = last_sound (fetches S (last_block S)) u t in ends r.0 r.1
  arrow_sound END v t = absurd (false≢true t)

  arrow_complete : {x y : Node} → Arrow S x y → arrow S x y ≡ true
  arrow_complete (starts {v = v} vs e) = first_complete (fetches S 0) v vs e
  arrow_complete (next {u = u} {v = v} b us vs e) =
      or_left _ _ (next_complete (fetches S (lblock S u).block) u v us vs (ap (fetches S) (own_at b u us (v ∷ vs) e).0 ∙ e))
  arrow_complete (crosses {u = u} {v = v} a b us vs h e f) =
      or_right (next_is (fetches S (lblock S u).block) u v) _
      (any_has (λ d. last_is (fetches S d.from) u && first_is (fetches S d.to) v) S.edges (edge a b) h
      (and_from _ _ (last_complete (fetches S a) u us e) (first_complete (fetches S b) v vs f)))
  arrow_complete (ends {u = u} us e) = last_complete (fetches S (last_block S)) u us e

  -- an arrow leaves START or an l-block, and enters an l-block or END
  pub leaves : {x y : Node} → Arrow S x y → (x ≡ START) ⊎ ((k : ℕ) × (x ≡ at k) × (k < length S.lblocks))
  leaves (starts vs e) = inl refl
  leaves (next {u = u} {v = v} b us vs e) = inr (u, refl, (own_at b u us (v ∷ vs) e).1)
  leaves (crosses {u = u} a b us vs h e f) = inr (u, refl, (own_at a u us [] e).1)
  leaves (ends {u = u} us e) = inr (u, refl, (own_at (last_block S) u us [] e).1)

  enters : {x y : Node} → Arrow S x y → (y ≡ END) ⊎ ((k : ℕ) × (y ≡ at k) × (k < length S.lblocks))
  enters (starts {v = v} vs e) = inr (v, refl, (own_at 0 v [] vs e).1)
  enters (next {u = u} {v = v} b us vs e) = inr (v, refl, (all_right (λ v. ((lblock S v).block ≡ b) × (v < length S.lblocks)) us (u ∷ v ∷ vs) (subst (AllByRecursion _) e (own b))).1.0.1)
  enters (crosses {v = v} a b us vs h e f) = inr (v, refl, (own_at b v [] vs f).1)
  enters (ends us e) = inl refl

  module _ (s : ℕ) where
    pub reaches : {u v : Node} → Leads S s u v → (v ≡ END) ⊎ ((k : ℕ) × (v ≡ at k) × (k < length S.lblocks))
    reaches (one a) = enters a
    reaches (more l n a) = enters a

    departs : {u v : Node} → Leads S s u v → (u ≡ START) ⊎ ((k : ℕ) × (u ≡ at k) × (k < length S.lblocks))
    departs (one a) = leaves a
    departs (more l n a) = departs l

    module _ (u : Node) where
      abbrev L : ℕ
      L = length S.lblocks

      -- at most n + 1 arrows lead to v
      abbrev leads : ℕ → Node → Bool
      leads n v = found S s u (reached S s u n) v

      found_sound : (xs : List ℕ) → AllByRecursion (λ x. Leads S s u (at x)) xs → (v : Node) → found S s u xs v ≡ true → Leads S s u v
      found_sound xs h v t = ⊎_elim (λ a. one (arrow_sound u v a))
          (λ f. let r = any_found (λ x. not (in_set S s (at x)) && arrow S (at x) v) xs f in
          let q = and_parts (not (in_set S s (at r.0))) (arrow S (at r.0) v) r.2 in
          more (all-has (λ x. Leads S s u (at x)) xs r.0 h r.1) (not-true (in_set S s (at r.0)) q.0) (arrow_sound (at r.0) v q.1))
          (or_cases (arrow S u v) _ t)

      reached_sound : (n : ℕ) → AllByRecursion (λ x. Leads S s u (at x)) (reached S s u n)
      reached_sound zero = tt
      reached_sound (suc n) =
          all_kept (λ v. Unit {0}) (λ x. Leads S s u (at x)) (λ v. found S s u (reached S s u n) (at v))
          (λ v h t. found_sound (reached S s u n) (reached_sound n) (at v) t) (below L) (all_below (λ v. Unit {0}) L (λ k h. tt))

      pub leads_sound : (n : ℕ) (v : Node) → leads n v ≡ true → Leads S s u v
      leads_sound n v t = found_sound (reached S s u n) (reached_sound n) v t

      -- one arrow more
      leads_one : (n : ℕ) (v : Node) → arrow S u v ≡ true → leads n v ≡ true
      leads_one n v t = or_left (arrow S u v) _ t

      leads_more : (n k : ℕ) (v : Node) → k < L → leads n (at k) ≡ true → in_set S s (at k) ≡ false → arrow S (at k) v ≡ true → leads (suc n) v ≡ true
      leads_more n k v lt t out a =
          or_right (arrow S u v) _
          (any_has (λ x. not (in_set S s (at x)) && arrow S (at x) v) (reached S s u (suc n)) k
          (has_kept (λ v. found S s u (reached S s u n) (at v)) (below L) k (has_below L k lt) t)
          (and_from _ _ (not_from_false _ out) a))

      leads_next : (n : ℕ) (v : Node) → leads n v ≡ true → leads (suc n) v ≡ true
      leads_next zero v t = ⊎_elim (leads_one 1 v) (λ f. absurd (false≢true f)) (or_cases (arrow S u v) false t)
      leads_next (suc n) v t = ⊎_elim (leads_one (suc (suc n)) v)
          (λ f. let r = any_found (λ x. not (in_set S s (at x)) && arrow S (at x) v) (reached S s u (suc n)) f in
          let q = and_parts (not (in_set S s (at r.0))) (arrow S (at r.0) v) r.2 in
          let k = all-has (λ x. (x < L) × (leads n (at x) ≡ true)) (reached S s u (suc n)) r.0
          (all_kept (λ x. x < L) _ (λ v. found S s u (reached S s u n) (at v)) (λ x l t. (l, t)) (below L) (all_below (λ x. x < L) L (λ k h. h))) r.1 in
          leads_more (suc n) r.0 v k.0 (leads_next n (at r.0) k.1) (not-true (in_set S s (at r.0)) q.0) q.1)
          (or_cases (arrow S u v) _ t)

      leads_up : (m n : ℕ) (v : Node) → n ≤ m → leads n v ≡ true → leads m v ≡ true
      leads_up zero n v l t = let e : n ≡ 0 = omega arith in subst (λ k. leads k v ≡ true) e t
      leads_up (suc m) n v l t = ⊎_elim (λ e. subst (λ k. leads k v ≡ true) e t) (λ d. leads_next m v (leads_up m n v (omega arith) t)) (cases_eq n (suc m))

      -- one arrow more finds no l-block more
      abbrev Stable : ℕ → Type 0
      Stable n = any (λ x. leads (suc n) (at x) && not (leads n (at x))) (below L) ≡ false

      stable_at : (n k : ℕ) → Stable n → k < L → leads (suc n) (at k) ≡ true → leads n (at k) ≡ true
      stable_at n k st lt t = ⊎_elim (λ y. y)
          (λ f. absurd (both_ways _ (below_all (λ x. (leads (suc n) (at x) && not (leads n (at x))) ≡ false) L (any_none _ (below L) st) k lt)
          (and_from _ _ t (not_from_false _ f))))
          (cases_Bool (leads n (at k)))

      closed : (n : ℕ) → Stable n → {v : Node} → Leads S s u v → leads (suc n) v ≡ true
      closed n st {v} (one a) = leads_one (suc n) v (arrow_complete a)
      closed n st {v} (more {x = x} l out a) = ⊎_elim end (inside (closed n st l)) (reaches l)
        where
          end : x ≡ END → leads (suc n) v ≡ true
          end e = ⊎_elim (λ f. cc) (λ f. let g = f.1 in cc) (leaves a)

          inside : leads (suc n) x ≡ true → (k : ℕ) × (x ≡ at k) × (k < L) → leads (suc n) v ≡ true
          inside t f =
              let k = f.0 in let e = f.1 in
              leads_more n k v f.2 (stable_at n k st f.2 (subst (λ y. leads (suc n) y ≡ true) e t))
              (subst (λ y. in_set S s y ≡ false) e out) (subst (λ y. arrow S y v ≡ true) e (arrow_complete a))

      stabilises : (n : ℕ) → ((k : ℕ) × (k < n) × Stable k) ⊎ (n ≤ count (λ x. leads n (at x)) (below L))
      stabilises zero = inr (omega arith)
      stabilises (suc n) = go (stabilises n) (any (λ x. leads (suc n) (at x) && not (leads n (at x))) (below L)) refl
        where
          grows : (count (λ x. leads n (at x)) (below L) ≤ count (λ x. leads (suc n) (at x)) (below L))
              × (any (λ x. leads (suc n) (at x) && not (leads n (at x))) (below L) ≡ true
              → suc (count (λ x. leads n (at x)) (below L)) ≤ count (λ x. leads (suc n) (at x)) (below L))
          grows = count_grows (λ x. leads n (at x)) (λ x. leads (suc n) (at x)) (below L) (λ x t. leads_next n (at x) t)

          go : ((k : ℕ) × (k < n) × Stable k) ⊎ (n ≤ count (λ x. leads n (at x)) (below L))
              → (b : Bool) → any (λ x. leads (suc n) (at x) && not (leads n (at x))) (below L) ≡ b
              → ((k : ℕ) × (k < suc n) × Stable k) ⊎ (suc n ≤ count (λ x. leads (suc n) (at x)) (below L))
          go (inl r) b e = let l = r.1 in inl (r.0, omega arith, r.2)
          go (inr h) true e = inr (omega (arith, grows.1 e))
          go (inr h) false e = inl (n, omega arith, e)

      pub conflicting_complete : {v : Node} → Leads S s u v → conflicting S s u v ≡ true
      conflicting_complete {v} h = ⊎_elim
          (λ r. let l = r.1 in leads_up (suc L) (suc r.0) v (omega arith) (closed r.0 r.2 h))
          (λ l. absurd (omega (arith, count_le_length (λ x. leads (suc L) (at x)) (below L), length-below L)))
          (stabilises (suc L))

  -- the list
  module _ (s : ℕ) where
    members_in : AllByRecursion (λ u. in_set S s u ≡ true) (members S s)
    members_in = All-map (λ u. in_set S s u ≡ true) at (set_lblocks S s) (kept_by_passes (λ v. in_set S s (at v)) (below (length S.lblocks)))

    has_member : (k : ℕ) → k < length S.lblocks → in_set S s (at k) ≡ true → Has (members S s) (at k)
    has_member k lt t =
        has_map at (set_lblocks S s) k
        (has_kept (λ v. in_set S s (at v)) (below (length S.lblocks)) k (has_below (length S.lblocks) k lt) t)

    abbrev Source : Node → Type 0
    Source u = (u ≡ START) ⊎ (in_set S s u ≡ true)

    abbrev Target : Node → Type 0
    Target v = (v ≡ END) ⊎ (in_set S s v ≡ true)

    sources : AllByRecursion Source (START ∷ members S s)
    sources = (inl refl, All-weaker (λ u. in_set S s u ≡ true) Source (λ u t. inr t) (members S s) members_in)

    targets : AllByRecursion Target (members S s ++ (END ∷ []))
    targets = All-append Target (members S s) (END ∷ []) (All-weaker (λ u. in_set S s u ≡ true) Target (λ u t. inr t) (members S s) members_in) (inl refl, tt)

    sound_of : Has (used_sets S) s → AllByRecursion (IsConflict S) (conflicts_of S s)
    sound_of used =
        all_joined (IsConflict S) (conflicts_from S s) (START ∷ members S s)
        (All-weaker Source _ (λ u l. All-map (IsConflict S) (λ v. record { set = s; from = u; to = v }) (leads_to S s u)
        (all_kept Target _ (conflicting S s u)
        (λ v r t. record { of_used = used; leaves = l; reaches = r; leads = leads_sound s u (suc (length S.lblocks)) v t })
        (members S s ++ (END ∷ [])) targets)) (START ∷ members S s) sources)

    has_source : (u v : Node) → Source u → Leads S s u v → Has (START ∷ members S s) u
    has_source u v l p = ⊎_elim start (λ t. ⊎_elim start (λ f. let e = f.1 in
        subst (Has (START ∷ members S s)) (sym e) (has_later START (at f.0) (members S s) (has_member f.0 f.2 (subst (λ y. in_set S s y ≡ true) e t)))) (departs s p)) l
      where
        start : u ≡ START → Has (START ∷ members S s) u
        start e = subst (Has (START ∷ members S s)) (sym e) (has_first START (members S s))

    has_target : (u v : Node) → Target v → Leads S s u v → Has (members S s ++ (END ∷ [])) v
    has_target u v l p = ⊎_elim end (λ t. ⊎_elim end (λ f. let e = f.1 in
        subst (Has (members S s ++ (END ∷ []))) (sym e)
        (has_append_left (members S s) (END ∷ []) (at f.0) (has_member f.0 f.2 (subst (λ y. in_set S s y ≡ true) e t)))) (reaches s p)) l
      where
        end : v ≡ END → Has (members S s ++ (END ∷ [])) v
        end e = subst (Has (members S s ++ (END ∷ []))) (sym e) (has_append_right (members S s) (END ∷ []) END (has_first END []))

    complete_of : (u v : Node) → Source u → Target v → Leads S s u v → Has (conflicts_of S s) (record { set = s; from = u; to = v })
    complete_of u v l r p =
        has_joined (conflicts_from S s) (START ∷ members S s) u (record { set = s; from = u; to = v }) (has_source u v l p)
        (has_map (λ v. record { set = s; from = u; to = v }) (leads_to S s u) v
        (has_kept (conflicting S s u) (members S s ++ (END ∷ [])) v (has_target u v r p) (conflicting_complete s u p)))

    -- in order
    places : AllByRecursion (λ v. v < length S.lblocks) (set_lblocks S s)
    places = all_kept (λ v. v < length S.lblocks) (λ v. v < length S.lblocks) (λ v. in_set S s (at v)) (λ v l t. l) (below (length S.lblocks))
        (all_below (λ v. v < length S.lblocks) (length S.lblocks) (λ k h. h))

    sorted_places : Sorted ◌<◌ (set_lblocks S s)
    sorted_places = sorted_kept ◌<◌ (λ v. in_set S s (at v)) (below (length S.lblocks)) (sorted_below (length S.lblocks))

    sorted_sources : Sorted (λ x y. from_rank x < from_rank y) (START ∷ members S s)
    sorted_sources = (
      All-map (λ y. 0 < from_rank y) at (set_lblocks S s)
          (All-weaker _ _ (λ v l. omega arith) (set_lblocks S s) places),
      sorted_map (λ x y. from_rank x < from_rank y) at (set_lblocks S s)
          (sorted_weaker ◌<◌ _ (λ v. v < length S.lblocks) (λ x y p q l. omega arith) (set_lblocks S s) places sorted_places),
    )

    sorted_targets : Sorted (λ x y. to_rank S x < to_rank S y) (members S s ++ (END ∷ []))
    sorted_targets =
        sorted_++ (λ x y. to_rank S x < to_rank S y) (members S s) (END ∷ [])
        (sorted_map (λ x y. to_rank S x < to_rank S y) at (set_lblocks S s) sorted_places)
        (tt, tt)
        (All-map (λ x. AllByRecursion (λ y. to_rank S x < to_rank S y) (END ∷ [])) at (set_lblocks S s)
        (All-weaker _ _ (λ v l. (l, tt)) (set_lblocks S s) places))

    -- where an edge of a part of the list comes from
    every : {A : Type 0} (P : A → Type 0) → ((x : A) → P x) → (xs : List A) → AllByRecursion P xs
    every P f [] = tt
    every P f (x ∷ xs) = (f x, every P f xs)

    of_from : (u : Node) → AllByRecursion (λ c. (c.set ≡ s) × (c.from ≡ u)) (conflicts_from S s u)
    of_from u =
        All-map (λ c. (c.set ≡ s) × (c.from ≡ u)) (λ v. record { set = s; from = u; to = v }) (leads_to S s u)
        (every _ (λ v. (refl, refl)) (leads_to S s u))

    of_set : AllByRecursion (λ c. c.set ≡ s) (conflicts_of S s)
    of_set = all_joined (λ c. c.set ≡ s) (conflicts_from S s) (START ∷ members S s)
        (every _ (λ u. All-weaker _ _ (λ c h. h.0) (conflicts_from S s u) (of_from u)) (START ∷ members S s))

    sorted_from : (u : Node) → Sorted (Precedes S) (conflicts_from S s u)
    sorted_from u =
        sorted_map (Precedes S) (λ v. record { set = s; from = u; to = v }) (leads_to S s u)
        (sorted_weaker (λ x y. to_rank S x < to_rank S y) _ (λ v. Unit {0}) (λ x y p q l. inr (inr (refl, refl, l))) (leads_to S s u)
        (every _ (λ v. tt) (leads_to S s u))
        (sorted_kept (λ x y. to_rank S x < to_rank S y) (conflicting S s u) (members S s ++ (END ∷ [])) sorted_targets))

    sorted_of : Sorted (Precedes S) (conflicts_of S s)
    sorted_of =
        sorted_joined (Precedes S) (conflicts_from S s) (START ∷ members S s)
        (sorted_weaker (λ x y. from_rank x < from_rank y) _ (λ v. Unit {0})
        (λ x y p q l a i. let k = all-has (λ c. (c.set ≡ s) × (c.from ≡ x)) (conflicts_from S s x) a (of_from x) i in
        All-weaker _ _ (λ c h. inr (inl (k.0 ∙ sym h.0, subst₂ (λ f g. from_rank f < from_rank g) (sym k.1) (sym h.1) l))) (conflicts_from S s y) (of_from y))
        (START ∷ members S s) (every _ (λ v. tt) (START ∷ members S s)) sorted_sources)
        (every _ sorted_from (START ∷ members S s))

  sorted_all : Sorted (Precedes S) (conflicts S)
  sorted_all =
      sorted_joined (Precedes S) (conflicts_of S) (used_sets S)
      (sorted_weaker ◌<◌ _ (λ v. Unit {0})
      (λ x y p q l a i. let k = all-has (λ c. c.set ≡ x) (conflicts_of S x) a (of_set x) i in
      All-weaker _ _ (λ c h. inl (subst₂ ◌<◌ (sym k) (sym h) l)) (conflicts_of S y) (of_set y))
      (used_sets S) (every 0 _ (λ v. tt) (used_sets S)) (sorted_kept ◌<◌ (used S) (below S.sets) (sorted_below S.sets)))
      (every 0 _ sorted_of (used_sets S))

  sound_all : AllByRecursion (IsConflict S) (conflicts S)
  sound_all = all_joined (IsConflict S) (conflicts_of S) (used_sets S) (All-weaker _ _ (λ s h. sound_of s h) (used_sets S) (all_has_itself (used_sets S)))

pub lists_conflicts : ListsConflicts
lists_conflicts S = record {
  complete = λ c h. has_joined (conflicts_of S) (used_sets S) c.set c h.of_used (complete_of S c.set c.from c.to h.leaves h.reaches h.leads);
  sound = λ c h. all-has (IsConflict S) (conflicts S) c (sound_all S) h;
  ordered = sorted_at (Precedes S) (conflicts S) (sorted_all S);
}
