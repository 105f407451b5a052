-- The misses of an l-block are no more than the hops into it from START or from another tag. Assumes nothing.
use Rattle.std.proofs.Common.{◌≡◌, ℕ, ◌<◌, ◌≤◌, Bool, true, false, cond, ◌&&◌, eqb, List, ◌∷◌, sym, refl, ap, ◌∙◌, subst, ap₂, ⊎_elim, arith}
use Rattle.std.proofs.lemmas.Bool.{cases_eq, ne_eqb, eq-eqb, and_from, both_ways, not_from_false}
use Rattle.sheet.specs.Sheet.{Sheet, lblock}
use Rattle.claim.specs.Cache.{Residence, Fetched, Costs, none, fetch}
use Rattle.claim.specs.Items.{Node, START, at, END, Conflict}
use Rattle.sheet.specs.Rows.{is_at, foreign}
use Rattle.words.proofs.Lists.{count}
use Rattle.claim.proofs.Cost.{missed}
use Rattle.claim.proofs.Hops.{hops, conflict, by_set, apart}

-- the last l-block of the set that was fetched, if any, is still resident
abbrev Resident : Sheet → Residence → ℕ → Node → Type 0
Resident S R s START = Unit {0}
Resident S R s (at u) = R s (lblock S u).tag ≡ true
Resident S R s END = ⊥

-- a tag that is not resident is another than the last one's
is_foreign : (S : Sheet) (R : Residence) (s v : ℕ) (u : Node) → Resident S R s u → R s (lblock S v).tag ≡ false → foreign S v u ≡ true
is_foreign S R s v START h n = refl
is_foreign S R s v (at u) h n =
    not_from_false _ (ne_eqb (lblock S u).tag (lblock S v).tag (λ e. both_ways _ (ap (R s) e ∙ n) h))
is_foreign S R s v END h n = absurd h

-- a fetch in another set leaves it resident
stays_resident : (S : Sheet) (R R' : Residence) (s x : ℕ) (hit : Bool) (u : Node) → ((lblock S x).set ≡ s → ⊥)
    → Fetched R (lblock S x).set (lblock S x).tag hit R' → Resident S R s u → Resident S R' s u
stays_resident S R R' s x hit START n f h = tt
stays_resident S R R' s x hit (at u) n f h = f.others s (lblock S u).tag (λ e. n (sym e)) ∙ h
stays_resident S R R' s x hit END n f h = h

module _ (S : Sheet) (s v : ℕ) (of : (lblock S v).set ≡ s) (low : s < 64) where
  abbrev Bound : List ℕ → List Conflict → Type 0
  Bound ms cs = count (eqb v) ms ≤ count (λ c. is_at v c.to && foreign S v c.from) cs

  -- one fetch in the set, of the l-block x, after u
  one_more : (R R' : Residence) (u : Node) (x : ℕ) (hit : Bool) (ms : List ℕ) (cs : List Conflict) → (lblock S x).set ≡ s
      → Fetched R (lblock S x).set (lblock S x).tag hit R' → Resident S R s u
      → Bound ms cs → Bound (cond hit ms (x ∷ ms)) (conflict s u (at x) ∷ cs)
  one_more R R' u x true ms cs e f h b = omega (arith, b)
  one_more R R' u x false ms cs e f h b = ⊎_elim same other (cases_eq v x)
    where
      same : v ≡ x → Bound (x ∷ ms) (conflict s u (at x) ∷ cs)
      same d =
          let out : R s (lblock S v).tag ≡ false = ap₂ R (sym e) (ap (λ y. (lblock S y).tag) d) ∙ sym (f.hits (subst (λ n. n < 64) (sym e) low)) in
          let t : (eqb v x && foreign S v u) ≡ true = and_from _ _ (eq-eqb v x d) (is_foreign S R s v u h out) in
          rw (t, eq-eqb v x d) (omega (arith, b))

      other : (v ≡ x → ⊥) → Bound (x ∷ ms) (conflict s u (at x) ∷ cs)
      other d = rw (ne_eqb v x d) (omega (arith, b))

  pub misses : {R R' : Residence} {vs : List ℕ} {c : ℕ} (r : Costs S R vs c R') (u : Node) → Resident S R s u
      → Bound (missed r) (hops S s u vs)
  misses none u h = omega arith
  misses (fetch {R = R} {R₁ = R₁} {v = x} {vs = vs} {hit = hit} f r) u h =
      by_set S s (λ cs. Bound (cond hit (missed r) (x ∷ missed r)) cs) u x vs
      (λ e. one_more R R₁ u x hit (missed r) _ e f h
      (misses r (at x) (ap (λ y. R₁ y (lblock S x).tag) (sym e) ∙ f.stays (subst (λ n. n < 64) (sym e) low))))
      (λ n. skip hit (missed r) _ x (apart S s v x of n) (misses r u (stays_resident S R R₁ s x hit u n f h)))
    where
      skip : (b : Bool) (ms : List ℕ) (cs : List Conflict) (x : ℕ) → eqb v x ≡ false → Bound ms cs → Bound (cond b ms (x ∷ ms)) cs
      skip true ms cs x n b = b
      skip false ms cs x n b = rw n (omega (arith, b))
