-- The hops of a walk within a set: from START through its l-blocks of the set to END. Assumes nothing.
use Rattle.std.proofs.Common.{◌≡◌, ℕ, ◌+◌, Bool, true, false, cond, ◌&&◌, eqb, List, [], ◌∷◌, sym, refl, ap, ◌∙◌, arith}
use Rattle.std.proofs.lemmas.Bool.{eqb-true, eqb-false, ne_eqb, and_right}
use Rattle.sheet.specs.Sheet.{Sheet, lblock}
use Rattle.claim.specs.Items.{Node, at, END, Conflict}
use Rattle.sheet.specs.Rows.{is_at, is_start}
use Rattle.words.proofs.Lists.{count}

abbrev pub conflict : ℕ → Node → Node → Conflict
conflict s u v = record { set = s; from = u; to = v }

-- the conflict edges of set s that the fetches take, where u was the last node of the set before them
abbrev pub hops : Sheet → ℕ → Node → List ℕ → List Conflict
hops S s u [] = conflict s u END ∷ []
hops S s u (v ∷ vs) = cond (eqb (lblock S v).set s) (conflict s u (at v) ∷ hops S s (at v) vs) (hops S s u vs)

module _ (S : Sheet) (s : ℕ) where
  -- what holds after an l-block of the set, and after another
  pub by_set : (P : List Conflict → Type 0) (u : Node) (v : ℕ) (vs : List ℕ)
      → ((lblock S v).set ≡ s → P (conflict s u (at v) ∷ hops S s (at v) vs))
      → (((lblock S v).set ≡ s → ⊥) → P (hops S s u vs))
      → P (hops S s u (v ∷ vs))
  by_set P u v vs f g = go (eqb (lblock S v).set s) refl
    where
      go : (b : Bool) → eqb (lblock S v).set s ≡ b → P (cond b (conflict s u (at v) ∷ hops S s (at v) vs) (hops S s u vs))
      go true e = f (eqb-true (lblock S v).set s e)
      go false e = g (eqb-false (lblock S v).set s e)

  -- two l-blocks of which one is in the set
  pub apart : (u v : ℕ) → (lblock S u).set ≡ s → ((lblock S v).set ≡ s → ⊥) → eqb u v ≡ false
  apart u v e n = ne_eqb u v (λ d. n (ap (λ x. (lblock S x).set) (sym d) ∙ e))

  apart' : (u v : ℕ) → ((lblock S u).set ≡ s → ⊥) → (lblock S v).set ≡ s → eqb u v ≡ false
  apart' u v n e = ne_eqb u v (λ d. n (ap (λ x. (lblock S x).set) d ∙ e))

  pub arrivals : (v : ℕ) → (lblock S v).set ≡ s → (u : Node) (vs : List ℕ) → count (λ c. is_at v c.to) (hops S s u vs) ≡ count (eqb v) vs
  arrivals v e u [] = refl
  arrivals v e u (x ∷ vs) =
      by_set (λ cs. count (λ c. is_at v c.to) cs ≡ count (eqb v) (x ∷ vs)) u x vs
      (λ i. ap (λ n. cond (eqb v x) 1 0 + n) (arrivals v e (at x) vs))
      (λ n. rw (apart v x e n) (omega (arith, arrivals v e u vs)))

  pub arrivals_other : (v : ℕ) → ((lblock S v).set ≡ s → ⊥) → (u : Node) (vs : List ℕ) → count (λ c. is_at v c.to) (hops S s u vs) ≡ 0
  arrivals_other v e u [] = refl
  arrivals_other v e u (x ∷ vs) =
      by_set (λ cs. count (λ c. is_at v c.to) cs ≡ 0) u x vs
      (λ i. rw (apart' v x e i) (omega (arith, arrivals_other v e (at x) vs)))
      (λ n. arrivals_other v e u vs)

  pub departures : (v : ℕ) → (lblock S v).set ≡ s → (u : Node) (vs : List ℕ)
      → count (λ c. is_at v c.from) (hops S s u vs) ≡ cond (is_at v u) 1 0 + count (eqb v) vs
  departures v e u [] = refl
  departures v e u (x ∷ vs) =
      by_set (λ cs. count (λ c. is_at v c.from) cs ≡ cond (is_at v u) 1 0 + count (eqb v) (x ∷ vs)) u x vs
      (λ i. ap (λ n. cond (is_at v u) 1 0 + n) (departures v e (at x) vs))
      (λ n. rw (apart v x e n) (omega (arith, departures v e u vs)))

  pub departures_other : (v : ℕ) → ((lblock S v).set ≡ s → ⊥) → (u : Node) → is_at v u ≡ false → (vs : List ℕ)
      → count (λ c. is_at v c.from) (hops S s u vs) ≡ 0
  departures_other v e u f [] = rw f
  departures_other v e u f (x ∷ vs) =
      by_set (λ cs. count (λ c. is_at v c.from) cs ≡ 0) u x vs
      (λ i. rw f (omega (arith, departures_other v e (at x) (apart' v x e i) vs)))
      (λ n. departures_other v e u f vs)

  pub firsts : (z : ℕ) (u : Node) (vs : List ℕ) → count (λ c. eqb z c.set && is_start c.from) (hops S s u vs) ≡ cond (eqb z s && is_start u) 1 0
  firsts z u [] = omega arith
  firsts z u (x ∷ vs) =
      by_set (λ cs. count (λ c. eqb z c.set && is_start c.from) cs ≡ cond (eqb z s && is_start u) 1 0) u x vs
      (λ i. let h = firsts z (at x) vs ∙ ap (λ b. cond b 1 0) (and_right (eqb z s) false refl) in omega arith)
      (λ n. firsts z u vs)
