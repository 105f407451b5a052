-- A walk's fetches follow the arrows, so each of its hops is a conflict edge. Assumes nothing.
use Rattle.std.proofs.Common.{◌≡◌, ℕ, ◌<◌, true, false, ◌⊎◌, List, [], ◌∷◌, ◌++◌, sym, refl, ap, ◌∙◌, subst, inl, inr, append_assoc}
use Rattle.std.specs.List.{ContainsAt as Has, AllByRecursion}
use Rattle.std.proofs.lemmas.Bool.{ne_eqb, eq-eqb}
use Rattle.std.proofs.ByRecursion.{all-has}
use Rattle.sheet.specs.Sheet.{Sheet, lblock, fetches, last_block, WellFormed}
use Rattle.sheet.specs.Walk.{edge, steps, Ends}
use Rattle.claim.specs.Cache.{trace}
use Rattle.sheet.specs.Conflict.{Arrow, starts, next, crosses, ends, Leads, one, more, in_set, used_sets, IsConflict}
use Rattle.claim.specs.Items.{Node, START, at, END}
use Rattle.words.proofs.Lists.{first_of}
use Rattle.claim.proofs.Hops.{hops, by_set}

-- arrows from x through the l-blocks vs to END
abbrev pub Chain : Sheet → Node → List ℕ → Type 0
Chain S x [] = Arrow S x END
Chain S x (v ∷ vs) = Arrow S x (at v) × Chain S (at v) vs

-- through the rest of a block, and on from its last l-block
through : (S : Sheet) (b : ℕ) (rest : List ℕ) → ((us : List ℕ) (u : ℕ) → fetches S b ≡ us ++ (u ∷ []) → Chain S (at u) rest)
    → (vs us : List ℕ) (v : ℕ) (x : Node) → fetches S b ≡ us ++ (v ∷ vs) → Arrow S x (at v) → Chain S x (v ∷ vs ++ rest)
through S b rest on [] us v x e a = (a, on us v e)
through S b rest on (u ∷ vs) us v x e a =
    (a, through S b rest on vs (us ++ (v ∷ [])) u (at v) (e ∙ sym (append_assoc us (v ∷ []) (u ∷ vs))) (next b us vs e))

module _ (S : Sheet) (wf : WellFormed S) where
  walk_chain : (w : List ℕ) (a : ℕ) (x : Node) → a < S.blocks → AllByRecursion (Has S.edges) (steps (a ∷ w)) → Ends (last_block S) (a ∷ w)
      → ((v : ℕ) (vs : List ℕ) → fetches S a ≡ v ∷ vs → Arrow S x (at v)) → Chain S x (trace S (a ∷ w))
  walk_chain [] a x lt h e enter =
      let f = first_of (fetches S a) (wf.filled a lt) in
      subst (λ vs. Chain S x (vs ++ [])) (sym f.2)
      (through S a [] (λ us u g. ends us (ap (fetches S) (sym e) ∙ g)) f.1 [] f.0 x f.2 (enter f.0 f.1 f.2))
  walk_chain (b ∷ w) a x lt h e enter =
      let f = first_of (fetches S a) (wf.filled a lt) in
      let blt = (all-has (λ e. (e.from < S.blocks) × (e.to < S.blocks)) S.edges (edge a b) wf.joins_blocks h.0).1 in
      subst (λ vs. Chain S x (vs ++ trace S (b ∷ w))) (sym f.2)
      (through S a (trace S (b ∷ w)) (λ us u g. walk_chain w b (at u) blt h.1 e (λ v vs g'. crosses a b us vs h.0 g g'))
      f.1 [] f.0 x f.2 (enter f.0 f.1 f.2))

  pub chain : (w : List ℕ) → AllByRecursion (Has S.edges) (steps (0 ∷ w)) → Ends (last_block S) (0 ∷ w) → Chain S START (trace S (0 ∷ w))
  chain w h e = walk_chain w 0 START wf.starts h e (λ v vs g. starts vs g)

-- at x, on the way from u through no l-block of s
abbrev OnWay : Sheet → ℕ → Node → Node → Type 0
OnWay S s u x = (x ≡ u) ⊎ (Leads S s u x × (in_set S s x ≡ false))

along : (S : Sheet) (s : ℕ) (u x y : Node) → OnWay S s u x → Arrow S x y → Leads S s u y
along S s u x y (inl e) a = one (subst (λ z. Arrow S z y) e a)
along S s u x y (inr h) a = more h.0 h.1 a

module _ (S : Sheet) (s : ℕ) (used : Has (used_sets S) s) where
  pub hops_conflict : (vs : List ℕ) (u x : Node) → (u ≡ START) ⊎ (in_set S s u ≡ true) → OnWay S s u x → Chain S x vs
      → AllByRecursion (IsConflict S) (hops S s u vs)
  hops_conflict [] u x l o h = (record { of_used = used; leaves = l; reaches = inl refl; leads = along S s u x END o h }, tt)
  hops_conflict (v ∷ vs) u x l o h =
      by_set S s (AllByRecursion (IsConflict S)) u v vs
      (λ e. let t = eq-eqb (lblock S v).set s e in (
        record { of_used = used; leaves = l; reaches = inr t; leads = along S s u x (at v) o h.0 },
        hops_conflict vs (at v) (at v) (inr t) (inl refl) h.1,
      ))
      (λ n. hops_conflict vs u (at v) l (inr (along S s u x (at v) o h.0, ne_eqb (lblock S v).set s n)) h.1)

-- what holds after one arrow from u, and still after one more where it is not in the set, holds wherever the paths from u lead
pub leads_closed : (S : Sheet) (s : ℕ) (u : Node) (Q : Node → Type 0) → ((v : Node) → Arrow S u v → Q v)
    → ((x v : Node) → Q x → in_set S s x ≡ false → Arrow S x v → Q v) → (v : Node) → Leads S s u v → Q v
leads_closed S s u Q f g v (one a) = f v a
leads_closed S s u Q f g v (more {x = x} l n a) = g x v (leads_closed S s u Q f g x l) n a
