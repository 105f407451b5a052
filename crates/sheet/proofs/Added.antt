-- Conflict edges that go to the end of a list, part by part. Assumes nothing.
use Rattle.std.proofs.Common.{◌≡◌, ℕ, suc, ◌+◌, ◌-◌, ◌<◌, ◌≤◌, ◌≢◌, Ok, Err, Result, Bool, true, false, cond, List, [], ◌∷◌, ◌++◌, map, length, filter, sym, refl, ap, ◌∙◌, ap₂, arith, length-append}
use mathlib.Core.Option.{Option, none, some}
use Rattle.std.proofs.lemmas.List.{append-nil, append_assoc, map-append}
use Rattle.std.proofs.lemmas.List.Elements.{filter-append}
use Rattle.std.proofs.lemmas.Bool.{le-leb, lt-leb, cond-true, cond-false, eq-eqb, ne_eqb}
use Rattle.words.specs.Lists.{up_from, below, joined}
use Rattle.words.specs.Words.{Answer, accepted, refused, refusal, too_many_conflicts}
use Rattle.sheet.specs.Sheet.{Sheet, lblock}
use Rattle.sheet.specs.Conflict.{Node, START, at, END, in_set, used, used_sets, Conflict}
use Rattle.sheet.specs.ConflictList.{conflicting, set_lblocks, members, conflicts_from, conflicts_of, conflicts}
use Rattle.sheet.specs.ReadSheet.{passing, finished}
use Rattle.sheet.specs.Traversal.{Reached, Added, seen_edge, edge_to, edge_at, edges_from, edges_of}
use Rattle.sheet.specs.declared.traversal.reach.Reach.{Reach}
use Rattle.sheet.specs.declared.fault.SheetFault.{SheetFault}
use Rattle.sheet.specs.declared.fault.SheetFault.TheVariants.{TooManyConflicts}
use Rattle.sheet.specs.Faults.{sheet_refusal}

-- one part after another
pub added_after : (s : ℕ) (xs a b zs : List Conflict) (r : Result (Unit {0}) SheetFault) (ys : List Conflict) → zs ≡ xs ++ a → Added s zs b r ys → Added s xs (a ++ b) r ys
added_after s xs a b zs (Ok u) ys e h = h ∙ ap (λ l. l ++ b) e ∙ append_assoc xs a b
added_after s xs a b zs (Err f) ys e h = (omega (arith, ap length e, length-append xs a, length-append a b, h.0), h.1)

-- the parts f v of the numbers v below n, in order: xs with those from v on is the whole
module _ (f : ℕ → List Conflict) (n : ℕ) (whole : List Conflict) where
  rest_step : (v : ℕ) → v < n → joined f (up_from v (n - v)) ≡ f v ++ joined f (up_from (v + 1) (n - (v + 1)))
  rest_step v l =
      let e : n - v ≡ suc (n - (v + 1)) = omega arith in
      let s : suc v ≡ v + 1 = omega arith in
      ap (λ m. joined f (up_from v m)) e ∙ ap (λ k. f v ++ joined f (up_from k (n - (v + 1)))) s

  pub rest_more : (xs ys : List Conflict) (v : ℕ) → v < n → xs ++ joined f (up_from v (n - v)) ≡ whole → ys ≡ xs ++ f v → ys ++ joined f (up_from (v + 1) (n - (v + 1))) ≡ whole
  rest_more xs ys v l e h =
      ap (λ zs. zs ++ joined f (up_from (v + 1) (n - (v + 1)))) h ∙ append_assoc xs (f v) (joined f (up_from (v + 1) (n - (v + 1))))
      ∙ ap (λ zs. xs ++ zs) (sym (rest_step v l)) ∙ e

  pub rest_over : (xs first rest : List Conflict) (v : ℕ) → v < n → xs ++ joined f (up_from v (n - v)) ≡ whole → whole ≡ first ++ rest
      → 4096 < length xs + length (f v) → 4096 < length first + length rest
  rest_over xs first rest v l e w h =
      omega (arith, ap length e, ap length w, length-append first rest, length-append xs (joined f (up_from v (n - v))), ap length (rest_step v l), length-append (f v) (joined f (up_from (v + 1) (n - (v + 1)))))

  pub rest_all : (xs : List Conflict) (v : ℕ) → n ≤ v → xs ++ joined f (up_from v (n - v)) ≡ whole → xs ≡ whole
  rest_all xs v l e =
      let z : n - v ≡ 0 = omega arith in
      sym (append-nil xs) ∙ ap (λ m. xs ++ joined f (up_from v m)) (sym z) ∙ e

-- the parts of the lists of conflict edges
joined_kept : {A B : Type 0} (p : A → Bool) (h : A → List B) (xs : List A) → joined h (filter p xs) ≡ joined (λ x. cond (p x) (h x) []) xs
joined_kept p h [] = refl
joined_kept p h (x ∷ xs) = go (p x) ∙ ap (λ ys. cond (p x) (h x) [] ++ ys) (joined_kept p h xs)
  where
    go : (b : Bool) → joined h (cond b (x ∷ filter p xs) (filter p xs)) ≡ cond b (h x) [] ++ joined h (filter p xs)
    go true = refl
    go false = refl

joined_map : {A B C : Type 0} (g : A → B) (h : B → List C) (xs : List A) → joined h (map g xs) ≡ joined (λ x. h (g x)) xs
joined_map g h [] = refl
joined_map g h (x ∷ xs) = ap (λ ys. h (g x) ++ ys) (joined_map g h xs)

map-kept : {A B : Type 0} (q : A → Bool) (g : A → B) (xs : List A) → map g (filter q xs) ≡ joined (λ x. cond (q x) (g x ∷ []) []) xs
map-kept q g [] = refl
map-kept q g (x ∷ xs) = go (q x) ∙ ap (λ ys. cond (q x) (g x ∷ []) [] ++ ys) (map-kept q g xs)
  where
    go : (b : Bool) → map g (cond b (x ∷ filter q xs) (filter q xs)) ≡ cond b (g x ∷ []) [] ++ map g (filter q xs)
    go true = refl
    go false = refl

module _ (S : Sheet) where
  abbrev n : ℕ
  n = length S.lblocks

  pub from_parts : (s : ℕ) (u : Node) → joined (edge_at S s u) (below n) ++ edge_to S s u END ≡ conflicts_from S s u
  from_parts s u = sym (
      ap (map to) (filter-append (conflicting S s u) (members S s) (END ∷ []))
      ∙ map-append to (filter (conflicting S s u) (members S s)) (filter (conflicting S s u) (END ∷ []))
      ∙ ap₂ ◌++◌
      (map-kept (conflicting S s u) to (members S s) ∙ joined_map at (edge_to S s u) (set_lblocks S s) ∙ joined_kept (λ v. in_set S s (at v)) (λ v. edge_to S s u (at v)) (below n))
      (map-kept (conflicting S s u) to (END ∷ []) ∙ append-nil (edge_to S s u END)))
    where
      to : Node → Conflict
      to v = record { set = s; from = u; to = v }

  pub of_parts : (s : ℕ) → conflicts_from S s START ++ joined (edges_from S s) (below n) ≡ conflicts_of S s
  of_parts s = ap (λ ys. conflicts_from S s START ++ ys)
      (sym (joined_map at (conflicts_from S s) (set_lblocks S s) ∙ joined_kept (λ v. in_set S s (at v)) (λ v. conflicts_from S s (at v)) (below n)))

  pub all_parts : joined (edges_of S) (below S.sets) ≡ conflicts S
  all_parts = sym (joined_kept (used S) (conflicts_of S) (below S.sets))

  -- what a traversal that is done tells of a node
  pub seen_to : (r : Reach) → Reached S r.source r → (v : Node) → seen_edge r v ≡ edge_to S r.source.set r.source.from v
  seen_to r h v = ap (λ b. cond b (record { set = r.source.set; from = r.source.from; to = v } ∷ []) []) (h.found v)

  pub seen_at : (r : Reach) → Reached S r.source r → (k : ℕ) → (lblock S k).set ≡ r.source.set → seen_edge r (at k) ≡ edge_at S r.source.set r.source.from k
  seen_at r h k own = seen_to r h (at k) ∙ sym (cond-true (in_set S r.source.set (at k)) _ [] (eq-eqb _ r.source.set own))

  pub other_at : (s k : ℕ) (u : Node) → (lblock S k).set ≢ s → edge_at S s u k ≡ []
  other_at s k u other = cond-false (in_set S s (at k)) _ [] (ne_eqb _ s other)

  -- the sets, one after another: xs are the conflict edges of those before s
  passes_on : (s m : ℕ) (ss : List ℕ) → m + length (conflicts_of S s) ≤ 4096 → passing S (s ∷ ss) m ≡ passing S ss (m + length (conflicts_of S s))
  passes_on s m ss l = ap (λ b. elim b [ true ↦ passing S ss (m + length (conflicts_of S s)) | false ↦ some s ]) (le-leb (m + length (conflicts_of S s)) 4096 l)

  passes_here : (s m : ℕ) (ss : List ℕ) → 4096 < m + length (conflicts_of S s) → passing S (s ∷ ss) m ≡ some s
  passes_here s m ss l = ap (λ b. elim b [ true ↦ passing S ss (m + length (conflicts_of S s)) | false ↦ some s ]) (lt-leb (m + length (conflicts_of S s)) 4096 l)

  abbrev left : ℕ → List ℕ
  left s = filter (used S) (up_from s (S.sets - s))

  left_step : (s : ℕ) → s < S.sets → left s ≡ cond (used S s) (s ∷ left (s + 1)) (left (s + 1))
  left_step s l =
      let e : S.sets - s ≡ suc (S.sets - (s + 1)) = omega arith in
      let i : suc s ≡ s + 1 = omega arith in
      ap (λ k. filter (used S) (up_from s k)) e ∙ ap (λ k. cond (used S s) (s ∷ filter (used S) (up_from k (S.sets - (s + 1)))) (filter (used S) (up_from k (S.sets - (s + 1))))) i

  pub passing_more : (xs ys : List Conflict) (s : ℕ) → s < S.sets → ys ≡ xs ++ edges_of S s → length ys ≤ 4096
      → passing S (left (s + 1)) (length ys) ≡ passing S (left s) (length xs)
  passing_more xs ys s l h few = go (used S s) h ∙ ap (λ ss. passing S ss (length xs)) (sym (left_step s l))
    where
      go : (b : Bool) → ys ≡ xs ++ cond b (conflicts_of S s) []
          → passing S (left (s + 1)) (length ys) ≡ passing S (cond b (s ∷ left (s + 1)) (left (s + 1))) (length xs)
      go true e =
          let k : length ys ≡ length xs + length (conflicts_of S s) = ap length e ∙ length-append xs (conflicts_of S s) in
          ap (passing S (left (s + 1))) k ∙ sym (passes_on s (length xs) (left (s + 1)) (omega (arith, few)))
      go false e = ap (λ zs. passing S (left (s + 1)) (length zs)) (e ∙ append-nil xs)

  pub passing_over : (xs : List Conflict) (s : ℕ) → s < S.sets → length xs ≤ 4096 → 4096 < length xs + length (edges_of S s) → passing S (left s) (length xs) ≡ some s
  passing_over xs s l few h = ap (λ ss. passing S ss (length xs)) (left_step s l) ∙ go (used S s) h
    where
      go : (b : Bool) → 4096 < length xs + length (cond b (conflicts_of S s) []) → passing S (cond b (s ∷ left (s + 1)) (left (s + 1))) (length xs) ≡ some s
      go true h = passes_here s (length xs) (left (s + 1)) h
      go false h = absurd (omega arith)

  pub passing_all : (xs : List Conflict) (s : ℕ) → S.sets ≤ s → passing S (left s) (length xs) ≡ none
  passing_all xs s l = let z : S.sets - s ≡ 0 = omega arith in ap (λ m. passing S (filter (used S) (up_from s m)) (length xs)) z

  -- the answer, where a set passes the limit
  pub many_found : (s : ℕ) (e : SheetFault) → passing S (used_sets S) 0 ≡ some s → e ≡ TooManyConflicts s → finished S ≡ refused (sheet_refusal e)
  many_found s e p q = rw q (ap answered p)
    where
      answered : Option ℕ → Answer Sheet
      answered o = elim o [ none ↦ accepted S | some s ↦ refused (refusal too_many_conflicts s) ]
