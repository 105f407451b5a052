-- A loop's bound, kept at each back edge, gives the loop row. Assumes nothing.
use Rattle.std.proofs.Common.{◌≡◌, ℕ, suc, ◌+◌, ◌*◌, ◌<◌, ◌≤◌, Bool, true, false, cond, not, ◌&&◌, eqb, List, [], ◌∷◌, ◌++◌, sym, refl, ap, ◌∙◌, subst, append_assoc, append-nil, add-zero, arith}
use Rattle.std.specs.List.{AllByRecursion}
use Rattle.std.proofs.lemmas.Bool.{both_ways}
use Rattle.words.specs.Lists.{any}
use Rattle.sheet.specs.Sheet.{Loop}
use Rattle.claim.specs.Items.{Edge}
use Rattle.sheet.specs.Walk.{back, entry, MayRepeat, KeepsBound}
use Rattle.words.proofs.Lists.{count}
use Rattle.claim.proofs.Sums.{count_is}

-- where a walk stands in a loop: not entered yet, or so many back edges after the last entry edge
data Stand : Type 0 where
  outside : Stand
  after : ℕ → Stand

abbrev bump : Stand → Stand
bump outside = outside
bump (after k) = after (suc k)

-- one edge more, by whether it is an entry edge and whether it is a back edge
abbrev moved : Bool → Bool → Stand → Stand
moved true b n = after 0
moved false true n = bump n
moved false false n = n

abbrev move : Loop → Stand → Edge → Stand
move l n e = moved (entry l e) (back l e) n

abbrev run : Loop → Stand → List Edge → Stand
run l n [] = n
run l n (e ∷ es) = run l (move l n e) es

run_++ : (l : Loop) (n : Stand) (xs ys : List Edge) → run l n (xs ++ ys) ≡ run l (run l n xs) ys
run_++ l n [] ys = refl
run_++ l n (x ∷ xs) ys = run_++ l (move l n x) xs ys

-- with no entry edge, the back edges add up
run_on : (l : Loop) (k : ℕ) (es : List Edge) → AllByRecursion (λ e. entry l e ≡ false) es → run l (after k) es ≡ after (k + count (back l) es)
run_on l k [] h = ap after (sym (add-zero k))
run_on l k (e ∷ es) h = ap (λ i. run l (moved i (back l e) (after k)) es) h.0 ∙ go (back l e) (λ j. run_on l j es h.1)
  where
    go : (b : Bool) → ((j : ℕ) → run l (after j) es ≡ after (j + count (back l) es)) → run l (moved false b (after k)) es ≡ after (k + (cond b 1 0 + count (back l) es))
    go true more = more (suc k) ∙ ap after (omega arith)
    go false more = more k ∙ ap after (omega arith)

same_count : (j k : ℕ) → after j ≡ after k → j ≡ k
same_count j k e = cc

not_both : (k : ℕ) → outside ≡ after k → ⊥
not_both k e = let z : ◌≡◌ {A = ℕ} 0 1 = cc in omega arith

-- where a back edge may be taken, fewer than the bound were taken since the last entry edge
may_stand : (l : Loop) (before : List Edge) → MayRepeat l before → (k : ℕ) × (run l outside before ≡ after k) × (k < l.bound)
may_stand l before m = (
  count (back l) m.since,
  ap (run l outside) m.split ∙ run_++ l outside m.earlier (m.last_entry ∷ m.since)
      ∙ ap (λ i. run l (moved i (back l m.last_entry) (run l outside m.earlier)) m.since) m.enters
      ∙ run_on l 0 m.since m.no_later ∙ ap after (omega arith),
  omega (arith, m.fewer, count_is (back l) m.since),
)

-- the loop row
abbrev allowed : Loop → Stand → ℕ
allowed l outside = 0
allowed l (after k) = l.bound

abbrev spent : Stand → ℕ
spent outside = 0
spent (after k) = k

no_back : (x y : Bool) → (x && not y) ≡ true → (x && y) ≡ false
no_back true true e = sym e
no_back true false e = refl
no_back false y e = refl

module _ (l : Loop) where
  abbrev Claim : List Edge → Stand → Type 0
  Claim es n = spent n ≤ allowed l n → spent n + count (back l) es ≤ allowed l n + l.bound * count (entry l) es

  repeated : (es : List Edge) (n : Stand) (k : ℕ) → n ≡ after k → k < l.bound → Claim es (bump n)
      → spent n + (1 + count (back l) es) ≤ allowed l n + l.bound * (0 + count (entry l) es)
  repeated es outside k e lt c = absurd (not_both k e)
  repeated es (after j) k e lt c = let s = same_count j k e in let h = c (omega arith) in omega arith

  stepped : (es before : List Edge) → ((b r : List Edge) (e : Edge) → es ≡ b ++ (e ∷ r) → back l e ≡ true → MayRepeat l (before ++ b))
      → (n : Stand) → run l outside before ≡ n → Claim es n
  stepped [] before h n s p = omega arith
  stepped (e ∷ es) before h n s p =
      go (entry l e) (back l e) refl refl
      (stepped es (before ++ (e ∷ [])) (λ b r f q t. subst (MayRepeat l) (sym (append_assoc before (e ∷ []) b)) (h (e ∷ b) r f (ap (λ x. e ∷ x) q) t))
      (move l n e) (run_++ l outside before (e ∷ []) ∙ ap (λ m. move l m e) s))
    where
      go : (i b : Bool) → entry l e ≡ i → back l e ≡ b → Claim es (moved i b n)
          → spent n + (cond b 1 0 + count (back l) es) ≤ allowed l n + l.bound * (cond i 1 0 + count (entry l) es)
      go true true x y c = absurd (both_ways (back l e) (no_back (eqb e.to l.header) (any (eqb e.from) l.backs) x) y)
      go true false x y c = let d = c (omega arith) in omega arith
      go false true x y c =
          let m = may_stand l before (subst (MayRepeat l) (append-nil before) (h [] es e refl y)) in
          repeated es n m.0 (sym s ∙ m.1) m.2 c
      go false false x y c = let d = c p in omega arith

  pub loop_kept : (es : List Edge) → KeepsBound l es → count (back l) es ≤ l.bound * count (entry l) es
  loop_kept es h = omega (arith, stepped es [] h outside refl (omega arith))
