-- For code: what the loop rows add to the columns of the edges. Assumes nothing.
use Rattle.std.proofs.Common.{◌≡◌, ℕ, zero, suc, ◌+◌, ◌^◌, ◌<◌, ◌≤◌, Bool, true, false, cond, not, ◌&&◌, ◌||◌, eqb, ◌≢◌, ◌⊎◌, List, [], ◌∷◌, ◌++◌, map, length, get_or, take, set, replicate, ℤ, pos, ◌+ℤ◌, ◌-ℤ◌, ◌*ℤ◌, neg_ℤ, Some, None, filter, sym, refl, ap, ◌∙◌, subst, ap₂, inl, inr, le_of_suc-le-suc, not-suc-le-zero, zero-add, arith}
use lib.IntN.{*ℤ-zero}
use Rattle.std.proofs.lemmas.List.{get_or-set_same, get_or-set_other, get_or-replicate, length-set, take_more}
use Rattle.std.proofs.lemmas.Int.{ints}
use Rattle.std.proofs.lemmas.Bool.{eq-eqb, ne_eqb, cases_eq, and_left, and_right, and_from}
use Rattle.words.specs.Lists.{any}
use Rattle.sheet.specs.declared.parts.Loop.{Loop as Header}
use Rattle.sheet.specs.declared.parts.BackEdge.{BackEdge}
use Rattle.sheet.specs.Sheet.{Loop}
use Rattle.sheet.specs.Walk.{back, entry}
use Rattle.sheet.specs.Drafts.{Items, backs_of, loop_of, loops_from}
use Rattle.sheet.specs.Rows.{one_if}
use Rattle.sheet.specs.Sound.{Sound}
use Rattle.sheet.proofs.Sound.{length-loops, get_or-loops}
use Rattle.claim.specs.Items.{Edge}
use Rattle.claim.specs.Certificate.{combined}
use Rattle.claim.specs.Shares.{loop_share, Near}
use Rattle.claim.specs.Tables.{HeaderAt, HeaderTable, SourceTable, comes_from}
use Rattle.claim.specs.declared.column.looping.LoopTable.{LoopTable}
use Rattle.sheet.specs.View.{items}
use Rattle.claim.proofs.Ints.{*ℤ-negℤ}
use Rattle.claim.proofs.Nears.{near_times}
use Rattle.sheet.proofs.Sheets.{sheet_sound}

-- the table of headers
pub no_headers : (hs : List Header) → HeaderTable hs 0 (replicate 128 None)
no_headers hs b d h = subst (HeaderAt hs 0 b) (sym (get_or-replicate 128 b None d h)) (λ k e l. absurd (not-suc-le-zero l))

-- the table of back edges
any_push : {A : Type 0} (p : A → Bool) (xs : List A) (x : A) → any p (xs ++ (x ∷ [])) ≡ (any p xs || p x)
any_push p [] x = or_false (p x)
  where
    or_false : (b : Bool) → (b || false) ≡ (false || b)
    or_false true = refl
    or_false false = refl
any_push p (y ∷ xs) x = ap (λ b. p y || b) (any_push p xs x) ∙ or_assoc (p y) (any p xs) (p x)
  where
    or_assoc : (a b c : Bool) → (a || (b || c)) ≡ ((a || b) || c)
    or_assoc true b c = refl
    or_assoc false b c = refl

pub any_more : {A : Type 0} (p : A → Bool) (xs : List A) (i : ℕ) (d : A) → i < length xs → any p (take (i + 1) xs) ≡ (any p (take i xs) || p (get_or xs i d))
any_more p xs i d h = ap (any p) (take_more xs i d h) ∙ any_push p (take i xs) (get_or xs i d)

abbrev no_sources : List (List Bool)
no_sources = replicate 32 (replicate 128 false)

pub none_sources : (bs : List BackEdge) → SourceTable (take 0 bs) no_sources
none_sources bs l s d p q = ap (λ x. get_or x s false) (get_or-replicate 32 l (replicate 128 false) d p) ∙ get_or-replicate 128 s false false q

-- 32 rows of 128
pub record Square (t : List (List Bool)) : Type 0 where
  pub high : length t ≡ 32
  pub wide : (l : ℕ) (d : List Bool) → l < 32 → length (get_or t l d) ≡ 128

pub none_square : Square no_sources
none_square = record { high = refl; wide = λ l d h. ap length (get_or-replicate 32 l (replicate 128 false) d h) }

module _ (t : List (List Bool)) (q : Square t) (o s : ℕ) (p : o < 32) (e : List Bool) where
  abbrev marked : List (List Bool)
  marked = set t o (set (get_or t o e) s true)

  pub marked_square : Square marked
  marked_square = record { high = length-set t o (set (get_or t o e) s true) ∙ q.high; wide = wide }
    where
      wide : (l : ℕ) (d : List Bool) → l < 32 → length (get_or marked l d) ≡ 128
      wide l d h = go (cases_eq l o)
        where
          go : (l ≡ o) ⊎ (l ≡ o → ⊥) → length (get_or marked l d) ≡ 128
          go (inl u) = ap (λ x. length (get_or marked x d)) u ∙ ap length (get_or-set_same t o (set (get_or t o e) s true) d (omega (arith, q.high))) ∙ length-set (get_or t o e) s true ∙ q.wide o e p
          go (inr u) = ap length (get_or-set_other t o l (set (get_or t o e) s true) d u) ∙ q.wide l d h

  here : (d : List Bool) → s < 128 → get_or (get_or marked o d) s false ≡ true
  here d h = ap (λ x. get_or x s false) (get_or-set_same t o (set (get_or t o e) s true) d (omega (arith, q.high))) ∙ get_or-set_same (get_or t o e) s true false (omega (arith, q.wide o e p))

  beside : (d : List Bool) (x : ℕ) → (x ≡ s → ⊥) → get_or (get_or marked o d) x false ≡ get_or (get_or t o e) x false
  beside d x u = ap (λ y. get_or y x false) (get_or-set_same t o (set (get_or t o e) s true) d (omega (arith, q.high))) ∙ get_or-set_other (get_or t o e) s x true false u

  elsewhere : (l : ℕ) (d : List Bool) → (l ≡ o → ⊥) → get_or marked l d ≡ get_or t l d
  elsewhere l d u = get_or-set_other t o l (set (get_or t o e) s true) d u

pub or_true : (a b : Bool) → b ≡ true → true ≡ (a || b)
or_true true b e = refl
or_true false b e = sym e

pub or_no : (a b : Bool) → b ≡ false → a ≡ (a || b)
or_no true b e = refl
or_no false b e = sym e

module _ (bs : List BackEdge) (i : ℕ) (f : BackEdge) (n : i < length bs) (t : List (List Bool)) (h : SourceTable (take i bs) t) where
  abbrev o : ℕ
  o = (get_or bs i f).owner

  abbrev c : ℕ
  c = (get_or bs i f).source

  one : (l s : ℕ) → comes_from (take (i + 1) bs) l s ≡ (comes_from (take i bs) l s || (eqb o l && eqb s c))
  one l s = any_more (λ b. eqb b.owner l && eqb s b.source) bs i f n

  pub more_sources : (q : Square t) (p : o < 32) → c < 128 → (e : List Bool) → SourceTable (take (i + 1) bs) (set t o (set (get_or t o e) c true))
  more_sources q p r e l s d u v = go (cases_eq l o) (cases_eq s c) ∙ sym (one l s)
    where
      go : (l ≡ o) ⊎ (l ≡ o → ⊥) → (s ≡ c) ⊎ (s ≡ c → ⊥) → get_or (get_or (set t o (set (get_or t o e) c true)) l d) s false ≡ (comes_from (take i bs) l s || (eqb o l && eqb s c))
      go (inl x) (inl y) =
          ap₂ (λ a b. get_or (get_or (set t o (set (get_or t o e) c true)) a d) b false) x y ∙ here t q o c p e d r
          ∙ or_true (comes_from (take i bs) l s) (eqb o l && eqb s c) (and_from (eqb o l) (eqb s c) (eq-eqb o l (sym x)) (eq-eqb s c y))
      go (inl x) (inr y) =
          ap (λ a. get_or (get_or (set t o (set (get_or t o e) c true)) a d) s false) x ∙ beside t q o c p e d s y ∙ ap (λ a. get_or (get_or t a e) s false) (sym x) ∙ h l s e u v
          ∙ or_no (comes_from (take i bs) l s) (eqb o l && eqb s c) (and_right (eqb o l) (eqb s c) (ne_eqb s c y))
      go (inr x) y =
          ap (λ a. get_or a s false) (elsewhere t q o c p e l d x) ∙ h l s d u v ∙ or_no (comes_from (take i bs) l s) (eqb o l && eqb s c) (and_left (eqb o l) (eqb s c) (ne_eqb o l (λ z. x (sym z))))

  pub same_sources : (32 ≤ o) ⊎ (128 ≤ c) → SourceTable (take (i + 1) bs) t
  same_sources w l s d u v = h l s d u v ∙ or_no (comes_from (take i bs) l s) (eqb o l && eqb s c) (go w) ∙ sym (one l s)
    where
      go : (32 ≤ o) ⊎ (128 ≤ c) → (eqb o l && eqb s c) ≡ false
      go (inl x) = and_left (eqb o l) (eqb s c) (ne_eqb o l (λ z. omega arith))
      go (inr x) = and_right (eqb o l) (eqb s c) (ne_eqb s c (λ z. omega arith))

-- the loop rows at an edge: only the row of the loop whose header it leads to
nowhere : {A : Type 0} (ys : List ℤ) (xs : List A) (f : A → ℤ) (d : A) → ((j : ℕ) → j < length xs → f (get_or xs j d) ≡ pos 0) → combined ys xs f ≡ pos 0
nowhere [] xs f d h = refl
nowhere (y ∷ ys) [] f d h = refl
nowhere (y ∷ ys) (x ∷ xs) f d h = ap₂ (λ a b. (y *ℤ a) +ℤ b) (h 0 (omega arith)) (nowhere ys xs f d (λ j l. h (suc j) (omega arith))) ∙ omega (arith, ints, *ℤ-zero y)

only : {A : Type 0} (ys : List ℤ) (xs : List A) (f : A → ℤ) (k : ℕ) (d : A) → k < length xs → ((j : ℕ) → j < length xs → (j ≡ k → ⊥) → f (get_or xs j d) ≡ pos 0)
    → combined ys xs f ≡ get_or ys k (pos 0) *ℤ f (get_or xs k d)
only [] xs f k d l h = omega (arith, ints)
only (y ∷ ys) [] f k d l h = absurd (not-suc-le-zero l)
only (y ∷ ys) (x ∷ xs) f zero d l h = ap (λ b. (y *ℤ f x) +ℤ b) (nowhere ys xs f d (λ j q. h (suc j) (omega arith) (λ e. omega arith))) ∙ omega (arith, ints)
only (y ∷ ys) (x ∷ xs) f (suc k) d l h =
    ap₂ (λ a b. (y *ℤ a) +ℤ b) (h 0 (omega arith) (λ e. omega arith)) (only ys xs f k d (le_of_suc-le-suc l) (λ j q e. h (suc j) (omega arith) (λ z. e (omega arith)))) ∙ omega (arith, ints, *ℤ-zero y)

abbrev value : Bool → Bool → ℕ → ℤ
value b e k = one_if b -ℤ (pos k *ℤ one_if e)

no_value : (k : ℕ) → value false false k ≡ pos 0
no_value k = omega (arith, ints, *ℤ-zero (pos k))

back_value : (y : ℤ) (k : ℕ) → y *ℤ value true false k ≡ y
back_value y k = let e : value true false k ≡ pos 1 = omega (arith, ints, *ℤ-zero (pos k)) in ap (λ z. y *ℤ z) e ∙ omega (arith, ints)

entry_value : (y : ℤ) (k : ℕ) → y *ℤ value false true k ≡ neg_ℤ (y *ℤ pos k)
entry_value y k = let e : value false true k ≡ neg_ℤ (pos k) = omega (arith, ints) in ap (λ z. y *ℤ z) e ∙ *ℤ-negℤ y (pos k)

-- a loop's back edges by the table
sources_of : (bs : List BackEdge) (k s : ℕ) → any (eqb s) (backs_of bs k) ≡ comes_from bs k s
sources_of [] k s = refl
sources_of (b ∷ bs) k s = go (eqb b.owner k) (sources_of bs k s)
  where
    go : (x : Bool) → any (eqb s) (backs_of bs k) ≡ comes_from bs k s
        → any (eqb s) (map (λ b. b.source) (cond x (b ∷ filter (λ b. eqb b.owner k) bs) (filter (λ b. eqb b.owner k) bs))) ≡ ((x && eqb s b.source) || comes_from bs k s)
    go true h = ap (λ z. eqb s b.source || z) h
    go false h = h

module _ (I : Items) (s : Sound I) (ys : List ℤ) (e : Edge) (d : Header) where
  abbrev loops : List Loop
  loops = loops_from I.backs 0 I.loops

  abbrev f : Loop → ℤ
  f l = one_if (back l e) -ℤ (pos l.bound *ℤ one_if (entry l e))

  abbrev no_loop : Loop
  no_loop = loop_of I.backs 0 d

  loop_at : (k : ℕ) → k < length I.loops → get_or loops k no_loop ≡ loop_of I.backs k (get_or I.loops k d)
  loop_at k h = get_or-loops I.backs 0 k I.loops d no_loop h ∙ ap (λ n. loop_of I.backs n (get_or I.loops k d)) (zero-add k)

  other : (k : ℕ) → k < length I.loops → (get_or I.loops k d).header ≢ e.to → f (get_or loops k no_loop) ≡ pos 0
  other k h u =
      ap f (loop_at k h)
      ∙ ap (λ t. value (t && any (eqb e.from) (backs_of I.backs k)) (t && not (any (eqb e.from) (backs_of I.backs k))) (get_or I.loops k d).bound) (ne_eqb e.to (get_or I.loops k d).header (λ x. u (sym x)))
      ∙ no_value (get_or I.loops k d).bound

  inside : (j : ℕ) → j < length loops → j < length I.loops
  inside j h = subst (λ n. j < n) (length-loops I.backs 0 I.loops) h

  pub share_none : HeaderAt I.loops (length I.loops) e.to None → loop_share ys loops e ≡ pos 0
  share_none h = nowhere ys loops f no_loop (λ j l. other j (inside j l) (h j d (inside j l)))

  share_one : (k : ℕ) → k < length I.loops → (get_or I.loops k d).header ≡ e.to → (t : Bool) → comes_from I.backs k e.from ≡ t
      → loop_share ys loops e ≡ get_or ys k (pos 0) *ℤ value t (not t) (get_or I.loops k d).bound
  share_one k h u t v =
      only ys loops f k no_loop (subst (λ n. k < n) (sym (length-loops I.backs 0 I.loops)) h) (λ j l n. other j (inside j l) (λ w. n (s.apart j k d (inside j l) h (w ∙ sym u))))
      ∙ ap (λ z. get_or ys k (pos 0) *ℤ z)
      (ap f (loop_at k h)
      ∙ ap₂ (λ a b. value (a && b) (a && not b) (get_or I.loops k d).bound) (eq-eqb e.to (get_or I.loops k d).header (sym u)) (sources_of I.backs k e.from ∙ v))

  pub share_back : (k : ℕ) → k < length I.loops → (get_or I.loops k d).header ≡ e.to → comes_from I.backs k e.from ≡ true → loop_share ys loops e ≡ get_or ys k (pos 0)
  share_back k h u v = share_one k h u true v ∙ back_value (get_or ys k (pos 0)) (get_or I.loops k d).bound

  pub share_entry : (k : ℕ) → k < length I.loops → (get_or I.loops k d).header ≡ e.to → comes_from I.backs k e.from ≡ false
      → loop_share ys loops e ≡ neg_ℤ (get_or ys k (pos 0) *ℤ pos (get_or I.loops k d).bound)
  share_entry k h u v = share_one k h u false v ∙ entry_value (get_or ys k (pos 0)) (get_or I.loops k d).bound

-- the loop that the table of headers has for a block
module _ (L : LoopTable) (b k : ℕ) (h : b < 128) (e : Some k ≡ get_or L.headers b None) where
  abbrev I : Items
  I = items L.tableau.sheet.now

  pub found : HeaderAt I.loops (length I.loops) b (Some k)
  found = subst (HeaderAt I.loops (length I.loops) b) (sym e) (L.headed b None h)

  pub found_near : (ls : List Header) → ls ≡ I.loops → (d : Header) (y : ℤ) → Near (2 ^ 40) y → Near (2 ^ 54) (y *ℤ pos (get_or ls k d).bound)
  found_near ls q d y n =
      let f : (get_or ls k d).bound < 2 ^ 14 = subst (λ ls. (get_or ls k d).bound < 2 ^ 14) (sym q) ((sheet_sound L.tableau.sheet.now).loops_fit k d found.0).1 in
      near_times (2 ^ 40) (2 ^ 14) (get_or ls k d).bound y (omega arith) n
