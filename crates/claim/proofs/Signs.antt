-- For code: which rows say `at most`, and the test of signs. Assumes nothing.
use Rattle.std.proofs.Common.{◌≡◌, ℕ, zero, suc, ◌+◌, ◌-◌, ◌*◌, ◌<◌, ◌≤◌, Bool, true, false, not, ◌||◌, List, [], ◌∷◌, ◌++◌, map, length, get_or, ℤ, pos, refl, ap, ◌∙◌, le_of_suc-le-suc, not-suc-le-zero, arith}
use lib.Signed.{le_z}
use Rattle.std.specs.List.{AllByRecursion}
use Rattle.std.proofs.ByRecursion.{All-get_or, All-append}
use Rattle.std.proofs.lemmas.List.{append_assoc, length-append, length-map, get_or_append_left, get_or-append_right}
use Rattle.words.specs.Lists.{below}
use Rattle.words.proofs.Lists.{length-below}
use Rattle.sheet.specs.Sheet.{Sheet}
use Rattle.sheet.specs.Conflict.{used_sets}
use Rattle.sheet.specs.Rows.{Row, rows, at_most, in_row, out_row, loop_row, fact_row, arrival_row, departure_row, set_row, miss_row}
use Rattle.claim.specs.Judge.{sign_tests}

all_made : {A : Type 0} (P : Row → Type 0) (g : A → Row) → ((x : A) → P (g x)) → (xs : List A) → AllByRecursion P (map g xs)
all_made P g h [] = tt
all_made P g h (x ∷ xs) = (h x, all_made P g h xs)

module _ (S : Sheet) where
  abbrev ends : List Row
  ends = map in_row (below S.blocks) ++ map out_row (below S.blocks)

  abbrev bounded : List Row
  bounded = map loop_row S.loops ++ map fact_row S.facts

  abbrev joins : List Row
  joins = map arrival_row (below (length S.lblocks)) ++ map departure_row (below (length S.lblocks)) ++ map set_row (used_sets S)

  abbrev misses : List Row
  misses = map miss_row (below (length S.lblocks))

  by_kind : rows S ≡ ((ends ++ bounded) ++ joins) ++ misses
  by_kind = simp append_assoc

  long_ends : length ends ≡ 2 * S.blocks
  long_ends = omega (arith, length-append (map in_row (below S.blocks)) (map out_row (below S.blocks)), length-map (below S.blocks) in_row, length-map (below S.blocks) out_row, length-below S.blocks)

  long_bounded : length bounded ≡ length S.loops + length S.facts
  long_bounded = omega (arith, length-append (map loop_row S.loops) (map fact_row S.facts), length-map S.loops loop_row, length-map S.facts fact_row)

  long_misses : length misses ≡ length S.lblocks
  long_misses = length-map (below (length S.lblocks)) miss_row ∙ length-below (length S.lblocks)

  long : length (rows S) ≡ ((length ends + length bounded) + length joins) + length misses
  long = ap length by_kind ∙ omega (arith, length-append ((ends ++ bounded) ++ joins) misses, length-append (ends ++ bounded) joins, length-append ends bounded)

  module _ (i : ℕ) (d : Row) where
    abbrev here : List Row → Bool
    here rs = at_most (get_or rs i d)

    pub at_end : i < 2 * S.blocks → at_most (get_or (rows S) i d) ≡ false
    at_end h =
        let a : i < length ends = omega (arith, long_ends) in
        ap here by_kind
        ∙ ap at_most (get_or_append_left ((ends ++ bounded) ++ joins) misses d i (omega (arith, length-append (ends ++ bounded) joins, length-append ends bounded)))
        ∙ ap at_most (get_or_append_left (ends ++ bounded) joins d i (omega (arith, length-append ends bounded)))
        ∙ ap at_most (get_or_append_left ends bounded d i a)
        ∙ All-get_or (λ r. at_most r ≡ false) ends i d a (All-append (λ r. at_most r ≡ false) (map in_row (below S.blocks)) (map out_row (below S.blocks)) (all_made (λ r. at_most r ≡ false) in_row (λ b. refl) (below S.blocks)) (all_made (λ r. at_most r ≡ false) out_row (λ b. refl) (below S.blocks)))

    pub at_bounded : 2 * S.blocks ≤ i → i < 2 * S.blocks + length S.loops + length S.facts → at_most (get_or (rows S) i d) ≡ true
    at_bounded g h =
        let a : i - length ends < length bounded = omega (arith, long_ends, long_bounded) in
        ap here by_kind
        ∙ ap at_most (get_or_append_left ((ends ++ bounded) ++ joins) misses d i (omega (arith, long_ends, long_bounded, length-append (ends ++ bounded) joins, length-append ends bounded)))
        ∙ ap at_most (get_or_append_left (ends ++ bounded) joins d i (omega (arith, long_ends, long_bounded, length-append ends bounded)))
        ∙ ap at_most (get_or-append_right ends bounded (length ends) i d refl (omega (arith, long_ends)))
        ∙ All-get_or (λ r. at_most r ≡ true) bounded (i - length ends) d a (All-append (λ r. at_most r ≡ true) (map loop_row S.loops) (map fact_row S.facts) (all_made (λ r. at_most r ≡ true) loop_row (λ l. refl) S.loops) (all_made (λ r. at_most r ≡ true) fact_row (λ f. refl) S.facts))

    pub at_join : 2 * S.blocks + length S.loops + length S.facts ≤ i → i < length (rows S) - length S.lblocks → at_most (get_or (rows S) i d) ≡ false
    at_join g h =
        let a : i - length (ends ++ bounded) < length joins = omega (arith, long, long_misses, long_ends, long_bounded, length-append ends bounded) in
        ap here by_kind
        ∙ ap at_most (get_or_append_left ((ends ++ bounded) ++ joins) misses d i (omega (arith, long, long_misses, length-append (ends ++ bounded) joins, length-append ends bounded)))
        ∙ ap at_most (get_or-append_right (ends ++ bounded) joins (length (ends ++ bounded)) i d refl (omega (arith, long_ends, long_bounded, length-append ends bounded)))
        ∙ All-get_or (λ r. at_most r ≡ false) joins (i - length (ends ++ bounded)) d a
        (All-append (λ r. at_most r ≡ false) (map arrival_row (below (length S.lblocks)) ++ map departure_row (below (length S.lblocks))) (map set_row (used_sets S))
        (All-append (λ r. at_most r ≡ false) (map arrival_row (below (length S.lblocks))) (map departure_row (below (length S.lblocks))) (all_made (λ r. at_most r ≡ false) arrival_row (λ v. refl) (below (length S.lblocks))) (all_made (λ r. at_most r ≡ false) departure_row (λ v. refl) (below (length S.lblocks))))
        (all_made (λ r. at_most r ≡ false) set_row (λ s. refl) (used_sets S)))

    pub at_miss : length (rows S) - length S.lblocks ≤ i → i < length (rows S) → at_most (get_or (rows S) i d) ≡ true
    at_miss g h =
        let m : length ((ends ++ bounded) ++ joins) ≡ (length ends + length bounded) + length joins = omega (arith, length-append (ends ++ bounded) joins, length-append ends bounded) in
        let a : i - length ((ends ++ bounded) ++ joins) < length misses = omega (arith, long, long_misses, m) in
        ap here by_kind
        ∙ ap at_most (get_or-append_right ((ends ++ bounded) ++ joins) misses (length ((ends ++ bounded) ++ joins)) i d refl (omega (arith, long, long_misses, m)))
        ∙ All-get_or (λ r. at_most r ≡ true) misses (i - length ((ends ++ bounded) ++ joins)) d a (all_made (λ r. at_most r ≡ true) miss_row (λ v. refl) (below (length S.lblocks)))

-- the tests one by one
pub get_or-signs : (ys : List ℤ) (rs : List Row) (i : ℕ) (d : Row) (t : Bool) → i < length ys → i < length rs → get_or (sign_tests ys rs) i t ≡ (not (at_most (get_or rs i d)) || le_z (pos 0) (get_or ys i (pos 0)))
get_or-signs [] rs i d t l u = absurd (not-suc-le-zero l)
get_or-signs (y ∷ ys) [] i d t l u = absurd (not-suc-le-zero u)
get_or-signs (y ∷ ys) (r ∷ rs) zero d t l u = refl
get_or-signs (y ∷ ys) (r ∷ rs) (suc i) d t l u = get_or-signs ys rs i d t (le_of_suc-le-suc l) (le_of_suc-le-suc u)

pub length-signs : (ys : List ℤ) (rs : List Row) → length ys ≡ length rs → length (sign_tests ys rs) ≡ length ys
length-signs [] rs e = refl
length-signs (y ∷ ys) [] e = absurd (omega arith)
length-signs (y ∷ ys) (r ∷ rs) e = ap suc (length-signs ys rs (omega arith))
