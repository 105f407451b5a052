-- The total of each column, and of the right sides, by the families of rows. Assumes nothing.
use Rattle.std.proofs.Common.{◌≡◌, ℕ, ◌+◌, ◌<◌, ◌≤◌, Bool, true, false, cond, ◌&&◌, eqb, ◌⊎◌, List, ◌++◌, map, length, get_or, take, drop, ℤ, pos, ◌+ℤ◌, ◌-ℤ◌, neg_ℤ, sym, refl, ap, ◌∙◌, subst, ap₂, inl, inr, zero-add, arith}
use Rattle.std.proofs.lemmas.List.{length-append, length-map}
use Rattle.std.proofs.lemmas.Int.{ints}
use Rattle.std.proofs.lemmas.Bool.{eq-eqb, ne_eqb, eqb-true}
use Rattle.words.specs.Lists.{up_from, below}
use Rattle.words.proofs.Lists.{length-below}
use Rattle.sheet.specs.Sheet.{Sheet, lblock, last_block}
use Rattle.sheet.specs.Conflict.{used, used_sets}
use Rattle.sheet.specs.BlockTable.{Holds}
use Rattle.sheet.specs.Rows.{Row, in_row, out_row, loop_row, fact_row, arrival_row, departure_row, set_row, miss_row, N, T, M, P, rows, coefficient, right_side, one_if, is_at, is_start, foreign}
use Rattle.claim.specs.Items.{Edge, Node, START, at, END, Conflict}
use Rattle.claim.specs.Certificate.{combined}
use Rattle.claim.specs.Shares.{total, Multipliers, Sized, all, fact_share, loop_share, rank, share_of_source, share_of_target}
use Rattle.claim.proofs.Weights.{combined_++, combined_map, combined_none, combined_same, combined_neg, combined_ones, in_range, at_one, at_kept}

-- the first rows of a list, with as many multipliers, and what they add up to
record Part (ys : List ℤ) (rs : List Row) (f : Row → ℤ) (t : ℤ) : Type 0 where
  long : length ys ≡ length rs
  sums : combined ys rs f ≡ t

-- with one family more
also : {A : Type 0} {ys : List ℤ} {rs : List Row} {t : ℤ} (f : Row → ℤ) (zs : List ℤ) (g : A → Row) (xs : List A) → length zs ≡ length xs
    → Part ys rs f t → Part (ys ++ zs) (rs ++ map g xs) f (t +ℤ combined zs xs (λ x. f (g x)))
also {A} {ys} {rs} {t} f zs g xs e p = record {
  long = omega (arith, length-append ys zs, length-append rs (map g xs), length-map xs g, p.long);
  sums = combined_++ ys zs rs (map g xs) f p.long ∙ ap₂ ◌+ℤ◌ p.sums (combined_map zs g xs f);
}

first : {A : Type 0} (f : Row → ℤ) (zs : List ℤ) (g : A → Row) (xs : List A) → length zs ≡ length xs → Part zs (map g xs) f (combined zs xs (λ x. f (g x)))
first f zs g xs e = record { long = omega (arith, length-map xs g); sums = combined_map zs g xs f }

eight : (a b c d e f g h a' b' c' d' e' f' g' h' : ℤ) → a ≡ a' → b ≡ b' → c ≡ c' → d ≡ d' → e ≡ e' → f ≡ f' → g ≡ g' → h ≡ h'
    → ((((((a +ℤ b) +ℤ c) +ℤ d) +ℤ e) +ℤ f) +ℤ g) +ℤ h ≡ ((((((a' +ℤ b') +ℤ c') +ℤ d') +ℤ e') +ℤ f') +ℤ g') +ℤ h'
eight a b c d e f g h a' b' c' d' e' f' g' h' p q r s t u v w =
    ap₂ ◌+ℤ◌ (ap₂ ◌+ℤ◌ (ap₂ ◌+ℤ◌ (ap₂ ◌+ℤ◌ (ap₂ ◌+ℤ◌ (ap₂ ◌+ℤ◌ (ap₂ ◌+ℤ◌ p q) r) s) t) u) v) w

and_false : (b : Bool) → (b && false) ≡ false
and_false true = refl
and_false false = refl

and_true : (b : Bool) → (b && true) ≡ b
and_true true = refl
and_true false = refl

-- what one family adds to a conflict edge's column
abbrev node_share : List ℤ → Node → ℤ
node_share ys START = pos 0
node_share ys (at u) = neg_ℤ (get_or ys u (pos 0))
node_share ys END = pos 0

abbrev start_share : Sheet → List ℤ → ℕ → Node → ℤ
start_share S ys s START = get_or ys (rank S s) (pos 0)
start_share S ys s (at u) = pos 0
start_share S ys s END = pos 0

abbrev miss_share : Sheet → List ℤ → Node → Node → ℤ
miss_share S ys from START = pos 0
miss_share S ys from (at u) = neg_ℤ (cond (foreign S u from) (get_or ys u (pos 0)) (pos 0))
miss_share S ys from END = pos 0

module _ (S : Sheet) (Y : Multipliers) (z : Sized S Y) where
  abbrev lines : ℕ
  lines = length S.lblocks

  -- the sum of each family
  module _ (f : Row → ℤ) where
    abbrev from_ins : ℤ
    from_ins = combined Y.ins (below S.blocks) (λ b. f (in_row b))

    abbrev from_outs : ℤ
    from_outs = combined Y.outs (below S.blocks) (λ b. f (out_row b))

    abbrev from_loops : ℤ
    from_loops = combined Y.loops S.loops (λ l. f (loop_row l))

    abbrev from_facts : ℤ
    from_facts = combined Y.facts S.facts (λ x. f (fact_row x))

    abbrev from_arrivals : ℤ
    from_arrivals = combined Y.arrivals (below lines) (λ v. f (arrival_row v))

    abbrev from_departures : ℤ
    from_departures = combined Y.departures (below lines) (λ v. f (departure_row v))

    abbrev from_sets : ℤ
    from_sets = combined Y.sets (used_sets S) (λ s. f (set_row s))

    abbrev from_misses : ℤ
    from_misses = combined Y.misses (below lines) (λ v. f (miss_row v))

    by_family : (a b c d e g h k : ℤ) → from_ins ≡ a → from_outs ≡ b → from_loops ≡ c → from_facts ≡ d → from_arrivals ≡ e → from_departures ≡ g → from_sets ≡ h → from_misses ≡ k
        → combined (all Y) (rows S) f ≡ ((((((a +ℤ b) +ℤ c) +ℤ d) +ℤ e) +ℤ g) +ℤ h) +ℤ k
    by_family a b c d e g h k p q r s t u v w =
        let e1 : length Y.ins ≡ length (below S.blocks) = z.ins ∙ sym (length-below S.blocks) in
        let e2 : length Y.outs ≡ length (below S.blocks) = z.outs ∙ sym (length-below S.blocks) in
        let e5 : length Y.arrivals ≡ length (below lines) = z.arrivals ∙ sym (length-below lines) in
        let e6 : length Y.departures ≡ length (below lines) = z.departures ∙ sym (length-below lines) in
        let e8 : length Y.misses ≡ length (below lines) = z.misses ∙ sym (length-below lines) in
        (also f Y.misses miss_row (below lines) e8
        (also f Y.sets set_row (used_sets S) z.sets
        (also f Y.departures departure_row (below lines) e6
        (also f Y.arrivals arrival_row (below lines) e5
        (also f Y.facts fact_row S.facts z.facts
        (also f Y.loops loop_row S.loops z.loops
        (also f Y.outs out_row (below S.blocks) e2 (first f Y.ins in_row (below S.blocks) e1)))))))).sums
        ∙ eight from_ins from_outs from_loops from_facts from_arrivals from_departures from_sets from_misses a b c d e g h k p q r s t u v w

  -- one multiplier of a family that has as many as there are numbers below m
  one_of_them : (ys : List ℤ) (m a : ℕ) → length ys ≡ m → combined ys (below m) (λ k. one_if (eqb k a)) ≡ get_or ys a (pos 0)
  one_of_them ys m a e = ap (λ n. combined ys (up_from 0 n) (λ k. one_if (eqb k a))) (sym e) ∙ at_one ys a

  some_of_them : (ys : List ℤ) (b f n : ℕ) → length ys ≡ lines → Holds S b f n → combined ys (below lines) (λ v. one_if (eqb (lblock S v).block b)) ≡ total (take n (drop f ys))
  some_of_them ys b f n e h =
      ap (λ m. combined ys (up_from 0 m) (λ v. one_if (eqb (lblock S v).block b))) (sym e)
      ∙ in_range (λ v. eqb (lblock S v).block b) ys 0 f n (λ v p q. eq-eqb (lblock S v).block b (h.inside v (omega arith) (omega arith)))
      (λ v p q r. ne_eqb (lblock S v).block b (apart v (omega arith) r))
    where
      apart : (v : ℕ) → v < lines → (v < 0 + f) ⊎ (0 + f + n ≤ v) → (lblock S v).block ≡ b → ⊥
      apart v q (inl a) o = let k = h.outside v q o in omega arith
      apart v q (inr a) o = let k = h.outside v q o in omega arith

  -- N
  pub total_block : (b f n : ℕ) → Holds S b f n → combined (all Y) (rows S) (λ r. coefficient S r (N b))
      ≡ ((get_or Y.ins b (pos 0) +ℤ get_or Y.outs b (pos 0)) +ℤ fact_share Y.facts S.facts b) +ℤ (total (take n (drop f Y.arrivals)) +ℤ total (take n (drop f Y.departures)))
  total_block b f n h =
      by_family (λ r. coefficient S r (N b)) (get_or Y.ins b (pos 0)) (get_or Y.outs b (pos 0)) (pos 0) (fact_share Y.facts S.facts b) (total (take n (drop f Y.arrivals))) (total (take n (drop f Y.departures))) (pos 0) (pos 0)
      (one_of_them Y.ins S.blocks b z.ins) (one_of_them Y.outs S.blocks b z.outs) (combined_none Y.loops S.loops) refl
      (some_of_them Y.arrivals b f n z.arrivals h) (some_of_them Y.departures b f n z.departures h) (combined_none Y.sets (used_sets S)) (combined_none Y.misses (below lines))
      ∙ omega (arith, ints)

  -- T
  pub total_edge : (e : Edge) → combined (all Y) (rows S) (λ r. coefficient S r (T e))
      ≡ (loop_share Y.loops S.loops e -ℤ get_or Y.ins e.to (pos 0)) -ℤ get_or Y.outs e.from (pos 0)
  total_edge e =
      by_family (λ r. coefficient S r (T e)) (neg_ℤ (get_or Y.ins e.to (pos 0))) (neg_ℤ (get_or Y.outs e.from (pos 0))) (loop_share Y.loops S.loops e) (pos 0) (pos 0) (pos 0) (pos 0) (pos 0)
      (combined_neg Y.ins (below S.blocks) (λ b. one_if (eqb b e.to)) ∙ ap neg_ℤ (one_of_them Y.ins S.blocks e.to z.ins))
      (combined_neg Y.outs (below S.blocks) (λ b. one_if (eqb b e.from)) ∙ ap neg_ℤ (one_of_them Y.outs S.blocks e.from z.outs))
      refl (combined_none Y.facts S.facts) (combined_none Y.arrivals (below lines)) (combined_none Y.departures (below lines)) (combined_none Y.sets (used_sets S)) (combined_none Y.misses (below lines))
      ∙ omega (arith, ints)

  -- M
  pub total_miss : (v : ℕ) → combined (all Y) (rows S) (λ r. coefficient S r (M v)) ≡ get_or Y.misses v (pos 0)
  total_miss v =
      by_family (λ r. coefficient S r (M v)) (pos 0) (pos 0) (pos 0) (pos 0) (pos 0) (pos 0) (pos 0) (get_or Y.misses v (pos 0))
      (combined_none Y.ins (below S.blocks)) (combined_none Y.outs (below S.blocks)) (combined_none Y.loops S.loops) (combined_none Y.facts S.facts) (combined_none Y.arrivals (below lines))
      (combined_none Y.departures (below lines)) (combined_none Y.sets (used_sets S)) (one_of_them Y.misses lines v z.misses)
      ∙ omega (arith, ints)

  -- the right sides
  pub total_right : combined (all Y) (rows S) (right_side S) ≡ (get_or Y.ins 0 (pos 0) +ℤ get_or Y.outs (last_block S) (pos 0)) +ℤ total Y.sets
  total_right =
      by_family (right_side S) (get_or Y.ins 0 (pos 0)) (get_or Y.outs (last_block S) (pos 0)) (pos 0) (pos 0) (pos 0) (pos 0) (total Y.sets) (pos 0)
      (one_of_them Y.ins S.blocks 0 z.ins) (one_of_them Y.outs S.blocks (last_block S) z.outs) (combined_none Y.loops S.loops) (combined_none Y.facts S.facts)
      (combined_none Y.arrivals (below lines)) (combined_none Y.departures (below lines)) (combined_ones Y.sets (used_sets S) z.sets) (combined_none Y.misses (below lines))
      ∙ omega (arith, ints)

  -- P: the rows of an l-block at one end
  ends_at : (ys : List ℤ) (x : Node) → length ys ≡ lines → combined ys (below lines) (λ v. neg_ℤ (one_if (is_at v x))) ≡ node_share ys x
  ends_at ys START e = combined_none ys (below lines)
  ends_at ys (at u) e = combined_neg ys (below lines) (λ v. one_if (eqb v u)) ∙ ap neg_ℤ (one_of_them ys lines u e)
  ends_at ys END e = combined_none ys (below lines)

  misses_at : (from to : Node) → combined Y.misses (below lines) (λ v. neg_ℤ (one_if (is_at v to && foreign S v from))) ≡ miss_share S Y.misses from to
  misses_at from START = combined_none Y.misses (below lines)
  misses_at from (at u) =
      combined_neg Y.misses (below lines) (λ v. one_if (eqb v u && foreign S v from))
      ∙ ap neg_ℤ (combined_same Y.misses (below lines) (λ v. one_if (eqb v u && foreign S v from)) (λ v. one_if (eqb v u && foreign S u from)) same ∙ go (foreign S u from))
    where
      pick : (b x y : Bool) → (b ≡ true → x ≡ y) → one_if (b && x) ≡ one_if (b && y)
      pick true x y h = ap one_if (h refl)
      pick false x y h = refl

      same : (v : ℕ) → one_if (eqb v u && foreign S v from) ≡ one_if (eqb v u && foreign S u from)
      same v = pick (eqb v u) (foreign S v from) (foreign S u from) (λ t. ap (λ w. foreign S w from) (eqb-true v u t))

      go : (b : Bool) → combined Y.misses (below lines) (λ v. one_if (eqb v u && b)) ≡ cond b (get_or Y.misses u (pos 0)) (pos 0)
      go true = combined_same Y.misses (below lines) (λ v. one_if (eqb v u && true)) (λ v. one_if (eqb v u)) (λ v. ap one_if (and_true (eqb v u))) ∙ one_of_them Y.misses lines u z.misses
      go false = combined_same Y.misses (below lines) (λ v. one_if (eqb v u && false)) (λ v. pos 0) (λ v. ap one_if (and_false (eqb v u))) ∙ combined_none Y.misses (below lines)
  misses_at from END = combined_none Y.misses (below lines)

  sets_at : (s : ℕ) (from : Node) → s < S.sets → used S s ≡ true → combined Y.sets (used_sets S) (λ t. one_if (eqb t s && is_start from)) ≡ start_share S Y.sets s from
  sets_at s START h u =
      combined_same Y.sets (used_sets S) (λ t. one_if (eqb t s && true)) (λ t. one_if (eqb t s)) (λ t. ap one_if (and_true (eqb t s)))
      ∙ subst (λ k. combined Y.sets (used_sets S) (λ t. one_if (eqb t k)) ≡ get_or Y.sets (rank S s) (pos 0)) (zero-add s) (at_kept (used S) Y.sets 0 S.sets s h (ap (used S) (zero-add s) ∙ u))
  sets_at s (at v) h u = combined_same Y.sets (used_sets S) (λ t. one_if (eqb t s && false)) (λ t. pos 0) (λ t. ap one_if (and_false (eqb t s))) ∙ combined_none Y.sets (used_sets S)
  sets_at s END h u = combined_same Y.sets (used_sets S) (λ t. one_if (eqb t s && false)) (λ t. pos 0) (λ t. ap one_if (and_false (eqb t s))) ∙ combined_none Y.sets (used_sets S)

  pub total_conflict : (c : Conflict) → c.set < S.sets → used S c.set ≡ true → combined (all Y) (rows S) (λ r. coefficient S r (P c))
      ≡ share_of_source S Y c.set c.from +ℤ share_of_target S Y c.from c.to
  total_conflict c h u =
      by_family (λ r. coefficient S r (P c)) (pos 0) (pos 0) (pos 0) (pos 0) (node_share Y.arrivals c.to) (node_share Y.departures c.from) (start_share S Y.sets c.set c.from) (miss_share S Y.misses c.from c.to)
      (combined_none Y.ins (below S.blocks)) (combined_none Y.outs (below S.blocks)) (combined_none Y.loops S.loops) (combined_none Y.facts S.facts)
      (ends_at Y.arrivals c.to z.arrivals) (ends_at Y.departures c.from z.departures) (sets_at c.set c.from h u) (misses_at c.from c.to)
      ∙ regroup c.from c.to
    where
      regroup : (from to : Node)
          → ((((((pos 0 +ℤ pos 0) +ℤ pos 0) +ℤ pos 0) +ℤ node_share Y.arrivals to) +ℤ node_share Y.departures from) +ℤ start_share S Y.sets c.set from) +ℤ miss_share S Y.misses from to
          ≡ share_of_source S Y c.set from +ℤ share_of_target S Y from to
      regroup START START = omega (arith, ints)
      regroup START (at v) = omega (arith, ints)
      regroup START END = omega (arith, ints)
      regroup (at u) START = omega (arith, ints)
      regroup (at u) (at v) = omega (arith, ints)
      regroup (at u) END = omega (arith, ints)
      regroup END START = omega (arith, ints)
      regroup END (at v) = omega (arith, ints)
      regroup END END = omega (arith, ints)
