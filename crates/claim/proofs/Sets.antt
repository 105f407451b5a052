-- For code: the used sets, and the l-blocks that conflict edges join. Assumes nothing.
use Rattle.std.proofs.Common.{◌≡◌, ℕ, zero, suc, ◌+◌, ◌<◌, Bool, true, false, cond, ◌⊎◌, List, [], ◌∷◌, ◌++◌, length, get_or, take, set, replicate, filter, sym, refl, ap, ◌∙◌, subst, inl, inr, not-suc-le-zero, arith}
use Rattle.std.specs.List.{ContainsAt as Has, AllByRecursion}
use Rattle.std.proofs.lemmas.List.Elements.{filter-append}
use Rattle.std.proofs.ByRecursion.{All-get_or, All-append, All-map, all-has, all_kept_by, kept_by_passes}
use Rattle.std.proofs.lemmas.List.{get_or-set_same, get_or-set_other, get_or-replicate, length-append}
use Rattle.std.proofs.lemmas.Bool.{cases_eq}
use Rattle.words.specs.Lists.{below, joined}
use Rattle.words.proofs.Lists.{all_below}
use Rattle.sheet.specs.declared.timing.Sheet.{Sheet as Held}
use Rattle.sheet.specs.Sheet.{Sheet}
use Rattle.sheet.specs.View.{view}
use Rattle.sheet.specs.Conflict.{in_set, used, used_sets, IsConflict}
use Rattle.sheet.specs.ConflictList.{conflicts, conflicts_of, conflicts_from, leads_to, members, set_lblocks, conflicting}
use Rattle.sheet.specs.Kept.{used_among}
use Rattle.sheet.proofs.SheetLists.{below_push}
use Rattle.sheet.proofs.Reach.{lists_conflicts}
use Rattle.sheet.proofs.Used.{used_more}
use Rattle.sheet.proofs.Sheets.{sheet_sound}
use Rattle.claim.specs.Items.{LBlock, Node, START, at, END, Conflict}
use Rattle.claim.specs.Tables.{UsedTable, NodeIn, EndsIn}

-- the table of used sets
pub none_used : (vs : List LBlock) → UsedTable (take 0 vs) (replicate 64 false)
none_used vs s h = get_or-replicate 64 s false false h

-- the table of ranks, as far as set n
abbrev pub RanksTo : List LBlock → ℕ → List ℕ → Type 0
RanksTo vs n t = (s : ℕ) → s < n → get_or t s 0 ≡ used_among vs s

pub more_ranks : (vs : List LBlock) (n c : ℕ) (t : List ℕ) → length t ≡ 64 → n < 64 → c ≡ used_among vs n → RanksTo vs n t → RanksTo vs (n + 1) (set t n c)
more_ranks vs n c t l p e h s q = go (cases_eq s n)
  where
    go : (s ≡ n) ⊎ (s ≡ n → ⊥) → get_or (set t n c) s 0 ≡ used_among vs s
    go (inl u) = ap (λ x. get_or (set t n c) x 0) u ∙ get_or-set_same t n c 0 (omega arith) ∙ e ∙ ap (used_among vs) (sym u)
    go (inr u) = get_or-set_other t n s c 0 u ∙ h s (omega arith)

pub more_count : (vs : List LBlock) (n c k : ℕ) (u t : Bool) (b : List Bool) → UsedTable vs b → n < 64 → get_or b n false ≡ t → c ≡ used_among vs n → k ≡ c + cond t 1 0 → k ≡ used_among vs (n + 1)
more_count vs n c k u t b h p q e g = g ∙ ap (λ x. x + cond t 1 0) e ∙ sym (used_more vs n t (sym q ∙ h n p))

-- fewer used sets are below a used set than there are
pub rank_below : (p : ℕ → Bool) (s n : ℕ) → s < n → p s ≡ true → length (filter p (below s)) < length (filter p (below n))
rank_below p s zero h e = absurd (not-suc-le-zero h)
rank_below p s (suc n) h e = go (cases_eq s n) (λ l. rank_below p s n l e)
  where
    grows : (t : Bool) → p n ≡ t → length (filter p (below (suc n))) ≡ length (filter p (below n)) + length (cond t (n ∷ []) [])
    grows t q = ap (λ xs. length (filter p xs)) (below_push n) ∙ ap length (filter-append p (below n) (n ∷ [])) ∙ ap (λ b. length (filter p (below n) ++ cond b (n ∷ []) [])) q ∙ length-append (filter p (below n)) (cond t (n ∷ []) [])

    go : (s ≡ n) ⊎ (s ≡ n → ⊥) → (s < n → length (filter p (below s)) < length (filter p (below n))) → length (filter p (below s)) < length (filter p (below (suc n)))
    go (inl u) k = let g = grows true (ap p (sym u) ∙ e) in let v : length (filter p (below s)) ≡ length (filter p (below n)) = ap (λ x. length (filter p (below x))) u in omega arith
    go (inr u) k = let l = k (omega arith) in let g = grows (p n) refl in omega arith

-- a conflict edge's set is used
pub set_used : (S : Sheet) (c : Conflict) → IsConflict S c → (c.set < S.sets) × (used S c.set ≡ true)
set_used S c h = (
  all-has (λ s. s < S.sets) (used_sets S) c.set (all_kept_by (used S) (λ s. s < S.sets) (below S.sets) (all_below (λ s. s < S.sets) S.sets (λ k l. l))) h.of_used,
  all-has (λ s. used S s ≡ true) (used_sets S) c.set (kept_by_passes (used S) (below S.sets)) h.of_used,
)

-- its ends are START, END or l-blocks of the sheet
all_joined : {A B : Type 0} (P : B → Type 0) (f : A → List B) (xs : List A) → AllByRecursion (λ x. AllByRecursion P (f x)) xs → AllByRecursion P (joined f xs)
all_joined P f [] h = tt
all_joined P f (x ∷ xs) h = All-append P (f x) (joined f xs) h.0 (all_joined P f xs h.1)

all_each : {A : Type 0} (P : A → Type 0) → ((x : A) → P x) → (xs : List A) → AllByRecursion P xs
all_each P h [] = tt
all_each P h (x ∷ xs) = (h x, all_each P h xs)

all_from : {A : Type 0} (P Q : A → Type 0) → ((x : A) → P x → Q x) → (xs : List A) → AllByRecursion P xs → AllByRecursion Q xs
all_from P Q h [] a = tt
all_from P Q h (x ∷ xs) a = (h x a.0, all_from P Q h xs a.1)

module _ (S : Sheet) where
  abbrev n : ℕ
  n = length S.lblocks

  members_in : (s : ℕ) → AllByRecursion (NodeIn n) (members S s)
  members_in s = All-map (NodeIn n) at (set_lblocks S s) (all_kept_by (λ v. in_set S s (at v)) (λ v. v < n) (below n) (all_below (λ v. v < n) n (λ k l. l)))

  from_in : (s : ℕ) (u : Node) → NodeIn n u → AllByRecursion (EndsIn n) (conflicts_from S s u)
  from_in s u h =
      All-map (EndsIn n) (λ v. record { set = s; from = u; to = v }) (leads_to S s u)
      (all_from (NodeIn n) (λ v. NodeIn n u × NodeIn n v) (λ v a. (h, a)) (leads_to S s u)
      (all_kept_by (conflicting S s u) (NodeIn n) (members S s ++ (END ∷ [])) (All-append (NodeIn n) (members S s) (END ∷ []) (members_in s) (tt, tt))))

  set_in : (s : ℕ) → AllByRecursion (EndsIn n) (conflicts_of S s)
  set_in s = all_joined (EndsIn n) (conflicts_from S s) (START ∷ members S s) (from_in s START tt, all_from (NodeIn n) (λ u. AllByRecursion (EndsIn n) (conflicts_from S s u)) (from_in s) (members S s) (members_in s))

  pub ends_in : AllByRecursion (EndsIn n) (conflicts S)
  ends_in = all_joined (EndsIn n) (conflicts_of S) (used_sets S) (all_each (λ s. AllByRecursion (EndsIn n) (conflicts_of S s)) set_in (used_sets S))

-- a conflict edge of the list: its set is used, and its ends are in the sheet
pub used_of : (S : Sheet) (c : Conflict) → Has (conflicts S) c → (c.set < S.sets) × (used S c.set ≡ true)
used_of S c h = set_used S c ((lists_conflicts S).sound c h)

pub set_fits : (s : Held) (c : Conflict) → Has (conflicts (view s)) c → c.set < 64
set_fits s c h = omega (arith, (used_of (view s) c h).0, (sheet_sound s).formed.few_sets)

pub ends_of : (S : Sheet) (c : Conflict) → Has (conflicts S) c → EndsIn (length S.lblocks) c
ends_of S c h = subst (EndsIn (length S.lblocks)) (h.2 c) (All-get_or (EndsIn (length S.lblocks)) (conflicts S) h.0 c h.1 (ends_in S))
