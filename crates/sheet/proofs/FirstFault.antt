-- The laws of a sheet's refusals. Assumes nothing.
use Rattle.std.proofs.Common.{◌≡◌, ℕ, zero, suc, ◌+◌, ◌<◌, ◌≤◌, Bool, true, false, eqb, ◌≢◌, ◌⊎◌, List, [], ◌∷◌, ◌++◌, length, take, sym, refl, ap, ◌∙◌, subst, inl, inr, ⊎_elim, arith}
use mathlib.Core.Option.{Option, none, some}
use Rattle.std.specs.List.{AllByRecursion}
use Rattle.std.proofs.lemmas.Bool.{false≢true}
use Rattle.sheet.specs.Sheet.{Sheet, Loop}
use Rattle.sheet.specs.Conflict.{used_sets}
use Rattle.sheet.specs.Kinds.{Kind, NONE, HEAD, BLOCK, LBLOCK, COST, EDGE, LOOP, BACK, FACT, CLAIM, HIGH, LOW, START, STEP, FINISH, END, Refusal}
use Rattle.words.specs.Words.{kind, payload, same_kind, one_of, refusal, too_many_conflicts, ends_early, not_due, wrong_end, out_of_limit, too_many, wrong_edge, wrong_loop, wrong_fact, Answer, accepted, refused, Check, demand, first_failing, empty}
use Rattle.sheet.specs.ReadSheet.{State, due, open_loop, closed, whole, checks, demands, next, passing, finished, read_from, start}
use Rattle.sheet.specs.FirstFault.{FirstFault, RefusalsPlaced, Ascending, LowestFirst, Numbered, RefusalsNumbered}
use Rattle.words.proofs.Words.{step_on}

-- the numbers are in order
ascending : (b : Bool) (S : Sheet) (o : Option Loop) (k : Kind) (p i : ℕ) (rest : List ℕ) → Ascending (demand b not_due i ∷ checks S o k p i rest)
ascending b S o NONE p i rest = tt
ascending b S o HEAD p i rest = (inr (refl, omega arith), tt)
ascending b S o BLOCK p i rest = (inr (refl, omega arith), (inr (refl, omega arith), tt))
ascending b S o LBLOCK p i rest = (inr (refl, omega arith), (inr (refl, omega arith), tt))
ascending b S o COST p i rest = tt
ascending b S o EDGE p i rest = (inr (refl, omega arith), (inr (refl, omega arith), (inr (refl, omega arith), (inr (refl, omega arith), (inr (refl, omega arith), (inr (refl, omega arith), tt))))))
ascending b S o LOOP p i rest = (inr (refl, omega arith), (inr (refl, omega arith), (inr (refl, omega arith), (inr (refl, omega arith), tt))))
ascending b S o BACK p i rest = (inr (refl, omega arith), (inr (refl, omega arith), (inr (refl, omega arith), tt)))
ascending b S o FACT p i rest = (inr (refl, omega arith), (inr (refl, omega arith), (inr (refl, omega arith), (inr (refl, omega arith), (inr (refl, omega arith), tt)))))
ascending b S o CLAIM p i rest = tt
ascending b S o HIGH p i rest = tt
ascending b S o LOW p i rest = tt
ascending b S o START p i rest = tt
ascending b S o STEP p i rest = tt
ascending b S o FINISH p i rest = tt
ascending b S o END p i rest = (inr (refl, omega arith), (inr (refl, omega arith), (inl (omega arith), tt)))

pub lowest_first : LowestFirst
lowest_first st w i rest = ascending (one_of (kind w) (due st.stand)) st.read (open_loop st.stand) (kind w) (payload w) i rest

-- what holds of each check's refusal holds of the first that fails
pub failing_one : (P : Refusal → Type 0) (cs : List Check) (r : Refusal) → AllByRecursion (λ c. P c.otherwise) cs → first_failing cs ≡ some r → P r
failing_one P [] r h e = let z : ◌≡◌ {A = ℕ} 0 1 = cc in absurd (omega arith)
failing_one P (c ∷ cs) r h e = go c.holds e (λ e. failing_one P cs r h.1 e)
  where
    go : (b : Bool) → ◌≡◌ {A = Option Refusal} (elim b [ true ↦ first_failing cs | false ↦ some c.otherwise ]) (some r) → (first_failing cs ≡ some r → P r) → P r
    go true e more = more e
    go false e more = let q : c.otherwise ≡ r = cc in subst P q h.0

-- a refusal at the word
abbrev Here : ℕ → Refusal → Type 0
Here i r = Numbered r × (r.number ≢ 2) × (r.number ≢ 9) × (r.place ≡ i)

is_1 : (i : ℕ) → Here i (refusal not_due i)
is_1 i = (inl (omega arith, omega arith, refl), (λ e. omega arith), (λ e. omega arith), refl)

is_3 : (i : ℕ) → Here i (refusal wrong_end i)
is_3 i = (inl (omega arith, omega arith, refl), (λ e. omega arith), (λ e. omega arith), refl)

is_4 : (i : ℕ) → Here i (refusal out_of_limit i)
is_4 i = (inl (omega arith, omega arith, refl), (λ e. omega arith), (λ e. omega arith), refl)

is_5 : (i : ℕ) → Here i (refusal too_many i)
is_5 i = (inr (omega arith, omega arith, refl), (λ e. omega arith), (λ e. omega arith), refl)

is_6 : (i : ℕ) → Here i (refusal wrong_edge i)
is_6 i = (inr (omega arith, omega arith, refl), (λ e. omega arith), (λ e. omega arith), refl)

is_7 : (i : ℕ) → Here i (refusal wrong_loop i)
is_7 i = (inr (omega arith, omega arith, refl), (λ e. omega arith), (λ e. omega arith), refl)

is_8 : (i : ℕ) → Here i (refusal wrong_fact i)
is_8 i = (inr (omega arith, omega arith, refl), (λ e. omega arith), (λ e. omega arith), refl)

pub is_some : {x r : Refusal} → some x ≡ some r → x ≡ r
is_some e = cc

-- A word's refusal: it is at the word, and the words after it do not matter; or it is at the word after END, and only that there is one.
record Fails (b : Bool) (S : Sheet) (o : Option Loop) (k : Kind) (p i : ℕ) (rest : List ℕ) (r : Refusal) : Type 0 where
  numbered : Numbered r
  not_2 : r.number ≢ 2
  not_9 : r.number ≢ 9
  at : ((r.place ≡ i) × ((us : List ℕ) → first_failing (demand b not_due i ∷ checks S o k p i us) ≡ some r))
      ⊎ ((r.place ≡ suc i) × (empty rest ≡ false) × ((us : List ℕ) → empty us ≡ false → first_failing (demand b not_due i ∷ checks S o k p i us) ≡ some r))

here : (b : Bool) (S : Sheet) (o : Option Loop) (k : Kind) (p i : ℕ) (rest : List ℕ) (r : Refusal) → AllByRecursion (λ c. Here i c.otherwise) (demand b not_due i ∷ checks S o k p i rest)
    → first_failing (demand b not_due i ∷ checks S o k p i rest) ≡ some r → ((us : List ℕ) → first_failing (demand b not_due i ∷ checks S o k p i us) ≡ some r) → Fails b S o k p i rest r
here b S o k p i rest r h e all =
    let q = failing_one (Here i) (demand b not_due i ∷ checks S o k p i rest) r h e in
    record { numbered = q.0; not_2 = q.1; not_9 = q.2; at = inl (q.3, all) }

-- the checks of END
abbrev end_checks : Bool → Bool → Bool → Bool → ℕ → List Check
end_checks a c d f i = demand a not_due i ∷ demand c wrong_end i ∷ demand d wrong_loop i ∷ demand f wrong_end (suc i) ∷ []

abbrev EndFails : Bool → Bool → Bool → Bool → ℕ → Refusal → Type 0
EndFails a c d f i r =
    Numbered r × (r.number ≢ 2) × (r.number ≢ 9)
    × (((r.place ≡ i) × ((g : Bool) → first_failing (end_checks a c d g i) ≡ some r))
    ⊎ ((r.place ≡ suc i) × (f ≡ false) × ((g : Bool) → g ≡ false → first_failing (end_checks a c d g i) ≡ some r)))

end_fails : (a c d f : Bool) (i : ℕ) (r : Refusal) → first_failing (end_checks a c d f i) ≡ some r → EndFails a c d f i r
end_fails false c d f i r e = let q = subst (Here i) (is_some e) (is_1 i) in (q.0, q.1, q.2, inl (q.3, λ g. e))
end_fails true false d f i r e = let q = subst (Here i) (is_some e) (is_3 i) in (q.0, q.1, q.2, inl (q.3, λ g. e))
end_fails true true false f i r e = let q = subst (Here i) (is_some e) (is_7 i) in (q.0, q.1, q.2, inl (q.3, λ g. e))
end_fails true true true false i r e =
    let q = subst (Here (suc i)) (is_some e) (is_3 (suc i)) in
    (q.0, q.1, q.2, inr (q.3, refl, λ g h. subst (λ b. first_failing (end_checks true true true b i) ≡ some r) (sym h) e))
end_fails true true true true i r e = let z : ◌≡◌ {A = ℕ} 0 1 = cc in absurd (omega arith)

fails : (b : Bool) (S : Sheet) (o : Option Loop) (k : Kind) (p i : ℕ) (rest : List ℕ) (r : Refusal)
    → first_failing (demand b not_due i ∷ checks S o k p i rest) ≡ some r → Fails b S o k p i rest r
fails b S o NONE p i rest r e = here b S o NONE p i rest r (is_1 i, tt) e (λ us. e)
fails b S o HEAD p i rest r e = here b S o HEAD p i rest r (is_1 i, (is_4 i, tt)) e (λ us. e)
fails b S o BLOCK p i rest r e = here b S o BLOCK p i rest r (is_1 i, (is_4 i, (is_5 i, tt))) e (λ us. e)
fails b S o LBLOCK p i rest r e = here b S o LBLOCK p i rest r (is_1 i, (is_4 i, (is_5 i, tt))) e (λ us. e)
fails b S o COST p i rest r e = here b S o COST p i rest r (is_1 i, tt) e (λ us. e)
fails b S o EDGE p i rest r e = here b S o EDGE p i rest r (is_1 i, (is_5 i, (is_6 i, (is_6 i, (is_6 i, (is_6 i, (is_6 i, tt))))))) e (λ us. e)
fails b S o LOOP p i rest r e = here b S o LOOP p i rest r (is_1 i, (is_5 i, (is_7 i, (is_7 i, (is_7 i, tt))))) e (λ us. e)
fails b S o BACK p i rest r e = here b S o BACK p i rest r (is_1 i, (is_5 i, (is_7 i, (is_7 i, tt)))) e (λ us. e)
fails b S o FACT p i rest r e = here b S o FACT p i rest r (is_1 i, (is_5 i, (is_7 i, (is_8 i, (is_8 i, (is_8 i, tt)))))) e (λ us. e)
fails b S o CLAIM p i rest r e = here b S o CLAIM p i rest r (is_1 i, tt) e (λ us. e)
fails b S o HIGH p i rest r e = here b S o HIGH p i rest r (is_1 i, tt) e (λ us. e)
fails b S o LOW p i rest r e = here b S o LOW p i rest r (is_1 i, tt) e (λ us. e)
fails b S o START p i rest r e = here b S o START p i rest r (is_1 i, tt) e (λ us. e)
fails b S o STEP p i rest r e = here b S o STEP p i rest r (is_1 i, tt) e (λ us. e)
fails b S o FINISH p i rest r e = here b S o FINISH p i rest r (is_1 i, tt) e (λ us. e)
fails b S o END p i rest r e =
    let q = end_fails b (eqb p i) (whole S o) (empty rest) i r e in
    record {
      numbered = q.0;
      not_2 = q.1;
      not_9 = q.2;
      at = ⊎_elim (λ x. inl (x.0, λ us. x.1 (empty us))) (λ x. inr (x.0, x.1, λ us. x.2 (empty us))) q.3;
    }

-- a word that is not END and meets its demands meets them whatever comes after it
same_checks : (b : Bool) (S : Sheet) (o : Option Loop) (k : Kind) (p i : ℕ) (rest us : List ℕ) → same_kind k END ≡ false
    → first_failing (demand b not_due i ∷ checks S o k p i rest) ≡ none → first_failing (demand b not_due i ∷ checks S o k p i us) ≡ none
same_checks b S o NONE p i rest us n e = e
same_checks b S o HEAD p i rest us n e = e
same_checks b S o BLOCK p i rest us n e = e
same_checks b S o LBLOCK p i rest us n e = e
same_checks b S o COST p i rest us n e = e
same_checks b S o EDGE p i rest us n e = e
same_checks b S o LOOP p i rest us n e = e
same_checks b S o BACK p i rest us n e = e
same_checks b S o FACT p i rest us n e = e
same_checks b S o CLAIM p i rest us n e = e
same_checks b S o HIGH p i rest us n e = e
same_checks b S o LOW p i rest us n e = e
same_checks b S o START p i rest us n e = e
same_checks b S o STEP p i rest us n e = e
same_checks b S o FINISH p i rest us n e = e
same_checks b S o END p i rest us n e = absurd (false≢true (sym n))

-- the answer to a word
pub step_refused : {A : Type 0} (o : Option Refusal) (b : Bool) (x y : Answer A) (r : Refusal)
    → ◌≡◌ {A = Answer A} (elim o [ some r ↦ refused r | none ↦ elim b [ true ↦ x | false ↦ y ] ]) (refused r)
    → (o ≡ some r) ⊎ ((o ≡ none) × (((b ≡ true) × (x ≡ refused r)) ⊎ ((b ≡ false) × (y ≡ refused r))))
step_refused (some s) b x y r e = let q : s ≡ r = cc in inl (ap some q)
step_refused none true x y r e = inr (refl, inl (refl, e))
step_refused none false x y r e = inr (refl, inr (refl, e))

pub step_refuses : {A : Type 0} (o : Option Refusal) (b : Bool) (x y : Answer A) (r : Refusal) → o ≡ some r
    → ◌≡◌ {A = Answer A} (elim o [ some r ↦ refused r | none ↦ elim b [ true ↦ x | false ↦ y ] ]) (refused r)
step_refuses none b x y r e = let z : ◌≡◌ {A = ℕ} 0 1 = cc in absurd (omega arith)
step_refuses (some s) b x y r e = let q : s ≡ r = cc in ap refused q

finished_9 : (S : Sheet) (r : Refusal) → finished S ≡ refused r → (r.number ≡ 9) × Numbered r
finished_9 S r e = go (passing S (used_sets S) 0) e
  where
    go : (o : Option ℕ) → ◌≡◌ {A = Answer Sheet} (elim o [ none ↦ accepted S | some s ↦ refused (refusal too_many_conflicts s) ]) (refused r) → (r.number ≡ 9) × Numbered r
    go none e = let z : ◌≡◌ {A = ℕ} 0 1 = cc in absurd (omega arith)
    go (some s) e = let q : refusal too_many_conflicts s ≡ r = cc in subst (λ r. (r.number ≡ 9) × Numbered r) q (refl, inr (omega arith, omega arith, refl))

-- a refusal that is not for the conflict edges: the list ended, or a word is at fault, and only the words up to it matter
record Found (st : State) (ws : List ℕ) (i : ℕ) (r : Refusal) : Type 0 where
  from : i ≤ r.place
  where_is : ((r.number ≡ 2) × (r.place ≡ i + length ws))
      ⊎ ((r.number ≢ 2) × (r.place < i + length ws) × ((us : List ℕ) (j : ℕ) → i + j ≡ r.place → read_from st (take (suc j) ws ++ us) i ≡ refused r))

abbrev Is : State → List ℕ → ℕ → Refusal → Type 0
Is st ws i r = Numbered r × (r.number ≢ 9 → Found st ws i r)

found : (ws : List ℕ) (st : State) (i : ℕ) (r : Refusal) → read_from st ws i ≡ refused r → Is st ws i r
found [] st i r e =
    let q : refusal ends_early i ≡ r = cc in
    subst (λ r. Is st [] i r) q (inl (omega arith, omega arith, refl), λ n. record { from = omega arith; where_is = inl (refl, omega arith) })
found (w ∷ rest) st i r e =
    ⊎_elim
    (λ q. let f = fails due? S o (kind w) (payload w) i rest r q in (f.numbered, λ n. ⊎_elim (here_found f) (later_found rest f) f.at))
    (λ x. ⊎_elim
    (λ y. let k = finished_9 (closed S o) r y.1 in (k.1, λ n. absurd (n k.0)))
    (λ y.
    let k = found rest (next st.stand S (kind w) (payload w)) (suc i) r y.1 in
    (k.0, λ n. on x.0 y.0 (k.1 n)))
    x.1)
    (step_refused (first_failing (demands st w i rest)) (same_kind (kind w) END) (finished (closed S o)) (read_from (next st.stand S (kind w) (payload w)) rest (suc i)) r e)
  where
    S : Sheet
    S = st.read

    o : Option Loop
    o = open_loop st.stand

    due? : Bool
    due? = one_of (kind w) (due st.stand)

    refuses : (us : List ℕ) → first_failing (demands st w i us) ≡ some r → read_from st (w ∷ us) i ≡ refused r
    refuses us q = step_refuses (first_failing (demands st w i us)) (same_kind (kind w) END) (finished (closed S o)) (read_from (next st.stand S (kind w) (payload w)) us (suc i)) r q

    here_found : Fails due? S o (kind w) (payload w) i rest r
        → (r.place ≡ i) × ((us : List ℕ) → first_failing (demand due? not_due i ∷ checks S o (kind w) (payload w) i us) ≡ some r) → Found st (w ∷ rest) i r
    here_found f x = record {
      from = omega (arith, x.0);
      where_is = inr (
        f.not_2,
        omega (arith, x.0),
        λ us j q.
            let z : j ≡ 0 = omega (arith, x.0) in
            subst (λ j. read_from st (take (suc j) (w ∷ rest) ++ us) i ≡ refused r) (sym z) (refuses us (x.1 us)),
      );
    }

    later_found : (rest' : List ℕ) → Fails due? S o (kind w) (payload w) i rest r
        → (r.place ≡ suc i) × (empty rest' ≡ false) × ((us : List ℕ) → empty us ≡ false → first_failing (demand due? not_due i ∷ checks S o (kind w) (payload w) i us) ≡ some r)
        → Found st (w ∷ rest') i r
    later_found [] f x = absurd (false≢true (sym x.1))
    later_found (v ∷ vs) f x = record {
      from = omega (arith, x.0);
      where_is = inr (
        f.not_2,
        omega (arith, x.0),
        λ us j q.
            let z : j ≡ 1 = omega (arith, x.0) in
            subst (λ j. read_from st (take (suc j) (w ∷ v ∷ vs) ++ us) i ≡ refused r) (sym z) (refuses (v ∷ us) (x.2 (v ∷ us) refl)),
      );
    }

    on : first_failing (demands st w i rest) ≡ none → same_kind (kind w) END ≡ false → Found (next st.stand S (kind w) (payload w)) rest (suc i) r → Found st (w ∷ rest) i r
    on q n f = record {
      from = omega (arith, f.from);
      where_is = ⊎_elim (λ x. inl (x.0, omega (arith, x.1))) (λ x. inr (x.0, omega (arith, x.1), λ us j k. at us j k (x.2 us))) f.where_is;
    }
      where
        at : (us : List ℕ) (j : ℕ) → i + j ≡ r.place
            → ((j : ℕ) → suc i + j ≡ r.place → read_from (next st.stand S (kind w) (payload w)) (take (suc j) rest ++ us) (suc i) ≡ refused r)
            → read_from st (take (suc j) (w ∷ rest) ++ us) i ≡ refused r
        at us zero k more = absurd (omega (arith, f.from))
        at us (suc j) k more =
            step_on (first_failing (demands st w i (take (suc j) rest ++ us))) (same_kind (kind w) END) (finished (closed S o)) (read_from (next st.stand S (kind w) (payload w)) (take (suc j) rest ++ us) (suc i))
            (same_checks due? S o (kind w) (payload w) i rest (take (suc j) rest ++ us) n q) n
            ∙ more j (omega arith)

pub first_fault : FirstFault
first_fault ws us r e n l =
    ⊎_elim (λ x. absurd (omega (arith, x.1))) (λ x. x.2 us r.place (omega arith)) ((found ws start 0 r e).1 n).where_is

pub refusals_placed : RefusalsPlaced
refusals_placed ws r e n =
    ⊎_elim
    (λ x. record { in_list = omega (arith, x.1); at_end = (λ q. omega (arith, x.1), λ q. x.0) })
    (λ x. record { in_list = omega (arith, x.1); at_end = (λ q. absurd (x.0 q), λ q. absurd (omega (arith, x.1))) })
    ((found ws start 0 r e).1 n).where_is

pub refusals_numbered : RefusalsNumbered
refusals_numbered ws r e = (found ws start 0 r e).0
