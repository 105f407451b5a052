-- The laws of a certificate's refusals. Assumes nothing.
use Rattle.std.proofs.Common.{◌≡◌, ℕ, zero, suc, ◌+◌, ◌-◌, ◌≤◌, Bool, true, false, not, eqb, ◌≢◌, ◌⊎◌, List, [], ◌∷◌, ◌++◌, length, take, sym, refl, ◌∙◌, subst, inl, inr, ⊎_elim, arith}
use mathlib.Core.Option.{none, some}
use Rattle.std.specs.List.{AllByRecursion}
use Rattle.std.proofs.lemmas.Bool.{false≢true}
use Rattle.claim.specs.Kinds.{Kind, NONE, HEAD, BLOCK, LBLOCK, COST, EDGE, LOOP, BACK, FACT, CLAIM, HIGH, LOW, START, STEP, FINISH, END, Refusal}
use Rattle.words.specs.Words.{kind, payload, same_kind, one_of, refusal, ends_early, not_due, wrong_end, wrong_pairs, out_of_limit, wrong_sign, accepted, refused, Check, demand, first_failing}
use Rattle.words.specs.Words.{empty}
use Rattle.claim.specs.ReadCertificate.{Stand, State, due, barred, checks, demands, next, read_from, start}
use Rattle.claim.specs.CertificateFault.{CertificateFirstFault, CertificateCut}
use Rattle.words.proofs.Words.{step_on}
use Rattle.sheet.proofs.FirstFault.{failing_one, is_some, step_refused, step_refuses}

-- a refusal at the word, or at the word before it
abbrev Here : ℕ → Refusal → Type 0
Here i r = (r.number ≢ 2) × ((r.place ≡ i) ⊎ (suc r.place ≡ i))

one_back : (i : ℕ) → (i - 1 ≡ i) ⊎ (suc (i - 1) ≡ i)
one_back zero = inl refl
one_back (suc i) = inr (omega arith)

abbrev firsts : Bool → Bool → ℕ → List Check → List Check
firsts a b i cs = demand a wrong_pairs i ∷ demand b not_due i ∷ cs

record Fails (a b : Bool) (d : Stand) (k : Kind) (p i : ℕ) (rest : List ℕ) (r : Refusal) : Type 0 where
  not_2 : r.number ≢ 2
  at : (((r.place ≡ i) ⊎ (suc r.place ≡ i)) × ((us : List ℕ) → first_failing (firsts a b i (checks d k p i us)) ≡ some r))
      ⊎ ((r.place ≡ suc i) × (empty rest ≡ false) × ((us : List ℕ) → empty us ≡ false → first_failing (firsts a b i (checks d k p i us)) ≡ some r))

here : (a b : Bool) (d : Stand) (k : Kind) (p i : ℕ) (rest : List ℕ) (r : Refusal) → AllByRecursion (λ c. Here i c.otherwise) (firsts a b i (checks d k p i rest))
    → first_failing (firsts a b i (checks d k p i rest)) ≡ some r → ((us : List ℕ) → first_failing (firsts a b i (checks d k p i us)) ≡ some r) → Fails a b d k p i rest r
here a b d k p i rest r h e all =
    let q = failing_one (Here i) (firsts a b i (checks d k p i rest)) r h e in
    record { not_2 = q.0; at = inl (q.1, all) }

abbrev end_checks : Bool → Bool → Bool → Bool → ℕ → List Check
end_checks a b c f i = firsts a b i (demand c wrong_end i ∷ demand f wrong_end (suc i) ∷ [])

abbrev EndFails : Bool → Bool → Bool → Bool → ℕ → Refusal → Type 0
EndFails a b c f i r =
    (r.number ≢ 2)
    × (((r.place ≡ i) × ((g : Bool) → first_failing (end_checks a b c g i) ≡ some r))
    ⊎ ((r.place ≡ suc i) × (f ≡ false) × ((g : Bool) → g ≡ false → first_failing (end_checks a b c g i) ≡ some r)))

abbrev Now : ℕ → Refusal → Type 0
Now i r = (r.number ≢ 2) × (r.place ≡ i)

end_fails : (a b c f : Bool) (i : ℕ) (r : Refusal) → first_failing (end_checks a b c f i) ≡ some r → EndFails a b c f i r
end_fails false b c f i r e = let q : Now i r = subst (Now i) (is_some e) ((λ e. omega arith), refl) in (q.0, inl (q.1, λ g. e))
end_fails true false c f i r e = let q : Now i r = subst (Now i) (is_some e) ((λ e. omega arith), refl) in (q.0, inl (q.1, λ g. e))
end_fails true true false f i r e = let q : Now i r = subst (Now i) (is_some e) ((λ e. omega arith), refl) in (q.0, inl (q.1, λ g. e))
end_fails true true true false i r e =
    let q : Now (suc i) r = subst (Now (suc i)) (is_some e) ((λ e. omega arith), refl) in
    (q.0, inr (q.1, refl, λ g h. subst (λ x. first_failing (end_checks true true true x i) ≡ some r) (sym h) e))
end_fails true true true true i r e = let z : ◌≡◌ {A = ℕ} 0 1 = cc in absurd (omega arith)

is_10 : (i : ℕ) → Here i (refusal wrong_pairs i)
is_10 i = ((λ e. omega arith), inl refl)

is_1 : (i : ℕ) → Here i (refusal not_due i)
is_1 i = ((λ e. omega arith), inl refl)

is_4 : (i : ℕ) → Here i (refusal out_of_limit i)
is_4 i = ((λ e. omega arith), inl refl)

is_11 : (i : ℕ) → Here i (refusal wrong_sign i)
is_11 i = ((λ e. omega arith), inl refl)

is_11_before : (i : ℕ) → Here i (refusal wrong_sign (i - 1))
is_11_before i = ((λ e. omega arith), one_back i)

fails : (a b : Bool) (d : Stand) (k : Kind) (p i : ℕ) (rest : List ℕ) (r : Refusal)
    → first_failing (firsts a b i (checks d k p i rest)) ≡ some r → Fails a b d k p i rest r
fails a b d NONE p i rest r e = here a b d NONE p i rest r (is_10 i, (is_1 i, tt)) e (λ us. e)
fails a b d HEAD p i rest r e = here a b d HEAD p i rest r (is_10 i, (is_1 i, tt)) e (λ us. e)
fails a b d BLOCK p i rest r e = here a b d BLOCK p i rest r (is_10 i, (is_1 i, tt)) e (λ us. e)
fails a b d LBLOCK p i rest r e = here a b d LBLOCK p i rest r (is_10 i, (is_1 i, tt)) e (λ us. e)
fails a b d COST p i rest r e = here a b d COST p i rest r (is_10 i, (is_1 i, tt)) e (λ us. e)
fails a b d EDGE p i rest r e = here a b d EDGE p i rest r (is_10 i, (is_1 i, tt)) e (λ us. e)
fails a b d LOOP p i rest r e = here a b d LOOP p i rest r (is_10 i, (is_1 i, tt)) e (λ us. e)
fails a b d BACK p i rest r e = here a b d BACK p i rest r (is_10 i, (is_1 i, tt)) e (λ us. e)
fails a b d FACT p i rest r e = here a b d FACT p i rest r (is_10 i, (is_1 i, tt)) e (λ us. e)
fails a b d CLAIM p i rest r e = here a b d CLAIM p i rest r (is_10 i, (is_1 i, (is_4 i, tt))) e (λ us. e)
fails a b d HIGH p i rest r e = here a b d HIGH p i rest r (is_10 i, (is_1 i, (is_11 i, (is_11 i, tt)))) e (λ us. e)
fails a b d LOW p i rest r e = here a b d LOW p i rest r (is_10 i, (is_1 i, (is_11_before i, tt))) e (λ us. e)
fails a b d START p i rest r e = here a b d START p i rest r (is_10 i, (is_1 i, tt)) e (λ us. e)
fails a b d STEP p i rest r e = here a b d STEP p i rest r (is_10 i, (is_1 i, tt)) e (λ us. e)
fails a b d FINISH p i rest r e = here a b d FINISH p i rest r (is_10 i, (is_1 i, tt)) e (λ us. e)
fails a b d END p i rest r e =
    let q = end_fails a b (eqb p i) (empty rest) i r e in
    record {
      not_2 = q.0;
      at = ⊎_elim (λ x. inl (inl x.0, λ us. x.1 (empty us))) (λ x. inr (x.0, x.1, λ us. x.2 (empty us))) q.1;
    }

same_checks : (a b : Bool) (d : Stand) (k : Kind) (p i : ℕ) (rest us : List ℕ) → same_kind k END ≡ false
    → first_failing (firsts a b i (checks d k p i rest)) ≡ none → first_failing (firsts a b i (checks d k p i us)) ≡ none
same_checks a b d NONE p i rest us n e = e
same_checks a b d HEAD p i rest us n e = e
same_checks a b d BLOCK p i rest us n e = e
same_checks a b d LBLOCK p i rest us n e = e
same_checks a b d COST p i rest us n e = e
same_checks a b d EDGE p i rest us n e = e
same_checks a b d LOOP p i rest us n e = e
same_checks a b d BACK p i rest us n e = e
same_checks a b d FACT p i rest us n e = e
same_checks a b d CLAIM p i rest us n e = e
same_checks a b d HIGH p i rest us n e = e
same_checks a b d LOW p i rest us n e = e
same_checks a b d START p i rest us n e = e
same_checks a b d STEP p i rest us n e = e
same_checks a b d FINISH p i rest us n e = e
same_checks a b d END p i rest us n e = absurd (false≢true (sym n))

record Found (st : State) (ws : List ℕ) (i : ℕ) (r : Refusal) : Type 0 where
  from : i ≤ suc r.place
  where_is : ((r.number ≡ 2) × (r.place ≡ i + length ws))
      ⊎ ((r.number ≢ 2) × ((us : List ℕ) (j : ℕ) → i + j ≡ suc r.place → read_from st (take (suc j) ws ++ us) i ≡ refused r))

found : (ws : List ℕ) (st : State) (i : ℕ) (r : Refusal) → read_from st ws i ≡ refused r → Found st ws i r
found [] st i r e =
    let q : refusal ends_early i ≡ r = cc in
    subst (λ r. Found st [] i r) q (record { from = omega arith; where_is = inl (refl, omega arith) })
found (w ∷ rest) st i r e =
    ⊎_elim
    (λ q. let f = fails may is_due st.stand (kind w) (payload w) i rest r q in ⊎_elim (here_found f) (later_found rest f) f.at)
    (λ x. ⊎_elim
    (λ y. let z : ◌≡◌ {A = ℕ} 0 1 = cc y.1 in absurd (omega arith))
    (λ y. on x.0 y.0 (found rest after (suc i) r y.1))
    x.1)
    (step_refused (first_failing (demands st w i rest)) (same_kind (kind w) END) (accepted st.read) (read_from after rest (suc i)) r e)
  where
    after : State
    after = next st.stand st.read (kind w) (payload w)

    may : Bool
    may = not (one_of (kind w) (barred st.stand))

    is_due : Bool
    is_due = one_of (kind w) (due st.stand)

    refuses : (us : List ℕ) → first_failing (demands st w i us) ≡ some r → read_from st (w ∷ us) i ≡ refused r
    refuses us q = step_refuses (first_failing (demands st w i us)) (same_kind (kind w) END) (accepted st.read) (read_from after us (suc i)) r q

    here_found : Fails may is_due st.stand (kind w) (payload w) i rest r
        → ((r.place ≡ i) ⊎ (suc r.place ≡ i)) × ((us : List ℕ) → first_failing (firsts may is_due i (checks st.stand (kind w) (payload w) i us)) ≡ some r) → Found st (w ∷ rest) i r
    here_found f x = record {
      from = ⊎_elim (λ q. omega (arith, q)) (λ q. omega (arith, q)) x.0;
      where_is = inr (f.not_2, λ us j q. refuses (take j rest ++ us) (x.1 (take j rest ++ us)));
    }

    later_found : (rest' : List ℕ) → Fails may is_due st.stand (kind w) (payload w) i rest r
        → (r.place ≡ suc i) × (empty rest' ≡ false) × ((us : List ℕ) → empty us ≡ false → first_failing (firsts may is_due i (checks st.stand (kind w) (payload w) i us)) ≡ some r)
        → Found st (w ∷ rest') i r
    later_found [] f x = absurd (false≢true (sym x.1))
    later_found (v ∷ vs) f x = record {
      from = omega (arith, x.0);
      where_is = inr (
        f.not_2,
        λ us j q.
            let z : j ≡ 2 = omega (arith, x.0) in
            subst (λ j. read_from st (take (suc j) (w ∷ v ∷ vs) ++ us) i ≡ refused r) (sym z) (refuses (v ∷ (take 1 vs ++ us)) (x.2 (v ∷ (take 1 vs ++ us)) refl)),
      );
    }

    on : first_failing (demands st w i rest) ≡ none → same_kind (kind w) END ≡ false → Found after rest (suc i) r → Found st (w ∷ rest) i r
    on q n f = record {
      from = omega (arith, f.from);
      where_is = ⊎_elim (λ x. inl (x.0, omega (arith, x.1))) (λ x. inr (x.0, λ us j k. at us j k (x.1 us))) f.where_is;
    }
      where
        at : (us : List ℕ) (j : ℕ) → i + j ≡ suc r.place
            → ((j : ℕ) → suc i + j ≡ suc r.place → read_from after (take (suc j) rest ++ us) (suc i) ≡ refused r)
            → read_from st (take (suc j) (w ∷ rest) ++ us) i ≡ refused r
        at us zero k more = absurd (omega (arith, f.from))
        at us (suc j) k more =
            step_on (first_failing (demands st w i (take (suc j) rest ++ us))) (same_kind (kind w) END) (accepted st.read) (read_from after (take (suc j) rest ++ us) (suc i))
            (same_checks may is_due st.stand (kind w) (payload w) i rest (take (suc j) rest ++ us) n q) n
            ∙ more j (omega arith)

pub certificate_first_fault : CertificateFirstFault
certificate_first_fault n ws us r e n2 = ⊎_elim (λ x. absurd (n2 x.0)) (λ x. x.1 us (suc r.place) (omega arith)) (found ws (start n) 0 r e).where_is

pub certificate_cut : CertificateCut
certificate_cut n ws r e q = ⊎_elim (λ x. omega (arith, x.1)) (λ x. absurd (x.0 q)) (found ws (start n) 0 r e).where_is
