-- For the code that reads a certificate: the loop over its pairs. Assumes nothing.
use Rattle.std.proofs.Common.{◌≡◌, ℕ, suc, ◌+◌, ◌-◌, ◌*◌, ◌<◌, ◌≤◌, List, [], ◌∷◌, ◌++◌, length, take, drop, sym, ap, ◌∙◌, ap₂, arith}
use Rattle.std.specs.Simd.{first_chunks}
use Rattle.std.proofs.lemmas.List.{drop-drop, map-append}
use Rattle.words.specs.Words.{accepted, refused}
use Rattle.claim.specs.Kinds.{Refusal}
use Rattle.claim.specs.Certificate.{Certificate}
use Rattle.claim.specs.ReadCertificate.{State, stands, at_pair, with_multiplier, start, read_from, read_certificate}
use Rattle.claim.specs.Parts.{multiplier, multipliers, Onward}
use Rattle.claim.proofs.Pairs.{chunked_more}

-- the certificate as far as k pairs
abbrev so_far : List ℕ → ℕ → ℕ → ℕ → Certificate
so_far ws w d k = record { W = w; D = d; multipliers = multipliers (first_chunks 2 k (drop 3 ws)) }

-- k of n pairs are read, and reading goes on at place i
pub record Taken (ws : List ℕ) (n w d k i : ℕ) : Type 0 where
  pub onward : Onward ws (start n) 0 (stands (at_pair (n - k)) (so_far ws w d k)) i
  pub place : i ≡ 3 + 2 * k
  pub inside : 3 + 2 * k ≤ length ws

-- the same list and place under other names
pub same_read : (us ws : List ℕ) (i j : ℕ) → us ≡ ws → i ≡ j → (st : State) → read_from st (drop i us) i ≡ read_from st (drop j ws) j
same_read us ws i j e f st = ap₂ (λ vs k. read_from st (drop k vs) k) e f

pub same_onward : (us ws : List ℕ) (i j k : ℕ) → us ≡ ws → i ≡ j → (s t : State) → Onward us s i t k → Onward ws s j t k
same_onward us ws i j k e f s t h = sym (same_read us ws i j e f s) ∙ h ∙ ap (λ vs. read_from t (drop k vs) k) e

module _ (ws : List ℕ) (n : ℕ) where
  module _ (w d k i : ℕ) (t : Taken ws n w d k i) (l : k < n) where
    left : n - k ≡ suc (n - (k + 1))
    left = omega arith

    at_next : (x : ℕ) → read_from (stands (at_pair (n - k)) (so_far ws w d k)) (drop i ws) i ≡ read_from (stands (at_pair (suc (n - (k + 1)))) (so_far ws w d k)) (drop i ws) i
    at_next x = ap (λ m. read_from (stands (at_pair m) (so_far ws w d k)) (drop i ws) i) left

    pair_place : take 2 (drop i ws) ≡ take 2 (drop (2 * k) (drop 3 ws))
    pair_place = ap (take 2) (ap (λ m. drop m ws) t.place ∙ sym (drop-drop (2 * k) 3 ws))

    pub one_refused : (r : Refusal) → ((m : ℕ) (C : Certificate) → read_from (stands (at_pair (suc m)) C) (drop i ws) i ≡ refused r) → read_certificate n ws ≡ refused r
    one_refused r f = t.onward ∙ at_next 0 ∙ f (n - (k + 1)) (so_far ws w d k)

    pub one_taken : (j : ℕ) → ((m : ℕ) (C : Certificate) → Onward ws (stands (at_pair (suc m)) C) i (stands (at_pair m) (with_multiplier C (multiplier (take 2 (drop i ws))))) j)
        → i + 1 < length ws → j ≡ i + 2 → Taken ws n w d (k + 1) j
    one_taken j f h e = record {
      onward = t.onward ∙ at_next 0 ∙ f (n - (k + 1)) (so_far ws w d k)
          ∙ ap (λ ys. read_from (stands (at_pair (n - (k + 1))) (record { W = w; D = d; multipliers = ys })) (drop j ws) j)
          (ap (λ p. multipliers (first_chunks 2 k (drop 3 ws)) ++ (multiplier p ∷ [])) pair_place
          ∙ sym (map-append multiplier (first_chunks 2 k (drop 3 ws)) (take 2 (drop (2 * k) (drop 3 ws)) ∷ []))
          ∙ ap multipliers (sym (chunked_more k (drop 3 ws))));
      place = let p = t.place in omega arith;
      inside = let p = t.place in omega arith;
    }

  -- after the last pair
  module _ (w d k i : ℕ) (t : Taken ws n w d k i) (e : n ≤ k) where
    at_end : read_certificate n ws ≡ read_from (stands (at_pair 0) (so_far ws w d k)) (drop i ws) i
    at_end = t.onward ∙ ap (λ m. read_from (stands (at_pair m) (so_far ws w d k)) (drop i ws) i) (omega arith)

    pub all_taken : k ≤ n → ((C : Certificate) → read_from (stands (at_pair 0) C) (drop i ws) i ≡ accepted C) → (ps : List (List ℕ)) → ps ≡ first_chunks 2 n (drop 3 ws)
        → read_certificate n ws ≡ accepted (record { W = w; D = d; multipliers = multipliers ps })
    all_taken u f ps p =
        let q : k ≡ n = omega arith in
        at_end ∙ f (so_far ws w d k) ∙ ap (λ ys. accepted (record { W = w; D = d; multipliers = multipliers ys })) (ap (λ m. first_chunks 2 m (drop 3 ws)) q ∙ sym p)
