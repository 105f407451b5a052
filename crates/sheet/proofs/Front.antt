-- The front of a search: how it grows, and what it has seen when it is done. Assumes nothing.
use Rattle.std.proofs.Common.{◌≡◌, ℕ, suc, ◌+◌, ◌<◌, ◌≤◌, Bool, true, false, cond, not, ◌⊎◌, List, [], ◌∷◌, ◌++◌, length, get_or, set, count_by, sym, refl, ap, ◌∙◌, subst, inl, inr, ⊎_elim, arith, length-append, length-set}
use Rattle.std.specs.List.{ContainsAt as Has, AllByRecursion}
use Rattle.std.proofs.lemmas.List.{get_or-set_same, get_or-set_other, get_or_append_left, append-nil}
use Rattle.std.proofs.ByRecursion.{All-append, All-weaker, has_append_left, has_append_right, has_push}
use Rattle.std.proofs.lemmas.List.Sums.{sum_by-set}
use Rattle.std.proofs.lemmas.Bool.{cases_eq, both_ways, false≢true}
use Rattle.sheet.specs.Sheet.{Sheet}
use Rattle.sheet.specs.Conflict.{Node, START, at, END, Arrow, Leads, one, more, in_set}
use Rattle.sheet.specs.Traversal.{flagged, Front, Going, Sees, On, saw}
use Rattle.sheet.specs.ConflictList.{conflicting}
use Rattle.sheet.proofs.Reach.{leaves, reaches, leads_sound, conflicting_complete}
use Rattle.sheet.specs.declared.traversal.reach.Reach.{Reach}

-- flags
flag_set : (seen : List Bool) (k : ℕ) → k < length seen → get_or (set seen k true) k false ≡ true
flag_set seen k l = get_or-set_same seen k true false l

flag_kept : (seen : List Bool) (k : ℕ) → k < length seen → (j : ℕ) → get_or seen j false ≡ true → get_or (set seen k true) j false ≡ true
flag_kept seen k l j t = ⊎_elim
    (λ e. subst (λ i. get_or (set seen k true) i false ≡ true) (sym e) (flag_set seen k l))
    (λ d. get_or-set_other seen k j true false d ∙ t)
    (cases_eq j k)

flag_cases : (seen : List Bool) (k j : ℕ) → get_or (set seen k true) j false ≡ true → (j ≡ k) ⊎ (get_or seen j false ≡ true)
flag_cases seen k j t = ⊎_elim inl (λ d. inr (sym (get_or-set_other seen k j true false d) ∙ t)) (cases_eq j k)

count_set : (seen : List Bool) (k : ℕ) → k < length seen → get_or seen k false ≡ false → count_by not (set seen k true) + 1 ≡ count_by not seen
count_set seen k l f =
    let e = sum_by-set (λ x. cond (not x) 1 0) seen k true false l in
    grind (arith, e, f)

-- one front after another
pub on_trans : {S : Sheet} {r r' r'' : Reach} → On S r r' → On S r' r'' → On S r r''
on_trans p q = record {
  going = q.going;
  same_source = q.same_source ∙ p.same_source;
  kept = λ v t. q.kept v (p.kept v t);
  longer = omega (arith, p.longer, q.longer);
  queue_kept = λ i l. q.queue_kept i (omega (arith, p.longer)) ∙ p.queue_kept i l;
}

pub on_leads : {S : Sheet} {r r' : Reach} {y : Node} → On S r r' → Sees S r y → Sees S r' y
on_leads {S} {y = y} o l = subst (λ a. Leads S a.set a.from y) (sym o.same_source) l

module _ (S : Sheet) (s : ℕ) (u : Node) (seen : List Bool) (ended : Bool) (queue : List ℕ) (k : ℕ) (f : Front S s u seen ended queue)
    (known : k < length S.lblocks) (leads : Leads S s u (at k)) (new : get_or seen k false ≡ false) where
  in_flags : k < length seen
  in_flags = omega (arith, f.sized)

  -- l-block k is seen, and queued if it is outside the set
  front_more : (added : List ℕ) → length added ≤ 1 → AllByRecursion (λ q. (q ≡ k) × (in_set S s (at k) ≡ false)) added
      → (in_set S s (at k) ≡ false → Has added k) → Front S s u (set seen k true) ended (queue ++ added)
  front_more added short mine whole = record {
    sized = length-set seen k true ∙ f.sized;
    sound = sound;
    queued = λ j t out. ⊎_elim
        (λ e. has_append_right queue added j (subst (Has added) (sym e) (whole (subst (λ i. in_set S s (at i) ≡ false) e out))))
        (λ h. has_append_left queue added j (f.queued j h out))
        (flag_cases seen k j t);
    inner = All-append _ queue added
        (All-weaker _ _ (λ q h. (h.0, h.1, flag_kept seen k in_flags q h.2)) queue f.inner)
        (All-weaker _ _ (λ q h. (
          omega arith,
          subst (λ i. in_set S s (at i) ≡ false) (sym h.0) h.1,
          subst (λ i. get_or (set seen k true) i false ≡ true) (sym h.0) (flag_set seen k in_flags),
        )) added mine);
    room = omega (arith, f.room, count_set seen k in_flags new, length-append queue added);
  }
    where
      sound : (v : Node) → flagged (set seen k true) ended v ≡ true → Leads S s u v
      sound START t = absurd (false≢true t)
      sound (at j) t = ⊎_elim (λ e. subst (λ i. Leads S s u (at i)) (sym e) leads) (f.sound (at j)) (flag_cases seen k j t)
      sound END t = f.sound END t

  front_ends : (in_set S s (at k) ≡ true) → Front S s u (set seen k true) ended queue
  front_ends out = subst (Front S s u (set seen k true) ended) (append-nil queue) (front_more [] (omega arith) tt (λ e. absurd (both_ways _ e out)))

  front_goes_on : in_set S s (at k) ≡ false → Front S s u (set seen k true) ended (queue ++ (k ∷ []))
  front_goes_on e = front_more (k ∷ []) (omega arith) ((refl, e), tt) (λ _. has_push [] k)

  flags_kept : (v : Node) → flagged seen ended v ≡ true → flagged (set seen k true) ended v ≡ true
  flags_kept START t = t
  flags_kept (at j) t = flag_kept seen k in_flags j t
  flags_kept END t = t

-- l-block k is seen, and the search does not go on from it, or does
module _ (S : Sheet) (r r' : Reach) (k : ℕ) (g : Going S r) (known : k < length S.lblocks) (leads : Sees S r (at k)) (new : saw r (at k) ≡ false)
    (source_is : r'.source ≡ r.source) (seen_is : r'.seen.list.items ≡ set r.seen.list.items k true) (ended_is : r'.ended ≡ r.ended) where
  pub on_ends : in_set S r.source.set (at k) ≡ true → r'.queue.list.items ≡ r.queue.list.items → On S r r'
  on_ends out queue_is = record {
    going = rw (source_is, seen_is, ended_is, queue_is) (front_ends S r.source.set r.source.from r.seen.list.items r.ended r.queue.list.items k g known leads new out);
    same_source = source_is;
    kept = λ v t. rw (seen_is, ended_is) (flags_kept S r.source.set r.source.from r.seen.list.items r.ended r.queue.list.items k g known leads new v t);
    longer = omega (arith, ap length queue_is);
    queue_kept = λ i l. rw queue_is refl;
  }

  pub on_goes_on : in_set S r.source.set (at k) ≡ false → r'.queue.list.items ≡ r.queue.list.items ++ (k ∷ []) → On S r r'
  on_goes_on out queue_is = record {
    going = rw (source_is, seen_is, ended_is, queue_is) (front_goes_on S r.source.set r.source.from r.seen.list.items r.ended r.queue.list.items k g known leads new out);
    same_source = source_is;
    kept = λ v t. rw (seen_is, ended_is) (flags_kept S r.source.set r.source.from r.seen.list.items r.ended r.queue.list.items k g known leads new v t);
    longer = omega (arith, ap length queue_is, length-append r.queue.list.items (k ∷ []));
    queue_kept = λ i l. rw queue_is (get_or_append_left r.queue.list.items (k ∷ []) 0 i l);
  }

-- END is seen
pub on_ended : (S : Sheet) (r r' : Reach) → Going S r → Sees S r END → r'.source ≡ r.source
    → r'.seen.list.items ≡ r.seen.list.items → r'.ended ≡ true → r'.queue.list.items ≡ r.queue.list.items → On S r r'
on_ended S r r' g leads source_is seen_is ended_is queue_is = record {
  going = rw (source_is, seen_is, ended_is, queue_is) (record { sized = g.sized; sound = sound; queued = g.queued; inner = g.inner; room = g.room });
  same_source = source_is;
  kept = λ v t. rw (seen_is, ended_is) (kept v t);
  longer = omega (arith, ap length queue_is);
  queue_kept = λ i l. rw queue_is refl;
}
  where
    sound : (v : Node) → flagged r.seen.list.items true v ≡ true → Sees S r v
    sound START t = absurd (false≢true t)
    sound (at j) t = g.sound (at j) t
    sound END t = leads

    kept : (v : Node) → flagged r.seen.list.items r.ended v ≡ true → flagged r.seen.list.items true v ≡ true
    kept START t = t
    kept (at j) t = t
    kept END t = refl

-- a search is done when it has gone on from all that are queued
module _ (S : Sheet) (s : ℕ) (u : Node) (seen : List Bool) (ended : Bool) (queue : List ℕ) (f : Front S s u seen ended queue)
    (begun : (y : Node) → Arrow S u y → flagged seen ended y ≡ true)
    (done : (i : ℕ) → i < length queue → (y : Node) → Arrow S (at (get_or queue i 0)) y → flagged seen ended y ≡ true) where
  goes_on : (j : ℕ) → get_or seen j false ≡ true → in_set S s (at j) ≡ false → {y : Node} → Arrow S (at j) y → flagged seen ended y ≡ true
  goes_on j t out {y} a = let h = f.queued j t out in done h.0 h.1 y (subst (λ i. Arrow S (at i) y) (sym (h.2 0)) a)

  complete : {y : Node} → Leads S s u y → flagged seen ended y ≡ true
  complete {y} (one a) = begun y a
  complete {y} (more {x = START} l out a) = absurd (⊎_elim (λ q. let z : ◌≡◌ {A = ℕ} 0 1 = cc in omega arith) (λ q. let h = q.1 in let z : ◌≡◌ {A = ℕ} 0 1 = cc in omega arith) (reaches S s l))
  complete {y} (more {x = at j} l out a) = goes_on j (complete l) out a
  complete {y} (more {x = END} l out a) = absurd (⊎_elim (λ q. let z : ◌≡◌ {A = ℕ} 0 1 = cc in omega arith) (λ q. let h = q.1 in let z : ◌≡◌ {A = ℕ} 0 1 = cc in omega arith) (leaves S a))

  pub front_done : (v : Node) → flagged seen ended v ≡ conflicting S s u v
  front_done v = same (flagged seen ended v) (conflicting S s u v)
      (λ t. conflicting_complete S s u (f.sound v t))
      (λ t. complete (leads_sound S s u (suc (length S.lblocks)) v t))
    where
      same : (a b : Bool) → (a ≡ true → b ≡ true) → (b ≡ true → a ≡ true) → a ≡ b
      same true b p q = sym (p refl)
      same false true p q = q refl
      same false false p q = refl
