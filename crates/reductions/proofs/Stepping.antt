-- The steps of a search: what they keep, how many there can be, and how they stand in the table.
use Rattle.std.proofs.Common.{◌≡◌, ℕ, zero, suc, ◌+◌, ◌-◌, ◌<◌, ◌≤◌, Bool, true, false, cond, not, ◌&&◌, ◌||◌, eqb, ltb, List, [], ◌∷◌, ◌++◌, length, reverse, take, drop, get_or, sym, refl, ap, ◌∙◌, subst, inl, inr, ⊎_elim, arith}
use Rattle.std.proofs.lemmas.List.{reverse-append, take-append-drop, take_more}
use Rattle.std.proofs.lemmas.Bool.{cases_Bool, cases_lt, ne_eqb, or_parts, or_right, or_from, and_from, and_left, and_right, both_ways, and_parts, or_cases, eqb-true, lt-ltb, ltb-true, not-true, not_from_false, false≢true}
use Rattle.charts.specs.Best.{Problem}
use Rattle.charts.specs.Sets.{down, put}
use Rattle.fixed.proofs.Members.{none_past}
use Rattle.fixed.specs.declared.set.FixedSet.{FixedSet}
use Rattle.fixed.specs.Sets.{member}
use Rattle.charts.proofs.Values.{down_same, down_short, more_members}
use Rattle.reductions.specs.declared.step.Step.{Step}
use Rattle.reductions.specs.Steps.{step, taken_by, banned_by, is_free, is_fresh, owes, backed}
use Rattle.reductions.specs.Goals.{Good, Here, Owed, Somewhere, nodes, pending, turns}

-- ---- where good sets are
module _ (p : Problem) (strict : Bool) (bound t b : ℕ → Bool) where
  -- a good set of the node that has the column, or lacks it
  good_take : (r : List Step) (c : ℕ) (x : Bool) (d : ℕ → Bool) → Good p strict bound (taken_by t r) (banned_by b r) d → d c ≡ true → Good p strict bound (taken_by t (step c true x ∷ r)) (banned_by b (step c true x ∷ r)) d
  good_take r c x d g e =
      record {
        covers = g.covers;
        has = λ k l h. ⊎_elim (λ (q : eqb c k ≡ true). subst (λ (i : ℕ). d i ≡ true) (eqb-true c k q) e) (λ (q : taken_by t r k ≡ true). g.has k l q) (or_cases (eqb c k) (taken_by t r k) h);
        lacks = g.lacks;
        worth = g.worth;
      }

  good_ban : (r : List Step) (c : ℕ) (x : Bool) (d : ℕ → Bool) → Good p strict bound (taken_by t r) (banned_by b r) d → d c ≡ false → Good p strict bound (taken_by t (step c false x ∷ r)) (banned_by b (step c false x ∷ r)) d
  good_ban r c x d g e =
      record {
        covers = g.covers;
        has = g.has;
        lacks = λ k l h. ⊎_elim (λ (q : eqb c k ≡ true). subst (λ (i : ℕ). d i ≡ false) (eqb-true c k q) e) (λ (q : banned_by b r k ≡ true). g.lacks k l q) (or_cases (eqb c k) (banned_by b r k) h);
        worth = g.worth;
      }

  good_side : (r : List Step) (c : ℕ) (v x : Bool) (d : ℕ → Bool) → Good p strict bound (taken_by t r) (banned_by b r) d → d c ≡ v → Good p strict bound (taken_by t (step c v x ∷ r)) (banned_by b (step c v x ∷ r)) d
  good_side r c true x d g e = good_take r c x d g e
  good_side r c false x d g e = good_ban r c x d g e

  pub taken_more : (r : List Step) (k : ℕ) → t k ≡ true → taken_by t r k ≡ true
  taken_more [] k h = h
  taken_more (e ∷ r) k h = or_right _ _ (taken_more r k h)

  pub banned_more : (r : List Step) (k : ℕ) → b k ≡ true → banned_by b r k ≡ true
  banned_more [] k h = h
  banned_more (e ∷ r) k h = or_right _ _ (banned_more r k h)

  -- a decision: the set is on this side, or on the side that is owed
  pub branch : (r : List Step) (c : ℕ) → Somewhere p strict bound t b r → Somewhere p strict bound t b (step c true true ∷ r)
  branch r c (inl h) =
      ⊎_elim (λ (e : h.0 c ≡ true). inl (h.0, good_take r c true h.0 h.1 e))
      (λ (e : h.0 c ≡ false). inr (inl (refl, (h.0, good_ban r c false h.0 h.1 e))))
      (cases_Bool (h.0 c))
  branch r c (inr h) = inr (inr h)

  -- a step for a good reason
  pub forced : (r : List Step) (c : ℕ) (v : Bool) → (Here p strict bound t b r → (d : ℕ → Bool) × Good p strict bound (taken_by t r) (banned_by b r) d × (d c ≡ v)) → Somewhere p strict bound t b r → Somewhere p strict bound t b (step c v false ∷ r)
  forced r c v f (inl h) = let w = f h in inl (w.0, good_side r c v false w.0 w.1 w.2)
  forced r c v f (inr h) = inr (inr h)

  back_step : (r : List Step) (c : ℕ) (x y : Bool) → (Owed p strict bound t b r → Somewhere p strict bound t b (backed r)) → Owed p strict bound t b (record { column = c; takes = x; decided = y } ∷ r) → Somewhere p strict bound t b (cond y (step c false false ∷ r) (backed r))
  back_step r c x true ih (inl h) = inl h.1
  back_step r c x true ih (inr h) = inr (inr h)
  back_step r c x false ih (inl h) = absurd (false≢true h.0)
  back_step r c x false ih (inr h) = ih h

  -- what is owed is found after backing up
  pub back : (r : List Step) → Owed p strict bound t b r → Somewhere p strict bound t b (backed r)
  back [] h = absurd h
  back (e ∷ r) h = back_step r e.column e.takes e.decided (back r) h

  pub none_owed : (r : List Step) → owes r ≡ false → Owed p strict bound t b r → ⊥
  none_owed [] e h = h
  none_owed (x ∷ r) e h =
      let parts = or_parts x.decided (owes r) e in
      elim h [ inl q ↦ both_ways _ parts.0 q.0 | inr q ↦ none_owed r parts.1 q ]

  -- the same node by other names
  pub good_like : (u v u' v' d : ℕ → Bool) → ((k : ℕ) → u' k ≡ u k) → ((k : ℕ) → v' k ≡ v k) → Good p strict bound u v d → Good p strict bound u' v' d
  good_like u v u' v' d eu ev g = record { covers = g.covers; has = λ k l h. g.has k l (sym (eu k) ∙ h); lacks = λ k l h. g.lacks k l (sym (ev k) ∙ h); worth = g.worth }

  -- a dead node: what there is, is owed
  pub gone : (r : List Step) (u v : ℕ → Bool) → ((k : ℕ) → u k ≡ taken_by t r k) → ((k : ℕ) → v k ≡ banned_by b r k) → ((d : ℕ → Bool) → Good p strict bound u v d → ⊥) → Somewhere p strict bound t b r → Owed p strict bound t b r
  gone r u v eu ev none (inl w) = absurd (none w.0 (good_like (taken_by t r) (banned_by b r) u v w.0 eu ev w.1))
  gone r u v eu ev none (inr h) = h

-- ---- the steps in the order in which they came
-- a step more at the end
pub reverse_push : (xs ys : List Step) (e : Step) → ys ≡ xs ++ e ∷ [] → reverse ys ≡ e ∷ reverse xs
reverse_push xs ys e h = ap reverse h ∙ reverse-append xs (e ∷ [])

pub reverse_more : (xs : List Step) (k : ℕ) (d : Step) → k < length xs → reverse (take (k + 1) xs) ≡ get_or xs k d ∷ reverse (take k xs)
reverse_more xs k d l = reverse_push (take k xs) (take (k + 1) xs) (get_or xs k d) (take_more xs k d l)

-- ---- each column was free
pub free_parts : (t b : ℕ → Bool) (c : ℕ) → is_free t b c ≡ true → (c < 256) × (t c ≡ false) × (b c ≡ false)
free_parts t b c h =
    let w = and_parts (ltb c 256) (not (t c) && not (b c)) h in
    let v = and_parts (not (t c)) (not (b c)) w.1 in
    (ltb-true c 256 w.0, not-true (t c) v.0, not-true (b c) v.1)

pub free_from : (t b : ℕ → Bool) (c : ℕ) → c < 256 → t c ≡ false → b c ≡ false → is_free t b c ≡ true
free_from t b c l h k = and_from (ltb c 256) (not (t c) && not (b c)) (lt-ltb c 256 l) (and_from (not (t c)) (not (b c)) (not_from_false (t c) h) (not_from_false (b c) k))

module _ (t b : ℕ → Bool) where
  pub fresh_head : (e : Step) (r : List Step) → is_fresh t b (e ∷ r) ≡ true → is_free (taken_by t r) (banned_by b r) e.column ≡ true
  fresh_head e r h = (and_parts (is_free (taken_by t r) (banned_by b r) e.column) (is_fresh t b r) h).0

  pub fresh_tail : (e : Step) (r : List Step) → is_fresh t b (e ∷ r) ≡ true → is_fresh t b r ≡ true
  fresh_tail e r h = (and_parts (is_free (taken_by t r) (banned_by b r) e.column) (is_fresh t b r) h).1

  pub fresh_more : (e : Step) (r : List Step) → is_free (taken_by t r) (banned_by b r) e.column ≡ true → is_fresh t b r ≡ true → is_fresh t b (e ∷ r) ≡ true
  fresh_more e r h k = and_from (is_free (taken_by t r) (banned_by b r) e.column) (is_fresh t b r) h k

  fresh_back_step : (r : List Step) (c : ℕ) (y : Bool) → is_fresh t b (step c false false ∷ r) ≡ true → is_fresh t b (backed r) ≡ true → is_fresh t b (cond y (step c false false ∷ r) (backed r)) ≡ true
  fresh_back_step r c true h ih = h
  fresh_back_step r c false h ih = ih

  pub fresh_back : (r : List Step) → is_fresh t b r ≡ true → is_fresh t b (backed r) ≡ true
  fresh_back [] h = refl
  fresh_back (e ∷ r) h = fresh_back_step r e.column e.decided h (fresh_back r (fresh_tail e r h))

  -- what is taken is not banned
  pub apart : (r : List Step) → ((k : ℕ) → t k ≡ true → b k ≡ false) → is_fresh t b r ≡ true → (k : ℕ) → taken_by t r k ≡ true → banned_by b r k ≡ false
  apart [] h f k e = h k e
  apart (x ∷ r) h f k e =
      ⊎_elim
      (λ (q : eqb x.column k ≡ true).
      let i = eqb-true x.column k q in
      let w = free_parts (taken_by t r) (banned_by b r) x.column (fresh_head x r f) in
      let nb : banned_by b r k ≡ false = subst (λ (j : ℕ). banned_by b r j ≡ false) i w.2 in
      let nt : taken_by t r k ≡ false = subst (λ (j : ℕ). taken_by t r j ≡ false) i w.1 in
      or_from _ _
      (⊎_elim (λ (w : x.takes ≡ true). and_left _ _ (ap not w))
      (λ (w : x.takes ≡ false). absurd (both_ways _ (or_from (x.takes && eqb x.column k) (taken_by t r k) (and_left _ _ w) nt) e))
      (cases_Bool x.takes))
      nb)
      (λ (q : eqb x.column k ≡ false).
      let et : taken_by t r k ≡ true = ⊎_elim (λ (w : (x.takes && eqb x.column k) ≡ true). absurd (both_ways _ q (and_parts x.takes (eqb x.column k) w).1)) (λ w. w) (or_cases (x.takes && eqb x.column k) (taken_by t r k) e) in
      or_from _ _ (and_right _ _ q) (apart r h (fresh_tail x r f) k et))
      (cases_Bool (eqb x.column k))

  abbrev settled : List Step → ℕ → Bool
  settled r k = taken_by t r k || banned_by b r k

  mixed : (v e x y : Bool) → ((v && e) || x) || ((not v && e) || y) ≡ (e || (x || y))
  mixed true true x y = refl
  mixed true false x y = refl
  mixed false true true y = refl
  mixed false true false y = refl
  mixed false false x y = refl

  -- counted over n columns, where n is 256
  settled_count : (n : ℕ) → n ≡ 256 → (r : List Step) → is_fresh t b r ≡ true → length r ≤ length (down (settled r) n)
  settled_count n h [] f = omega arith
  settled_count n h (e ∷ r) f =
      let ih = settled_count n h r (fresh_tail e r f) in
      let w = free_parts (taken_by t r) (banned_by b r) e.column (fresh_head e r f) in
      let l = w.0 in
      let more = more_members (settled r) e.column n (omega arith) (or_from _ _ w.1 w.2) in
      let eq = ap length (down_same (settled (e ∷ r)) (put (settled r) e.column) n (λ k l. mixed e.takes (eqb e.column k) (taken_by t r k) (banned_by b r k))) in
      omega arith

  short_of : (n : ℕ) → n ≡ 256 → (r : List Step) → is_fresh t b r ≡ true → length r ≤ n
  short_of n h r f = omega (arith, settled_count n h r f, down_short (settled r) n)

  -- so there are at most 256 of them
  pub fresh_short : (r : List Step) → is_fresh t b r ≡ true → length r ≤ 256
  fresh_short r f = short_of 256 refl r f

  -- and another free column makes no more than 256
  pub fresh_room : (r : List Step) (c : ℕ) → is_free (taken_by t r) (banned_by b r) c ≡ true → is_fresh t b r ≡ true → length r < 256
  fresh_room r c h f = fresh_short (step c false false ∷ r) (fresh_more (step c false false) r h f)

  -- the steps before them were fresh too
  fresh_rest : (a r : List Step) → is_fresh t b (a ++ r) ≡ true → is_fresh t b r ≡ true
  fresh_rest [] r h = h
  fresh_rest (e ∷ a) r h = fresh_rest a r (fresh_tail e (a ++ r) h)

  -- each step's column is one of 256
  pub fresh_at : (xs : List Step) (k : ℕ) (d : Step) → is_fresh t b (reverse xs) ≡ true → k < length xs → (get_or xs k d).column < 256
  fresh_at xs k d h l =
      let some : reverse xs ≡ reverse (drop (k + 1) xs) ++ reverse (take (k + 1) xs) = ap reverse (sym (take-append-drop (k + 1) xs)) ∙ reverse-append (take (k + 1) xs) (drop (k + 1) xs) in
      let fresh = fresh_rest (reverse (drop (k + 1) xs)) (reverse (take (k + 1) xs)) (sym (ap (is_fresh t b) some) ∙ h) in
      let last = sym (ap (is_fresh t b) (reverse_more xs k d l)) ∙ fresh in
      (free_parts (taken_by t (reverse (take k xs))) (banned_by b (reverse (take k xs))) (get_or xs k d).column (fresh_head (get_or xs k d) (reverse (take k xs)) last)).0

-- ---- the measure
nodes_pos : (k : ℕ) → 0 < nodes k
unfolding nodes
nodes_pos zero = omega arith
nodes_pos (suc k) = omega arith

pub turns_branch : (n c : ℕ) (v : Bool) (r : List Step) → length r < n → turns n (step c v true ∷ r) < turns n r
unfolding turns pending nodes
turns_branch n c v r h = let e : n - length r ≡ suc (n - suc (length r)) = omega arith in rw e (omega arith)

pub turns_forced : (n c : ℕ) (v : Bool) (r : List Step) → length r < n → turns n (step c v false ∷ r) < turns n r
unfolding turns pending nodes
turns_forced n c v r h = let e : n - length r ≡ suc (n - suc (length r)) = omega arith in rw e (omega (arith, nodes_pos (n - suc (length r))))

turns_back_step : (n c : ℕ) (x y : Bool) (r : List Step) → (owes r ≡ true → turns n (backed r) ≤ pending n r) → (y || owes r) ≡ true → turns n (cond y (step c false false ∷ r) (backed r)) ≤ pending n (step c x y ∷ r)
unfolding turns pending
turns_back_step n c x true r ih h = omega arith
turns_back_step n c x false r ih h = let k = ih h in omega arith

turns_back_le : (n : ℕ) (r : List Step) → owes r ≡ true → turns n (backed r) ≤ pending n r
turns_back_le n [] h = absurd (false≢true h)
turns_back_le n (e ∷ r) h = turns_back_step n e.column e.takes e.decided r (turns_back_le n r) h

turns_split : (n : ℕ) (r : List Step) → pending n r < turns n r
unfolding turns
turns_split n r = omega (arith, nodes_pos (n - length r))

pub turns_back : (n : ℕ) (r : List Step) → owes r ≡ true → turns n (backed r) < turns n r
turns_back n r h = omega (arith, turns_back_le n r h, turns_split n r)

-- ---- a column marked at a node
-- the column is one of 256, so past them nothing changes
pub marked : (s s' : FixedSet 256) (v : Bool) (c : ℕ) → c < 256 → ((k : ℕ) → k < 256 → member s' k ≡ ((v && eqb c k) || member s k)) → (k : ℕ) → member s' k ≡ ((v && eqb c k) || member s k)
marked s s' v c small h k =
    elim (cases_lt k 256) [
      | inl l ↦ h k l
      | inr l ↦ none_past 256 s' k l ∙ sym (or_from (v && eqb c k) (member s k) (and_right v (eqb c k) (ne_eqb c k (λ e. absurd (omega arith)))) (none_past 256 s k l))
    ]

-- free at a node that the steps lead to
pub free_like : (t b : ℕ → Bool) (r : List Step) (c : ℕ) (u v : ℕ → Bool) → ((k : ℕ) → u k ≡ taken_by t r k) → ((k : ℕ) → v k ≡ banned_by b r k) → is_free u v c ≡ true → is_free (taken_by t r) (banned_by b r) c ≡ true
free_like t b r c u v eu ev h =
    sym (ap (λ (y : Bool). ltb c 256 && (not y && not (v c))) (eu c) ∙ ap (λ (y : Bool). ltb c 256 && (not (taken_by t r c) && not y)) (ev c)) ∙ h

-- one more step, and the node that it leads to
pub taken_next : (t : ℕ → Bool) (r r' : List Step) (e : Step) (u u' : ℕ → Bool) → r' ≡ e ∷ r → ((k : ℕ) → u k ≡ taken_by t r k) → ((k : ℕ) → u' k ≡ ((e.takes && eqb e.column k) || u k)) → (k : ℕ) → u' k ≡ taken_by t r' k
taken_next t r r' e u u' er h m k = m k ∙ ap (λ (y : Bool). (e.takes && eqb e.column k) || y) (h k) ∙ ap (λ (x : List Step). taken_by t x k) (sym er)

pub banned_next : (b : ℕ → Bool) (r r' : List Step) (e : Step) (u u' : ℕ → Bool) → r' ≡ e ∷ r → ((k : ℕ) → u k ≡ banned_by b r k) → ((k : ℕ) → u' k ≡ ((not e.takes && eqb e.column k) || u k)) → (k : ℕ) → u' k ≡ banned_by b r' k
banned_next b r r' e u u' er h m k = m k ∙ ap (λ (y : Bool). (not e.takes && eqb e.column k) || y) (h k) ∙ ap (λ (x : List Step). banned_by b x k) (sym er)
