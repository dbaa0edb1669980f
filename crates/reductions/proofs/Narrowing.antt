-- Steps that are taken for good reasons lose no good set.
use Rattle.std.proofs.Common.{◌≡◌, ℕ, ◌<◌, Bool, true, false, cond, not, eqb, ◌⊎◌, List, ◌∷◌, length, sym, refl, ◌∙◌, subst, inl, inr, ⊎_elim, arith}
use Rattle.std.proofs.lemmas.Bool.{cases_Bool, cases_eq, or_right, and_right, both_ways, and_parts, or_cases, eqb-true}
use Rattle.orders.specs.Orders.{Laws}
use Rattle.charts.specs.Grids.{Grid}
use Rattle.charts.specs.Best.{Problem}
use Rattle.charts.specs.Sets.{Held, exceeds, put, without}
use Rattle.charts.proofs.Values.{part, swap, fine_down, exceeds_cong, put_other, put_same, without_same, without_other}
use Rattle.reductions.specs.declared.step.Step.{Step}
use Rattle.reductions.specs.Steps.{step, taken_by, banned_by, is_free, is_fresh}
use Rattle.reductions.specs.Goals.{Good, Narrows}
use Rattle.reductions.specs.Spares.{Enough, Implied, Outdone, Useless, Spare}
use Rattle.reductions.proofs.Stepping.{forced, good_like, free_like, fresh_room, turns_forced}

-- ---- reasons
module _ (p : Problem) (laws : Laws p.order) (strict : Bool) (bound t b : ℕ → Bool) where
  -- a need that one column is left for
  pub single : (i c : ℕ) → i < p.grid.wanted → ((k : ℕ) → k < p.grid.width → p.grid.held k i ≡ true → (b k ≡ true) ⊎ (k ≡ c))
      → (d : ℕ → Bool) → Good p strict bound t b d → (e : ℕ → Bool) × Good p strict bound t b e × (e c ≡ true)
  single i c li one d g =
      let w = g.covers i li in (
        d,
        g,
        ⊎_elim (λ (e : b w.0 ≡ true). absurd (both_ways _ (g.lacks w.0 w.1 e) w.2))
            (λ (e : w.0 ≡ c). subst (λ (k : ℕ). d k ≡ true) e w.2)
            (one w.0 w.1 w.3),
      )

  taken_apart : (a k : ℕ) → t a ≡ false → t k ≡ true → a ≡ k → ⊥
  taken_apart a k ta tk e = both_ways _ (subst (λ (i : ℕ). t i ≡ false) e ta) tk

  without_false : (d : ℕ → Bool) (a k : ℕ) → d k ≡ false → without d a k ≡ false
  without_false d a k e = and_right _ _ e

  without_part : (d : ℕ → Bool) (a k : ℕ) → without d a k ≡ true → d k ≡ true
  without_part d a k e = (and_parts (not (eqb a k)) (d k) e).1

  -- a column that holds none of the needs that matter
  useless : (ns : ℕ → Bool) → Enough p.grid t b ns → (a : ℕ) → t a ≡ false → Useless p.grid ns a
      → (d : ℕ → Bool) → Good p strict bound t b d → (e : ℕ → Bool) × Good p strict bound t b e × (e a ≡ false)
  useless ns enough a ta none d g =
      let e : ℕ → Bool = without d a in
      let ehas : (k : ℕ) → k < p.grid.width → t k ≡ true → e k ≡ true = λ k l h. without_other d a k (taken_apart a k ta h) ∙ g.has k l h in
      let elacks : (k : ℕ) → k < p.grid.width → b k ≡ true → e k ≡ false = λ k l h. without_false d a k (g.lacks k l h) in (
        e,
        record {
          covers = enough e ehas elacks (λ i li wanted.
              let w = g.covers i li in
              ⊎_elim
              (λ (q : a ≡ w.0). absurd (both_ways _ (none i li (subst (λ (k : ℕ). p.grid.held k i ≡ true) (sym q) w.3)) wanted))
              (λ (q : a ≡ w.0 → ⊥). (w.0, w.1, without_other d a w.0 q ∙ w.2, w.3))
              (cases_eq a w.0));
          has = ehas;
          lacks = elacks;
          worth = fine_down p laws strict bound d e (part p laws e d (λ k l h. without_part d a k h)) g.worth;
        },
        without_same d a,
      )

  -- a column that another one can stand in for
  outdone : (ns : ℕ → Bool) → Enough p.grid t b ns → (a : ℕ) → a < p.grid.width → t a ≡ false → Outdone p b ns a
      → (d : ℕ → Bool) → Good p strict bound t b d → (e : ℕ → Bool) × Good p strict bound t b e × (e a ≡ false)
  outdone ns enough a la ta by d g =
      let o : ℕ = by.other in
      let lo = by.within in
      ⊎_elim
      (λ (da : d a ≡ true).
      let r : ℕ → Bool = without d a in
      let e : ℕ → Bool = put r o in
      let up : (k : ℕ) → r k ≡ true → e k ≡ true = λ k h. or_right (eqb o k) (r k) h in
      let ro : r o ≡ d o = without_other d a o by.apart in
      let oo : o ≡ a → ⊥ = λ q. by.apart (sym q) in
      let no-worse : exceeds p d e ≡ false =
      ⊎_elim
      (λ (has : d o ≡ true).
      part p laws e d (λ k l h. ⊎_elim (λ (q : eqb o k ≡ true). subst (λ (i : ℕ). d i ≡ true) (eqb-true o k q) has) (λ (q : r k ≡ true). without_part d a k q) (or_cases (eqb o k) (r k) h)))
      (λ (lacks : d o ≡ false).
      exceeds_cong p laws d (put r a) e e
      (λ k l. ⊎_elim (λ (q : a ≡ k). subst (λ (i : ℕ). d i ≡ put r a i) q (da ∙ sym (put_same r a))) (λ (q : a ≡ k → ⊥). sym (put_other r a k q ∙ without_other d a k q)) (cases_eq a k))
      (λ k l. refl)
      ∙ swap p laws r a o la lo (without_same d a) (ro ∙ lacks) by.cheap)
      (cases_Bool (d o)) in
      let ehas : (k : ℕ) → k < p.grid.width → t k ≡ true → e k ≡ true = λ k l h. up k (without_other d a k (taken_apart a k ta h) ∙ g.has k l h) in
      let elacks : (k : ℕ) → k < p.grid.width → b k ≡ true → e k ≡ false = λ k l h. put_other r o k (λ q. both_ways _ (subst (λ (i : ℕ). b i ≡ false) q by.free) h) ∙ without_false d a k (g.lacks k l h) in (
        e,
        record {
          covers = enough e ehas elacks (λ i li wanted.
              let w = g.covers i li in
              ⊎_elim
              (λ (q : a ≡ w.0).
              ⊎_elim (λ (h : p.grid.held o i ≡ true). (o, lo, put_same r o, h))
              (λ (v : ns i ≡ false). absurd (both_ways _ v wanted))
              (by.holds i li (subst (λ (k : ℕ). p.grid.held k i ≡ true) (sym q) w.3)))
              (λ (q : a ≡ w.0 → ⊥). (w.0, w.1, up w.0 (without_other d a w.0 q ∙ w.2), w.3))
              (cases_eq a w.0));
          has = ehas;
          lacks = elacks;
          worth = fine_down p laws strict bound d e no-worse g.worth;
        },
        put_other r o a oo ∙ without_same d a,
      ))
      (λ (da : d a ≡ false). (d, g, da))
      (cases_Bool (d a))

  -- a spare column can be banned
  pub spared : (ns : ℕ → Bool) → Enough p.grid t b ns → (a : ℕ) → a < p.grid.width → t a ≡ false → Spare p b ns a
      → (d : ℕ → Bool) → Good p strict bound t b d → (e : ℕ → Bool) × Good p strict bound t b e × (e a ≡ false)
  spared ns enough a la ta (inl h) d g = useless ns enough a ta h d g
  spared ns enough a la ta (inr o) d g = outdone ns enough a la ta o d g

-- ---- which needs are enough
module _ (m : Grid) (t b : ℕ → Bool) where
  pub enough_open : (ns : ℕ → Bool) → ((i : ℕ) → i < m.wanted → ns i ≡ false → Held m t i) → Enough m t b ns
  enough_open ns closed e has lacks all i l =
      ⊎_elim (λ (y : ns i ≡ true). all i l y) (λ (y : ns i ≡ false). let w = closed i l y in (w.0, w.1, has w.0 w.1 w.2, w.3)) (cases_Bool (ns i))

  -- a need that is held wherever another one is can be left out
  pub enough_less : (ns ns' : ℕ → Bool) (j : ℕ) → Enough m t b ns → Implied m b ns j → ((k : ℕ) → (k ≡ j → ⊥) → ns' k ≡ ns k) → Enough m t b ns'
  enough_less ns ns' j enough by like e has lacks all =
      enough e has lacks (λ i l y.
      ⊎_elim
      (λ (x : i ≡ j).
      let w = all by.by by.within (like by.by by.apart ∙ by.wanted) in
      subst (Held m e) (sym x)
      (⊎_elim (λ (z : b w.0 ≡ true). absurd (both_ways _ (lacks w.0 w.1 z) w.2)) (λ (z : m.held w.0 j ≡ true). (w.0, w.1, w.2, z)) (by.holds w.0 w.1 w.3)))
      (λ (x : i ≡ j → ⊥). all i l (like i x ∙ y))
      (cases_eq i j))

  -- what is enough stays so when more is taken or banned
  pub enough_kept : (t' b' ns : ℕ → Bool) → ((k : ℕ) → t k ≡ true → t' k ≡ true) → ((k : ℕ) → b k ≡ true → b' k ≡ true) → Enough m t b ns → Enough m t' b' ns
  enough_kept t' b' ns ht hb enough e has lacks = enough e (λ k l h. has k l (ht k h)) (λ k l h. lacks k l (hb k h))

-- ---- steps
module _ (p : Problem) (t b : ℕ → Bool) where
  pub narrows_none : (r : List Step) → Narrows p t b r r
  narrows_none r = record { keeps = λ st bd h. h; falls = omega arith; moves = λ ne. absurd (ne refl) }

  pub narrows_more : (r s u : List Step) → Narrows p t b r s → Narrows p t b s u → Narrows p t b r u
  narrows_more r s u m n =
      let x = m.falls in
      let y = n.falls in
      record {
        keeps = λ st bd h. n.keeps st bd (m.keeps st bd h);
        falls = omega arith;
        moves = λ ne. ⊎_elim
            (λ (e : length r ≡ length s). let z = n.moves (λ i. ne (e ∙ i)) in omega arith)
            (λ (e : length r ≡ length s → ⊥). let z = m.moves e in omega arith)
            (cases_eq (length r) (length s));
      }

  -- one column more, for a good reason at the node u, v
  narrows_force : (r : List Step) (c : ℕ) (x : Bool) (u v : ℕ → Bool) → ((k : ℕ) → u k ≡ taken_by t r k) → ((k : ℕ) → v k ≡ banned_by b r k) → length r < 256
      → ((strict : Bool) (bound d : ℕ → Bool) → Good p strict bound u v d → (e : ℕ → Bool) × Good p strict bound u v e × (e c ≡ x)) → Narrows p t b r (step c x false ∷ r)
  narrows_force r c x u v eu ev room f =
      let m = turns_forced 256 c x r room in
      record {
        keeps = λ st bd. forced p st bd t b r c x (λ h.
            let k = f st bd h.0 (good_like p st bd t b (taken_by t r) (banned_by b r) u v h.0 eu ev h.1) in
            (k.0, good_like p st bd t b u v (taken_by t r) (banned_by b r) k.0 (λ i. sym (eu i)) (λ i. sym (ev i)) k.1, k.2));
        falls = omega arith;
        moves = λ _. m;
      }

  -- a column fixed where it is free: whichever way the test went
  pub narrows_fix : (r r' : List Step) (c : ℕ) (x : Bool) (u v : ℕ → Bool) → is_fresh t b r ≡ true → ((k : ℕ) → u k ≡ taken_by t r k) → ((k : ℕ) → v k ≡ banned_by b r k)
      → r' ≡ cond (is_free u v c) (step c x false ∷ r) r
      → ((strict : Bool) (bound d : ℕ → Bool) → Good p strict bound u v d → (e : ℕ → Bool) × Good p strict bound u v e × (e c ≡ x)) → Narrows p t b r r'
  narrows_fix r r' c x u v fresh eu ev e f = subst (Narrows p t b r) (sym e) (go (is_free u v c) refl)
    where
      go : (y : Bool) → is_free u v c ≡ y → Narrows p t b r (cond y (step c x false ∷ r) r)
      go true h = narrows_force r c x u v eu ev (fresh_room t b r c (free_like t b r c u v eu ev h) fresh) f
      go false h = narrows_none r
