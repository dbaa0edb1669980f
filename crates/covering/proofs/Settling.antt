-- The earliest of the best covers, column by column: what is asked of each search, and what its answer settles.
use Rattle.std.proofs.Common.{◌≡◌, ℕ, suc, ◌<◌, Bool, true, false, not, ◌&&◌, ◌||◌, nat_eq, nat_lt, ◌≤◌, inl, inr, sym, refl, ap, ◌∙◌, subst, ⊎_elim, arith}
use Rattle.std.proofs.lemmas.Bool.{cases_Bool, cases_eq, cases_order, both_ways, eq-eqb, ne_eqb, not-true, not_from_false, not_from_true, cases_lt, lt-ltb, le-ltb}
use Rattle.orders.specs.Orders.{Laws}
use Rattle.charts.specs.Best.{Problem}
use Rattle.charts.specs.Sets.{exceeds, Covers, Least, Settled}
use Rattle.charts.proofs.Values.{exceeds_weak}
use Rattle.reductions.specs.Goals.{Good}
use Rattle.covering.specs.Splitting.{Asks}

module _ (p : Problem) (laws : Laws p.order) where
  pub settled_none : (s : ℕ → Bool) → Settled p s 0
  settled_none s i h = absurd (omega arith)

  pub settled_keep : (s : ℕ → Bool) (j : ℕ) → Settled p s j → s j ≡ true → Settled p s (suc j)
  settled_keep s j h e i l d c w a x =
      ⊎_elim (λ (q : i ≡ j). subst (λ (k : ℕ). s k ≡ true) (sym q) e)
      (λ (q : i ≡ j → ⊥). h i (omega arith) d c w a x)
      (cases_eq i j)

  pub settled_pass : (s : ℕ → Bool) (j : ℕ) → Settled p s j → ((d : ℕ → Bool) → Covers p.grid d → exceeds p s d ≡ false → ((k : ℕ) → k < j → d k ≡ s k) → d j ≡ true → ⊥) → Settled p s (suc j)
  settled_pass s j h none i l d c w a x =
      ⊎_elim (λ (q : i ≡ j). absurd (none d c w (subst (λ (n : ℕ). (k : ℕ) → k < n → d k ≡ s k) q a) (subst (λ (k : ℕ). d k ≡ true) q x)))
      (λ (q : i ≡ j → ⊥). h i (omega arith) d c w a x)
      (cases_eq i j)

  pub settled_swap : (s e : ℕ → Bool) (j : ℕ) → Settled p s j → exceeds p s e ≡ false → ((k : ℕ) → k < j → e k ≡ s k) → Settled p e j
  settled_swap s e j h no-worse like i l d c w a x =
      like i l ∙ h i l d c (exceeds_weak p laws s e d no-worse w) (λ k m. a k m ∙ like k (omega arith)) x

  pub least_swap : (s e : ℕ → Bool) → Least p s → Covers p.grid e → exceeds p s e ≡ false → Least p e
  least_swap s e h c no-worse = record { covers = c; least = λ d k. exceeds_weak p laws d s e (h.least d k) no-worse }

-- the sets that ask, told by tests below their bound
pub asks_by : (n : ℕ) (s u v : ℕ → Bool) (j : ℕ) → j < n
    → ((k : ℕ) → k < n → u k ≡ (nat_eq k j || (nat_lt k j && s k))) → ((k : ℕ) → k < n → v k ≡ (nat_lt k j && not (s k)))
    → ((k : ℕ) → n ≤ k → (u k ≡ false) × (v k ≡ false)) → Asks s u v j
asks_by n s u v j lj has lacks past =
    record {
      below = λ k l.
          let a : nat_eq k j ≡ false = ne_eqb k j (λ e. omega arith) in
          let b : nat_lt k j ≡ true = lt-ltb k j l in (
            has k (omega arith) ∙ ap (λ (x : Bool). x || (nat_lt k j && s k)) a ∙ ap (λ (x : Bool). x && s k) b,
            lacks k (omega arith) ∙ ap (λ (x : Bool). x && not (s k)) b,
          );
      at = (
        has j lj ∙ ap (λ (x : Bool). x || (nat_lt j j && s j)) (eq-eqb j j refl),
        lacks j lj ∙ ap (λ (x : Bool). x && not (s j)) (le-ltb j j (omega arith)),
      );
      above = λ k l. elim (cases_lt k n) [
        | inl low ↦ (
          has k low ∙ ap (λ (x : Bool). x || (nat_lt k j && s k)) (ne_eqb k j (λ e. omega arith)) ∙ ap (λ (x : Bool). x && s k) (le-ltb k j (omega arith)),
          lacks k low ∙ ap (λ (x : Bool). x && not (s k)) (le-ltb k j (omega arith)),
        )
        | inr high ↦ past k high
      ];
    }

pub asks_apart : (s u v : ℕ → Bool) (j k : ℕ) → Asks s u v j → u k ≡ true → v k ≡ false
asks_apart s u v j k a h =
    ⊎_elim
    (λ (q : k ≡ j). subst (λ (i : ℕ). v i ≡ false) (sym q) a.at.1)
    (λ c. ⊎_elim (λ (q : k < j). let w = a.below k q in w.1 ∙ not_from_true (s k) (sym w.0 ∙ h)) (λ (q : j < k). (a.above k q).1) c)
    (cases_order k j)

module _ (p : Problem) (laws : Laws p.order) (s u v : ℕ → Bool) (j : ℕ) (lj : j < p.grid.width) (asks : Asks s u v j) where
  agrees : (d : ℕ → Bool) → Good p false s u v d → (k : ℕ) → k < j → d k ≡ s k
  agrees d g k l =
      let w = asks.below k l in
      ⊎_elim
      (λ (e : s k ≡ true). g.has k (omega arith) (w.0 ∙ e) ∙ sym e)
      (λ (e : s k ≡ false). g.lacks k (omega arith) (w.1 ∙ not_from_false (s k) e) ∙ sym e)
      (cases_Bool (s k))

  pub settled_found : (d : ℕ → Bool) → Least p s → Settled p s j → Good p false s u v d → Least p d × Settled p d (suc j)
  settled_found d least h g =
      let no-worse : exceeds p s d ≡ false = not-true _ g.worth in (
        least_swap p laws s d least g.covers no-worse,
        settled_keep p laws d j (settled_swap p laws s d j h no-worse (agrees d g)) (g.has j lj asks.at.0),
      )

  pub settled_none_found : Settled p s j → ((d : ℕ → Bool) → Good p false s u v d → ⊥) → Settled p s (suc j)
  settled_none_found h none =
      settled_pass p laws s j h (λ d c w a x.
      none d
      record {
        covers = c;
        has = λ k l e. ⊎_elim
            (λ (q : k ≡ j). subst (λ (i : ℕ). d i ≡ true) (sym q) x)
            (λ o. ⊎_elim (λ (q : k < j). a k q ∙ sym (asks.below k q).0 ∙ e) (λ (q : j < k). absurd (both_ways _ (asks.above k q).0 e)) o)
            (cases_order k j);
        lacks = λ k l e. ⊎_elim
            (λ (q : k ≡ j). absurd (both_ways _ (subst (λ (i : ℕ). v i ≡ false) (sym q) asks.at.1) e))
            (λ o. ⊎_elim (λ (q : k < j). a k q ∙ not-true (s k) (sym (asks.below k q).1 ∙ e)) (λ (q : j < k). absurd (both_ways _ (asks.above k q).1 e)) o)
            (cases_order k j);
        worth = not_from_false _ w;
      })
