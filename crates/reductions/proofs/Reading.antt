-- What the tests of needs and columns say, in words.
use Rattle.std.proofs.Common.{◌≡◌, ℕ, zero, suc, ◌+◌, ◌-◌, ◌<◌, ◌≤◌, Bool, true, false, cond, not, ◌&&◌, ◌||◌, eqb, List, [], ◌∷◌, filter, ◌⊎◌, sym, refl, ap, ◌∙◌, inl, inr, arith}
use Rattle.std.specs.List.{list_any, list_all, range_with_len}
use Rattle.std.proofs.lemmas.Bool.{cases_eq, cases_order, and_parts, or_parts, or_cases, false_from_ne_true, not-true, false≢true, both_ways, not_from_false, ne_eqb, eq-eqb}
use Rattle.charts.specs.Grids.{Grid}
use Rattle.charts.specs.Best.{Problem, columns}
use Rattle.charts.proofs.Holding.{any_here, any_found}
use Rattle.reductions.specs.Spares.{needs, is_left, follows, OnlyLeft, is_implied, is_useless, stands_in, no_dearer, is_outdone, is_spare, Implied, Useless, Outdone, Spare}

-- ---- tests of a row of numbers
all_filtered : (p q : ℕ → Bool) (xs : List ℕ) → list_all p (filter q xs) ≡ list_all (λ x. not (q x) || p x) xs
all_filtered p q [] = refl
all_filtered p q (x ∷ xs) = go (all_filtered p q xs) (q x)
  where
    go : list_all p (filter q xs) ≡ list_all (λ x. not (q x) || p x) xs → (b : Bool) → list_all p (cond b (x ∷ filter q xs) (filter q xs)) ≡ ((not b || p x) && list_all (λ x. not (q x) || p x) xs)
    go e true = ap (λ (y : Bool). p x && y) e
    go e false = e

any_filtered : (p q : ℕ → Bool) (xs : List ℕ) → list_any p (filter q xs) ≡ list_any (λ x. q x && p x) xs
any_filtered p q [] = refl
any_filtered p q (x ∷ xs) = go (any_filtered p q xs) (q x)
  where
    go : list_any p (filter q xs) ≡ list_any (λ x. q x && p x) xs → (b : Bool) → list_any p (cond b (x ∷ filter q xs) (filter q xs)) ≡ ((b && p x) || list_any (λ x. q x && p x) xs)
    go e true = ap (λ (y : Bool). p x || y) e
    go e false = e

all_at : (p : ℕ → Bool) (a n : ℕ) → list_all p (range_with_len a n) ≡ true → (i : ℕ) → a ≤ i → i < a + n → p i ≡ true
all_at p a zero h i l u = absurd (omega arith)
all_at p a (suc n) h i l u =
    let w = and_parts (p a) (list_all p (range_with_len (a + 1) n)) h in
    elim (cases_eq a i) [ inl e ↦ sym (ap p e) ∙ w.0 | inr ne ↦ all_at p (a + 1) n w.1 i (omega arith) (omega arith) ]

any_at : (p : ℕ → Bool) (a n : ℕ) → list_any p (range_with_len a n) ≡ true → (i : ℕ) × (i < a + n) × (p i ≡ true)
any_at p a zero h = absurd (false≢true h)
any_at p a (suc n) h =
    elim (or_cases (p a) (list_any p (range_with_len (a + 1) n)) h) [
      | inl e ↦ (a, omega arith, e)
      | inr e ↦ let w = any_at p (a + 1) n e in let l = w.1 in (w.0, omega arith, w.2)
    ]

none_at : (p : ℕ → Bool) (a n : ℕ) → list_any p (range_with_len a n) ≡ false → (i : ℕ) → a ≤ i → i < a + n → p i ≡ false
none_at p a zero h i l u = absurd (omega arith)
none_at p a (suc n) h i l u =
    let w = or_parts (p a) (list_any p (range_with_len (a + 1) n)) h in
    elim (cases_eq a i) [ inl e ↦ sym (ap p e) ∙ w.0 | inr ne ↦ none_at p (a + 1) n w.1 i (omega arith) (omega arith) ]

-- where none passes before a number and none after it, no other one does
pub none_else : (p : ℕ → Bool) (c n : ℕ) → c < n → ((k : ℕ) → k < c → p k ≡ false) → list_any p (range_with_len (c + 1) (n - (c + 1))) ≡ false → list_any p (filter (λ k. not (eqb k c)) (range_with_len 0 n)) ≡ false
none_else p c n l before after =
    false_from_ne_true _ (λ h.
    let w = any_found p (λ k. not (eqb k c)) 0 n h in
    let u = w.1 in
    elim (cases_order w.0 c) [
      | inl e ↦ both_ways _ (not-true (eqb w.0 c) w.2) (eq-eqb w.0 c e)
      | inr o ↦ elim o [ inl q ↦ both_ways _ (before w.0 q) w.3 | inr q ↦ both_ways _ (none_at p (c + 1) (n - (c + 1)) after w.0 (omega arith) (omega arith)) w.3 ]
    ])

-- ---- in words
module _ (g : Grid) (b ns : ℕ → Bool) where
  follows_from : (i j : ℕ) → follows g b i j ≡ true → (c : ℕ) → c < g.width → g.held c i ≡ true → (b c ≡ true) ⊎ (g.held c j ≡ true)
  follows_from i j h c l k =
      let held_j : ℕ → Bool = λ c. g.held c j in
      let all = sym (all_filtered held_j (is_left g b i) (columns g)) ∙ h in
      go (b c) (g.held c i) (g.held c j) (all_at (λ c. not (is_left g b i c) || held_j c) 0 g.width all c (omega arith) (omega arith)) k
    where
      go : (x y z : Bool) → (not (not x && y) || z) ≡ true → y ≡ true → (x ≡ true) ⊎ (z ≡ true)
      go true y z e q = inl refl
      go false true z e q = inr e
      go false false z e q = absurd (false≢true q)

  -- a column that is left, where no other is, is the only one
  pub only_from : (i c : ℕ) → c < g.width → is_left g b i c ≡ true → list_any (is_left g b i) (filter (λ k. not (eqb k c)) (columns g)) ≡ false → OnlyLeft g b i c
  only_from i c l h none =
      let w = and_parts (not (b c)) (g.held c i) h in
      record { within = l; free = not-true (b c) w.0; holds = w.1; alone = alone }
    where
      left : (k : ℕ) → (y : Bool) → b k ≡ y → g.held k i ≡ true → (b k ≡ true) ⊎ (is_left g b i k ≡ true)
      left k true e q = inl e
      left k false e q = inr (ap (λ (x : Bool). not x && g.held k i) e ∙ q)

      alone : (k : ℕ) → k < g.width → g.held k i ≡ true → (b k ≡ true) ⊎ (k ≡ c)
      alone k m q = elim (left k (b k) refl q) [
        | inl e ↦ inl e
        | inr e ↦ elim (cases_eq k c) [
          | inl same ↦ inr same
          | inr other ↦ absurd (both_ways _ none (any_here (is_left g b i) (λ k. not (eqb k c)) 0 g.width k (omega arith) (omega arith) (not_from_false (eqb k c) (ne_eqb k c other)) e))
        ]
      ]

  pub implied_from : (j : ℕ) → is_implied g b ns j ≡ true → Implied g b ns j
  implied_from j h =
      let other : ℕ → Bool = λ i. not (eqb i j) in
      let after : ℕ → Bool = λ i. follows g b i j in
      let some = sym (any_filtered after ns (filter other (needs g)) ∙ any_filtered (λ i. ns i && after i) other (needs g)) ∙ h in
      let w = any_at (λ i. other i && (ns i && after i)) 0 g.wanted some in
      let l = w.1 in
      let x = and_parts (other w.0) (ns w.0 && after w.0) w.2 in
      let y = and_parts (ns w.0) (after w.0) x.1 in
      record {
        by = w.0;
        within = omega arith;
        apart = λ e. both_ways _ (not-true (eqb w.0 j) x.0) (eq-eqb w.0 j e);
        wanted = y.0;
        holds = follows_from w.0 j y.1;
      }

  pub useless_from : (a : ℕ) → is_useless g ns a ≡ true → Useless g ns a
  useless_from a h i l k =
      let misses : ℕ → Bool = λ i. not (g.held a i) in
      let all = sym (all_filtered misses ns (needs g)) ∙ h in
      go (ns i) (g.held a i) (all_at (λ i. not (ns i) || misses i) 0 g.wanted all i (omega arith) (omega arith)) k
    where
      go : (x y : Bool) → (not x || not y) ≡ true → y ≡ true → x ≡ false
      go false y e q = refl
      go true true e q = absurd (false≢true e)
      go true false e q = absurd (false≢true q)

  stands_from : (a k : ℕ) → stands_in g ns a k ≡ true → (i : ℕ) → i < g.wanted → g.held a i ≡ true → (g.held k i ≡ true) ⊎ (ns i ≡ false)
  stands_from a k h i l e =
      let own : ℕ → Bool = λ i. g.held a i in
      let its : ℕ → Bool = λ i. g.held k i in
      let all = sym (all_filtered its own (filter ns (needs g)) ∙ all_filtered (λ i. not (own i) || its i) ns (needs g)) ∙ h in
      go (ns i) (g.held a i) (g.held k i) (all_at (λ i. not (ns i) || (not (own i) || its i)) 0 g.wanted all i (omega arith) (omega arith)) e
    where
      go : (x y z : Bool) → (not x || (not y || z)) ≡ true → y ≡ true → (z ≡ true) ⊎ (x ≡ false)
      go false y z e q = inr refl
      go true true z e q = inl e
      go true false z e q = absurd (false≢true q)

module _ (p : Problem) (b ns : ℕ → Bool) where
  outdone_from : (a : ℕ) → is_outdone p b ns a ≡ true → Outdone p b ns a
  outdone_from a h =
      let other : ℕ → Bool = λ k. not (eqb k a) in
      let free : ℕ → Bool = λ k. not (b k) in
      let cheap : ℕ → Bool = λ k. no_dearer p k a in
      let stands : ℕ → Bool = λ k. stands_in p.grid ns a k in
      let row = columns p.grid in
      let some =
      sym
      (any_filtered stands cheap (filter free (filter other row))
      ∙ any_filtered (λ k. cheap k && stands k) free (filter other row)
      ∙ any_filtered (λ k. free k && (cheap k && stands k)) other row)
      ∙ h in
      let w = any_at (λ k. other k && (free k && (cheap k && stands k))) 0 p.grid.width some in
      let l = w.1 in
      let x = and_parts (other w.0) (free w.0 && (cheap w.0 && stands w.0)) w.2 in
      let y = and_parts (free w.0) (cheap w.0 && stands w.0) x.1 in
      let z = and_parts (cheap w.0) (stands w.0) y.1 in
      record {
        other = w.0;
        within = omega arith;
        apart = λ e. both_ways _ (not-true (eqb w.0 a) x.0) (eq-eqb w.0 a (sym e));
        free = not-true (b w.0) y.0;
        cheap = z.0;
        holds = stands_from p.grid b ns a w.0 z.1;
      }

  pub spare_from : (a : ℕ) → is_spare p b ns a ≡ true → Spare p b ns a
  spare_from a h = elim (or_cases (is_useless p.grid ns a) (is_outdone p b ns a) h) [ inl e ↦ inl (useless_from p.grid b ns a e) | inr e ↦ inr (outdone_from a e) ]
