-- The columns that are left for a need: what a chain over them says of each.
use Rattle.std.proofs.Common.{◌≡◌, ℕ, ◌+◌, ◌<◌, ◌≤◌, Bool, true, false, not, eqb, nat_lt, ◌&&◌, ◌||◌, cond, List, [], ◌∷◌, filter, length, Some, sym, refl, ap, ◌∙◌, subst, inl, inr, ⊎_elim, arith}
use Rattle.std.specs.List.{list_all, fold, reduce}
use Rattle.std.proofs.lemmas.Bool.{and_parts, or_right, both_ways, cases_lt, cases_order, lt-ltb, le-ltb, eq-eqb, ne_eqb, not-true, not-false}
use Rattle.terms.specs.Lists.{In}
use Rattle.terms.proofs.Members.{in_kept}
use Rattle.orders.specs.Orders.{Laws}
use Rattle.orders.proofs.Totalling.{at_most_self}
use Rattle.charts.specs.Grids.{Grid}
use Rattle.charts.specs.Best.{Problem, columns}
use Rattle.charts.specs.Sets.{is_held, Covers}
use Rattle.charts.proofs.Listings.{in_counting, counting_in}
use Rattle.charts.proofs.Holding.{held_from, from_held, unheld_from}
use Rattle.reductions.specs.Spares.{needs, is_left, left_for}
use Rattle.covering.specs.Floors.{is_unused, cheaper, Apart, Cheapest}

-- what all pass each passes
each_of : (p : ℕ → Bool) (xs : List ℕ) (x : ℕ) → list_all p xs ≡ true → In x xs → p x ≡ true
each_of p [] x h i = absurd i
each_of p (y ∷ ys) x h (inl e) = ap p e ∙ (and_parts (p y) (list_all p ys) h).0
each_of p (y ∷ ys) x h (inr i) = each_of p ys x (and_parts (p y) (list_all p ys) h).1 i

-- where nothing is kept nothing passes
none_kept : (p : ℕ → Bool) (xs : List ℕ) (x : ℕ) → length (filter p xs) ≡ 0 → In x xs → p x ≡ false
none_kept p xs x h i = go (p x) refl
  where
    empty : (ys : List ℕ) → In x ys → length ys ≡ 0 → ⊥
    empty [] j e = j
    empty (y ∷ ys) j e = absurd (omega arith)

    go : (b : Bool) → p x ≡ b → p x ≡ false
    go false e = e
    go true e = absurd (empty (filter p xs) (in_kept p x xs i e) h)

-- a column that is there, holds the need and is not left out is left
left_in : (g : Grid) (b : ℕ → Bool) (i c : ℕ) → c < g.width → g.held c i ≡ true → b c ≡ false → In c (left_for g b i)
left_in g b i c l h n = in_kept (is_left g b i) c (columns g) (counting_in 0 g.width c (omega arith) (omega arith)) (ap (λ (y : Bool). not y && g.held c i) n ∙ h)

-- where none of what fails one test passes another, all that pass the other pass the one
swapped : (p q : ℕ → Bool) (xs : List ℕ) → list_all (λ x. not (q x)) (filter (λ x. not (p x)) xs) ≡ list_all p (filter q xs)
swapped p q [] = refl
swapped p q (x ∷ xs) = go (swapped p q xs) (p x) (q x) refl refl
  where
    nots : List ℕ → Bool
    nots ys = list_all (λ y. not (q y)) ys

    out : List ℕ
    out = filter (λ y. not (p y)) xs

    go : nots out ≡ list_all p (filter q xs) → (y z : Bool) → p x ≡ y → q x ≡ z → nots (cond (not y) (x ∷ out) out) ≡ list_all p (cond z (x ∷ filter q xs) (filter q xs))
    go e true true py qz = e ∙ sym (ap (λ (w : Bool). w && list_all p (filter q xs)) py)
    go e true false py qz = e
    go e false true py qz = ap (λ (w : Bool). not w && nots out) qz ∙ sym (ap (λ (w : Bool). w && list_all p (filter q xs)) py)
    go e false false py qz = ap (λ (w : Bool). not w && nots out) qz ∙ e

-- no column that is taken or used is left exactly when each that is left is neither
pub apart_either : (g : Grid) (t b u : ℕ → Bool) (i : ℕ) → list_all (λ c. not (is_left g b i c)) (filter (λ c. not (is_unused t u c)) (columns g)) ≡ list_all (is_unused t u) (left_for g b i)
apart_either g t b u i = swapped (is_unused t u) (is_left g b i) (columns g)

-- no column that is left is taken or used
pub apart_from : (g : Grid) (t b u : ℕ → Bool) (i : ℕ) → list_all (is_unused t u) (left_for g b i) ≡ true → Apart g t b u i
apart_from g t b u i h c l y n =
    let w = each_of (is_unused t u) (left_for g b i) c h (left_in g b i c l y n) in
    let both = and_parts (not (t c)) (not (u c)) w in
    (not-true (t c) both.0, not-true (u c) both.1)

-- of the columns that are left, none is cheaper
module _ (p : Problem) (laws : Laws p.order) where
  abbrev AtMost : ℕ → ℕ → Type 0
  AtMost r c = p.order.at_most (p.order.price (p.grid.term r)) (p.order.price (p.grid.term c)) ≡ true

  via : (r s c : ℕ) → AtMost r s → AtMost s c → AtMost r c
  via r s c = laws.trans (p.order.price (p.grid.term r)) (p.order.price (p.grid.term s)) (p.order.price (p.grid.term c))

  both : (a b : ℕ) → AtMost (cheaper p a b) a × AtMost (cheaper p a b) b
  both a b = go (p.order.at_most (p.order.price (p.grid.term a)) (p.order.price (p.grid.term b))) refl
    where
      go : (y : Bool) → p.order.at_most (p.order.price (p.grid.term a)) (p.order.price (p.grid.term b)) ≡ y → AtMost (cond y a b) a × AtMost (cond y a b) b
      go true e = (at_most_self p.order laws (p.order.price (p.grid.term a)), e)
      go false e = (
        ⊎_elim (λ (q : AtMost a b). absurd (both_ways _ e q)) (λ (q : AtMost b a). q) (laws.connected (p.order.price (p.grid.term a)) (p.order.price (p.grid.term b))),
        at_most_self p.order laws (p.order.price (p.grid.term b)),
      )

  folded : (x : ℕ) (xs : List ℕ) → AtMost (fold (cheaper p) x xs) x × ((c : ℕ) → In c xs → AtMost (fold (cheaper p) x xs) c)
  folded x [] = (at_most_self p.order laws (p.order.price (p.grid.term x)), λ c i. absurd i)
  folded x (y ∷ ys) =
      let w = folded (cheaper p x y) ys in
      let r = fold (cheaper p) (cheaper p x y) ys in
      let two = both x y in
      let at_y = via r (cheaper p x y) y w.0 two.1 in
      (via r (cheaper p x y) x w.0 two.0, λ c i. later c at_y w.1 i)
    where
      later : (c : ℕ) → AtMost (fold (cheaper p) (cheaper p x y) ys) y → ((d : ℕ) → In d ys → AtMost (fold (cheaper p) (cheaper p x y) ys) d) → In c (y ∷ ys) → AtMost (fold (cheaper p) (cheaper p x y) ys) c
      later c a f (inl e) = rw e a
      later c a f (inr i) = f c i

  pub cheapest_from : (b : ℕ → Bool) (i r : ℕ) → reduce (cheaper p) (left_for p.grid b i) ≡ Some r → Cheapest p b i r
  cheapest_from b i r e c l h n = go (left_for p.grid b i) e (left_in p.grid b i c l h n)
    where
      go : (xs : List ℕ) → reduce (cheaper p) xs ≡ Some r → In c xs → AtMost r c
      go [] e j = absurd j
      go (x ∷ xs) e j = let q : fold (cheaper p) x xs ≡ r = cc in at q j
        where
          at : fold (cheaper p) x xs ≡ r → In c (x ∷ xs) → AtMost r c
          at q (inl k) = subst (λ (u : ℕ). AtMost u c) q (subst (AtMost (fold (cheaper p) x xs)) (sym k) (folded x xs).0)
          at q (inr k) = subst (λ (u : ℕ). AtMost u c) q ((folded x xs).1 c k)

-- each need is held where none is left open
pub covers_from : (g : Grid) (t : ℕ → Bool) → length (filter (λ i. not (is_held g t i)) (needs g)) ≡ 0 → Covers g t
covers_from g t h i l = held_from g t i (not-false (is_held g t i) (none_kept (λ k. not (is_held g t k)) (needs g) i h (counting_in 0 g.wanted i (omega arith) (omega arith))))

-- a set covers exactly when each need is held
pub covers_all : (g : Grid) (s : ℕ → Bool) → list_all (is_held g s) (needs g) ≡ true → Covers g s
covers_all g s h i l = held_from g s i (each_of (is_held g s) (needs g) i h (counting_in 0 g.wanted i (omega arith) (omega arith)))

pub all_covered : (g : Grid) (s : ℕ → Bool) → Covers g s → list_all (is_held g s) (needs g) ≡ true
all_covered g s h = go (needs g) (λ i k. let l = (in_counting 0 g.wanted i k).1 in from_held g s i (h i (omega arith)))
  where
    go : (xs : List ℕ) → ((i : ℕ) → In i xs → is_held g s i ≡ true) → list_all (is_held g s) xs ≡ true
    go [] f = refl
    go (x ∷ xs) f = ap (λ (b : Bool). b && list_all (is_held g s) xs) (f x (inl refl)) ∙ go xs (λ i k. f i (inr k))

-- each column that holds the need is left out where none is left
pub none_left_from : (g : Grid) (b : ℕ → Bool) (i : ℕ) → length (left_for g b i) ≡ 0 → (c : ℕ) → c < g.width → g.held c i ≡ true → b c ≡ true
none_left_from g b i h c l y = go (b c) refl
  where
    go : (v : Bool) → b c ≡ v → b c ≡ true
    go true e = e
    go false e = absurd (both_ways _ (none_kept (is_left g b i) (columns g) c h (counting_in 0 g.width c (omega arith) (omega arith))) (ap (λ (v : Bool). not v && g.held c i) e ∙ y))

-- a column that is left for an open need is free
pub left_free : (g : Grid) (t b : ℕ → Bool) (i c : ℕ) → is_held g t i ≡ false → c < g.width → is_left g b i c ≡ true → (t c ≡ false) × (b c ≡ false)
left_free g t b i c unheld l h = (go (t c) refl, not-true (b c) (and_parts (not (b c)) (g.held c i) h).0)
  where
    go : (y : Bool) → t c ≡ y → t c ≡ false
    go false e = e
    go true e = absurd (both_ways _ (unheld_from g t i unheld c l e) (and_parts (not (b c)) (g.held c i) h).1)

-- one turn more over the columns below a bound: the column j is put in where it passes
module _ (p u : ℕ → Bool) (j k : ℕ) where
  turn_in : p j ≡ true → (eqb j k || (u k || (nat_lt k j && p k))) ≡ (u k || (nat_lt k (j + 1) && p k))
  turn_in e =
      elim (cases_order k j) [
        | inl q ↦ subst (λ (i : ℕ). (eqb j i || (u i || (nat_lt i j && p i))) ≡ (u i || (nat_lt i (j + 1) && p i))) (sym q)
            (rw (eq-eqb j j refl, lt-ltb j (j + 1) (omega arith), e) (sym (or_right (u j) true refl)))
        | inr o ↦ elim o [
          | inl l ↦ rw (ne_eqb j k (λ q. omega arith), lt-ltb k j l, lt-ltb k (j + 1) (omega arith)) refl
          | inr l ↦ rw (ne_eqb j k (λ q. omega arith), le-ltb k j (omega arith), le-ltb k (j + 1) (omega arith)) refl
        ]
      ]

  turn_out : p j ≡ false → (u k || (nat_lt k j && p k)) ≡ (u k || (nat_lt k (j + 1) && p k))
  turn_out e =
      elim (cases_order k j) [
        | inl q ↦ subst (λ (i : ℕ). (u i || (nat_lt i j && p i)) ≡ (u i || (nat_lt i (j + 1) && p i))) (sym q)
            (rw (le-ltb j j (omega arith), lt-ltb j (j + 1) (omega arith), e) refl)
        | inr o ↦ elim o [
          | inl l ↦ rw (lt-ltb k j l, lt-ltb k (j + 1) (omega arith)) refl
          | inr l ↦ rw (le-ltb k j (omega arith), le-ltb k (j + 1) (omega arith)) refl
        ]
      ]

  pub used_in : (v w : Bool) → p j ≡ true → v ≡ (u k || (nat_lt k j && p k)) → w ≡ (eqb j k || v) → w ≡ (u k || (nat_lt k (j + 1) && p k))
  used_in v w e h m = m ∙ ap (λ (y : Bool). eqb j k || y) h ∙ turn_in e

  pub used_out : (v : Bool) → p j ≡ false → v ≡ (u k || (nat_lt k j && p k)) → v ≡ (u k || (nat_lt k (j + 1) && p k))
  used_out v e h = h ∙ turn_out e

-- what is used after a need: what was, and the columns that are left for it
module _ (g : Grid) (b u v : ℕ → Bool) (i : ℕ) (few : g.width ≤ 256) (h : (c : ℕ) → c < 256 → v c ≡ (u c || (nat_lt c g.width && is_left g b i c))) where
  pub used_marks : (c : ℕ) → c < g.width → g.held c i ≡ true → b c ≡ false → v c ≡ true
  used_marks c l y n =
      h c (omega arith)
      ∙ ap (λ (x : Bool). u c || (nat_lt c g.width && x)) (ap (λ (x : Bool). not x && g.held c i) n ∙ y)
      ∙ ap (λ (x : Bool). u c || (x && true)) (lt-ltb c g.width l)
      ∙ or_right (u c) true refl

  pub used_keeps : ((c : ℕ) → 256 ≤ c → u c ≡ false) → (c : ℕ) → u c ≡ true → v c ≡ true
  used_keeps past c e =
      ⊎_elim
      (λ (low : c < 256). h c low ∙ ap (λ (x : Bool). x || (nat_lt c g.width && is_left g b i c)) e)
      (λ (high : 256 ≤ c). absurd (both_ways _ (past c high) e))
      (cases_lt c 256)
