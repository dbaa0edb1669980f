-- Sets of columns as rising lists: the earliest of the best covers is the best set.
use Rattle.std.proofs.Common.{◌≡◌, ℕ, zero, suc, ◌+◌, ◌-◌, ◌<◌, ◌≤◌, Bool, true, false, cond, ◌&&◌, eqb, ltb, ◌⊎◌, List, [], ◌∷◌, ◌++◌, map, length, filter, sym, refl, ap, ◌∙◌, subst, inl, inr, ⊎_elim, zero-add, add-one, arith, length-append}
use Rattle.std.specs.List.{range_with_len}
use Rattle.std.proofs.lemmas.List.Elements.{filter-append}
use Rattle.std.proofs.lemmas.List.{append-nil}
use Rattle.std.proofs.lemmas.Bool.{cases_Bool, cases_eq, both_ways, and_right, le-ltb, lt-ltb, eqb-true, eq-eqb, false≢true}
use Rattle.terms.specs.declared.term.Term.{Term}
use Rattle.terms.specs.Lists.{In}
use Rattle.terms.proofs.Members.{kept_in, in_kept}
use Rattle.orders.specs.Orders.{Meaning, Laws, total}
use Rattle.orders.proofs.Totalling.{any_order}
use Rattle.charts.specs.Choice.{some_of, sublists, Rising, Part}
use Rattle.charts.specs.Best.{Problem, columns, covering, total_of, beats, better, best_set, IsBest, BestSet}
use Rattle.charts.specs.Sets.{members_below, down, cost, size, exceeds, Covers, FirstBest}
use Rattle.charts.proofs.Values.{not_beats_trans, beats_asym, down_with, down_less}
use Rattle.charts.proofs.Parts.{all_at, all_from, some_at, some_from, sub_cases, sub_in, kept_sub, part_from, in_sublists, only_best, first_best_lem}

-- ---- numbers in a row
pub in_counting : (a k x : ℕ) → In x (range_with_len a k) → (a ≤ x) × (x < a + k)
in_counting a zero x h = absurd h
in_counting a (suc k) x (inl e) = (omega arith, omega arith)
in_counting a (suc k) x (inr h) = let w = in_counting (a + 1) k x h in let l = w.0 in let u = w.1 in (omega arith, omega arith)

pub counting_in : (a k x : ℕ) → a ≤ x → x < a + k → In x (range_with_len a k)
counting_in a zero x l u = absurd (omega arith)
counting_in a (suc k) x l u = ⊎_elim (λ (e : x ≡ a). inl e) (λ (e : x ≡ a → ⊥). inr (counting_in (a + 1) k x (omega arith) (omega arith))) (cases_eq x a)

pub counting_rising : (a k : ℕ) → Rising (λ x. x) (range_with_len a k)
counting_rising a zero = tt
counting_rising a (suc k) = (λ y h. let w = in_counting (a + 1) k y h in let l = w.0 in omega arith, counting_rising (a + 1) k)

counting_split : (a k l : ℕ) → range_with_len a (k + l) ≡ range_with_len a k ++ range_with_len (a + k) l
counting_split a zero l =
    let e : a ≡ a + 0 = omega arith in
    ap (range_with_len a) (zero-add l) ∙ ap (λ (b : ℕ). range_with_len b l) e
counting_split a (suc k) l =
    let e : suc k + l ≡ suc (k + l) = omega arith in
    let f : (a + 1) + k ≡ a + suc k = omega arith in
    ap (range_with_len a) e ∙ ap {B = List ℕ} (λ u. a ∷ u) (counting_split (a + 1) k l ∙ ap (λ (b : ℕ). range_with_len (a + 1) k ++ range_with_len b l) f)

-- ---- lists of members
pub kept_same : (s t : ℕ → Bool) (xs : List ℕ) → ((x : ℕ) → In x xs → s x ≡ t x) → filter s xs ≡ filter t xs
kept_same s t [] h = refl
kept_same s t (x ∷ xs) h =
    ap (λ (b : Bool). cond b (x ∷ filter s xs) (filter s xs)) (h x (inl refl)) ∙ ap (λ (u : List ℕ). cond (t x) (x ∷ u) u) (kept_same s t xs (λ y k. h y (inr k)))

kept_none : (s : ℕ → Bool) (xs : List ℕ) → ((x : ℕ) → In x xs → s x ≡ false) → filter s xs ≡ []
kept_none s [] h = refl
kept_none s (x ∷ xs) h = ap (λ (b : Bool). cond b (x ∷ filter s xs) (filter s xs)) (h x (inl refl)) ∙ kept_none s xs (λ y k. h y (inr k))

kept_all : (xs : List ℕ) → filter (λ _. true) xs ≡ xs
kept_all [] = refl
kept_all (x ∷ xs) = ap {B = List ℕ} (λ u. x ∷ u) (kept_all xs)

-- the members below n, rising
abbrev pub listed : (ℕ → Bool) → ℕ → List ℕ
listed s n = filter s (range_with_len 0 n)

-- members past n there are none
pub listed_longer : (s : ℕ → Bool) (n k : ℕ) → n ≤ k → ((i : ℕ) → n ≤ i → s i ≡ false) → listed s k ≡ listed s n
listed_longer s n k h none =
    let e : k ≡ n + (k - n) = omega arith in
    ap (λ (i : ℕ). filter s (range_with_len 0 i)) e
    ∙ ap (filter s) (counting_split 0 n (k - n))
    ∙ filter-append s (range_with_len 0 n) (range_with_len (0 + n) (k - n))
    ∙ ap (λ (u : List ℕ). listed s n ++ u) (kept_none s (range_with_len (0 + n) (k - n)) (λ x i. let w = in_counting (0 + n) (k - n) x i in let l = w.0 in none x (omega arith)))
    ∙ append-nil (listed s n)

-- the members below k of what s has below n
pub members_cut : (k n : ℕ) (s t : ℕ → Bool) → n ≤ k → ((i : ℕ) → t i ≡ (s i && ltb i n)) → members_below k t ≡ listed s n
unfolding members_below
members_cut k n s t h e =
    listed_longer t n k h (λ i l. e i ∙ and_right (s i) (ltb i n) (le-ltb i n l))
    ∙ kept_same t s (range_with_len 0 n) (λ x i. let w = (in_counting 0 n x i).1 in e x ∙ ap (λ (b : Bool). s x && b) (lt-ltb x n (omega arith)) ∙ and_true (s x))
  where
    and_true : (b : Bool) → (b && true) ≡ b
    and_true true = refl
    and_true false = refl

listed_last : (s : ℕ → Bool) (n : ℕ) → listed s (suc n) ≡ listed s n ++ cond (s n) (n ∷ []) []
listed_last s n =
    ap (λ (i : ℕ). filter s (range_with_len 0 i)) (sym (add-one n)) ∙ ap (filter s) (counting_split 0 n 1 ∙ ap (λ (b : ℕ). range_with_len 0 n ++ (b ∷ [])) (zero-add n)) ∙ filter-append s (range_with_len 0 n) (n ∷ [])

listed_with : (s : ℕ → Bool) (n : ℕ) → s n ≡ true → listed s (suc n) ≡ listed s n ++ (n ∷ [])
listed_with s n e = listed_last s n ∙ ap (λ (b : Bool). listed s n ++ cond b (n ∷ []) []) e

listed_less : (s : ℕ → Bool) (n : ℕ) → s n ≡ false → listed s (suc n) ≡ listed s n
listed_less s n e = listed_last s n ∙ ap (λ (b : Bool). listed s n ++ cond b (n ∷ []) []) e ∙ append-nil (listed s n)

map_last : (f : ℕ → Term) (xs : List ℕ) (x : ℕ) → map f (xs ++ (x ∷ [])) ≡ map f xs ++ (f x ∷ [])
map_last f [] x = refl
map_last f (y ∷ xs) x = ap {B = List Term} (λ u. f y ∷ u) (map_last f xs x)

module _ (m : Meaning) (laws : Laws m) (term : ℕ → Term) where
  total_listed : (s : ℕ → Bool) (n : ℕ) → total m (map term (listed s n)) ≡ total m (map term (down s n))
  total_listed s zero = refl
  total_listed s (suc n) =
      ⊎_elim
      (λ (e : s n ≡ true).
      ap (λ (u : List ℕ). total m (map term u)) (listed_with s n e)
      ∙ ap (total m) (map_last term (listed s n) n)
      ∙ any_order m laws (map term (listed s n)) (term n) []
      ∙ ap (λ (u : List Term). m.join (m.price (term n)) (total m u)) (append-nil (map term (listed s n)))
      ∙ ap (m.join (m.price (term n))) (total_listed s n)
      ∙ sym (ap (λ (u : List ℕ). total m (map term u)) (down_with s n e)))
      (λ (e : s n ≡ false).
      ap (λ (u : List ℕ). total m (map term u)) (listed_less s n e) ∙ total_listed s n ∙ sym (ap (λ (u : List ℕ). total m (map term u)) (down_less s n e)))
      (cases_Bool (s n))

length_listed : (s : ℕ → Bool) (n : ℕ) → length (listed s n) ≡ length (down s n)
length_listed s zero = refl
length_listed s (suc n) =
    let ih = length_listed s n in
    ⊎_elim
    (λ (e : s n ≡ true). let a = length-append (listed s n) (n ∷ []) in omega (arith, ap length (listed_with s n e), ap length (down_with s n e)))
    (λ (e : s n ≡ false). omega (arith, ap length (listed_less s n e), ap length (down_less s n e)))
    (cases_Bool (s n))

-- ---- a part is the list of its members
has : List ℕ → ℕ → Bool
has c k = some_of (λ x. eqb x k) c

has_in : (c : List ℕ) (k : ℕ) → has c k ≡ true → In k c
unfolding has
has_in c k h = let w = some_at (λ x. eqb x k) c h in subst (λ (x : ℕ). In x c) (eqb-true w.0 k w.2) w.1

in_has : (c : List ℕ) (k : ℕ) → In k c → has c k ≡ true
unfolding has
in_has c k h = some_from (λ x. eqb x k) k c h (eq-eqb k k refl)

not_has : (c : List ℕ) (k : ℕ) → (In k c → ⊥) → has c k ≡ false
not_has c k h = ⊎_elim (λ (e : has c k ≡ true). absurd (h (has_in c k e))) (λ (e : has c k ≡ false). e) (cases_Bool (has c k))

sub_kept : (ps c : List ℕ) → Rising (λ x. x) ps → In c (sublists ps) → filter (has c) ps ≡ c
sub_kept [] c o (inl e) = sym e
sub_kept [] c o (inr h) = absurd h
sub_kept (p ∷ ps) c o h =
    elim (sub_cases p ps c h) [
      | inl d ↦
          let apart : (x : ℕ) → In x ps → has c x ≡ has d.0 x = λ x k.
          let l = o.0 x k in
          ⊎_elim
          (λ (e : has d.0 x ≡ true). in_has c x (subst (λ (u : List ℕ). In x u) (sym d.2) (inr (has_in d.0 x e))) ∙ sym e)
          (λ (e : has d.0 x ≡ false). not_has c x (λ i. elim (subst (λ (u : List ℕ). In x u) d.2 i) [ inl q ↦ omega arith | inr q ↦ both_ways _ e (in_has d.0 x q) ]) ∙ sym e)
          (cases_Bool (has d.0 x)) in
          let first : has c p ≡ true = in_has c p (subst (λ (u : List ℕ). In p u) (sym d.2) (inl refl)) in
          ap (λ (b : Bool). cond b (p ∷ filter (has c) ps) (filter (has c) ps)) first
          ∙ ap {B = List ℕ} (λ u. p ∷ u) (kept_same (has c) (has d.0) ps apart ∙ sub_kept ps d.0 o.1 d.1)
          ∙ sym d.2
      | inr d ↦
          let none : has c p ≡ false = not_has c p (λ i. let l = o.0 p (sub_in ps c d p i) in omega arith) in
          ap (λ (b : Bool). cond b (p ∷ filter (has c) ps) (filter (has c) ps)) none ∙ sub_kept ps c o.1 d
    ]

-- ---- two sets are the same below n, or there is a first column in which they differ
first_apart : (s u : ℕ → Bool) (n : ℕ) → ((k : ℕ) → k < n → s k ≡ u k) ⊎ ((j : ℕ) × (j < n) × ((k : ℕ) → k < j → u k ≡ s k) × (s j ≡ u j → ⊥))
first_apart s u zero = inl (λ k l. absurd (omega arith))
first_apart s u (suc n) =
    elim (first_apart s u n) [
      | inl h ↦ ⊎_elim
          (λ (e : s n ≡ u n). inl (λ k l. ⊎_elim (λ (q : k ≡ n). subst (λ (i : ℕ). s i ≡ u i) (sym q) e) (λ (q : k ≡ n → ⊥). h k (omega arith)) (cases_eq k n)))
          (λ (e : s n ≡ u n → ⊥). inr (n, omega arith, (λ k l. sym (h k l)), e))
          (same_or (s n) (u n))
      | inr w ↦ let l = w.1 in inr (w.0, omega arith, w.2, w.3)
    ]
  where
    same_or : (a b : Bool) → (a ≡ b) ⊎ (a ≡ b → ⊥)
    same_or true true = inl refl
    same_or true false = inr (λ e. false≢true (sym e))
    same_or false true = inr (λ e. false≢true e)
    same_or false false = inl refl

module _ (p : Problem) (laws : Laws p.order) where
  abbrev N : ℕ
  N = p.grid.width

  better_listed : (s u : ℕ → Bool) → better p (listed s N) (listed u N) ≡ exceeds p s u
  better_listed s u =
      let m = p.order in
      let f : m.Total → ℕ → m.Total → ℕ → Bool = beats m in
      ap (λ (v : m.Total). f v (length (listed s N)) (total_of p (listed u N)) (length (listed u N))) (total_listed m laws p.grid.term s N)
      ∙ ap (λ (i : ℕ). f (cost p s) i (total_of p (listed u N)) (length (listed u N))) (length_listed s N)
      ∙ ap (λ (v : m.Total). f (cost p s) (size p.grid s) v (length (listed u N))) (total_listed m laws p.grid.term u N)
      ∙ ap (λ (i : ℕ). f (cost p s) (size p.grid s) (cost p u) i) (length_listed u N)

  to_covering : (s : ℕ → Bool) → Covers p.grid s → covering p.grid (listed s N) ≡ true
  to_covering s h =
      all_from (λ i. some_of (λ k. p.grid.held k i) (listed s N)) (range_with_len 0 p.grid.wanted) (λ i k.
      let b = (in_counting 0 p.grid.wanted i k).1 in
      let w = h i (omega arith) in
      let l = w.1 in
      some_from (λ c. p.grid.held c i) w.0 (listed s N) (in_kept s w.0 (range_with_len 0 N) (counting_in 0 N w.0 (omega arith) (omega arith)) w.2) w.3)

  of_covering : (s : ℕ → Bool) → covering p.grid (listed s N) ≡ true → Covers p.grid s
  of_covering s h i l =
      let w = some_at (λ c. p.grid.held c i) (listed s N) (all_at (λ i. some_of (λ k. p.grid.held k i) (listed s N)) i (range_with_len 0 p.grid.wanted) h (counting_in 0 p.grid.wanted i (omega arith) (omega arith))) in
      let k = kept_in s w.0 (range_with_len 0 N) w.1 in
      let b = (in_counting 0 N w.0 k.0).1 in
      (w.0, omega arith, k.1, w.2)

  -- all columns together
  pub whole_covers : covering p.grid (columns p.grid) ≡ true → Covers p.grid (λ _. true)
  whole_covers h = of_covering (λ _. true) (ap (covering p.grid) (kept_all (range_with_len 0 N)) ∙ h)

  pub covers_whole : Covers p.grid (λ _. true) → covering p.grid (columns p.grid) ≡ true
  covers_whole h = sym (ap (covering p.grid) (kept_all (range_with_len 0 N))) ∙ to_covering (λ _. true) h

  -- a part as a set
  module _ (d : List ℕ) (part : Part (λ x. x) (columns p.grid) d) where
    same_list : listed (has d) N ≡ d
    same_list = sub_kept (range_with_len 0 N) d (counting_rising 0 N) (in_sublists (λ x. x) (range_with_len 0 N) d (counting_rising 0 N) part.rising part.among)

    covers_part : covering p.grid d ≡ true → Covers p.grid (has d)
    covers_part t = of_covering (has d) (ap (covering p.grid) same_list ∙ t)

  is_best : (s : ℕ → Bool) → FirstBest p s → IsBest p (listed s N)
  is_best s f =
      record {
        part = part_from (λ x. x) (range_with_len 0 N) (listed s N) (counting_rising 0 N) (kept_sub s (range_with_len 0 N));
        passing = to_covering s f.least.covers;
        least = λ d h t.
            sym (ap (λ (x : List ℕ). better p x (listed s N)) (same_list d h)) ∙ better_listed (has d) s ∙ f.least.least (has d) (covers_part d h t);
        earliest = λ d h t k.
            let u = has d in
            let no-worse : exceeds p s u ≡ false = sym (better_listed s u) ∙ ap (better p (listed s N)) (same_list d h) ∙ k in
            elim (first_apart s u N) [
              | inl q ↦ inl (kept_same s u (range_with_len 0 N) (λ x i. let b = (in_counting 0 N x i).1 in q x (omega arith)) ∙ same_list d h)
              | inr w ↦
                  let l = w.1 in
                  let out : u w.0 ≡ false = ⊎_elim (λ (y : u w.0 ≡ true). absurd (w.3 (f.earliest w.0 w.1 u (covers_part d h t) no-worse w.2 y ∙ sym y))) (λ (y : u w.0 ≡ false). y) (cases_Bool (u w.0)) in
                  let into : s w.0 ≡ true = ⊎_elim (λ (y : s w.0 ≡ true). y) (λ (y : s w.0 ≡ false). absurd (w.3 (y ∙ sym out))) (cases_Bool (s w.0)) in
                  inr record {
                    at = w.0;
                    held = in_kept s w.0 (range_with_len 0 N) (counting_in 0 N w.0 (omega arith) (omega arith)) into;
                    missed = λ i. both_ways _ out (in_has d w.0 i);
                    before = λ x lt. (
                      λ i. has_in d x (w.2 x lt ∙ (kept_in s x (range_with_len 0 N) i).1),
                      λ i. in_kept s x (range_with_len 0 N) (counting_in 0 N x (omega arith) (omega arith)) (sym (w.2 x lt) ∙ in_has d x i),
                    );
                  }
            ];
      }

  weak : (a b c : List ℕ) → better p a b ≡ false → better p b c ≡ false → better p a c ≡ false
  weak a b c = not_beats_trans laws (total_of p a) (total_of p b) (total_of p c) (length a) (length b) (length c)

  asym : (a b : List ℕ) → better p a b ≡ true → better p b a ≡ false
  asym a b = beats_asym laws (total_of p a) (total_of p b) (length a) (length b)

  best_is_best : covering p.grid (columns p.grid) ≡ true → IsBest p (best_set p)
  best_is_best h = first_best_lem (λ x. x) (columns p.grid) (covering p.grid) (better p) (counting_rising 0 N) h weak asym

  -- the best set is best in words, and no other set is
  pub best_set_lem : BestSet p
  best_set_lem h = (best_is_best h, λ c b. only_best (λ x. x) (columns p.grid) (covering p.grid) (better p) (counting_rising 0 N) c (best_set p) b (best_is_best h))

  -- the earliest of the best covers, as a list, is the best set
  pub listed_best : (s : ℕ → Bool) → Covers p.grid (λ _. true) → FirstBest p s → listed s N ≡ best_set p
  listed_best s h f = (best_set_lem (covers_whole h)).1 (listed s N) (is_best s f)

  -- and so are its total and its size
  pub total_best : (s : ℕ → Bool) → Covers p.grid (λ _. true) → FirstBest p s → cost p s ≡ total_of p (best_set p)
  total_best s h f = sym (total_listed p.order laws p.grid.term s N) ∙ ap (total_of p) (listed_best s h f)

  pub size_best : (s : ℕ → Bool) → Covers p.grid (λ _. true) → FirstBest p s → size p.grid s ≡ length (best_set p)
  size_best s h f = sym (length_listed s N) ∙ ap length (listed_best s h f)
