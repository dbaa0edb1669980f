-- Which primes are essential, need by need.
use Rattle.std.proofs.Common.{◌≡◌, ℕ, zero, suc, ◌+◌, ◌<◌, ◌≤◌, Bool, true, false, cond, not, ◌&&◌, ◌||◌, eqb, List, [], ◌∷◌, ◌++◌, map, length, get_or, take, drop, set, Some, None, filter, position, nat_lt, ◌==◌, add-one, drop-cons, sym, refl, ap, ◌∙◌, subst, ap₂, inl, inr, le_of_suc-le-suc, not-suc-le-zero, arith, length-set, get_or-set_other, take-suc, get_or-set_same, ext_get_or}
use lib.ListN.{length-map}
use Rattle.std.specs.List.{position_or_len}
use Rattle.std.proofs.lemmas.List.{drop_all, get_or-map}
use Rattle.std.proofs.Math.Bool.{or-false, or-true, or_assoc}
use Rattle.std.proofs.lemmas.List.Quantifiers.{position-Some}
use Rattle.std.proofs.lemmas.Bool.{cases_eq, cases_Bool, eq-eqb, eqb-true, ltb-false, ne_eqb, and_left, and_right, and_from}
use Rattle.terms.specs.declared.term.Term.{Term}
use Rattle.fixed.specs.Lists.{entries}
use Rattle.terms.specs.Terms.{number}
use Rattle.primes.specs.declared.need.Need.{Need}
use Rattle.primes.specs.declared.prime.Prime.{Prime}
use Rattle.primes.specs.Needs.{meets}
use Rattle.primes.specs.Records.{PrimeList, held, holders, is_essential, no_prime, record_meets, sole_place}

pub length_kept_map : {A B : Type 0} (q : B → Bool) (f : A → B) (xs : List A) → length (filter q (map f xs)) ≡ length (filter (λ x. q (f x)) xs)
length_kept_map q f [] = refl
length_kept_map q f (x ∷ xs) = go (q (f x)) (length_kept_map q f xs)
  where
    go : (b : Bool) → length (filter q (map f xs)) ≡ length (filter (λ x. q (f x)) xs)
        → length (cond b (f x ∷ filter q (map f xs)) (filter q (map f xs))) ≡ length (cond b (x ∷ filter (λ x. q (f x)) xs) (filter (λ x. q (f x)) xs))
    go true e = ap suc e
    go false e = e

kept_some : {A : Type 0} (q : A → Bool) (xs : List A) (i : ℕ) (d : A) → i < length xs → q (get_or xs i d) ≡ true → 1 ≤ length (filter q xs)
kept_some q [] i d h e = absurd (not-suc-le-zero h)
kept_some q (x ∷ xs) zero d h e = subst (λ (b : Bool). 1 ≤ length (cond b (x ∷ filter q xs) (filter q xs))) (sym e) (omega arith)
kept_some q (x ∷ xs) (suc i) d h e = go (q x) (kept_some q xs i d (le_of_suc-le-suc h) e)
  where
    go : (b : Bool) → 1 ≤ length (filter q xs) → 1 ≤ length (cond b (x ∷ filter q xs) (filter q xs))
    go true k = omega arith
    go false k = k

-- where one element passes, it is the only one
pub only_one : {A : Type 0} (q : A → Bool) (xs : List A) (i j : ℕ) (d : A) → length (filter q xs) ≡ 1 → i < length xs → j < length xs
    → q (get_or xs i d) ≡ true → q (get_or xs j d) ≡ true → i ≡ j
only_one q [] i j d e h k a b = absurd (not-suc-le-zero h)
only_one q (x ∷ xs) zero zero d e h k a b = refl
only_one q (x ∷ xs) zero (suc j) d e h k a b =
    let s = kept_some q xs j d (le_of_suc-le-suc k) b in
    let f : suc (length (filter q xs)) ≡ 1 = ap (λ (t : Bool). length (cond t (x ∷ filter q xs) (filter q xs))) (sym a) ∙ e in
    absurd (omega arith)
only_one q (x ∷ xs) (suc i) zero d e h k a b =
    let s = kept_some q xs i d (le_of_suc-le-suc h) a in
    let f : suc (length (filter q xs)) ≡ 1 = ap (λ (t : Bool). length (cond t (x ∷ filter q xs) (filter q xs))) (sym b) ∙ e in
    absurd (omega arith)
only_one q (x ∷ xs) (suc i) (suc j) d e h k a b =
    go (q x) refl e (kept_some q xs i d (le_of_suc-le-suc h) a) (λ f. only_one q xs i j d f (le_of_suc-le-suc h) (le_of_suc-le-suc k) a b)
  where
    go : (t : Bool) → q x ≡ t → length (cond t (x ∷ filter q xs) (filter q xs)) ≡ 1 → 1 ≤ length (filter q xs) → (length (filter q xs) ≡ 1 → i ≡ j) → suc i ≡ suc j
    go true g f s rec = absurd (omega arith)
    go false g f s rec = ap suc (rec f)

-- ---- the place of the only one that passes
module _ {A : Type 0} (p : A → Bool) where
  -- what passes from the first place on
  from_first : (xs : List A) → length (filter p xs) ≡ length (filter p (drop (position_or_len p xs) xs))
  from_first [] = refl
  from_first (x ∷ xs) = go (p x) refl (from_first xs)
    where
      go : (b : Bool) → p x ≡ b → length (filter p xs) ≡ length (filter p (drop (position_or_len p xs) xs))
          → length (cond b (x ∷ filter p xs) (filter p xs)) ≡ length (filter p (drop (cond (not b) (1 + position_or_len p xs) 0) (x ∷ xs)))
      go true e h = ap (λ (t : Bool). length (cond t (x ∷ filter p xs) (filter p xs))) (sym e)
      go false e h =
          let k : 1 + position_or_len p xs ≡ suc (position_or_len p xs) = omega arith in
          h ∙ ap (λ (n : ℕ). length (filter p (drop n (x ∷ xs)))) (sym k)

  none_passes : (xs : List A) → position p xs ≡ None → length (filter p xs) ≡ 0
  none_passes xs e =
      let past : length xs ≤ position_or_len p xs = go (nat_lt (position_or_len p xs) (length xs)) refl e in
      from_first xs ∙ ap (λ (ys : List A). length (filter p ys)) (drop_all (position_or_len p xs) xs past)
    where
      go : (b : Bool) → nat_lt (position_or_len p xs) (length xs) ≡ b → cond b (Some (position_or_len p xs)) None ≡ None → length xs ≤ position_or_len p xs
      go true h e = cc
      go false h e = ltb-false (position_or_len p xs) (length xs) h

  one_more : (xs : List A) (i : ℕ) (d : A) → position p xs ≡ Some i → length (filter p xs) ≡ suc (length (filter p (drop (i + 1) xs)))
  one_more xs i d e =
      let w = position-Some p xs i d e in
      let k : position_or_len p xs ≡ i = go (nat_lt (position_or_len p xs) (length xs)) e in
      from_first xs
      ∙ ap (λ (n : ℕ). length (filter p (drop n xs))) k
      ∙ ap (λ (ys : List A). length (filter p ys)) (drop-cons xs i d w.0)
      ∙ ap (λ (b : Bool). length (cond b (get_or xs i d ∷ filter p (drop (suc i) xs)) (filter p (drop (suc i) xs)))) w.1
      ∙ ap (λ (n : ℕ). suc (length (filter p (drop n xs)))) (sym (add-one i))
    where
      go : (b : Bool) → cond b (Some (position_or_len p xs)) None ≡ Some i → position_or_len p xs ≡ i
      go true e = cc
      go false e = cc

  pub sole_not : (xs : List A) (i j : ℕ) (d : A) → position p xs ≡ Some i → position p (drop (i + 1) xs) ≡ Some j → sole_place p xs ≡ None
  sole_not xs i j d e m =
      let a = one_more xs i d e in
      let b = one_more (drop (i + 1) xs) j d m in
      ap (λ (t : Bool). cond t (position p xs) None) (ne_eqb (length (filter p xs)) 1 (λ z. omega arith))

  pub sole_there : (xs : List A) (i : ℕ) (d : A) → position p xs ≡ Some i → position p (drop (i + 1) xs) ≡ None → sole_place p xs ≡ Some i
  sole_there xs i d e m =
      let a = one_more xs i d e in
      let b = none_passes (drop (i + 1) xs) m in
      ap (λ (t : Bool). cond t (position p xs) None) (eq-eqb (length (filter p xs)) 1 (omega arith)) ∙ e

  -- and back
  pub none_sole : (xs : List A) → sole_place p xs ≡ None → length (filter p xs) ≡ 1 → ⊥
  none_sole xs e one =
      let z = none_passes xs (sym (ap (λ (t : Bool). cond t (position p xs) None) (eq-eqb (length (filter p xs)) 1 one)) ∙ e) in
      omega arith

  pub is_sole : (xs : List A) (i : ℕ) (d : A) → sole_place p xs ≡ Some i → (i < length xs) × (p (get_or xs i d) ≡ true) × (length (filter p xs) ≡ 1)
  is_sole xs i d e =
      let w = go (length (filter p xs) == 1) refl e in
      let v = position-Some p xs i d w.1 in
      (v.0, v.1, w.0)
    where
      go : (b : Bool) → (length (filter p xs) == 1) ≡ b → cond b (position p xs) None ≡ Some i → (length (filter p xs) ≡ 1) × (position p xs ≡ Some i)
      go true h e = (eqb-true (length (filter p xs)) 1 h, e)
      go false h e = cc

-- ---- records as far as the needs have been gone through
abbrev pub noted : List Term → List Need → List Need → Term → Prime
noted ps ds es t = record { term = t; number = number t; needs = held ds t; essential = is_essential ps es t }

essential_more : (ps : List Term) (es : List Need) (d : Need) (t : Term)
    → is_essential ps (es ++ d ∷ []) t ≡ (is_essential ps es t || (meets t d && eqb (holders ps d) 1))
essential_more ps [] d t = or-false (meets t d && eqb (holders ps d) 1)
essential_more ps (e ∷ es) d t =
    ap (λ (b : Bool). (meets t e && eqb (holders ps e) 1) || b) (essential_more ps es d t)
    ∙ sym (or_assoc (meets t e && eqb (holders ps e) 1) (is_essential ps es t) (meets t d && eqb (holders ps d) 1))

module _ (ps : List Term) (ds : List Need) (k : ℕ) (d₀ : Need) (h : k < length ds) where
  essential_next : (t : Term) → is_essential ps (take (k + 1) ds) t ≡ (is_essential ps (take k ds) t || (meets t (get_or ds k d₀) && eqb (holders ps (get_or ds k d₀)) 1))
  essential_next t =
      ap (λ (es : List Need). is_essential ps es t) (ap (λ (j : ℕ). take j ds) (native.Mathlib.Numerals.add-one k) ∙ take-suc ds k d₀ h)
      ∙ essential_more ps (take k ds) (get_or ds k d₀) t

  -- a need that no prime holds alone changes nothing
  same_essential : (t : Term) → (meets t (get_or ds k d₀) && eqb (holders ps (get_or ds k d₀)) 1) ≡ false → noted ps ds (take k ds) t ≡ noted ps ds (take (k + 1) ds) t
  same_essential t e =
      ap (λ (b : Bool). record { term = t; number = number t; needs = held ds t; essential = b })
      (sym (essential_next t ∙ ap (λ (b : Bool). is_essential ps (take k ds) t || b) e ∙ or-false (is_essential ps (take k ds) t)))

  map_same : {A B : Type 0} (f g : A → B) (xs : List A) → ((x : A) → f x ≡ g x) → map f xs ≡ map g xs
  map_same f g [] e = refl
  map_same f g (x ∷ xs) e = ap₂ (λ y ys. y ∷ ys) (e x) (map_same f g xs e)

  pub noted_none : (holders ps (get_or ds k d₀) ≡ 1 → ⊥) → map (noted ps ds (take k ds)) ps ≡ map (noted ps ds (take (k + 1) ds)) ps
  noted_none z =
      map_same (noted ps ds (take k ds)) (noted ps ds (take (k + 1) ds)) ps
      (λ t. same_essential t (and_right (meets t (get_or ds k d₀)) (eqb (holders ps (get_or ds k d₀)) 1) (ne_eqb (holders ps (get_or ds k d₀)) 1 z)))

  -- a need that one prime holds alone makes that one essential
  pub noted_sole : (at : ℕ) (t₀ : Term) → at < length ps → meets (get_or ps at t₀) (get_or ds k d₀) ≡ true → holders ps (get_or ds k d₀) ≡ 1
      → (r : Prime) → r ≡ record { term = get_or ps at t₀; number = number (get_or ps at t₀); needs = held ds (get_or ps at t₀); essential = true }
      → set (map (noted ps ds (take k ds)) ps) at r ≡ map (noted ps ds (take (k + 1) ds)) ps
  noted_sole at t₀ a m one r q =
      let f : Term → Prime = noted ps ds (take k ds) in
      let g : Term → Prime = noted ps ds (take (k + 1) ds) in
      let need : Need = get_or ds k d₀ in
      let lf : length (map f ps) ≡ length ps = length-map ps f in
      let lg : length (map g ps) ≡ length ps = length-map ps g in
      ext_get_or no_prime (set (map f ps) at r) (map g ps) (length-set (map f ps) at r ∙ lf ∙ sym lg)
      (λ j l.
      let b : j < length ps = subst (λ (x : ℕ). j < x) (length-set (map f ps) at r ∙ lf) l in
      elim (cases_eq j at) [
        | inl e ↦
            let t : Term = get_or ps at t₀ in
            ap (λ (x : ℕ). get_or (set (map f ps) at r) x no_prime) e
            ∙ get_or-set_same (map f ps) at r no_prime (subst (λ (x : ℕ). at < x) (sym lf) a)
            ∙ q
            ∙ ap (λ (x : Bool). record { term = t; number = number t; needs = held ds t; essential = x })
            (sym (essential_next t ∙ ap (λ (x : Bool). is_essential ps (take k ds) t || x) (and_from (meets t need) (eqb (holders ps need) 1) m (eq-eqb (holders ps need) 1 one))
            ∙ or-true (is_essential ps (take k ds) t)))
            ∙ sym (get_or-map g ps at t₀ no_prime a)
            ∙ ap (λ (x : ℕ). get_or (map g ps) x no_prime) (sym e)
        | inr n ↦
            let t : Term = get_or ps j t₀ in
            let miss : meets t need ≡ false =
            elim (cases_Bool (meets t need)) [ inl y ↦ absurd (n (only_one (λ p. meets p need) ps j at t₀ one b a y m)) | inr y ↦ y ] in
            get_or-set_other (map f ps) at j r no_prime n
            ∙ get_or-map f ps j t₀ no_prime b
            ∙ same_essential t (and_left (meets t need) (eqb (holders ps need) 1) miss)
            ∙ sym (get_or-map g ps j t₀ no_prime b)
      ])

-- ---- the list, need by need
abbrev pub Noting : List Term → List Need → ℕ → PrimeList → Type 0
Noting ps ds k l = entries l ≡ map (noted ps ds (take k ds)) ps

module _ (ps : List Term) (ds : List Need) (k : ℕ) (d₀ : Need) (h : k < length ds) (l : PrimeList) (inv : Noting ps ds k l) where
  holders_in : length (filter (record_meets (get_or ds k d₀)) (entries l)) ≡ holders ps (get_or ds k d₀)
  holders_in =
      ap (λ (rs : List Prime). length (filter (record_meets (get_or ds k d₀)) rs)) inv
      ∙ length_kept_map (record_meets (get_or ds k d₀)) (noted ps ds (take k ds)) ps

  pub noting_none : (length (filter (record_meets (get_or ds k d₀)) (entries l)) ≡ 1 → ⊥) → Noting ps ds (k + 1) l
  noting_none z = inv ∙ noted_none ps ds k d₀ h (λ q. z (holders_in ∙ q))

  pub noting_sole : (m : PrimeList) (at : ℕ) (r : Prime) → at < length (entries l) → record_meets (get_or ds k d₀) (get_or (entries l) at no_prime) ≡ true
      → length (filter (record_meets (get_or ds k d₀)) (entries l)) ≡ 1
      → r ≡ record { term = (get_or (entries l) at no_prime).term; number = (get_or (entries l) at no_prime).number; needs = (get_or (entries l) at no_prime).needs; essential = true }
      → entries m ≡ set (entries l) at r → Noting ps ds (k + 1) m
  noting_sole m at r a y one q e =
      let t₀ : Term = no_prime.term in
      let g : Term → Prime = noted ps ds (take k ds) in
      let b : at < length ps = subst (λ (x : ℕ). at < x) (ap length inv ∙ length-map ps g) a in
      let here : get_or (entries l) at no_prime ≡ g (get_or ps at t₀) =
      ap (λ (xs : List Prime). get_or xs at no_prime) inv ∙ get_or-map g ps at t₀ no_prime b in
      let r' : r ≡ record { term = get_or ps at t₀; number = number (get_or ps at t₀); needs = held ds (get_or ps at t₀); essential = true } =
      q ∙ ap (λ (x : Prime). record { term = x.term; number = x.number; needs = x.needs; essential = true }) here in
      e ∙ ap (λ (xs : List Prime). set xs at r) inv
      ∙ noted_sole ps ds k d₀ h at t₀ b (sym (ap (record_meets (get_or ds k d₀)) here) ∙ y) (sym holders_in ∙ one) r r'
