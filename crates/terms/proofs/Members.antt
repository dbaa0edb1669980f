-- What is in a list that a test keeps, and in one that is made from numbers.
use Rattle.std.proofs.Common.{◌≡◌, ℕ, zero, suc, ◌+◌, ◌<◌, ◌≤◌, Bool, true, false, cond, List, [], ◌∷◌, map, filter, sym, refl, ap, ◌∙◌, subst, inl, inr, arith}
use Rattle.std.specs.List.{range_with_len}
use Rattle.std.proofs.lemmas.Bool.{cases_eq}
use Rattle.terms.specs.Lists.{In, Ordered}

module _ {A : Type 0} (p : A → Bool) where
  pub kept_in : (a : A) (xs : List A) → In a (filter p xs) → In a xs × (p a ≡ true)
  kept_in a [] h = absurd h
  kept_in a (x ∷ xs) h = go (p x) refl h (kept_in a xs)
    where
      go : (b : Bool) → p x ≡ b → In a (cond b (x ∷ filter p xs) (filter p xs)) → (In a (filter p xs) → In a xs × (p a ≡ true)) → In a (x ∷ xs) × (p a ≡ true)
      go true e (inl q) rec = (inl q, ap p q ∙ e)
      go true e (inr k) rec = let w = rec k in (inr w.0, w.1)
      go false e k rec = let w = rec k in (inr w.0, w.1)

  pub in_kept : (a : A) (xs : List A) → In a xs → p a ≡ true → In a (filter p xs)
  in_kept a [] h e = absurd h
  in_kept a (x ∷ xs) (inl q) e =
      subst (λ (b : Bool). In a (cond b (x ∷ filter p xs) (filter p xs))) (sym e ∙ ap p q) (inl q)
  in_kept a (x ∷ xs) (inr h) e = go (p x) (in_kept a xs h e)
    where
      go : (b : Bool) → In a (filter p xs) → In a (cond b (x ∷ filter p xs) (filter p xs))
      go true k = inr k
      go false k = k

  pub ordered_kept : (R : A → A → Type 0) (xs : List A) → Ordered R xs → Ordered R (filter p xs)
  ordered_kept R [] o = tt
  ordered_kept R (x ∷ xs) o = go (p x) (ordered_kept R xs o.1)
    where
      go : (b : Bool) → Ordered R (filter p xs) → Ordered R (cond b (x ∷ filter p xs) (filter p xs))
      go true k = (λ y h. o.0 y (kept_in y xs h).0, k)
      go false k = k

module _ {A : Type 0} (f : ℕ → A) where
  pub counted_in : (a k : ℕ) (y : A) → In y (map f (range_with_len a k)) → (j : ℕ) × (a ≤ j) × (j < a + k) × (y ≡ f j)
  counted_in a zero y h = absurd h
  counted_in a (suc k) y (inl e) = (a, omega arith, omega arith, e)
  counted_in a (suc k) y (inr h) = let w = counted_in (a + 1) k y h in let l = w.1 in let u = w.2 in (w.0, omega arith, omega arith, w.3)

  pub in_counted : (a k j : ℕ) → a ≤ j → j < a + k → In (f j) (map f (range_with_len a k))
  in_counted a zero j h l = absurd (omega arith)
  in_counted a (suc k) j h l = elim (cases_eq j a) [ inl e ↦ inl (ap f e) | inr n ↦ inr (in_counted (a + 1) k j (omega arith) (omega arith)) ]

  -- what is made from rising numbers keeps their order
  pub ordered_counted : (R : A → A → Type 0) (a k : ℕ) → ((i j : ℕ) → a ≤ i → i < j → j < a + k → R (f i) (f j)) → Ordered R (map f (range_with_len a k))
  ordered_counted R a zero h = tt
  ordered_counted R a (suc k) h = (
    λ y m. let w = counted_in (a + 1) k y m in let l = w.1 in let u = w.2 in subst (λ (z : A). R (f a) z) (sym w.3) (h a w.0 (omega arith) (omega arith) (omega arith)),
    ordered_counted R (a + 1) k (λ i j l m u. h i j (omega arith) m (omega arith)),
  )
