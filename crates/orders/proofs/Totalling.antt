-- Totals under every lawful cost order.
use Rattle.std.proofs.Common.{◌≡◌, ◌≤◌, true, ◌⊎◌, List, [], ◌∷◌, ◌++◌, length, reverse, sym, refl, ap, ◌∙◌, subst, inl, inr, arith, length-append}
use Rattle.std.proofs.lemmas.List.{append-nil, length-reverse, reverse-append}
use Rattle.terms.specs.declared.term.Term.{Term}
use Rattle.terms.specs.Lists.{In}
use Rattle.orders.specs.Orders.{Meaning, Laws, total, JoinsExactly}
use Rattle.orders.specs.TotalLaws.{TotalInAnyOrder, MoreCostsMore, WiderCostsLess}

module _ {A : Type 0} where
  -- a list without one of its elements
  abbrev pub without : (x : A) (xs : List A) → In x xs → List A
  without x [] h = []
  without x (y ∷ ys) (inl e) = ys
  without x (y ∷ ys) (inr h) = y ∷ without x ys h

  in_without : (x y : A) (xs : List A) (h : In x xs) → In y xs → (y ≡ x) ⊎ In y (without x xs h)
  in_without x y [] h k = inr k
  in_without x y (z ∷ zs) (inl e) (inl f) = inl (f ∙ sym e)
  in_without x y (z ∷ zs) (inl e) (inr k) = inr k
  in_without x y (z ∷ zs) (inr h) (inl f) = inr (inl f)
  in_without x y (z ∷ zs) (inr h) (inr k) = elim (in_without x y zs h k) [ inl e ↦ inl e | inr i ↦ inr (inr i) ]

module _ (m : Meaning) (laws : Laws m) where
  pub at_most_self : (a : m.Total) → m.at_most a a ≡ true
  at_most_self a = elim (laws.connected a a) [ inl h ↦ h | inr h ↦ h ]

  swap : (a b c : m.Total) → m.join a (m.join b c) ≡ m.join b (m.join a c)
  swap a b c = sym (laws.assoc a b c) ∙ ap (λ (x : m.Total). m.join x c) (laws.comm a b) ∙ laws.assoc b a c

  -- law 4 on the other side
  pub mono_left : (a b c : m.Total) → m.at_most a b ≡ true → m.at_most (m.join c a) (m.join c b) ≡ true
  mono_left a b c h =
      subst (λ (x : m.Total). m.at_most x (m.join c b) ≡ true) (laws.comm a c)
      (subst (λ (x : m.Total). m.at_most (m.join a c) x ≡ true) (laws.comm b c) (laws.mono a b c h))

  pub any_order : TotalInAnyOrder m
  any_order [] t ys = refl
  any_order (x ∷ xs) t ys = ap (m.join (m.price x)) (any_order xs t ys) ∙ swap (m.price x) (m.price t) (total m (xs ++ ys))

  total_without : (x : Term) (xs : List Term) (h : In x xs) → total m xs ≡ m.join (m.price x) (total m (without x xs h))
  total_without x [] h = absurd h
  total_without x (y ∷ ys) (inl e) = ap (λ (t : Term). m.join (m.price t) (total m ys)) (sym e)
  total_without x (y ∷ ys) (inr h) =
      ap (m.join (m.price y)) (total_without x ys h) ∙ swap (m.price y) (m.price x) (total m (without x ys h))

  total_empty : (xs : List Term) → m.at_most m.empty (total m xs) ≡ true
  total_empty [] = at_most_self m.empty
  total_empty (x ∷ xs) =
      laws.trans m.empty (total m xs) (total m (x ∷ xs)) (total_empty xs)
      (subst (λ (a : m.Total). m.at_most (total m xs) a ≡ true) (laws.comm (total m xs) (m.price x)) (laws.grows (total m xs) x))

  pub more_costs_more : MoreCostsMore m
  more_costs_more [] us o f = total_empty us
  more_costs_more (t ∷ ts) us o f =
      let h = f t (inl refl) in
      let r = more_costs_more ts (without t us h) o.1 (λ u k. elim (in_without t u us h (f u (inr k))) [ inl e ↦ absurd (o.0 u k (sym e)) | inr i ↦ i ]) in
      subst (λ (a : m.Total). m.at_most (total m (t ∷ ts)) a ≡ true) (sym (total_without t us h)) (mono_left (total m ts) (total m (without t us h)) (m.price t) r)

  pub wider_costs_less : WiderCostsLess m
  wider_costs_less [] [] w = at_most_self m.empty
  wider_costs_less [] (u ∷ us) w = absurd w
  wider_costs_less (t ∷ ts) [] w = absurd w
  wider_costs_less (t ∷ ts) (u ∷ us) w =
      laws.trans (total m (u ∷ us)) (m.join (m.price u) (total m ts)) (total m (t ∷ ts))
      (mono_left (total m us) (total m ts) (m.price u) (wider_costs_less ts us w.1))
      (laws.mono (m.price u) (m.price t) (total m ts) (laws.wider u t w.0))

  -- one term by itself
  pub total_one : (t : Term) → m.price t ≡ total m (t ∷ [])
  total_one t = sym (laws.comm (m.price t) m.empty ∙ laws.unit (m.price t))

  -- one term more at the end
  pub total_push : (ts : List Term) (t : Term) (a b : m.Total) → (length ts ≤ 256 → a ≡ total m ts) → JoinsExactly m a (m.price t) b → length (ts ++ t ∷ []) ≤ 256 → b ≡ total m (ts ++ t ∷ [])
  total_push ts t a b so_far joins few =
      let n = length-append ts (t ∷ []) in
      let e = so_far (omega arith) in
      joins ts (t ∷ []) e (total_one t) (omega arith)
      ∙ ap (λ (s : m.Total). m.join s (m.price t)) e
      ∙ laws.comm (total m ts) (m.price t)
      ∙ ap (λ (us : List Term). m.join (m.price t) (total m us)) (sym (append-nil ts))
      ∙ sym (any_order ts t [])

  -- one term more in front, where the terms come from the last to the first
  pub total_front : (ts : List Term) (t : Term) (a b : m.Total) → (length ts ≤ 256 → a ≡ total m (reverse ts)) → JoinsExactly m (m.price t) a b → length (ts ++ t ∷ []) ≤ 256 → b ≡ total m (reverse (ts ++ t ∷ []))
  total_front ts t a b so_far joins few =
      let n = length-append ts (t ∷ []) in
      let r = length-reverse ts in
      let e = so_far (omega arith) in
      joins (t ∷ []) (reverse ts) (total_one t) e (omega arith)
      ∙ ap (m.join (m.price t)) e
      ∙ ap (total m) (sym (reverse-append ts (t ∷ [])))
