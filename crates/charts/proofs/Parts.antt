-- The best part of a list: the first least of its sublists that pass is best, and no other part is.
use Rattle.std.proofs.Common.{◌≡◌, ℕ, ◌<◌, Bool, true, false, cond, ◌⊎◌, List, [], ◌∷◌, ◌++◌, map, filter, sym, refl, ap, ◌∙◌, subst, inl, inr, ⊎_elim, arith}
use Rattle.std.proofs.lemmas.Bool.{cases_Bool, cases_order, both_ways, and_parts, and_from, or_cases, or_left, or_right}
use Rattle.terms.specs.Lists.{In, Ordered}
use Rattle.terms.proofs.Members.{kept_in, in_kept, ordered_kept}
use Rattle.charts.specs.Choice.{all_of, some_of, sublists, first_least, first_best, Rising, Part, Earlier, BestPart}

-- ---- elements
module _ {A : Type 0} where
  pub in_left : (a : A) (xs ys : List A) → In a xs → In a (xs ++ ys)
  in_left a [] ys h = absurd h
  in_left a (x ∷ xs) ys (inl e) = inl e
  in_left a (x ∷ xs) ys (inr h) = inr (in_left a xs ys h)

  pub in_right : (a : A) (xs ys : List A) → In a ys → In a (xs ++ ys)
  in_right a [] ys h = h
  in_right a (x ∷ xs) ys h = inr (in_right a xs ys h)

  pub in_append : (a : A) (xs ys : List A) → In a (xs ++ ys) → In a xs ⊎ In a ys
  in_append a [] ys h = inr h
  in_append a (x ∷ xs) ys (inl e) = inl (inl e)
  in_append a (x ∷ xs) ys (inr h) = elim (in_append a xs ys h) [ inl k ↦ inl (inr k) | inr k ↦ inr k ]

  pub all_at : (p : A → Bool) (y : A) (xs : List A) → all_of p xs ≡ true → In y xs → p y ≡ true
  all_at p y [] t h = absurd h
  all_at p y (x ∷ xs) t (inl e) = ap p e ∙ (and_parts (p x) (all_of p xs) t).0
  all_at p y (x ∷ xs) t (inr h) = all_at p y xs (and_parts (p x) (all_of p xs) t).1 h

  pub all_from : (p : A → Bool) (xs : List A) → ((y : A) → In y xs → p y ≡ true) → all_of p xs ≡ true
  all_from p [] f = refl
  all_from p (x ∷ xs) f = and_from (p x) (all_of p xs) (f x (inl refl)) (all_from p xs (λ y h. f y (inr h)))

  pub some_at : (p : A → Bool) (xs : List A) → some_of p xs ≡ true → (y : A) × In y xs × (p y ≡ true)
  some_at p [] t = absurd (Rattle.std.proofs.lemmas.Bool.false≢true t)
  some_at p (x ∷ xs) t =
      elim (or_cases (p x) (some_of p xs) t) [
        | inl h ↦ (x, inl refl, h)
        | inr h ↦ let k = some_at p xs h in (k.0, inr k.1, k.2)
      ]

  pub some_from : (p : A → Bool) (y : A) (xs : List A) → In y xs → p y ≡ true → some_of p xs ≡ true
  some_from p y [] h t = absurd h
  some_from p y (x ∷ xs) (inl e) t = or_left (p x) (some_of p xs) (sym (ap p e) ∙ t)
  some_from p y (x ∷ xs) (inr h) t = or_right (p x) (some_of p xs) (some_from p y xs h t)

  pub ordered_append : (R : A → A → Type 0) (xs ys : List A) → Ordered R xs → Ordered R ys → ((x y : A) → In x xs → In y ys → R x y) → Ordered R (xs ++ ys)
  ordered_append R [] ys o p f = p
  ordered_append R (x ∷ xs) ys o p f =
      (λ y h. elim (in_append y xs ys h) [ inl k ↦ o.0 y k | inr k ↦ f x y (inl refl) k ], ordered_append R xs ys o.1 p (λ a b h k. f a b (inr h) k))

module _ {A B : Type 0} where
  pub in_map : (f : A → B) (b : B) (xs : List A) → In b (map f xs) → (a : A) × In a xs × (b ≡ f a)
  in_map f b [] h = absurd h
  in_map f b (x ∷ xs) (inl e) = (x, inl refl, e)
  in_map f b (x ∷ xs) (inr h) = let k = in_map f b xs h in (k.0, inr k.1, k.2)

  pub map_in : (f : A → B) (a : A) (xs : List A) → In a xs → In (f a) (map f xs)
  map_in f a [] h = h
  map_in f a (x ∷ xs) (inl e) = inl (ap f e)
  map_in f a (x ∷ xs) (inr h) = inr (map_in f a xs h)

  pub ordered_map : (R : A → A → Type 0) (S : B → B → Type 0) (f : A → B) (xs : List A) → ((a b : A) → In a xs → In b xs → R a b → S (f a) (f b)) → Ordered R xs → Ordered S (map f xs)
  ordered_map R S f [] g o = tt
  ordered_map R S f (x ∷ xs) g o = (
    λ y h. let k = in_map f y xs h in subst (λ (z : B). S (f x) z) (sym k.2) (g x k.0 (inl refl) (inr k.1) (o.0 k.0 k.1)),
    ordered_map R S f xs (λ a b h k r. g a b (inr h) (inr k) r) o.1,
  )

-- ---- the first least
module _ {A : Type 0} (better : A → A → Bool) (R : A → A → Type 0) where
  pub record First (d : A) (xs : List A) (b : A) : Type 0 where
    pub among : (b ≡ d) ⊎ (In b xs × (better b d ≡ true))
    pub least_d : better d b ≡ false
    pub least : (y : A) → In y xs → better y b ≡ false
    pub first : (y : A) → In y (d ∷ xs) → better b y ≡ false → R b y

  module _ (weak : (a b c : A) → better a b ≡ false → better b c ≡ false → better a c ≡ false)
      (asym : (a b : A) → better a b ≡ true → better b a ≡ false) (same : (a : A) → R a a) where
    not_self : (a : A) → better a a ≡ false
    not_self a = ⊎_elim (λ (e : better a a ≡ true). asym a a e) (λ (e : better a a ≡ false). e) (cases_Bool (better a a))

    -- what is no worse than x, which is better than d, is better than d
    beyond : (d x b : A) → better x d ≡ true → better x b ≡ false → better b d ≡ true
    beyond d x b h k = ⊎_elim (λ (e : better b d ≡ true). e) (λ (e : better b d ≡ false). absurd (both_ways _ (weak x b d k e) h)) (cases_Bool (better b d))

    takes : (d x : A) (xs : List A) (b : A) → better x d ≡ true → First x xs b → First d (x ∷ xs) b
    takes d x xs b h f =
        record {
          among = inr (elim f.among [ inl e ↦ inl e | inr k ↦ inr k.0 ], beyond d x b h f.least_d);
          least_d = weak d x b (asym x d h) f.least_d;
          least = λ y k. elim k [ inl e ↦ subst (λ (z : A). better z b ≡ false) (sym e) f.least_d | inr i ↦ f.least y i ];
          first = λ y k t. elim k [
            | inl e ↦ absurd (both_ways _ (subst (λ (z : A). better b z ≡ false) e t) (beyond d x b h f.least_d))
            | inr i ↦ f.first y i t
          ];
        }

    keeps : (d x : A) (xs : List A) (b : A) → better x d ≡ false → R d x → First d xs b → First d (x ∷ xs) b
    keeps d x xs b h r f =
        record {
          among = elim f.among [ inl e ↦ inl e | inr k ↦ inr (inr k.0, k.1) ];
          least_d = f.least_d;
          least = λ y k. elim k [ inl e ↦ subst (λ (z : A). better z b ≡ false) (sym e) (weak x d b h f.least_d) | inr i ↦ f.least y i ];
          first = λ y k t. elim k [
            | inl e ↦ f.first y (inl e) t
            | inr i ↦ elim i [
              | inl e ↦ elim f.among [
                | inl q ↦ subst (λ (z : A). R z y) (sym q) (subst (λ (z : A). R d z) (sym e) r)
                | inr q ↦ absurd (both_ways _ (weak b x d (subst (λ (z : A). better b z ≡ false) e t) h) q.1)
              ]
              | inr j ↦ f.first y (inr j) t
            ]
          ];
        }

    first_step : (d x : A) (xs : List A) → R d x → ((e : A) → (e ≡ d) ⊎ (e ≡ x) → First e xs (first_least better e xs)) → (b : Bool) → better x d ≡ b → First d (x ∷ xs) (first_least better (cond b x d) xs)
    first_step d x xs r ih true h = takes d x xs _ h (ih x (inr refl))
    first_step d x xs r ih false h = keeps d x xs _ h r (ih d (inl refl))

    pub first_least_lem : (d : A) (xs : List A) → Ordered R (d ∷ xs) → First d xs (first_least better d xs)
    first_least_lem d [] o =
        record {
          among = inl refl;
          least_d = not_self d;
          least = λ y k. absurd k;
          first = λ y k t. elim k [ inl e ↦ subst (λ (z : A). R d z) (sym e) (same d) | inr i ↦ absurd i ];
        }
    first_least_lem d (x ∷ xs) o =
        first_step d x xs (o.0 x (inl refl))
        (λ e q. first_least_lem e xs (elim q [
          | inl i ↦ subst (λ (z : A). Ordered R (z ∷ xs)) (sym i) (λ y k. o.0 y (inr k), o.1.1)
          | inr i ↦ subst (λ (z : A). Ordered R (z ∷ xs)) (sym i) o.1
        ]))
        (better x d) refl

-- ---- sublists
module _ {A : Type 0} where
  pub sub_cases : (p : A) (ps c : List A) → In c (sublists (p ∷ ps)) → ((d : List A) × In d (sublists ps) × (c ≡ p ∷ d)) ⊎ In c (sublists ps)
  sub_cases p ps c h =
      elim (in_append c (map (λ ys. p ∷ ys) (sublists ps)) (sublists ps) h) [
        | inl k ↦ inl (in_map (λ ys. p ∷ ys) c (sublists ps) k)
        | inr k ↦ inr k
      ]

  sub_with : (p : A) (ps c : List A) → In c (sublists ps) → In (p ∷ c) (sublists (p ∷ ps))
  sub_with p ps c h = in_left (p ∷ c) (map (λ ys. p ∷ ys) (sublists ps)) (sublists ps) (map_in (λ ys. p ∷ ys) c (sublists ps) h)

  sub_less : (p : A) (ps c : List A) → In c (sublists ps) → In c (sublists (p ∷ ps))
  sub_less p ps c h = in_right c (map (λ ys. p ∷ ys) (sublists ps)) (sublists ps) h

  pub sub_in : (ps c : List A) → In c (sublists ps) → (t : A) → In t c → In t ps
  sub_in [] c (inl e) t k = subst (λ (z : List A). In t z) e k
  sub_in [] c (inr h) t k = absurd h
  sub_in (p ∷ ps) c h t k =
      elim (sub_cases p ps c h) [
        | inl d ↦ elim (subst (λ (z : List A). In t z) d.2 k) as (λ _. In t (p ∷ ps)) [ inl e ↦ inl e | inr j ↦ inr (sub_in ps d.0 d.1 t j) ]
        | inr d ↦ inr (sub_in ps c d t k)
      ]

  -- the whole list is its first sublist
  pub sub_whole : (ps : List A) → In ps (sublists ps)
  sub_whole [] = inl refl
  sub_whole (p ∷ ps) = sub_with p ps ps (sub_whole ps)

  -- what a test keeps is a sublist
  pub kept_sub : (q : A → Bool) (xs : List A) → In (filter q xs) (sublists xs)
  kept_sub q [] = inl refl
  kept_sub q (x ∷ xs) = go (q x) (kept_sub q xs)
    where
      go : (b : Bool) → In (filter q xs) (sublists xs) → In (cond b (x ∷ filter q xs) (filter q xs)) (sublists (x ∷ xs))
      go true h = sub_with x xs (filter q xs) h
      go false h = sub_less x xs (filter q xs) h

module _ {A : Type 0} (key : A → ℕ) where
  -- ---- the sublists of a rising list are its parts
  pub sub_rising : (ps c : List A) → Rising key ps → In c (sublists ps) → Rising key c
  sub_rising [] c o (inl e) = subst (Rising key) (sym e) tt
  sub_rising [] c o (inr h) = absurd h
  sub_rising (p ∷ ps) c o h =
      elim (sub_cases p ps c h) [
        | inl d ↦ subst (Rising key) (sym d.2) (λ y k. o.0 y (sub_in ps d.0 d.1 y k), sub_rising ps d.0 o.1 d.1)
        | inr d ↦ sub_rising ps c o.1 d
      ]

  pub part_from : (ps c : List A) → Rising key ps → In c (sublists ps) → Part key ps c
  part_from ps c o h = record { rising = sub_rising ps c o h; among = sub_in ps c h }

  -- an element of p ∷ ps whose key is past that of p is one of ps
  past : (p : A) (ps : List A) (y : A) → In y (p ∷ ps) → key p < key y → In y ps
  past p ps y (inl e) h = let q : key y ≡ key p = ap key e in absurd (omega arith)
  past p ps y (inr k) h = k

  pub in_sublists : (ps c : List A) → Rising key ps → Rising key c → ((a : A) → In a c → In a ps) → In c (sublists ps)
  in_sublists [] [] o r f = inl refl
  in_sublists [] (a ∷ c) o r f = absurd (f a (inl refl))
  in_sublists (p ∷ ps) [] o r f = sub_less p ps [] (in_sublists ps [] o.1 tt (λ a h. absurd h))
  in_sublists (p ∷ ps) (a ∷ c) o r f =
      elim (f a (inl refl)) [
        | inl e ↦
            let rest : In c (sublists ps) = in_sublists ps c o.1 r.1 (λ y k. past p ps y (f y (inr k)) (let l = r.0 y k in let q : key a ≡ key p = ap key e in omega arith)) in
            subst (λ (z : A). In (z ∷ c) (sublists (p ∷ ps))) (sym e) (sub_with p ps c rest)
        | inr h ↦
            let l = o.0 a h in
            sub_less p ps (a ∷ c) (in_sublists ps (a ∷ c) o.1 r (λ y k. elim k [
              | inl e ↦ subst (λ (z : A). In z ps) (sym e) h
              | inr i ↦ past p ps y (f y (inr i)) (let m = r.0 y i in omega arith)
            ]))
      ]

  -- ---- they stand in order, the earlier first
  below : (p : A) (ps : List A) → ((y : A) → In y ps → key p < key y) → (u : A) → In u ps → (key u < key p → ⊥) × (u ≡ p → ⊥)
  below p ps f u h =
      let k = f u h in
      (λ q. omega arith, λ e. let j : key u ≡ key p = ap key e in omega arith)

  earlier_both : (p : A) (ps c d : List A) → ((y : A) → In y ps → key p < key y) → In c (sublists ps) → Earlier key c d → Earlier key (p ∷ c) (p ∷ d)
  earlier_both p ps c d f hc e =
      record {
        at = e.at;
        held = inr e.held;
        missed = λ h. elim h [ inl q ↦ (below p ps f e.at (sub_in ps c hc e.at e.held)).1 q | inr k ↦ e.missed k ];
        before = λ u k. (λ h. elim h [ inl q ↦ inl q | inr i ↦ inr ((e.before u k).0 i) ], λ h. elim h [ inl q ↦ inl q | inr i ↦ inr ((e.before u k).1 i) ]);
      }

  earlier_with : (p : A) (ps c d : List A) → ((y : A) → In y ps → key p < key y) → In c (sublists ps) → In d (sublists ps) → Earlier key (p ∷ c) d
  earlier_with p ps c d f hc hd =
      record {
        at = p;
        held = inl refl;
        missed = λ h. (below p ps f p (sub_in ps d hd p h)).1 refl;
        before = λ u k. (
          λ h. elim h [ inl q ↦ let j : key u ≡ key p = ap key q in absurd (omega arith) | inr i ↦ absurd ((below p ps f u (sub_in ps c hc u i)).0 k) ],
          λ h. absurd ((below p ps f u (sub_in ps d hd u h)).0 k),
        );
      }

  pub sublists_ordered : (ps : List A) → Rising key ps → Ordered (Earlier key) (sublists ps)
  sublists_ordered [] o = (λ y h. absurd h, tt)
  sublists_ordered (p ∷ ps) o =
      ordered_append (Earlier key) (map (λ ys. p ∷ ys) (sublists ps)) (sublists ps)
      (ordered_map (Earlier key) (Earlier key) (λ ys. p ∷ ys) (sublists ps) (λ c d hc hd e. earlier_both p ps c d o.0 hc e) (sublists_ordered ps o.1))
      (sublists_ordered ps o.1)
      (λ x y hx hy. let k = in_map (λ ys. p ∷ ys) x (sublists ps) hx in subst (λ (z : List A). Earlier key z y) (sym k.2) (earlier_with p ps k.0 y o.0 k.1 hy))

  -- the two are the same, or c is the earlier one
  abbrev Ahead : List A → List A → Type 0
  Ahead c d = (c ≡ d) ⊎ Earlier key c d

  whole_ahead : (ps : List A) → Rising key ps → (c : List A) → In c (sublists ps) → Ahead ps c
  whole_ahead [] o c (inl e) = inl (sym e)
  whole_ahead [] o c (inr h) = absurd h
  whole_ahead (p ∷ ps) o c h =
      elim (sub_cases p ps c h) [
        | inl d ↦ elim (whole_ahead ps o.1 d.0 d.1) [
          | inl e ↦ inl (ap {B = List A} (λ (z : List A). p ∷ z) e ∙ sym d.2)
          | inr e ↦ inr (subst (λ (z : List A). Earlier key (p ∷ ps) z) (sym d.2) (earlier_both p ps ps d.0 o.0 (sub_whole ps) e))
        ]
        | inr d ↦ inr (earlier_with p ps ps c o.0 (sub_whole ps) d)
      ]

  -- elements of a rising list are told apart by their keys
  pub key_apart : (ps : List A) → Rising key ps → (a b : A) → In a ps → In b ps → key a ≡ key b → a ≡ b
  key_apart [] o a b h k e = absurd h
  key_apart (p ∷ ps) o a b (inl h) (inl k) e = h ∙ sym k
  key_apart (p ∷ ps) o a b (inl h) (inr k) e = let j : key a ≡ key p = ap key h in let i = o.0 b k in absurd (omega arith)
  key_apart (p ∷ ps) o a b (inr h) (inl k) e = let j : key b ≡ key p = ap key k in let i = o.0 a h in absurd (omega arith)
  key_apart (p ∷ ps) o a b (inr h) (inr k) e = key_apart ps o.1 a b h k e

  not_both_earlier : (ps c d : List A) → Rising key ps → Part key ps c → Part key ps d → Earlier key c d → Earlier key d c → ⊥
  not_both_earlier ps c d o hc hd e f =
      elim (cases_order (key e.at) (key f.at)) [
        | inl q ↦ e.missed (subst (λ (z : A). In z d) (sym (key_apart ps o e.at f.at (hc.among e.at e.held) (hd.among f.at f.held) q)) f.held)
        | inr w ↦ elim w [
          | inl q ↦ e.missed ((f.before e.at q).1 e.held)
          | inr q ↦ f.missed ((e.before f.at q).1 f.held)
        ]
      ]

  -- ---- no other part is best
  pub only_best : (ps : List A) (passes : List A → Bool) (better : List A → List A → Bool) → Rising key ps → (c d : List A)
      → BestPart key ps passes better c → BestPart key ps passes better d → c ≡ d
  only_best ps passes better o c d b e =
      both (b.earliest d e.part e.passing (e.least c b.part b.passing)) (e.earliest c b.part b.passing (b.least d e.part e.passing))
    where
      both : Ahead c d → Ahead d c → c ≡ d
      both (inl p) q = p
      both (inr p) (inl q) = sym q
      both (inr p) (inr q) = absurd (not_both_earlier ps c d o b.part e.part p q)

  module _ (ps : List A) (passes : List A → Bool) (better : List A → List A → Bool) (rising : Rising key ps) (whole : passes ps ≡ true)
      (weak : (a b c : List A) → better a b ≡ false → better b c ≡ false → better a c ≡ false) (asym : (a b : List A) → better a b ≡ true → better b a ≡ false) where
    ordered : Ordered Ahead (ps ∷ filter passes (sublists ps))
    ordered = (
      λ y h. whole_ahead ps rising y (kept_in passes y (sublists ps) h).0,
      ordered_kept passes Ahead (sublists ps) (loosen (sublists ps) (sublists_ordered ps rising)),
    )
      where
        loosen : (xs : List (List A)) → Ordered (Earlier key) xs → Ordered Ahead xs
        loosen [] o = tt
        loosen (x ∷ xs) o = (λ y h. inr (o.0 y h), loosen xs o.1)

    found : First better Ahead ps (filter passes (sublists ps)) (first_least better ps (filter passes (sublists ps)))
    found = first_least_lem better Ahead weak asym (λ a. inl refl) ps (filter passes (sublists ps)) ordered

    kept : (d : List A) → Part key ps d → passes d ≡ true → In d (filter passes (sublists ps))
    kept d h t = in_kept passes d (sublists ps) (in_sublists ps d rising h.rising h.among) t

    -- the first least of the parts that pass is the best
    pub first_best_lem : BestPart key ps passes better (first_best passes better ps)
    unfolding first_best
    first_best_lem =
        record {
          part = elim found.among [
            | inl e ↦ subst (Part key ps) (sym e) record { rising = rising; among = λ a h. h }
            | inr h ↦ part_from ps _ rising (kept_in passes _ (sublists ps) h.0).0
          ];
          passing = elim found.among [ inl e ↦ ap passes e ∙ whole | inr h ↦ (kept_in passes _ (sublists ps) h.0).1 ];
          least = λ d h t. found.least d (kept d h t);
          earliest = λ d h t k. found.first d (inr (kept d h t)) k;
        }
