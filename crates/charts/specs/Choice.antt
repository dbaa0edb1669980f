-- Choosing the best part of a list: its parts in order, the first that none is better than, and what that means in words.
use Rattle.std.specs.Prelude.{◌≡◌, ℕ, ◌<◌, Bool, true, false, cond, ◌&&◌, ◌||◌, ◌⊎◌, List, [], ◌∷◌, ◌++◌, map, filter}
use Rattle.terms.specs.Lists.{In, Ordered}

module _ {A : Type 0} where
  -- every element passes a test
  abbrev pub all_of : (A → Bool) → List A → Bool
  all_of p [] = true
  all_of p (x ∷ xs) = let rest = all_of p xs in p x && rest

  -- some element passes a test
  abbrev pub some_of : (A → Bool) → List A → Bool
  some_of p [] = false
  some_of p (x ∷ xs) = let rest = some_of p xs in p x || rest

  -- every part of a list, those with the first element before those without it
  abbrev pub sublists : List A → List (List A)
  sublists [] = [] ∷ []
  sublists (x ∷ xs) = let rest = sublists xs in map (λ ys. x ∷ ys) rest ++ rest

  -- of d and the elements of a list, the first that none is better than
  abbrev pub first_least : (A → A → Bool) → A → List A → A
  first_least better d [] = d
  first_least better d (x ∷ xs) = first_least better (cond (better x d) x d) xs

-- of the parts of a list that pass a test, the first that none is better than; the whole list where none passes
unfoldable pub first_best : {A : Type 0} → (List A → Bool) → (List A → List A → Bool) → List A → List A
first_best passes better xs = first_least better xs (filter passes (sublists xs))

module _ {A : Type 0} (key : A → ℕ) where
  -- the keys rise along the list
  abbrev pub Rising : List A → Type 0
  Rising xs = Ordered (λ a b. key a < key b) xs

  -- c is a part of xs: a rising list of some of its elements
  pub record Part (xs c : List A) : Type 0 where
    pub rising : Rising c
    pub among : (a : A) → In a c → In a xs

  -- c is earlier than d: it holds the first element that only one of them holds
  pub record Earlier (c d : List A) : Type 0 where
    pub at : A
    pub held : In at c
    pub missed : In at d → ⊥
    pub before : (u : A) → key u < key at → (In u c → In u d) × (In u d → In u c)

  -- c is the best part of xs that passes: none that passes is better, and of those that are as good it is the earliest
  pub record BestPart (xs : List A) (passes : List A → Bool) (better : List A → List A → Bool) (c : List A) : Type 0 where
    pub part : Part xs c
    pub passing : passes c ≡ true
    pub least : (d : List A) → Part xs d → passes d ≡ true → better d c ≡ false
    pub earliest : (d : List A) → Part xs d → passes d ≡ true → better c d ≡ false → (c ≡ d) ⊎ Earlier c d
