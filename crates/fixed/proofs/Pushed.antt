-- What stands in a list after an item is pushed, by whether there is room, and after one is written over.
use Rattle.std.proofs.Common.{◌≡◌, ℕ, ◌<◌, ◌≤◌, List, [], ◌∷◌, ◌++◌, length, take, set, sym, refl, ◌∙◌, ⊎_elim, arith, length-append, take_all}
use Rattle.std.proofs.lemmas.Bool.{cases_lt, lt-ltb, le-ltb}
use Rattle.std.proofs.Math.Seq.{take-set-lt}
use Rattle.std.proofs.lemmas.List.{take_at}
use Rattle.fixed.specs.Lists.{pushed}

module _ {T : Type 0} (n : ℕ) (xs : List T) (x : T) where
  pub pushed_fits : length xs < n → pushed n xs x ≡ xs ++ x ∷ []
  pushed_fits h = rw (lt-ltb (length xs) n h) refl

  pub pushed_full : n ≤ length xs → pushed n xs x ≡ xs
  pushed_full h = rw (le-ltb (length xs) n h) refl

  -- the first n of the items with the new one
  pub pushed_taken : length xs ≤ n → pushed n xs x ≡ take n (xs ++ x ∷ [])
  pushed_taken h =
      ⊎_elim
      (λ k. pushed_fits k ∙ sym (take_all n (xs ++ x ∷ []) (omega (arith, length-append xs (x ∷ [])))))
      (λ k. pushed_full k ∙ sym (take_at xs (x ∷ []) n (omega arith)))
      (cases_lt (length xs) n)

-- a write in front of the end
pub front_set : {T : Type 0} → (n : ℕ) (xs : List T) (i : ℕ) (x : T) → i < n → take n (set xs i x) ≡ set (take n xs) i x
front_set n xs i x h = take-set-lt n xs i x h
