-- Tables of fixed size that are filled from the front.
use Rattle.std.proofs.Common.{◌≡◌, ℕ, suc, ◌-◌, ◌<◌, ◌≤◌, if◌then◌else◌, nat_lt, All, List, [], ◌∷◌, ◌++◌, length, get_or, take, set, replicate, sym, ap, ◌∙◌, ap₂, ⊎_elim, append_assoc, arith, length-append, length-take, length-set}
use Rattle.std.proofs.Math.Seq.{set-append_seam, take-append_seam}
use Rattle.std.proofs.Math.ListN.{get_or-append}
use Rattle.std.proofs.lemmas.Bool.{cases_lt, lt-ltb, le-ltb}
use Rattle.std.proofs.lemmas.List.{length-replicate, get_or-replicate, ext_get_or, set_past, set-append_left}
use Rattle.fixed.specs.declared.list.FixedList.{FixedList}
use Rattle.fixed.specs.Lists.{entries, pushed, padded, Tidy}
use Rattle.fixed.proofs.Pushed.{pushed_fits, pushed_full}

module _ {A : Type 0} (size : ℕ) (blank : A) where
  pub length_padded : (xs : List A) → length xs ≤ size → length (padded size blank xs) ≡ size
  length_padded xs h = let a = length-append xs (replicate (size - length xs) blank) in let b = length-replicate (size - length xs) blank in omega arith

  pub padded_none : replicate size blank ≡ padded size blank []
  padded_none = ap (λ (n : ℕ). replicate n blank) (omega arith)

  pub padded_push : (xs : List A) (x : A) → length xs < size → set (padded size blank xs) (length xs) x ≡ padded size blank (xs ++ x ∷ [])
  padded_push xs x h =
      let e : size - length xs ≡ suc (size - suc (length xs)) = omega arith in
      let l : suc (length xs) ≡ length (xs ++ x ∷ []) = (let a = length-append xs (x ∷ []) in omega arith) in
      ap (λ (n : ℕ). set (xs ++ replicate n blank) (length xs) x) e
      ∙ set-append_seam xs blank (replicate (size - suc (length xs)) blank) x
      ∙ ap (λ (n : ℕ). xs ++ x ∷ replicate (size - n) blank) l
      ∙ sym (append_assoc xs (x ∷ []) (replicate (size - length (xs ++ x ∷ [])) blank))

  pub get_or_padded : (xs : List A) (i : ℕ) (d : A) → i < length xs → get_or (padded size blank xs) i d ≡ get_or xs i d
  get_or_padded xs i d h = get_or-append xs (replicate (size - length xs) blank) d i h

  pub take_padded : (xs : List A) → take (length xs) (padded size blank xs) ≡ xs
  take_padded xs = take-append_seam xs (replicate (size - length xs) blank)

  -- a write in front of the blanks
  pub set_padded : (xs : List A) (i : ℕ) (x : A) → i < length xs → set (padded size blank xs) i x ≡ padded size blank (set xs i x)
  set_padded xs i x h =
      set-append_left xs (replicate (size - length xs) blank) i x h
      ∙ ap (λ (n : ℕ). set xs i x ++ replicate (size - n) blank) (sym (length-set xs i x))

  -- a table of blanks alone
  pub all_blank : (xs : List A) → length xs ≡ size → All (λ x. x ≡ blank) xs → xs ≡ padded size blank []
  all_blank xs e h =
      ext_get_or blank xs (replicate size blank) (e ∙ sym (length-replicate size blank))
      (λ i l. h i blank l ∙ sym (get_or-replicate size i blank blank (omega arith)))
      ∙ padded_none

-- ---- lists with blanks behind their items
module _ {T : Type 0} {n : ℕ} where
  -- as many items as the list says
  pub length_entries : (s : FixedList T n) → length (entries s) ≡ s.len
  length_entries s =
      let a = s.fits in
      let b = s.whole in
      let c = length-take s.len s.items in
      omega arith

  module _ (blank : T) where
    pub tidy_new : (s : FixedList T n) → entries s ≡ [] → All (λ x. x ≡ blank) s.items → Tidy blank s
    tidy_new s e h = all_blank n blank s.items s.whole h ∙ ap (padded n blank) (sym e)

    pub tidy_push : (s t : FixedList T n) (x : T) → entries t ≡ pushed n (entries s) x → t.items ≡ set s.items s.len x → Tidy blank s → Tidy blank t
    tidy_push s t x e q h =
        let l = length_entries s in
        ⊎_elim
        (λ (k : length (entries s) < n).
        q ∙ ap₂ (λ (xs : List T) (i : ℕ). set xs i x) h (sym l) ∙ padded_push n blank (entries s) x k
        ∙ ap (padded n blank) (sym (e ∙ pushed_fits n (entries s) x k)))
        (λ (k : n ≤ length (entries s)).
        q ∙ set_past s.items s.len x (omega (arith, s.whole)) ∙ h ∙ ap (padded n blank) (sym (e ∙ pushed_full n (entries s) x k)))
        (cases_lt (length (entries s)) n)

    pub tidy_set : (s t : FixedList T n) (i : ℕ) (x : T) → entries t ≡ set (entries s) i x → t.items ≡ (if nat_lt i s.len then set s.items i x else s.items)
        → Tidy blank s → Tidy blank t
    tidy_set s t i x e q h =
        let l = length_entries s in
        ⊎_elim
        (λ (k : i < s.len).
        q ∙ ap (λ b. if b then set s.items i x else s.items) (lt-ltb i s.len k) ∙ ap (λ (xs : List T). set xs i x) h
        ∙ set_padded n blank (entries s) i x (omega arith) ∙ ap (padded n blank) (sym e))
        (λ (k : s.len ≤ i).
        q ∙ ap (λ b. if b then set s.items i x else s.items) (le-ltb i s.len k) ∙ h
        ∙ ap (padded n blank) (sym (e ∙ set_past (entries s) i x (omega arith))))
        (cases_lt i s.len)
