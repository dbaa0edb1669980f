-- What a set has after a number is put in or taken out, and when it is empty or full.
use Rattle.std.proofs.Common.{◌≡◌, ℕ, zero, suc, ◌<◌, ◌≤◌, Bool, true, false, ◌||◌, eqb, List, length, get_or, set, replicate, sym, refl, ap, ◌∙◌, subst, ⊎_elim, arith, get_or-set_other, get_or-set_same}
use Rattle.std.proofs.lemmas.Bool.{cases_eq, or_left, eq-eqb, ne_eqb}
use Rattle.std.proofs.lemmas.List.{get_or_past, get_or-replicate}
use Rattle.fixed.specs.declared.set.FixedSet.{FixedSet}
use Rattle.fixed.specs.Sets.{member}

-- no set has a number from its bound on
pub none_past : (n : ℕ) (s : FixedSet n) (k : ℕ) → n ≤ k → member s k ≡ false
none_past n s k h = get_or_past s.on k false (omega (arith, s.full))

none_there : (n k : ℕ) → get_or (replicate n false) k false ≡ false
none_there zero k = refl
none_there (suc n) zero = refl
none_there (suc n) (suc k) = none_there n k

pub no_member : (n : ℕ) (xs : List Bool) → xs ≡ replicate n false → (k : ℕ) → get_or xs k false ≡ false
no_member n xs e k = ap (λ (ys : List Bool). get_or ys k false) e ∙ none_there n k

pub every_member : (n : ℕ) (xs : List Bool) → xs ≡ replicate n true → (k : ℕ) → k < n → get_or xs k false ≡ true
every_member n xs e k h = ap (λ (ys : List Bool). get_or ys k false) e ∙ get_or-replicate n k true false h

-- one more number
pub put_in : (xs : List Bool) (c k : ℕ) → c < length xs → get_or (set xs c true) k false ≡ (eqb c k || get_or xs k false)
put_in xs c k h =
    ⊎_elim
    (λ (q : k ≡ c). subst (λ (i : ℕ). get_or (set xs c true) i false ≡ (eqb c i || get_or xs i false)) (sym q) (get_or-set_same xs c true false h ∙ sym (or_left _ _ (eq-eqb c c refl))))
    (λ (q : k ≡ c → ⊥). get_or-set_other xs c k true false q ∙ sym (ap (λ (v : Bool). v || get_or xs k false) (ne_eqb c k (λ e. q (sym e)))))
    (cases_eq k c)
