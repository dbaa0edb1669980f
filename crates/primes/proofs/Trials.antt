-- The trial, step by step.
use Rattle.std.proofs.Common.{◌≡◌, ℕ, zero, suc, ◌+◌, ◌-◌, ◌*◌, ◌/◌, ◌%◌, ◌^◌, ◌<◌, ◌≤◌, Bool, true, false, not, ◌||◌, List, get_or, set, sym, refl, ap, ◌∙◌, subst, ap₂, ⊎_elim, le_trans, mul-le-mul_right, div-mul-le_self, add-one, arith}
use native.Mathlib.Nat.{mod-le}
use Rattle.std.proofs.lemmas.Bool.{and_from, and_left, and_right, cases_Bool, both_ways}
use Rattle.primes.specs.Cubes.{Digit, free, dig, cube_of}
use Rattle.primes.proofs.Cube.{val, imp}
use Rattle.primes.specs.Primes.{every}
use Rattle.primes.proofs.Cube.{is_free, stands, trial}
use Rattle.primes.proofs.CubeLaws.{val_dig}
use Rattle.primes.proofs.BaseThree.{get_or_cube_of, cube_of_set}
use Rattle.primes.proofs.CubeTerms.{every_at}

-- ---- the trial
pub trial_no_imp : (n : ℕ) (f : ℕ → Bool) (x : ℕ) → imp (cube_of n x) f ≡ false → trial n f x ≡ false
unfolding trial
trial_no_imp n f x e = and_left (imp (cube_of n x) f) (every (stands f (cube_of n x)) n) e

pub trial_fails : (n : ℕ) (f : ℕ → Bool) (x i : ℕ) → i < n → stands f (cube_of n x) i ≡ false → trial n f x ≡ false
unfolding trial
trial_fails n f x i h e =
    and_right (imp (cube_of n x) f) (every (stands f (cube_of n x)) n)
    (⊎_elim (λ t. absurd (both_ways (stands f (cube_of n x) i) e (every_at (stands f (cube_of n x)) n i t h))) (λ t. t) (cases_Bool (every (stands f (cube_of n x)) n)))

pub trial_holds : (n : ℕ) (f : ℕ → Bool) (x : ℕ) → imp (cube_of n x) f ≡ true → every (stands f (cube_of n x)) n ≡ true → trial n f x ≡ true
unfolding trial
trial_holds n f x e g = and_from (imp (cube_of n x) f) (every (stands f (cube_of n x)) n) e g

free_dig : (d : ℕ) → (d ≡ 0 → ⊥) → is_free (dig d) ≡ false
free_dig zero h = absurd (h refl)
free_dig (suc zero) h = refl
free_dig (suc (suc d)) h = refl

pub stands_unread : (n i x : ℕ) (f : ℕ → Bool) → i < n → x / 3 ^ i % 3 ≡ 0 → stands f (cube_of n x) i ≡ true
stands_unread n i x f h e =
    ap (λ (d : Digit). is_free d || not (imp (set (cube_of n x) i free) f)) (get_or_cube_of n i x h ∙ ap dig e)

pub place_le : (x p : ℕ) → x / p % 3 * p ≤ x
place_le x p = le_trans (mul-le-mul_right p (mod-le (x / p) 3)) (div-mul-le_self x p)

pub stands_read : (n i x : ℕ) (f : ℕ → Bool) → i < n → x < 3 ^ n → (x / 3 ^ i % 3 ≡ 0 → ⊥)
    → stands f (cube_of n x) i ≡ not (imp (cube_of n (x - x / 3 ^ i % 3 * 3 ^ i)) f)
stands_read n i x f h k z =
    let d : ℕ = x / 3 ^ i % 3 in
    let v : val (dig d) * 3 ^ i ≡ d * 3 ^ i = ap (λ (j : ℕ). j * 3 ^ i) (val_dig d (omega arith)) in
    let l : d * 3 ^ i ≤ x = place_le x (3 ^ i) in
    let s = cube_of_set n i x (x - d * 3 ^ i) free h k (omega arith) in
    ap₂ (λ (b : Bool) (ds : List Digit). b || not (imp ds f)) (ap is_free (get_or_cube_of n i x h) ∙ free_dig d z) (sym s.0)

pub every_more : (f : ℕ → Bool) (i : ℕ) → every f i ≡ true → f i ≡ true → every f (i + 1) ≡ true
every_more f i e h = ap (every f) (add-one i) ∙ and_from (f i) (every f i) h e

-- ---- for the loops
abbrev pub Right : ℕ → List Bool → (ℕ → Bool) → Type 0
Right n ys f = (y : ℕ) → y < 3 ^ n → get_or ys y false ≡ imp (cube_of n y) f

pub stood : (n i x d p : ℕ) (ys : List Bool) (f : ℕ → Bool) → i < n → x < 3 ^ n → d ≡ x / 3 ^ i % 3 → p ≡ 3 ^ i → (d ≡ 0 → ⊥) → Right n ys f
    → stands f (cube_of n x) i ≡ not (get_or ys (x - d * p) false)
stood n i x d p ys f h k e q z right =
    let a : x / 3 ^ i % 3 * 3 ^ i ≡ d * p = ap₂ ◌*◌ (sym e) (sym q) in
    stands_read n i x f h k (λ y. z (e ∙ y))
    ∙ ap (λ (j : ℕ). not (imp (cube_of n (x - j)) f)) a ∙ ap not (sym (right (x - d * p) (omega arith)))

pub trial_now : (n x i : ℕ) (ys : List Bool) (f : ℕ → Bool) → x < 3 ^ n → Right n ys f → get_or ys x false ≡ true → n ≤ i → i ≤ n
    → every (stands f (cube_of n x)) i ≡ true → trial n f x ≡ true
trial_now n x i ys f h right e a b s =
    let q : i ≡ n = omega arith in
    trial_holds n f x (sym (right x h) ∙ e) (subst (λ (j : ℕ). every (stands f (cube_of n x)) j ≡ true) q s)
