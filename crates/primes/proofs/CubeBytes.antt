-- Terms as two bytes, and as lists of digits.
use Rattle.std.proofs.Common.{◌≡◌, ℕ, zero, suc, ◌+◌, ◌*◌, ◌/◌, ◌%◌, ◌^◌, ◌<◌, ◌≤◌, min, Bool, ◌&&◌, eqb, List, [], ◌∷◌, sym, refl, ap, ◌∙◌, ap₂, ⊎_elim, le_of_suc-le-suc, pow-suc, arith}
use lib.Bits.{bit_and, and_step, and_zero_r}
use Rattle.std.proofs.lemmas.Bool.{cases_eq, eq-eqb, ne_eqb}
use Rattle.terms.specs.Terms.{weight}
use Rattle.terms.proofs.Numbers.{horner, weight_horner, within_half, within_first}
use Rattle.primes.specs.Cubes.{Digit, free, low, high, dig, cube_of, read_bit, level_bit, mask_in, levels_in}
use Rattle.primes.proofs.Cube.{fits, contains}

-- ---- the digits of a term
abbrev pub digit : ℕ → ℕ → Digit
digit zero l = free
digit (suc m) zero = low
digit (suc m) (suc l) = high

abbrev pub cube : ℕ → ℕ → ℕ → List Digit
cube zero m l = []
cube (suc n) m l = digit (m % 2) (l % 2) ∷ cube n (m / 2) (l / 2)

-- an input's bit of the mask and its bit of the levels
pub read_lt : (d : Digit) → read_bit d < 2
read_lt free = omega arith
read_lt low = omega arith
read_lt high = omega arith

pub level_lt : (d : Digit) → level_bit d < 2
level_lt free = omega arith
level_lt low = omega arith
level_lt high = omega arith

abbrev Sub : ℕ → ℕ → Type 0
Sub m l = bit_and l m ≡ l

dig_digit : (m l : ℕ) → m < 2 → l ≤ m → dig (m + l) ≡ digit m l
dig_digit zero zero h k = refl
dig_digit zero (suc l) h k = absurd (omega arith)
dig_digit (suc zero) zero h k = refl
dig_digit (suc zero) (suc zero) h k = refl
dig_digit (suc zero) (suc (suc l)) h k = absurd (omega arith)
dig_digit (suc (suc m)) l h k = absurd (omega arith)

cube_of_horner : (n k m l : ℕ) → n ≤ k → Sub m l → cube_of n (horner k m + horner k l) ≡ cube n m l
cube_of_horner zero k m l h s = refl
cube_of_horner (suc n) zero m l h s = absurd (omega arith)
cube_of_horner (suc n) (suc k) m l h s =
    let f = within_first m l s in
    let a : (m % 2 + 3 * horner k (m / 2) + (l % 2 + 3 * horner k (l / 2))) % 3 ≡ m % 2 + l % 2 = omega arith in
    let b : (m % 2 + 3 * horner k (m / 2) + (l % 2 + 3 * horner k (l / 2))) / 3 ≡ horner k (m / 2) + horner k (l / 2) = omega arith in
    ap₂ (λ (x : Digit) (xs : List Digit). x ∷ xs)
    (ap dig a ∙ dig_digit (m % 2) (l % 2) (omega arith) f)
    (ap (cube_of n) b ∙ cube_of_horner n k (m / 2) (l / 2) (le_of_suc-le-suc h) (within_half m l s))

pub cube_of_number : (n m l : ℕ) → n ≤ 8 → m < 256 → l < 256 → Sub m l → cube_of n (weight m + weight l) ≡ cube n m l
cube_of_number n m l h p q s = ap (cube_of n) (ap₂ ◌+◌ (weight_horner m p) (weight_horner l q)) ∙ cube_of_horner n 8 m l h s

-- ---- back to the bytes
pub reads_digit : (m l : ℕ) → m < 2 → read_bit (digit m l) ≡ m
reads_digit zero l h = refl
reads_digit (suc zero) zero h = refl
reads_digit (suc zero) (suc l) h = refl
reads_digit (suc (suc m)) l h = absurd (omega arith)

pub wants_digit : (m l : ℕ) → m < 2 → l ≤ m → level_bit (digit m l) ≡ l
wants_digit zero zero h k = refl
wants_digit zero (suc l) h k = absurd (omega arith)
wants_digit (suc zero) zero h k = refl
wants_digit (suc zero) (suc zero) h k = refl
wants_digit (suc zero) (suc (suc l)) h k = absurd (omega arith)
wants_digit (suc (suc m)) l h k = absurd (omega arith)

pub mask_cube : (n m l : ℕ) → m < 2 ^ n → mask_in (cube n m l) ≡ m
mask_cube zero m l h = omega arith
mask_cube (suc n) m l h =
    let a = reads_digit (m % 2) (l % 2) (omega arith) in
    let b = mask_cube n (m / 2) (l / 2) (omega (arith, pow-suc 2 n)) in
    omega arith

pub levels_cube : (n m l : ℕ) → l < 2 ^ n → Sub m l → levels_in (cube n m l) ≡ l
levels_cube zero m l h s = omega arith
levels_cube (suc n) m l h s =
    let a = wants_digit (m % 2) (l % 2) (omega arith) (within_first m l s) in
    let b = levels_cube n (m / 2) (l / 2) (omega (arith, pow-suc 2 n)) (within_half m l s) in
    omega arith

-- ---- the rows that a term holds, by bytes
eqb_digits : (x a y b : ℕ) → a < 2 → b < 2 → eqb (x * 2 + a) (y * 2 + b) ≡ (eqb a b && eqb x y)
eqb_digits x a y b h k =
    ⊎_elim
    (λ e. ⊎_elim
    (λ g. eq-eqb (x * 2 + a) (y * 2 + b) (omega arith) ∙ sym (ap₂ ◌&&◌ (eq-eqb a b e) (eq-eqb x y g)))
    (λ g. ne_eqb (x * 2 + a) (y * 2 + b) (λ z. g (omega arith)) ∙ sym (ap₂ ◌&&◌ (eq-eqb a b e) (ne_eqb x y g)))
    (cases_eq x y))
    (λ e. ne_eqb (x * 2 + a) (y * 2 + b) (λ z. e (omega arith)) ∙ sym (ap (λ (t : Bool). t && eqb x y) (ne_eqb a b e)))
    (cases_eq a b)

fits_digit : (m l r : ℕ) → m < 2 → l ≤ m → r < 2 → fits (digit m l) r ≡ eqb (min r m) l
fits_digit zero zero zero h k p = refl
fits_digit zero zero (suc zero) h k p = refl
fits_digit zero zero (suc (suc r)) h k p = absurd (omega arith)
fits_digit zero (suc l) r h k p = absurd (omega arith)
fits_digit (suc zero) zero zero h k p = refl
fits_digit (suc zero) zero (suc zero) h k p = refl
fits_digit (suc zero) zero (suc (suc r)) h k p = absurd (omega arith)
fits_digit (suc zero) (suc zero) zero h k p = refl
fits_digit (suc zero) (suc zero) (suc zero) h k p = refl
fits_digit (suc zero) (suc zero) (suc (suc r)) h k p = absurd (omega arith)
fits_digit (suc zero) (suc (suc l)) r h k p = absurd (omega arith)
fits_digit (suc (suc m)) l r h k p = absurd (omega arith)

pub contains_cube : (n m l r : ℕ) → m < 2 ^ n → Sub m l → contains (cube n m l) r ≡ eqb (bit_and r m) l
contains_cube zero m l r h s =
    let e : m ≡ 0 = omega arith in
    let g : l ≡ 0 = sym s ∙ ap (bit_and l) e ∙ and_zero_r l in
    sym (eq-eqb (bit_and r m) l (ap (bit_and r) e ∙ and_zero_r r ∙ sym g))
contains_cube (suc n) m l r h s =
    let e : l ≡ (l / 2) * 2 + l % 2 = omega arith in
    ap₂ ◌&&◌ (fits_digit (m % 2) (l % 2) (r % 2) (omega arith) (within_first m l s) (omega arith))
    (contains_cube n (m / 2) (l / 2) (r / 2) (omega (arith, pow-suc 2 n)) (within_half m l s))
    ∙ sym (eqb_digits (bit_and (r / 2) (m / 2)) (min (r % 2) (m % 2)) (l / 2) (l % 2) (omega arith) (omega arith))
    ∙ ap₂ eqb (sym (and_step r m)) (sym e)
