-- Lemmas on terms as lists of digits.
use Rattle.std.proofs.Common.{◌≡◌, ℕ, zero, suc, ◌+◌, ◌*◌, ◌/◌, ◌%◌, ◌^◌, ◌<◌, Bool, true, false, ◌&&◌, ◌⊎◌, List, [], ◌∷◌, length, get_or, set, sym, refl, ap, ◌∙◌, subst, ap₂, inl, inr, ⊎_elim, le_of_suc-le-suc, not-suc-le-zero, mul_assoc, mul_comm, pow-suc, arith}
use mathlib.Core.Bool.{false≢true}
use Rattle.std.proofs.lemmas.Bool.{and_parts, and_from}
use Rattle.primes.specs.Cubes.{Digit, free, low, high, dig, cube_of}
use Rattle.primes.proofs.Cube.{fits, contains, imp, Sparing, val, num}

-- ---- round trips

pub dig_val : (d : Digit) (q : ℕ) → dig ((val d + 3 * q) % 3) ≡ d
dig_val free q = let e : (0 + 3 * q) % 3 ≡ 0 = omega arith in ap dig e
dig_val low q = let e : (1 + 3 * q) % 3 ≡ 1 = omega arith in ap dig e
dig_val high q = let e : (2 + 3 * q) % 3 ≡ 2 = omega arith in ap dig e

pub val_le : (d : Digit) → val d < 3
val_le free = omega arith
val_le low = omega arith
val_le high = omega arith

pub cube_of_num : (ds : List Digit) → cube_of (length ds) (num ds) ≡ ds
cube_of_num [] = refl
cube_of_num (d ∷ ds) =
    let e : (val d + 3 * num ds) / 3 ≡ num ds = omega (arith, val_le d) in
    ap₂ (λ (x : Digit) (xs : List Digit). x ∷ xs) (dig_val d (num ds)) (ap (cube_of (length ds)) e ∙ cube_of_num ds)

pub val_dig : (x : ℕ) → x < 3 → val (dig x) ≡ x
val_dig zero h = refl
val_dig (suc zero) h = refl
val_dig (suc (suc zero)) h = refl
val_dig (suc (suc (suc x))) h = absurd (omega arith)

pub num_cube_of : (n x : ℕ) → x < 3 ^ n → num (cube_of n x) ≡ x
num_cube_of zero x h = omega arith
num_cube_of (suc n) x h =
    let k : x / 3 < 3 ^ n = omega (arith, pow-suc 3 n) in
    let e : val (dig (x % 3)) ≡ x % 3 = val_dig (x % 3) (omega arith) in
    let g : num (cube_of n (x / 3)) ≡ x / 3 = num_cube_of n (x / 3) k in
    omega arith

pub length_cube_of : (n x : ℕ) → length (cube_of n x) ≡ n
length_cube_of zero x = refl
length_cube_of (suc n) x = ap suc (length_cube_of n (x / 3))

pub num_lt : (ds : List Digit) → num ds < 3 ^ length ds
num_lt [] = omega arith
num_lt (d ∷ ds) = omega (arith, num_lt ds, val_le d, pow-suc 3 (length ds))

pub place : (v i : ℕ) → v * 3 ^ suc i ≡ 3 * (v * 3 ^ i)
place v i = ap (λ (x : ℕ). v * x) (pow-suc 3 i) ∙ sym (mul_assoc v (3 ^ i) 3) ∙ mul_comm (v * 3 ^ i) 3

-- writing digit e at i changes the number by the difference of the digits, times 3 ^ i
pub num_set : (ds : List Digit) (i : ℕ) (e : Digit) → i < length ds → num (set ds i e) + val (get_or ds i free) * 3 ^ i ≡ num ds + val e * 3 ^ i
num_set [] i e h = absurd (not-suc-le-zero h)
num_set (d ∷ ds) zero e h = omega arith
num_set (d ∷ ds) (suc i) e h =
    omega (arith, num_set ds i e (le_of_suc-le-suc h), place (val e) i, place (val (get_or ds i free)) i)

-- ---- the split at a free input

and_swap : (a b c d : Bool) → ((a && b) && (c && d)) ≡ ((a && c) && (b && d))
and_swap true b true d = refl
and_swap true true false d = refl
and_swap true false false d = refl
and_swap false b c d = refl

pub imp_split : (ds : List Digit) (i : ℕ) (f : ℕ → Bool) → i < length ds → get_or ds i free ≡ free
    → imp ds f ≡ (imp (set ds i low) f && imp (set ds i high) f)
imp_split [] i f h e = absurd (not-suc-le-zero h)
imp_split (d ∷ ds) zero f h e = subst (λ (x : Digit). imp (x ∷ ds) f ≡ (imp (low ∷ ds) f && imp (high ∷ ds) f)) (sym e) refl
imp_split (low ∷ ds) (suc i) f h e = imp_split ds i (λ r. f (2 * r)) (le_of_suc-le-suc h) e
imp_split (high ∷ ds) (suc i) f h e = imp_split ds i (λ r. f (2 * r + 1)) (le_of_suc-le-suc h) e
imp_split (free ∷ ds) (suc i) f h e =
    ap₂ ◌&&◌ (imp_split ds i (λ r. f (2 * r)) (le_of_suc-le-suc h) e) (imp_split ds i (λ r. f (2 * r + 1)) (le_of_suc-le-suc h) e)
    ∙ and_swap (imp (set ds i low) (λ r. f (2 * r))) (imp (set ds i high) (λ r. f (2 * r))) (imp (set ds i low) (λ r. f (2 * r + 1))) (imp (set ds i high) (λ r. f (2 * r + 1)))

-- ---- `imp` decides `Sparing`

two_even : (r : ℕ) → (2 * r) % 2 ≡ 0
two_even r = omega arith

two_half : (r : ℕ) → (2 * r) / 2 ≡ r
two_half r = omega arith

odd_odd : (r : ℕ) → (2 * r + 1) % 2 ≡ 1
odd_odd r = omega arith

odd_half : (r : ℕ) → (2 * r + 1) / 2 ≡ r
odd_half r = omega arith

-- what the term asks of the row 2 r + b, in terms of r
pub contains_even : (d : Digit) (ds : List Digit) (r : ℕ) → contains (d ∷ ds) (2 * r) ≡ (fits d 0 && contains ds r)
contains_even d ds r = ap₂ (λ (x y : ℕ). fits d x && contains ds y) (two_even r) (two_half r)

pub contains_odd : (d : Digit) (ds : List Digit) (r : ℕ) → contains (d ∷ ds) (2 * r + 1) ≡ (fits d 1 && contains ds r)
contains_odd d ds r = ap₂ (λ (x y : ℕ). fits d x && contains ds y) (odd_odd r) (odd_half r)

-- a row below 2 ^ (n + 1) is 2 r or 2 r + 1
half_below : (n r : ℕ) → r < 2 ^ suc n → r / 2 < 2 ^ n
half_below n r h = omega (arith, pow-suc 2 n)

pub twice_below : (n r : ℕ) → r < 2 ^ n → 2 * r < 2 ^ suc n
twice_below n r h = omega (arith, pow-suc 2 n)

pub odd_below : (n r : ℕ) → r < 2 ^ n → 2 * r + 1 < 2 ^ suc n
odd_below n r h = omega (arith, pow-suc 2 n)

cases_row : (r : ℕ) → ((r ≡ 2 * (r / 2)) × (r % 2 ≡ 0)) ⊎ ((r ≡ 2 * (r / 2) + 1) × (r % 2 ≡ 1))
cases_row r = ⊎_elim (λ e. inl (omega arith, e)) (λ e. inr (omega arith, e)) (cases_two (r % 2) (omega arith))
  where
    cases_two : (b : ℕ) → b < 2 → (b ≡ 0) ⊎ (b ≡ 1)
    cases_two zero h = inl refl
    cases_two (suc zero) h = inr refl
    cases_two (suc (suc b)) h = absurd (omega arith)

-- all rows of d ∷ ds, from those at 2 r and at 2 r + 1
rows_from : (d : Digit) (ds : List Digit) (f : ℕ → Bool)
    → ((r : ℕ) → r < 2 ^ length ds → (fits d 0 && contains ds r) ≡ true → f (2 * r) ≡ true)
    → ((r : ℕ) → r < 2 ^ length ds → (fits d 1 && contains ds r) ≡ true → f (2 * r + 1) ≡ true)
    → Sparing (d ∷ ds) f
rows_from d ds f even odd r h c =
    ⊎_elim
    (λ e. subst (λ (x : ℕ). f x ≡ true) (sym e.0) (even (r / 2) (half_below (length ds) r h) (subst (λ (x : ℕ). (fits d x && contains ds (r / 2)) ≡ true) e.1 c)))
    (λ e. subst (λ (x : ℕ). f x ≡ true) (sym e.0) (odd (r / 2) (half_below (length ds) r h) (subst (λ (x : ℕ). (fits d x && contains ds (r / 2)) ≡ true) e.1 c)))
    (cases_row r)

rows_even : (d : Digit) (ds : List Digit) (f : ℕ → Bool) → fits d 0 ≡ true → Sparing (d ∷ ds) f → Sparing ds (λ r. f (2 * r))
rows_even d ds f e h r b c = h (2 * r) (twice_below (length ds) r b) (contains_even d ds r ∙ and_from (fits d 0) (contains ds r) e c)

rows_odd : (d : Digit) (ds : List Digit) (f : ℕ → Bool) → fits d 1 ≡ true → Sparing (d ∷ ds) f → Sparing ds (λ r. f (2 * r + 1))
rows_odd d ds f e h r b c = h (2 * r + 1) (odd_below (length ds) r b) (contains_odd d ds r ∙ and_from (fits d 1) (contains ds r) e c)

pub implicant_from_imp : (ds : List Digit) (f : ℕ → Bool) → imp ds f ≡ true → Sparing ds f
implicant_from_imp [] f e = λ r h c. let z : 0 ≡ r = omega arith in subst (λ (x : ℕ). f x ≡ true) z e
implicant_from_imp (free ∷ ds) f e =
    let p = and_parts (imp ds (λ r. f (2 * r))) (imp ds (λ r. f (2 * r + 1))) e in
    rows_from free ds f (implicant_from_imp ds (λ r. f (2 * r)) p.0) (implicant_from_imp ds (λ r. f (2 * r + 1)) p.1)
implicant_from_imp (low ∷ ds) f e =
    rows_from low ds f (implicant_from_imp ds (λ r. f (2 * r)) e) (λ r h c. absurd (false≢true c))
implicant_from_imp (high ∷ ds) f e =
    rows_from high ds f (λ r h c. absurd (false≢true c)) (implicant_from_imp ds (λ r. f (2 * r + 1)) e)

pub imp_from_implicant : (ds : List Digit) (f : ℕ → Bool) → Sparing ds f → imp ds f ≡ true
imp_from_implicant [] f h = h 0 (omega arith) refl
imp_from_implicant (free ∷ ds) f h =
    and_from _ _ (imp_from_implicant ds (λ r. f (2 * r)) (rows_even free ds f refl h)) (imp_from_implicant ds (λ r. f (2 * r + 1)) (rows_odd free ds f refl h))
imp_from_implicant (low ∷ ds) f h = imp_from_implicant ds (λ r. f (2 * r)) (rows_even low ds f refl h)
imp_from_implicant (high ∷ ds) f h = imp_from_implicant ds (λ r. f (2 * r + 1)) (rows_odd high ds f refl h)
