-- The digits of a number in base three, one by one.
use Rattle.std.proofs.Common.{◌≡◌, ℕ, zero, suc, ◌+◌, ◌*◌, ◌/◌, ◌%◌, ◌^◌, ◌<◌, ◌≤◌, Bool, ◌&&◌, List, [], ◌∷◌, length, get_or, set, sym, refl, ap, ◌∙◌, subst, ap₂, le_of_suc-le-suc, not-suc-le-zero, add-one, add_comm, pow-suc, zero-add, zero-mul, arith, length-set}
use native.Mathlib.Nat.{div-div-eq-div-mul, pow-succ', add-mul, mul_comm, mul_assoc, mul-one}
use Rattle.std.specs.List.{range_with_len, sum_by}
use Rattle.std.proofs.lemmas.List.Sums.{sum_by-cons}
use Rattle.primes.specs.Cubes.{Digit, free, low, high, dig, cube_of, level_bit, levels_in, byte_in, mask_of_lt}
use Rattle.primes.proofs.Cube.{val, num, imp}
use Rattle.primes.proofs.CubeBytes.{level_lt}
use Rattle.primes.proofs.CubeLaws.{cube_of_num, num_cube_of, length_cube_of, num_lt, num_set, imp_split}

pub pow3_pos : (i : ℕ) → 0 < 3 ^ i
pow3_pos zero = omega arith
pow3_pos (suc i) = omega (arith, pow3_pos i, pow-suc 3 i)

pub div_suc : (x i : ℕ) → x / 3 ^ i / 3 ≡ x / 3 ^ suc i
div_suc x i = div-div-eq-div-mul x (3 ^ i) 3 ∙ ap (λ (y : ℕ). x / y) (sym (pow-suc 3 i))

pub levels_lt : (n x : ℕ) → levels_in (cube_of n x) < 2 ^ n
levels_lt zero x = omega arith
levels_lt (suc n) x = omega (arith, levels_lt n (x / 3), level_lt (dig (x % 3)), pow-suc 2 n)

pub get_or_cube_of : (n i x : ℕ) → i < n → get_or (cube_of n x) i free ≡ dig (x / 3 ^ i % 3)
get_or_cube_of zero i x h = absurd (not-suc-le-zero h)
get_or_cube_of (suc n) zero x h = let e : x / 1 ≡ x = omega arith in ap (λ (y : ℕ). dig (y % 3)) (sym e)
get_or_cube_of (suc n) (suc i) x h =
    get_or_cube_of n i (x / 3) (le_of_suc-le-suc h)
    ∙ ap (λ (y : ℕ). dig (y % 3)) (div-div-eq-div-mul x 3 (3 ^ i) ∙ ap (λ (y : ℕ). x / y) (sym (pow-succ' 3 i)))

-- the number of the term with digit e at i
pub cube_of_set : (n i x y : ℕ) (e : Digit) → i < n → x < 3 ^ n → y + val (dig (x / 3 ^ i % 3)) * 3 ^ i ≡ x + val e * 3 ^ i
    → (cube_of n y ≡ set (cube_of n x) i e) × (y < 3 ^ n)
cube_of_set n i x y e h k q =
    let ds : List Digit = cube_of n x in
    let len : length ds ≡ n = length_cube_of n x in
    let a : num (set ds i e) + val (get_or ds i free) * 3 ^ i ≡ num ds + val e * 3 ^ i = num_set ds i e (omega arith) in
    let b : num ds ≡ x = num_cube_of n x k in
    let g : val (get_or ds i free) * 3 ^ i ≡ val (dig (x / 3 ^ i % 3)) * 3 ^ i = ap (λ (d : Digit). val d * 3 ^ i) (get_or_cube_of n i x h) in
    let m : num (set ds i e) ≡ y = omega arith in
    let z : length (set ds i e) ≡ n = length-set ds i e ∙ len in
    (ap₂ cube_of (sym z) (sym m) ∙ cube_of_num (set ds i e), subst (λ (j : ℕ). j < 3 ^ n) m (subst (λ (j : ℕ). num (set ds i e) < 3 ^ j) z (num_lt (set ds i e))))

-- at an input that the term of x does not read
pub split_at : (n i x : ℕ) (f : ℕ → Bool) → i < n → x < 3 ^ n → x / 3 ^ i % 3 ≡ 0
    → (x + 2 * 3 ^ i < 3 ^ n) × (imp (cube_of n x) f ≡ (imp (cube_of n (x + 3 ^ i)) f && imp (cube_of n (x + 2 * 3 ^ i)) f))
split_at n i x f h k z =
    let v : val (dig (x / 3 ^ i % 3)) * 3 ^ i ≡ 0 = ap (λ (d : ℕ). val (dig d) * 3 ^ i) z ∙ zero-mul (3 ^ i) in
    let o : 1 * 3 ^ i ≡ 3 ^ i = omega arith in
    let a = cube_of_set n i x (x + 3 ^ i) low h k (omega arith) in
    let b = cube_of_set n i x (x + 2 * 3 ^ i) high h k (omega arith) in (
      b.1,
      imp_split (cube_of n x) i f (subst (λ (j : ℕ). i < j) (sym (length_cube_of n x)) h) (get_or_cube_of n i x h ∙ ap dig z)
          ∙ ap₂ (λ (s t : List Digit). imp s f && imp t f) (sym a.0) (sym b.0),
    )

-- a term that reads all inputs holds one row
pub imp_full : (ds : List Digit) (f : ℕ → Bool) → ((i : ℕ) → i < length ds → get_or ds i free ≡ free → ⊥) → imp ds f ≡ f (levels_in ds)
imp_full [] f h = refl
imp_full (free ∷ ds) f h = absurd (h 0 (omega arith) refl)
imp_full (low ∷ ds) f h =
    imp_full ds (λ r. f (2 * r)) (λ i k. h (suc i) (omega arith)) ∙ ap f (sym (zero-add (2 * levels_in ds)))
imp_full (high ∷ ds) f h =
    imp_full ds (λ r. f (2 * r + 1)) (λ i k. h (suc i) (omega arith)) ∙ ap f (add_comm (2 * levels_in ds) 1)

dig_free : (d : ℕ) → dig d ≡ free → d ≡ 0
dig_free zero e = refl
dig_free (suc zero) e = cc
dig_free (suc (suc d)) e = cc

pub full_at : (n x : ℕ) (f : ℕ → Bool) → ((k : ℕ) → k < n → x / 3 ^ k % 3 ≡ 0 → ⊥) → imp (cube_of n x) f ≡ f (levels_in (cube_of n x))
full_at n x f h =
    imp_full (cube_of n x) f (λ i k e. let m : i < n = omega (arith, length_cube_of n x) in h i m (dig_free (x / 3 ^ i % 3) (sym (get_or_cube_of n i x m) ∙ e)))

-- ---- the mask and the levels, bit by bit
-- a digit halved, as it is or with one more
half_digit : (p d : ℕ) (ds : List Digit) → p ≤ 1 → d < 3 → byte_in p (dig d ∷ ds) ≡ (d + p) / 2 + 2 * byte_in p ds
half_digit zero zero ds h k = refl
half_digit zero (suc zero) ds h k = refl
half_digit zero (suc (suc zero)) ds h k = refl
half_digit (suc zero) zero ds h k = refl
half_digit (suc zero) (suc zero) ds h k = refl
half_digit (suc zero) (suc (suc zero)) ds h k = refl
half_digit zero (suc (suc (suc d))) ds h k = absurd (omega arith)
half_digit (suc zero) (suc (suc (suc d))) ds h k = absurd (omega arith)
half_digit (suc (suc p)) d ds h k = absurd (omega arith)

byte_none : (p : ℕ) → byte_in p [] ≡ 0
byte_none zero = refl
byte_none (suc p) = refl

module _ (p : ℕ) (h : p ≤ 1) where
  one_place : (d w k : ℕ) → d * k + w * (2 * k) ≡ (d + 2 * w) * k
  one_place d w k = sym (add-mul d (2 * w) k ∙ ap (λ (j : ℕ). d * k + j) (ap (λ (j : ℕ). j * k) (mul_comm 2 w) ∙ mul_assoc w 2 k))

  places : (x a n : ℕ) → sum_by (λ i. (x / 3 ^ i % 3 + p) / 2 * 2 ^ i) (range_with_len a n) ≡ byte_in p (cube_of n (x / 3 ^ a)) * 2 ^ a
  places x a zero = sym (ap (λ (k : ℕ). k * 2 ^ a) (byte_none p) ∙ zero-mul (2 ^ a))
  places x a (suc n) =
      let f : ℕ → ℕ = λ i. (x / 3 ^ i % 3 + p) / 2 * 2 ^ i in
      let d : ℕ = (x / 3 ^ a % 3 + p) / 2 in
      let w : ℕ = byte_in p (cube_of n (x / 3 ^ a / 3)) in
      let next : x / 3 ^ (a + 1) ≡ x / 3 ^ a / 3 = ap (λ (k : ℕ). x / 3 ^ k) (add-one a) ∙ sym (div_suc x a) in
      let twice : 2 ^ (a + 1) ≡ 2 * 2 ^ a = ap (λ (k : ℕ). 2 ^ k) (add-one a) ∙ pow-suc 2 a ∙ mul_comm (2 ^ a) 2 in
      sum_by-cons f a (range_with_len (a + 1) n)
      ∙ ap (λ (k : ℕ). d * 2 ^ a + k) (places x (a + 1) n ∙ ap₂ (λ (y k : ℕ). byte_in p (cube_of n y) * k) next twice)
      ∙ one_place d w (2 ^ a)
      ∙ ap (λ (k : ℕ). k * 2 ^ a) (sym (half_digit p (x / 3 ^ a % 3) (cube_of n (x / 3 ^ a / 3)) h (omega arith)))

  pub byte_by_bits : (x n : ℕ) → sum_by (λ i. (x / 3 ^ i % 3 + p) / 2 * 2 ^ i) (range_with_len 0 n) ≡ byte_in p (cube_of n x)
  byte_by_bits x n = let e : x / 1 ≡ x = omega arith in places x 0 n ∙ ap (λ (y : ℕ). byte_in p (cube_of n y) * 1) e ∙ mul-one (byte_in p (cube_of n x))

pub byte_lt : (p n x : ℕ) → byte_in p (cube_of n x) < 2 ^ n
byte_lt zero n x = levels_lt n x
byte_lt (suc p) n x = mask_of_lt n x

-- a number of n inputs has the same levels read as one of more
pub levels_same : (m n x : ℕ) → n ≤ m → x < 3 ^ n → levels_in (cube_of m x) ≡ levels_in (cube_of n x)
levels_same zero zero x h k = refl
levels_same zero (suc n) x h k = absurd (omega arith)
levels_same (suc m) zero x h k =
    let e : x ≡ 0 = omega arith in
    let rec : levels_in (cube_of m (x / 3)) ≡ 0 = levels_same m 0 (x / 3) (omega arith) (omega arith) in
    let d = ap (λ (y : ℕ). level_bit (dig (y % 3))) e in
    omega arith
levels_same (suc m) (suc n) x h k =
    ap (λ (w : ℕ). level_bit (dig (x % 3)) + 2 * w) (levels_same m n (x / 3) (le_of_suc-le-suc h) (omega (arith, pow-suc 3 n)))
