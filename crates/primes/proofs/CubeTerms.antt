-- Terms as cubes: the rows that they hold, the inputs that they lose, their numbers.
use Rattle.std.proofs.Common.{◌≡◌, ℕ, zero, suc, ◌+◌, ◌*◌, ◌/◌, ◌%◌, ◌^◌, ◌<◌, ◌≤◌, Bool, true, false, not, ◌&&◌, ◌||◌, eqb, List, ◌∷◌, length, get_or, set, sym, refl, ap, ◌∙◌, subst, ap₂, ⊎_elim, le_trans, le_of_suc-le-suc, not-suc-le-zero, mul-le-mul_right, mul_assoc, mul_comm, pow-suc, div-mul-le_self, arith}
use native.Mathlib.Nat.{mod-le}
use lib.Bits.{bit_and, and_step}
use Rattle.std.proofs.lemmas.Bool.{and_parts, and_from, cases_eq, both_ways}
use Rattle.terms.specs.declared.term.Term.{Term}
use Rattle.terms.specs.Terms.{bit, agrees, reads, number}
use Rattle.terms.specs.Tables.{Table, rows}
use Rattle.terms.proofs.Bits.{bit_half, bit_lt, levels_le}
use Rattle.terms.proofs.Numbers.{horner, weight_horner, same_term, levels_byte, within_half, within_first}
use Rattle.primes.specs.Cubes.{Digit, free, low, high, dig, cube_of, read_bit, level_bit, mask_in, levels_in, term_of}
use Rattle.primes.specs.Primes.{every, allowed, spares_off, cleared, can_drop, is_prime, implicant_at}
use Rattle.primes.proofs.Cube.{imp, val, num, is_free, stands, trial}
use Rattle.primes.proofs.CubeLaws.{implicant_from_imp, imp_from_implicant, num_cube_of}
use Rattle.primes.proofs.CubeBytes.{read_lt, level_lt, digit, cube, cube_of_number, mask_cube, levels_cube, contains_cube}

-- ---- tests over all numbers below a bound
pub every_at : (f : ℕ → Bool) (n k : ℕ) → every f n ≡ true → k < n → f k ≡ true
every_at f zero k e h = absurd (not-suc-le-zero h)
every_at f (suc n) k e h =
    let p = and_parts (f n) (every f n) e in
    ⊎_elim (λ q. subst (λ (x : ℕ). f x ≡ true) (sym q) p.0) (λ q. every_at f n k p.1 (omega arith)) (cases_eq k n)

pub every_from : (f : ℕ → Bool) (n : ℕ) → ((k : ℕ) → k < n → f k ≡ true) → every f n ≡ true
every_from f zero h = refl
every_from f (suc n) h = and_from (f n) (every f n) (h n (omega arith)) (every_from f n (λ k l. h k (omega arith)))

every_same : (f g : ℕ → Bool) (n : ℕ) → ((k : ℕ) → k < n → f k ≡ g k) → every f n ≡ every g n
every_same f g zero h = refl
every_same f g (suc n) h = ap₂ ◌&&◌ (h n (omega arith)) (every_same f g n (λ k l. h k (omega arith)))

same_bool : (a b : Bool) → (a ≡ true → b ≡ true) → (b ≡ true → a ≡ true) → a ≡ b
same_bool true b f g = sym (f refl)
same_bool false true f g = g refl
same_bool false false f g = refl

or_not : (h o : Bool) → (not h || o) ≡ true → h ≡ true → o ≡ true
or_not true o e k = e
or_not false o e k = absurd (both_ways false refl k)

not_or : (h o : Bool) → (h ≡ true → o ≡ true) → (not h || o) ≡ true
not_or true o f = f refl
not_or false o f = refl

-- ---- the rows
pub length_cube : (n m l : ℕ) → length (cube n m l) ≡ n
length_cube zero m l = refl
length_cube (suc n) m l = ap suc (length_cube n (m / 2) (l / 2))

pub spares_cube : (tb : Table) (m l : ℕ) → m < rows tb → bit_and l m ≡ l → spares_off tb m l ≡ imp (cube tb.inputs m l) (allowed tb)
unfolding spares_off
spares_cube tb m l h s =
    let n : ℕ = tb.inputs in
    let ds : List Digit = cube n m l in
    let f : ℕ → Bool = allowed tb in
    let len : length ds ≡ n = length_cube n m l in
    same_bool (spares_off tb m l) (imp ds f)
    (λ e. imp_from_implicant ds f
    (λ r b c. or_not (agrees m l r) (f r)
    (every_at (λ r. not (agrees m l r) || f r) (2 ^ n) r e (subst (λ (k : ℕ). r < 2 ^ k) len b))
    (sym (contains_cube n m l r h s) ∙ c)))
    (λ e. every_from (λ r. not (agrees m l r) || f r) (2 ^ n)
    (λ r b. not_or (agrees m l r) (f r)
    (λ c. implicant_from_imp ds f e r (subst (λ (k : ℕ). r < 2 ^ k) (sym len) b) (contains_cube n m l r h s ∙ c))))

-- ---- one input dropped
bit_le : (a i : ℕ) → bit a i * 2 ^ i ≤ a
bit_le a i = le_trans (mul-le-mul_right (2 ^ i) (mod-le (a / 2 ^ i) 2)) (div-mul-le_self a (2 ^ i))

bit_next : (a i : ℕ) → bit a (suc i) * 2 ^ suc i ≡ 2 * (bit (a / 2) i * 2 ^ i)
bit_next a i =
    ap (λ (b : ℕ). b * 2 ^ suc i) (sym (bit_half a i))
    ∙ ap (λ (x : ℕ). bit (a / 2) i * x) (pow-suc 2 i) ∙ sym (mul_assoc (bit (a / 2) i) (2 ^ i) 2) ∙ mul_comm (bit (a / 2) i * 2 ^ i) 2

cleared_zero : (a : ℕ) → (cleared a 0 / 2 ≡ a / 2) × (cleared a 0 % 2 ≡ 0)
cleared_zero a = let e : a / 1 ≡ a = omega arith in (omega arith, omega arith)

cleared_next : (a i : ℕ) → (cleared a (suc i) / 2 ≡ cleared (a / 2) i) × (cleared a (suc i) % 2 ≡ a % 2)
cleared_next a i =
    let e = bit_next a i in
    let l = bit_le (a / 2) i in
    (omega arith, omega arith)

pub cleared_within : (m l i : ℕ) → bit_and l m ≡ l → bit_and (cleared l i) (cleared m i) ≡ cleared l i
cleared_within m l zero s =
    let a = cleared_zero m in
    let b = cleared_zero l in
    let z = and_step (cleared l 0) (cleared m 0) in
    let q : bit_and (cleared l 0 / 2) (cleared m 0 / 2) ≡ l / 2 = ap₂ bit_and b.0 a.0 ∙ within_half m l s in
    omega arith
cleared_within m l (suc i) s =
    let a = cleared_next m i in
    let b = cleared_next l i in
    let z = and_step (cleared l (suc i)) (cleared m (suc i)) in
    let f = within_first m l s in
    let q : bit_and (cleared l (suc i) / 2) (cleared m (suc i) / 2) ≡ cleared (l / 2) i =
    ap₂ bit_and b.0 a.0 ∙ cleared_within (m / 2) (l / 2) i (within_half m l s) in
    omega arith

pub cleared_le : (m i : ℕ) → cleared m i ≤ m
cleared_le m i = omega arith

cube_cleared : (n m l i : ℕ) → i < n → cube n (cleared m i) (cleared l i) ≡ set (cube n m l) i free
cube_cleared zero m l i h = absurd (not-suc-le-zero h)
cube_cleared (suc n) m l zero h =
    let a = cleared_zero m in
    let b = cleared_zero l in
    ap₂ (λ (x : Digit) (xs : List Digit). x ∷ xs) (ap₂ digit a.1 b.1) (ap₂ (cube n) a.0 b.0)
cube_cleared (suc n) m l (suc i) h =
    let a = cleared_next m i in
    let b = cleared_next l i in
    ap₂ (λ (x : Digit) (xs : List Digit). x ∷ xs) (ap₂ digit a.1 b.1) (ap₂ (cube n) a.0 b.0 ∙ cube_cleared n (m / 2) (l / 2) i (le_of_suc-le-suc h))

get_or_cube : (n i m l : ℕ) → i < n → get_or (cube n m l) i free ≡ digit (bit m i) (bit l i)
get_or_cube zero i m l h = absurd (not-suc-le-zero h)
get_or_cube (suc n) zero m l h =
    let p : m / 1 ≡ m = omega arith in
    let q : l / 1 ≡ l = omega arith in
    ap₂ (λ (x y : ℕ). digit (x % 2) (y % 2)) (sym p) (sym q)
get_or_cube (suc n) (suc i) m l h = get_or_cube n i (m / 2) (l / 2) (le_of_suc-le-suc h) ∙ ap₂ digit (bit_half m i) (bit_half l i)

free_digit : (b c : ℕ) → b < 2 → is_free (digit b c) ≡ not (eqb b 1)
free_digit zero c h = refl
free_digit (suc zero) zero h = refl
free_digit (suc zero) (suc c) h = refl
free_digit (suc (suc b)) c h = absurd (omega arith)

not_and : (a b : Bool) → not (a && b) ≡ (not a || not b)
not_and true b = refl
not_and false b = refl

-- ---- the trial, by bytes and by digits
pub cube_of_lem : (n : ℕ) (t : Term) → n ≤ 8 → cube_of n (number t) ≡ cube n t.mask t.levels
cube_of_lem n t h = cube_of_number n t.mask t.levels h t.byte (levels_byte t) t.within

drop_stands : (tb : Table) (t : Term) (i : ℕ) → t.mask < rows tb → i < tb.inputs
    → not (can_drop tb t i) ≡ stands (allowed tb) (cube tb.inputs t.mask t.levels) i
drop_stands tb t i h k =
    let n : ℕ = tb.inputs in
    let m : ℕ = t.mask in
    let l : ℕ = t.levels in
    let c = cleared_le m i in
    not_and (reads t i) (spares_off tb (cleared m i) (cleared l i))
    ∙ ap₂ (λ (x y : Bool). x || not y)
    (sym (free_digit (bit m i) (bit l i) (bit_lt m i)) ∙ sym (ap is_free (get_or_cube n i m l k)))
    (spares_cube tb (cleared m i) (cleared l i) (omega arith) (cleared_within m l i t.within)
    ∙ ap (λ (ds : List Digit). imp ds (allowed tb)) (cube_cleared n m l i k))

pub prime_trial : (tb : Table) (t : Term) → tb.inputs ≤ 8 → t.mask < rows tb → is_prime tb t ≡ trial tb.inputs (allowed tb) (number t)
unfolding is_prime trial
prime_trial tb t few h =
    let n : ℕ = tb.inputs in
    let ds : List Digit = cube n t.mask t.levels in
    ap₂ ◌&&◌ (spares_cube tb t.mask t.levels h t.within) (every_same (λ i. not (can_drop tb t i)) (stands (allowed tb) ds) n (λ i k. drop_stands tb t i h k))
    ∙ ap (λ (es : List Digit). imp es (allowed tb) && every (stands (allowed tb) es) n) (sym (cube_of_lem n t few))

-- ---- the term of a number
pub term_of_number : (t : Term) → term_of (number t) ≡ t
unfolding term_of
term_of_number t =
    let e = cube_of_lem 8 t (omega arith) in
    same_term (term_of (number t)) t (ap mask_in e ∙ mask_cube 8 t.mask t.levels t.byte) (ap levels_in e ∙ levels_cube 8 t.mask t.levels (levels_byte t) t.within)

horner_cons : (k b m : ℕ) → b < 2 → horner (suc k) (b + 2 * m) ≡ b + 3 * horner k m
horner_cons k b m h =
    let p : (b + 2 * m) % 2 ≡ b = omega arith in
    let q : (b + 2 * m) / 2 ≡ m = omega arith in
    ap₂ (λ (x y : ℕ). x + 3 * horner k y) p q

val_parts : (d : Digit) → val d ≡ read_bit d + level_bit d
val_parts free = refl
val_parts low = refl
val_parts high = refl

horner_num : (k x : ℕ) → horner k (mask_in (cube_of k x)) + horner k (levels_in (cube_of k x)) ≡ num (cube_of k x)
horner_num zero x = refl
horner_num (suc k) x =
    let d : Digit = dig (x % 3) in
    let a = horner_cons k (read_bit d) (mask_in (cube_of k (x / 3))) (read_lt d) in
    let b = horner_cons k (level_bit d) (levels_in (cube_of k (x / 3))) (level_lt d) in
    let e = horner_num k (x / 3) in
    let v = val_parts d in
    omega arith

pub number_term_of : (x : ℕ) → x < 6561 → number (term_of x) ≡ x
unfolding term_of
number_term_of x h =
    ap₂ ◌+◌ (weight_horner (term_of x).mask (term_of x).byte) (weight_horner (term_of x).levels (levels_byte (term_of x)))
    ∙ horner_num 8 x ∙ num_cube_of 8 x h

-- a term with a number below 3 ^ n reads only n inputs
mask_below : (n k x : ℕ) → x < 3 ^ n → mask_in (cube_of k x) < 2 ^ n
mask_below zero zero x h = omega arith
mask_below zero (suc k) x h =
    let e : x ≡ 0 = omega arith in
    let i = mask_below zero k (x / 3) (omega arith) in
    let z : read_bit (dig (x % 3)) ≡ 0 = ap (λ (y : ℕ). read_bit (dig (y % 3))) e in
    omega arith
mask_below (suc n) zero x h = lib.Pow.pow_pos (suc n)
mask_below (suc n) (suc k) x h =
    let p = pow-suc 3 n in
    let q = pow-suc 2 n in
    let i = mask_below n k (x / 3) (omega arith) in
    let b = read_lt (dig (x % 3)) in
    omega arith

pub term_over : (n x : ℕ) → x < 3 ^ n → (term_of x).mask < 2 ^ n
unfolding term_of
term_over n x h = mask_below n 8 x h

pub pow3_le : (n : ℕ) → n ≤ 8 → 3 ^ n ≤ 6561
pow3_le n h = native.Mathlib.Nat.pow-le-pow_right {n = 3} (omega arith) {i = n} {j = 8} h

pub prime_at_lem : (tb : Table) (x : ℕ) → tb.inputs ≤ 8 → x < 3 ^ tb.inputs → is_prime tb (term_of x) ≡ trial tb.inputs (allowed tb) x
prime_at_lem tb x few h =
    prime_trial tb (term_of x) few (term_over tb.inputs x h)
    ∙ ap (trial tb.inputs (allowed tb)) (number_term_of x (let p = pow3_le tb.inputs few in omega arith))

-- the number of a term over n inputs, by its digits
horner_zero : (k : ℕ) → horner k 0 ≡ 0
horner_zero zero = refl
horner_zero (suc k) = ap (λ (x : ℕ). 0 + 3 * x) (horner_zero k)

val_digit : (m l : ℕ) → m < 2 → l ≤ m → val (digit m l) ≡ m + l
val_digit zero zero h k = refl
val_digit zero (suc l) h k = absurd (omega arith)
val_digit (suc zero) zero h k = refl
val_digit (suc zero) (suc zero) h k = refl
val_digit (suc zero) (suc (suc l)) h k = absurd (omega arith)
val_digit (suc (suc m)) l h k = absurd (omega arith)

horner_cube : (n k m l : ℕ) → n ≤ k → m < 2 ^ n → l < 2 ^ n → bit_and l m ≡ l → horner k m + horner k l ≡ num (cube n m l)
horner_cube zero k m l h a b s =
    let p : m ≡ 0 = omega arith in
    let q : l ≡ 0 = omega arith in
    ap₂ (λ (x y : ℕ). horner k x + horner k y) p q ∙ ap₂ ◌+◌ (horner_zero k) (horner_zero k)
horner_cube (suc n) zero m l h a b s = absurd (omega arith)
horner_cube (suc n) (suc k) m l h a b s =
    let o = pow-suc 2 n in
    let e = horner_cube n k (m / 2) (l / 2) (omega arith) (omega arith) (omega arith) (within_half m l s) in
    let v = val_digit (m % 2) (l % 2) (omega arith) (within_first m l s) in
    omega arith

pub number_cube : (n : ℕ) (t : Term) → n ≤ 8 → t.mask < 2 ^ n → number t ≡ num (cube n t.mask t.levels)
number_cube n t h m =
    let l = levels_le t in
    ap₂ ◌+◌ (weight_horner t.mask t.byte) (weight_horner t.levels (levels_byte t))
    ∙ horner_cube n 8 t.mask t.levels h m (omega arith) t.within

-- the entry of a term's number, by digits
pub implicant_at_lem : (tb : Table) (x : ℕ) → tb.inputs ≤ 8 → x < 3 ^ tb.inputs → implicant_at tb x ≡ imp (cube_of tb.inputs x) (allowed tb)
implicant_at_lem tb x few h =
    let n : ℕ = tb.inputs in
    let p = pow3_le n few in
    spares_cube tb (term_of x).mask (term_of x).levels (term_over n x h) (term_of x).within
    ∙ ap (λ (ds : List Digit). imp ds (allowed tb)) (sym (cube_of_lem n (term_of x) few) ∙ ap (cube_of n) (number_term_of x (omega arith)))
