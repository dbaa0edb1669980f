-- A row with one input put in.
use Rattle.std.specs.Prelude.{◌≡◌, ℕ, suc, ◌+◌, ◌-◌, ◌*◌, ◌/◌, ◌%◌, ◌^◌, ◌<◌, Bool, true, false}
use Rattle.std.proofs.Common.{sym, ap, subst, ◌∙◌, arith}
use native.Mathlib.Nat.{pow-suc, add-mul-div_right, mul_assoc}
use Rattle.std.proofs.lemmas.Nat.{pow_pos, pow-add, shr-shr, shr_split, shr_high, mod_low, mod_below, shr_below, mul-add-lt}
use Rattle.terms.specs.Terms.{bit}
use Rattle.layers.specs.Layers.{level_of, put_in, PutInBits}

level_lt : (b : Bool) → level_of b < 2
level_lt true = omega arith
level_lt false = omega arith

module _ (i : ℕ) (b : Bool) (r : ℕ) where
  -- what lies below the next input's weight
  lower_lt : level_of b * 2 ^ i + r % 2 ^ i < 2 ^ suc i
  lower_lt =
      let l = mod_below r (2 ^ i) (pow_pos i) in
      let p = pow-suc 2 i in
      elim b as (λ c. level_of c * 2 ^ i + r % 2 ^ i < 2 ^ suc i) [ true ↦ omega arith | false ↦ omega arith ]

  -- the row by its weight at the input
  by_weight : put_in i b r ≡ (r / 2 ^ i * 2 + level_of b) * 2 ^ i + r % 2 ^ i
  by_weight =
      let p = pow-suc 2 i in
      let q = mul_assoc (r / 2 ^ i) 2 (2 ^ i) in
      let s : r / 2 ^ i * 2 ^ suc i ≡ r / 2 ^ i * 2 * 2 ^ i = ap (λ (x : ℕ). r / 2 ^ i * x) (omega arith) ∙ sym q in
      let d = native.Mathlib.Nat.add-mul (r / 2 ^ i * 2) (level_of b) (2 ^ i) in
      omega arith

  rest_shifted : put_in i b r / 2 ^ i ≡ r / 2 ^ i * 2 + level_of b
  rest_shifted = ap (λ (x : ℕ). x / 2 ^ i) by_weight ∙ shr_high (r / 2 ^ i * 2 + level_of b) i (r % 2 ^ i) (mod_below r (2 ^ i) (pow_pos i))

  lower_same : put_in i b r % 2 ^ i ≡ r % 2 ^ i
  lower_same = ap (λ (x : ℕ). x % 2 ^ i) by_weight ∙ mod_low (r / 2 ^ i * 2 + level_of b) i (r % 2 ^ i) (mod_below r (2 ^ i) (pow_pos i))

  higher_same : put_in i b r / 2 ^ suc i ≡ r / 2 ^ i
  higher_same = shr_high (r / 2 ^ i) (suc i) (level_of b * 2 ^ i + r % 2 ^ i) lower_lt

-- a lower bit of a number is one of its remainder
bit_mod : (a i j : ℕ) → j < i → bit (a % 2 ^ i) j ≡ bit a j
bit_mod a i j h =
    let q : ℕ = a / 2 ^ i in
    let k : ℕ = i - suc j in
    let e : 2 ^ i ≡ 2 * 2 ^ k * 2 ^ j =
    ap (λ (x : ℕ). 2 ^ x) (omega arith) ∙ pow-add 2 (suc k) j ∙ ap (λ (x : ℕ). x * 2 ^ j) (omega (arith, pow-suc 2 k)) in
    let m : q * 2 ^ i ≡ q * (2 * 2 ^ k) * 2 ^ j = ap (λ (x : ℕ). q * x) e ∙ sym (mul_assoc q (2 * 2 ^ k) (2 ^ j)) in
    let s = shr_split a i in
    let w : a ≡ a % 2 ^ i + q * (2 * 2 ^ k) * 2 ^ j = omega arith in
    let v : a / 2 ^ j ≡ a % 2 ^ i / 2 ^ j + q * (2 * 2 ^ k) = ap (λ (x : ℕ). x / 2 ^ j) w ∙ add-mul-div_right (a % 2 ^ i) (q * (2 * 2 ^ k)) (pow_pos j) in
    let u : q * (2 * 2 ^ k) ≡ 2 * (q * 2 ^ k) = native.Mathlib.Nat.mul_left_comm q 2 (2 ^ k) in
    omega arith

pub put_in_bits : PutInBits
put_in_bits i b r = (
  let s = rest_shifted i b r in let l = level_lt b in omega arith,
  λ j h. sym (bit_mod (put_in i b r) i j h) ∙ ap (λ (x : ℕ). bit x j) (lower_same i b r) ∙ bit_mod r i j h,
  λ j h.
      let e : suc i + (j - i) ≡ suc j = omega arith in
      let f : i + (j - i) ≡ j = omega arith in
      ap (λ (x : ℕ). x % 2)
      (ap (λ (x : ℕ). put_in i b r / 2 ^ x) (sym e) ∙ sym (shr-shr (put_in i b r) (suc i) (j - i)) ∙ ap (λ (x : ℕ). x / 2 ^ (j - i)) (higher_same i b r)
      ∙ shr-shr r i (j - i) ∙ ap (λ (x : ℕ). r / 2 ^ x) f),
)

-- the row is one of the table below
pub put_in_lt : (n i : ℕ) (b : Bool) (r : ℕ) → i < n → r < 2 ^ (n - 1) → put_in i b r < 2 ^ n
put_in_lt n i b r h l =
    let k : ℕ = n - 1 - i in
    let e : k + i ≡ n - 1 = omega arith in
    let high : r / 2 ^ i < 2 ^ k = shr_below r k i (subst (λ (x : ℕ). r < 2 ^ x) (sym e) l) in
    let below = mul-add-lt (r / 2 ^ i) (2 ^ suc i) (level_of b * 2 ^ i + r % 2 ^ i) (2 ^ k) high (lower_lt i b r) in
    let whole : 2 ^ suc i * 2 ^ k ≡ 2 ^ n = sym (pow-add 2 (suc i) k) ∙ ap (λ (x : ℕ). 2 ^ x) (omega arith) in
    omega arith
