-- A term as the list of what it asks of each input, input 0 first; and the term of a number.
use Rattle.std.specs.Prelude.{◌≡◌, ℕ, zero, suc, ◌+◌, ◌*◌, ◌/◌, ◌%◌, ◌^◌, ◌<◌, ◌≤◌, List, [], ◌∷◌, bit_and, refl}
use Rattle.std.proofs.Common.{ap₂, ◌∙◌, pow-suc, arith}
use Rattle.std.specs.Int.Bits.{and_step}
use Rattle.terms.specs.declared.term.Term.{Term}

-- an input is not read, wanted at 0, or wanted at 1
pub data Digit : Type 0 where
  free : Digit
  low : Digit
  high : Digit

-- the digits 0, 1 and 2 of a term's number in base three
abbrev pub dig : ℕ → Digit
dig zero = free
dig (suc zero) = low
dig (suc (suc x)) = high

-- what the term of number x asks of each of n inputs
abbrev pub cube_of : ℕ → ℕ → List Digit
cube_of zero x = []
cube_of (suc n) x = dig (x % 3) ∷ cube_of n (x / 3)

-- whether an input is read, and its level, as bits
abbrev pub read_bit : Digit → ℕ
read_bit free = 0
read_bit low = 1
read_bit high = 1

abbrev pub level_bit : Digit → ℕ
level_bit free = 0
level_bit low = 0
level_bit high = 1

-- the mask and the levels of a cube
abbrev pub mask_in : List Digit → ℕ
mask_in [] = 0
mask_in (d ∷ ds) = read_bit d + 2 * mask_in ds

abbrev pub levels_in : List Digit → ℕ
levels_in [] = 0
levels_in (d ∷ ds) = level_bit d + 2 * levels_in ds

-- the byte that the halved digits make: as they are, the levels; each with one more, the mask
abbrev pub byte_in : ℕ → List Digit → ℕ
byte_in zero ds = levels_in ds
byte_in (suc p) ds = mask_in ds

low_half : (d a : ℕ) → d < 2 → (d + 2 * a) / 2 ≡ a
low_half d a h = omega arith

and_cons : (d e a b : ℕ) → d < 2 → e < 2 → d ≤ e → bit_and a b ≡ a → bit_and (d + 2 * a) (e + 2 * b) ≡ d + 2 * a
and_cons d e a b h k l s =
    let q : bit_and ((d + 2 * a) / 2) ((e + 2 * b) / 2) ≡ a = ap₂ bit_and (low_half d a h) (low_half e b k) ∙ s in
    let z = and_step (d + 2 * a) (e + 2 * b) in
    omega arith

-- the levels of a cube lie inside its mask
pub levels_in_mask : (ds : List Digit) → bit_and (levels_in ds) (mask_in ds) ≡ levels_in ds
levels_in_mask [] = refl
levels_in_mask (free ∷ ds) = and_cons 0 0 (levels_in ds) (mask_in ds) (omega arith) (omega arith) (omega arith) (levels_in_mask ds)
levels_in_mask (low ∷ ds) = and_cons 0 1 (levels_in ds) (mask_in ds) (omega arith) (omega arith) (omega arith) (levels_in_mask ds)
levels_in_mask (high ∷ ds) = and_cons 1 1 (levels_in ds) (mask_in ds) (omega arith) (omega arith) (omega arith) (levels_in_mask ds)

read_lt : (d : Digit) → read_bit d < 2
read_lt free = omega arith
read_lt low = omega arith
read_lt high = omega arith

-- and its mask has a bit for each input at most
pub mask_of_lt : (n x : ℕ) → mask_in (cube_of n x) < 2 ^ n
mask_of_lt zero x = omega arith
mask_of_lt (suc n) x = omega (arith, mask_of_lt n (x / 3), read_lt (dig (x % 3)), pow-suc 2 n)

-- the term of a number
unfoldable pub term_of : ℕ → Term
term_of x = record { mask = mask_in (cube_of 8 x); levels = levels_in (cube_of 8 x); within = levels_in_mask (cube_of 8 x); byte = mask_of_lt 8 x }
