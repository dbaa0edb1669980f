-- Cubes as lists of digits: the rows that a cube contains, the test of an implicant, the number.
use Rattle.std.proofs.Common.{◌≡◌, ℕ, ◌+◌, ◌*◌, ◌/◌, ◌%◌, ◌^◌, ◌<◌, Bool, true, false, not, ◌&&◌, ◌||◌, eqb, ◌≢◌, List, [], ◌∷◌, length, get_or, set}
use Rattle.primes.specs.Cubes.{Digit, free, low, high, cube_of}
use Rattle.primes.specs.Primes.{every}

abbrev pub fits : Digit → ℕ → Bool
fits free b = true
fits low b = eqb b 0
fits high b = eqb b 1

-- the row r is held: each of its bits fits
abbrev pub contains : List Digit → ℕ → Bool
contains [] r = true
contains (d ∷ ds) r = fits d (r % 2) && contains ds (r / 2)

-- no row that the cube holds fails f
abbrev pub imp : List Digit → (ℕ → Bool) → Bool
imp [] f = f 0
imp (free ∷ ds) f = imp ds (λ r. f (2 * r)) && imp ds (λ r. f (2 * r + 1))
imp (low ∷ ds) f = imp ds (λ r. f (2 * r))
imp (high ∷ ds) f = imp ds (λ r. f (2 * r + 1))

abbrev pub Sparing : List Digit → (ℕ → Bool) → Type 0
Sparing ds f = (r : ℕ) → r < 2 ^ length ds → contains ds r ≡ true → f r ≡ true

-- the cube's number, whose digits in base three are the cube's
abbrev pub val : Digit → ℕ
val free = 0
val low = 1
val high = 2

abbrev pub num : List Digit → ℕ
num [] = 0
num (d ∷ ds) = val d + 3 * num ds

-- ---- one cube inside another, and the trial
-- u holds every row that t holds
abbrev pub Within : List Digit → List Digit → Type 0
Within t u = (r : ℕ) → r < 2 ^ length t → contains t r ≡ true → contains u r ≡ true

-- no other implicant over the same inputs has t inside
abbrev pub Alone : List Digit → (ℕ → Bool) → Type 0
Alone t f = (u : List Digit) → length u ≡ length t → Sparing u f → Within t u → u ≡ t

-- no cube that t is with one input left out is an implicant
abbrev pub Passes : List Digit → (ℕ → Bool) → Type 0
Passes t f = (i : ℕ) → i < length t → get_or t i free ≢ free → imp (set t i free) f ≡ false

abbrev pub is_free : Digit → Bool
is_free free = true
is_free low = false
is_free high = false

-- the cube does not read i, or is no implicant without it
abbrev pub stands : (ℕ → Bool) → List Digit → ℕ → Bool
stands f ds i = is_free (get_or ds i free) || not (imp (set ds i free) f)

unfoldable pub trial : ℕ → (ℕ → Bool) → ℕ → Bool
trial n f x = imp (cube_of n x) f && every (stands f (cube_of n x)) n
