-- Terms (cubes): which rows a term holds, its contacts, its weight, number, rank and written form.
use Rattle.std.specs.Prelude.{ℕ, zero, suc, ◌+◌, ◌*◌, ◌/◌, ◌%◌, ◌^◌, ◌<◌, Bool, cond, ◌&&◌, T, List, [], ◌∷◌, ◌==◌, bit_and, nat_lt}
use Rattle.terms.specs.declared.term.Term.{Term}

-- bit i of a number: input i has weight 2 ^ i
abbrev pub bit : ℕ → ℕ → ℕ
bit m i = m / 2 ^ i % 2

-- f 0 + f 1 + .. + f (k - 1)
unfoldable pub sum_below : ℕ → (ℕ → ℕ) → ℕ
sum_below zero f = 0
sum_below (suc k) f = sum_below k f + f k

-- a mask and levels make a term of n inputs: no missing input is read, and no level lies outside the mask
abbrev pub is_term : ℕ → ℕ → ℕ → Bool
is_term n m l = nat_lt m (2 ^ n) && bit_and l m == l

-- the term reads only the inputs 0 to n - 1
abbrev pub Over : ℕ → Term → Type 0
Over n t = t.mask < 2 ^ n

-- the term reads input i
abbrev pub reads : Term → ℕ → Bool
reads t i = bit t.mask i == 1

-- at the inputs of mask m, row r has the levels l
abbrev pub agrees : ℕ → ℕ → ℕ → Bool
agrees m l r = bit_and r m == l

-- the term holds row r: at the inputs read, the row has the term's levels
abbrev pub holds : Term → ℕ → Bool
holds t r = agrees t.mask t.levels r

-- t lies inside u: u holds every row that t holds
abbrev pub Inside : Term → Term → Type 0
Inside t u = (r : ℕ) → T (holds t r) → T (holds u r)

-- the number of contacts: one for each input read
abbrev pub contacts : Term → ℕ
contacts t = sum_below 8 (bit t.mask)

-- the weight of a mask: the sum of 3 ^ i over its bits i
abbrev pub weight : ℕ → ℕ
weight m = sum_below 8 (λ i. bit m i * 3 ^ i)

-- the number of a term
abbrev pub number : Term → ℕ
number t = weight t.mask + weight t.levels

-- the place of a term among all terms: the only definition that says which of two terms is earlier
abbrev pub rank : Term → ℕ
rank t = number t

abbrev pub earlier : Term → Term → Bool
earlier t u = nat_lt (rank t) (rank u)

-- how a term is written at input i, as a byte: 0 or 1 for its level, - where it does not read the input
abbrev pub symbol : Term → ℕ → ℕ
symbol t i = cond (reads t i) (48 + bit t.levels i) 45

-- the written form over n inputs, the highest input first
abbrev pub written : ℕ → Term → List ℕ
written zero t = []
written (suc n) t = symbol t n ∷ written n t
