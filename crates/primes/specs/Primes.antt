-- The primes of a table, as a list: the terms that pass the trial, the earliest first.
use Rattle.std.specs.Prelude.{ℕ, zero, suc, ◌-◌, ◌*◌, ◌^◌, Bool, true, not, ◌&&◌, ◌||◌, List, map, filter}
use Rattle.std.specs.List.{range_with_len}
use Rattle.terms.specs.declared.term.Term.{Term}
use Rattle.terms.specs.Marks.{is_off}
use Rattle.terms.specs.Terms.{bit, agrees, reads}
use Rattle.terms.specs.Tables.{Table, rows, mark_at}
use Rattle.primes.specs.Cubes.{term_of}

-- each number below k passes a test
abbrev pub every : (ℕ → Bool) → ℕ → Bool
every f zero = true
every f (suc k) = f k && every f k

-- row r may be held: it is not OFF
abbrev pub allowed : Table → ℕ → Bool
allowed tb r = not (is_off (mark_at tb r))

-- the term of mask m and levels l holds no OFF row
unfoldable pub spares_off : Table → ℕ → ℕ → Bool
spares_off tb m l = every (λ r. not (agrees m l r) || allowed tb r) (rows tb)

-- a byte without bit i
abbrev pub cleared : ℕ → ℕ → ℕ
cleared m i = m - bit m i * 2 ^ i

-- input i can be dropped: the term reads it, and without it holds no OFF row either
abbrev pub can_drop : Table → Term → ℕ → Bool
can_drop tb t i = reads t i && spares_off tb (cleared t.mask i) (cleared t.levels i)

-- the trial: the term holds no OFF row, and no input of it can be dropped
unfoldable pub is_prime : Table → Term → Bool
is_prime tb t = spares_off tb t.mask t.levels && every (λ i. not (can_drop tb t i)) tb.inputs

-- all terms over n inputs, in rising number
abbrev pub terms_over : ℕ → List Term
terms_over n = map term_of (range_with_len 0 (3 ^ n))

unfoldable pub primes : Table → List Term
primes tb = filter (is_prime tb) (terms_over tb.inputs)

-- the term of number x holds no OFF row
abbrev pub implicant_at : Table → ℕ → Bool
implicant_at tb x = spares_off tb (term_of x).mask (term_of x).levels
