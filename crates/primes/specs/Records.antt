-- The records of the prime list: what is noted of each prime.
use Rattle.std.specs.Prelude.{ℕ, Bool, false, cond, if◌then◌else◌, ◌&&◌, List, map, length, Some, None, filter, position, Option, ◌==◌, nat_lt}
use Rattle.std.specs.List.{list_any}
use Rattle.terms.specs.declared.refusal.Refusal.{Refusal}
use Rattle.terms.specs.declared.refusal.Refusal.TheVariants.{TooManyPrimes}
use Rattle.terms.specs.declared.term.Term.{Term}
use Rattle.terms.specs.Terms.{number}
use Rattle.terms.specs.Tables.{Table}
use Rattle.primes.specs.declared.need.Need.{Need}
use Rattle.primes.specs.declared.need.Work.{Work}
use Rattle.primes.specs.declared.prime.Prime.{Prime}
use Rattle.fixed.specs.declared.list.FixedList.{FixedList}
use Rattle.fixed.specs.Lists.{entries}
use Rattle.primes.specs.Cubes.{term_of}
use Rattle.primes.specs.Primes.{primes}
use Rattle.primes.specs.Needs.{needs, meets}

-- primes, as records, at most 256
abbrev pub PrimeList : Type 0
PrimeList = FixedList Prime 256

-- how many of the needs a term holds
abbrev pub held : List Need → Term → ℕ
held ds t = length (filter (meets t) ds)

-- the place of the element that passes a test, where there is just one
abbrev pub sole_place : {A : Type 0} → (A → Bool) → List A → Option ℕ
sole_place p xs = if length (filter p xs) == 1 then position p xs else None

-- how many of the terms hold a need
abbrev pub holders : List Term → Need → ℕ
holders ps d = length (filter (λ p. meets p d) ps)

-- t is essential among ps: some need is held by t and by no other of them
abbrev pub is_essential : List Term → List Need → Term → Bool
is_essential ps ds t = list_any (λ d. meets t d && holders ps d == 1) ds

-- a prime with its needs counted, not yet known to be essential
abbrev pub fresh : List Need → Term → Prime
fresh ds t = record { term = t; number = number t; needs = held ds t; essential = false }

-- what is noted of a prime
abbrev pub record_of : List Term → List Need → Term → Prime
record_of ps ds t = record { term = t; number = number t; needs = held ds t; essential = is_essential ps ds t }

-- the records of a table's primes in some kind of work, the earliest first
abbrev pub records : Table → Work → List Prime
records tb work = map (record_of (primes tb) (needs tb work)) (primes tb)

-- a record that stands for no prime
abbrev pub no_prime : Prime
no_prime = record { term = term_of 0; number = 0; needs = 0; essential = false }

-- a table with more than 256 primes is refused
abbrev pub primes_break : Table → Option Refusal
primes_break tb = cond (nat_lt 256 (length (primes tb))) (Some TooManyPrimes) None

-- the terms of a list's primes
abbrev pub terms_in : PrimeList → List Term
terms_in l = map (λ p. p.term) (entries l)

-- the record's term holds a need
abbrev pub record_meets : Need → Prime → Bool
record_meets d p = meets p.term d
