-- The chart of a list of primes and a list of needs: a column for each prime.
use Rattle.std.specs.Prelude.{ℕ, min, length, slice_index_or}
use Rattle.fixed.specs.Lists.{entries, entries_fit}
use Rattle.terms.specs.declared.term.Term.{Term}
use Rattle.primes.specs.declared.need.Need.{Need}
use Rattle.primes.specs.Needs.{NeedList, row_need, meets}
use Rattle.primes.specs.Records.{PrimeList, no_prime}
use Rattle.charts.specs.Grids.{Grid, Small}

-- the prime of a column: what stands in the table there, in the list or behind it
abbrev pub prime_at : PrimeList → ℕ → Term
prime_at l c = (slice_index_or l.items (min c 255) no_prime).term

-- the need of a number, likewise
abbrev pub need_at : NeedList → ℕ → Need
need_at d i = slice_index_or d.items (min i 1279) (row_need 0)

abbrev pub prime_grid : PrimeList → NeedList → Grid
prime_grid l d = record { width = length (entries l); wanted = length (entries d); held = λ c i. meets (prime_at l c) (need_at d i); term = prime_at l }

-- it has at most 256 columns and 1,280 needs
pub prime_grid_small : (l : PrimeList) (d : NeedList) → Small (prime_grid l d)
prime_grid_small l d = record { few = entries_fit l; deep = entries_fit d }
