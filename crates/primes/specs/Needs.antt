-- What a cover must hold: in plain work the ON rows, in hazard-free work also every two neighbouring ON rows.
use Rattle.std.specs.Prelude.{ℕ, ◌+◌, ◌^◌, Bool, ◌&&◌, List, ◌++◌, map, take, filter, nat_eq}
use Rattle.std.specs.List.{flat_map, range_with_len}
use Rattle.fixed.specs.declared.list.FixedList.{FixedList}
use Rattle.terms.specs.declared.term.Term.{Term}
use Rattle.terms.specs.Terms.{bit, holds}
use Rattle.terms.specs.Tables.{Table}
use Rattle.sources.specs.Sources.{on_at}
use Rattle.primes.specs.declared.need.Need.{Need}
use Rattle.primes.specs.declared.need.Work.{Work}
use Rattle.primes.specs.declared.need.Work.TheVariants.{Plain, HazardFree}

-- needs, at most 1,280
abbrev pub NeedList : Type 0
NeedList = FixedList Need 1280

-- a row by itself
abbrev pub row_need : ℕ → Need
row_need r = record { low = r; high = r }

-- the first k rows by themselves, rising
abbrev pub row_needs : ℕ → List Need
row_needs k = map row_need (range_with_len 0 k)

-- two rows that differ in input i, which the lower row r has at 0
abbrev pub pair_need : ℕ → ℕ → Need
pair_need r i = record { low = r; high = r + 2 ^ i }

-- the pairs with lower row r, by the input, from input i on; k inputs are left
abbrev pub pairs_at : ℕ → ℕ → ℕ → List Need
pairs_at r i k = map (pair_need r) (filter (λ j. nat_eq (bit r j) 0) (range_with_len i k))

-- the pairs of a function of n inputs, by the lower row and then by the input, from row r on; k rows are left
abbrev pub pairs : ℕ → ℕ → ℕ → List Need
pairs n r k = flat_map (λ q. pairs_at q 0 n) (range_with_len r k)

-- all that could be needed of a function of n inputs: the rows, rising, and in hazard-free work then the pairs
abbrev pub candidates : ℕ → Work → List Need
candidates n Plain = row_needs (2 ^ n)
candidates n HazardFree = row_needs (2 ^ n) ++ pairs n 0 (2 ^ n)

-- both rows of a need are ON
abbrev pub is_needed : Table → Need → Bool
is_needed tb d = on_at tb d.low && on_at tb d.high

-- the needs, in order: of all that could be needed, that whose rows are ON
unfoldable pub needs : Table → Work → List Need
needs tb work = filter (is_needed tb) (candidates tb.inputs work)

-- a term holds a need when it holds both rows
abbrev pub meets : Term → Need → Bool
meets t d = holds t d.low && holds t d.high

-- a list of needs with some more, those of the candidates that are needed, as far as 1,280 go in
abbrev pub added : Table → List Need → List Need → List Need
added tb old more = take 1280 (old ++ filter (is_needed tb) more)
