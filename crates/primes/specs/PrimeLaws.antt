-- What the list of primes is, in the subject's words.
use Rattle.std.specs.Prelude.{◌<◌}
use Rattle.terms.specs.declared.term.Term.{Term}
use Rattle.terms.specs.Lists.{In, Ordered}
use Rattle.terms.specs.Terms.{rank}
use Rattle.terms.specs.Tables.{Table, Proper, Prime}
use Rattle.primes.specs.Primes.{primes}

-- a term is in the list exactly when it is a prime
abbrev pub PrimesListed : Type 0
PrimesListed = (tb : Table) → Proper tb → (t : Term) → (In t (primes tb) → Prime tb t) × (Prime tb t → In t (primes tb))

-- the list goes in rising rank, so that no term is in it twice
abbrev pub PrimesRising : Type 0
PrimesRising = (tb : Table) → Proper tb → Ordered (λ t u. rank t < rank u) (primes tb)
