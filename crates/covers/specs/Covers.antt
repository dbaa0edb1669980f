-- Covers of a table by terms, and the best of them.
use Rattle.std.specs.Prelude.{List, Bool, ℕ, length}
use Rattle.terms.specs.declared.term.Term.{Term}
use Rattle.terms.specs.Terms.{holds}
use Rattle.terms.specs.Tables.{Table}
use Rattle.orders.specs.Orders.{Meaning, total}
use Rattle.primes.specs.declared.need.Need.{Need}
use Rattle.primes.specs.declared.need.Work.{Work}
use Rattle.primes.specs.Primes.{primes}
use Rattle.primes.specs.Needs.{needs, meets}
use Rattle.charts.specs.Choice.{all_of, some_of, first_best}
use Rattle.charts.specs.Best.{beats}

-- a cover is 1 on the rows that its terms hold, and 0 on the others
abbrev pub value_at : List Term → ℕ → Bool
value_at c r = some_of (λ t. holds t r) c

-- each of the needs is held by one of the terms
abbrev pub covers_needs : List Need → List Term → Bool
covers_needs ns c = all_of (λ d. some_of (λ t. meets t d) c) ns

-- c is better than d: it costs less, or it costs no more and has fewer terms
abbrev pub better_cover : Meaning → List Term → List Term → Bool
better_cover m c d = beats m (total m c) (length c) (total m d) (length d)

-- the best cover, the earliest term first: of the sets of primes that are covers for the needs of the work, the first that none is better than
abbrev pub best_cover : Meaning → Table → Work → List Term
best_cover m tb work = first_best (covers_needs (needs tb work)) (better_cover m) (primes tb)
