use Rattle.std.proofs.Common.{◌≡◌}
use Rattle.fixed.specs.Lists.{entries, Tidy}
use Rattle.primes.specs.Needs.{row_need, pairs_at, added}
use Rattle.primes.proofs.needs.add_pairs_at.Given as goal

abbrev pub invariant-loop-input : goal.invariant-loop-input
invariant-loop-input g l = record { items : entries l.list ≡ added (g.S.Source.meaning l.source) (entries l.initial.list) (pairs_at l.row 0 l.input); tidy : Tidy (row_need 0) l.list }
