use Rattle.std.proofs.Common.{◌≡◌}
use Rattle.fixed.specs.Lists.{entries, Tidy}
use Rattle.primes.specs.Needs.{row_need, pairs, added}
use Rattle.primes.proofs.needs.add_pairs.Given as goal

abbrev pub invariant-loop-row : goal.invariant-loop-row
invariant-loop-row g l = record { items : entries l.list ≡ added (g.S.Source.meaning l.source) (entries l.initial.list) (pairs (g.S.Source.meaning l.source).inputs 0 l.row); tidy : Tidy (row_need 0) l.list }
