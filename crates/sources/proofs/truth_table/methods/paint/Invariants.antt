use Rattle.std.proofs.Common.{◌≡◌}
use Rattle.terms.specs.Terms.{holds}
use Rattle.sources.proofs.Painting.{begun}
use Rattle.sources.proofs.truth_table.methods.paint.Given as goal

abbrev pub invariant-loop-row : goal.invariant-loop-row
invariant-loop-row l = l.marks ≡ begun (holds l.term) l.mark l.row 0 l.initial.marks
