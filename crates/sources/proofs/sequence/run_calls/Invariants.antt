use Rattle.std.proofs.Common.{◌≡◌, [], ◌++◌, drop, vec_items}
use Rattle.sources.specs.Calls.{table}
use Rattle.sources.specs.Model.{answers}
use Rattle.sources.proofs.Following.{Agrees, so_far}
use Rattle.sources.proofs.sequence.run_calls.Given as goal

abbrev pub invariant-loop-call : goal.invariant-loop-call
invariant-loop-call l =
    (vec_items l.outcomes ++ answers (so_far l.call-index l.calls) (drop l.call-index l.calls) ≡ answers [] l.calls)
    × Agrees (table l.truth) (so_far l.call-index l.calls)
