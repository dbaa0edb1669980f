use Rattle.std.proofs.Common.{◌≤◌, rules}
use Rattle.sources.proofs.Judging.{size_passes}
use Rattle.sources.proofs.Painting.{blank_marks}
use Rattle.sources.proofs.truth_table.TruthTable.size.Goals as goal

pub returns-clause-after : goal.returns-clause-after
returns-clause-after c =
    let a : 1 ≤ c.args.inputs = search rules in
    let b : c.args.inputs ≤ 8 = search rules in
    rw (size_passes c.args.inputs a b) (blank_marks c.args.inputs b)
