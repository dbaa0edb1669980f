use Rattle.std.proofs.Common.{ℕ, ◌^◌, ◌<◌, sym, arith}
use lib.Seq.{take-set-lt}
use Rattle.sources.proofs.Judging.{mark_passes, code_named}
use Rattle.sources.proofs.Painting.{table_eq}
use Rattle.sources.proofs.truth_table.TruthTable.mark.Goals as goal

pub returns-clause-after : goal.returns-clause-after
returns-clause-after c =
    let n : ℕ = c.args.self.now.inputs in
    let h : c.args.row < 2 ^ n = omega arith in
    let k = code_named c.args.code c.in_ok-self.field-0 (sym c.in_ok-self.ensures.value) in
    rw (mark_passes n c.args.row c.args.code h k.0, k.1) (table_eq n _ _ (take-set-lt (2 ^ n) c.args.self.now.marks c.args.row c.in_ok-self.field-0 h))
