use Rattle.std.proofs.Common.{◌^◌, ◌<◌, refl, arith, get_or-take}
use Rattle.terms.specs.declared.mark.Mark.TheVariants.{Off}
use Rattle.sources.proofs.Judging.{look_passes}
use Rattle.sources.proofs.truth_table.source.TruthTableSource.look.Goals as goal

pub returns : goal.returns
returns c =
    let h : c.args.row < 2 ^ c.args.self.now.inputs = omega arith in
    rw (look_passes c.args.self.now.inputs c.args.row h, get_or-take (2 ^ c.args.self.now.inputs) c.args.self.now.marks c.args.row Off h) refl
