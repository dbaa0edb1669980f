use Rattle.std.proofs.Common.{true, sym}
use Rattle.fixed.specs.Sets.{member}
use Rattle.reductions.specs.Spares.{is_left}
use Rattle.reductions.proofs.Reading.{only_from, none_else}
use Rattle.reductions.proofs.columns_left.only_column.Goals as goal

pub returns : goal.returns
returns g c =
    let m = g.C.Chart.grid c.args.chart.now in
    let b = member c.args.banned.now in
    let i = c.args.need in
    let one = c.in_ok-only.only in
    let first = c.in_ok-only.ensures in
    only_from m b (λ _. true) i one first.there first.left (none_else (is_left m b i) one m.width first.there first.first (sym c.if-has_another.ensures))
