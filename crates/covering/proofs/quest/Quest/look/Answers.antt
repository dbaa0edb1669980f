use Rattle.std.proofs.Common.{true, false, refl}
use Rattle.std.proofs.Math.Logic.{∥∥₁_elim}
use mathlib.Core.Bool.{Bool-set}
use Rattle.charts.specs.Best.{problem}
use Rattle.fixed.specs.Sets.{member}
use Rattle.reductions.specs.Trails.{taken, banned}
use Rattle.covering.proofs.Lefts.{covers_from, none_left_from, left_free}
use Rattle.covering.proofs.Cuts.{cut, lost, tested}
use Rattle.covering.proofs.quest.Quest.look.Goals as goal

pub returns-then-not-is_fine : goal.returns-then-not-is_fine
returns-then-not-is_fine g c =
    let o = g.O.CostOrder in
    let me = c.args.self.now.order.now in
    let p = problem (o.meaning me) (g.C.Chart.grid c.args.self.now.chart.now) in
    let few = (g.met.C.Chart.small c.args.self.now.chart.now).few in
    let n = c.args.node.now in
    let bound = c.args.self.now.bound in
    let here = c.value_of-here in
    cut p (o.laws me) c.args.self.now.strict (member bound.set) (taken n) (banned n)
    (∥∥₁_elim c.args.self.now.priced (Bool-set _ _) (λ value.
    tested p few c.args.self.now.strict (taken n) (member bound.set) (o.exact me here.result.total) (o.exact me bound.total) here.result.size bound.size false
    record { total = here.ensures.total; size = here.ensures.size } value c.if-not-is_fine.ensures))

pub returns-in_default : goal.returns-in_default
returns-in_default g c =
    let o = g.O.CostOrder in
    let me = c.args.self.now.order.now in
    let p = problem (o.meaning me) (g.C.Chart.grid c.args.self.now.chart.now) in
    let few = (g.met.C.Chart.small c.args.self.now.chart.now).few in
    let n = c.args.node.now in
    let bound = c.args.self.now.bound in
    let here = c.value_of-here in (
      covers_from p.grid (taken n) (c.in_default.ensures.none refl),
      ∥∥₁_elim c.args.self.now.priced (Bool-set _ _) (λ value.
          tested p few c.args.self.now.strict (taken n) (member bound.set) (o.exact me here.result.total) (o.exact me bound.total) here.result.size bound.size true
          record { total = here.ensures.total; size = here.ensures.size } value c.if-not-is_fine.ensures),
    )

pub returns-in_default-widest_column : goal.returns-in_default-widest_column
returns-in_default-widest_column g c =
    let o = g.O.CostOrder in
    let me = c.args.self.now.order.now in
    let p = problem (o.meaning me) (g.C.Chart.grid c.args.self.now.chart.now) in
    let n = c.args.node.now in
    lost p (o.laws me) c.args.self.now.strict (member c.args.self.now.bound.set) (taken n) (banned n) c.in-Some.need c.in-Some.ensures.there (none_left_from p.grid (banned n) c.in-Some.need (c.in_default-widest_column.ensures.none refl))

pub returns : goal.returns
returns g c =
    let m = g.C.Chart.grid c.args.self.now.chart.now in
    let n = c.args.node.now in
    let col = c.in-Some-widest_column.ensures in
    let free = left_free m (taken n) (banned n) c.in-Some.need c.in-Some-widest_column.column c.in-Some.ensures.unheld col.there col.left in
    (col.there, free.0, free.1)
