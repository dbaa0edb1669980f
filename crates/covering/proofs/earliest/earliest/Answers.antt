use Rattle.std.proofs.Common.{suc, ◌<◌, sym, subst, add-one, arith}
use Rattle.charts.specs.Sets.{ColumnSet}
use Rattle.charts.specs.Best.{problem}
use Rattle.fixed.specs.Sets.{member}
use Rattle.charts.specs.Sets.{Least, Settled}
use Rattle.reductions.specs.Trails.{taken, banned}
use Rattle.covering.proofs.Settling.{settled_found, settled_none_found, asks_apart}
use Rattle.covering.proofs.earliest.earliest.Goals as goal

pub find-requires : goal.find-requires
find-requires g c =
    let n = c.split.result in
    λ k h. asks_apart (member c.loop-j.best.set) (taken n) (banned n) c.loop-j.j k c.split.ensures h

pub loop-j-preserved-in_default : goal.loop-j-preserved-in_default
loop-j-preserved-in_default g c =
    let o = g.O.CostOrder in
    let me = c.args.order.now in
    let m = g.C.Chart.grid c.args.chart.now in
    let p = problem (o.meaning me) m in
    let s = member c.loop-j.best.set in
    let n = c.split.result in
    let j = c.loop-j.j in
    let inv = c.loop-j.invariant in
    let lt : j < m.width = omega (arith, c.columns-j-end.ensures) in
    (inv.0, rw add-one (settled_none_found p (o.laws me) s (taken n) (banned n) j lt c.split.ensures inv.1 c.in_default.ensures), inv.2)

pub loop-j-preserved : goal.loop-j-preserved
loop-j-preserved g c =
    let o = g.O.CostOrder in
    let me = c.args.order.now in
    let m = g.C.Chart.grid c.args.chart.now in
    let p = problem (o.meaning me) m in
    let s = member c.loop-j.best.set in
    let n = c.split.result in
    let j = c.loop-j.j in
    let inv = c.loop-j.invariant in
    let lt : j < m.width = omega (arith, c.columns-j-end.ensures) in
    let v = c.value_of-best in
    let e = sym v.ensures.set in
    let w = settled_found p (o.laws me) s (taken n) (banned n) j lt c.split.ensures (member c.in-Some.set) inv.0 inv.1 c.in-Some.ensures in (
      subst (λ (x : ColumnSet). Least p (member x)) e w.0,
      rw add-one (subst (λ (x : ColumnSet). Settled p (member x) (suc j)) e w.1),
      v.ensures.priced,
    )
