use Rattle.std.proofs.Common.{◌<◌, sym, ◌∙◌, arith}
use Rattle.std.proofs.Math.Logic.{∥∥₁_elim}
use Rattle.std.proofs.lemmas.Bool.{not-true}
use Rattle.charts.specs.Best.{problem}
use Rattle.fixed.specs.Sets.{member}
use Rattle.charts.proofs.Values.{down_short}
use Rattle.reductions.specs.Trails.{taken, banned}
use Rattle.fixed.proofs.Members.{none_past}
use Rattle.covering.proofs.Lefts.{apart_from, cheapest_from, used_marks, used_keeps}
use Rattle.covering.proofs.Flooring.{floor_start, floor_more, floor_ends}
use Rattle.covering.proofs.quest.Quest.is_hopeless.Goals as goal

pub loop-need-init : goal.loop-need-init
loop-need-init g c =
    let o = g.O.CostOrder in
    let me = c.args.self.now.order.now in
    let m = g.C.Chart.grid c.args.self.now.chart.now in
    let n = c.args.node.now in
    let here = c.args.here.now in
    let few = (g.met.C.Chart.small c.args.self.now.chart.now).few in (
      floor_start (problem (o.meaning me) m) (o.laws me) c.args.self.now.strict (member c.args.self.now.bound.set) (taken n) (banned n) (member c.none-used.result) (o.exact me here.total) here.size c.requires,
      omega (arith, c.requires.size, down_short (taken n) m.width),
    )

pub loop-need-preserved : goal.loop-need-preserved
loop-need-preserved g c =
    let o = g.O.CostOrder in
    let me = c.args.self.now.order.now in
    let m = g.C.Chart.grid c.args.self.now.chart.now in
    let n = c.args.node.now in
    let low = c.loop-need.low in
    let few = (g.met.C.Chart.small c.args.self.now.chart.now).few in
    let li : c.loop-need.need < m.wanted = omega (arith, c.needs-need-end.ensures) in (
      floor_more (problem (o.meaning me) m) (o.laws me) c.args.self.now.strict (member c.args.self.now.bound.set) (taken n) (banned n)
          (member c.loop-need.used) (member c.use_columns.new.used) (o.exact me low.total) (o.exact me c.price-price.result) (o.exact me c.join-low.result) low.size c.loop-need.need c.in-Some.column
          c.loop-need.invariant.0 c.if-low-ge256.false li c.price-price.ensures (apart_from m (taken n) (banned n) (member c.loop-need.used) c.loop-need.need (sym c.if-not-is_apart.ensures)) (cheapest_from (problem (o.meaning me) m) (o.laws me) (banned n) c.loop-need.need c.in-Some.column (sym c.in-Some.ensures)) (used_marks m (banned n) (member c.loop-need.used) (member c.use_columns.new.used) c.loop-need.need few c.use_columns.ensures) (used_keeps m (banned n) (member c.loop-need.used) (member c.use_columns.new.used) c.loop-need.need few c.use_columns.ensures (none_past 256 c.loop-need.used)) c.join-low.ensures.exact,
      omega arith,
    )

pub returns : goal.returns
returns g c =
    let o = g.O.CostOrder in
    let me = c.args.self.now.order.now in
    let m = g.C.Chart.grid c.args.self.now.chart.now in
    let n = c.args.node.now in
    let bound = c.args.self.now.bound in
    let low = c.loop-need.low in
    let few = (g.met.C.Chart.small c.args.self.now.chart.now).few in
    λ e d good. ∥∥₁_elim c.args.self.now.priced (λ a b. absurd a) (λ value.
    floor_ends (problem (o.meaning me) m) (o.laws me) c.args.self.now.strict (member bound.set) (taken n) (banned n) (member c.loop-need.used) (o.exact me low.total) (o.exact me bound.total) low.size bound.size
    few c.loop-need.invariant.1 c.loop-need.invariant.0 value
    (λ ts us x y i j. sym (not-true _ e) ∙ c.is_fine.ensures ts us x y i j) d good)
