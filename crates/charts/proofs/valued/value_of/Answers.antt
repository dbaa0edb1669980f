use Rattle.std.proofs.Common.{◌≡◌, ◌+◌, ◌<◌, ◌≤◌, length, sym, ap, ◌∙◌, add-one, arith, rules}
use Rattle.fixed.specs.Sets.{member}
use Rattle.charts.specs.Sets.{down}
use Rattle.charts.proofs.Values.{value_more, down_short, down_with, down_less}
use Rattle.charts.proofs.valued.value_of.Goals as goal

pub overflow_add-size : goal.overflow_add-size
overflow_add-size g c =
    let few = (g.met.C.Chart.small c.args.chart.now).few in
    let h : c.loop-k.size ≤ 256 = omega (arith, down_short (member c.args.set.now) c.loop-k.k, c.loop-k.invariant.1, c.columns-k-end.ensures) in
    search rules

pub loop-k-preserved-then-not-contains : goal.loop-k-preserved-then-not-contains
loop-k-preserved-then-not-contains g c =
    let s = member c.args.set.now in
    let k = c.loop-k.k in
    let e : down s (k + 1) ≡ down s k = ap (down s) (add-one k) ∙ down_less s k (sym c.if-not-contains.ensures) in
    rw e c.loop-k.invariant

pub loop-k-preserved : goal.loop-k-preserved
loop-k-preserved g c =
    let o = g.O.CostOrder in
    let me = c.args.order.now in
    let s = member c.args.set.now in
    let k = c.loop-k.k in
    let few = (g.met.C.Chart.small c.args.chart.now).few in
    let lt : k < 256 = omega (arith, c.columns-k-end.ensures) in
    let has : s k ≡ _ = sym c.if-not-contains.ensures in
    let e : down s (k + 1) ≡ _ = ap (down s) (add-one k) ∙ down_with s k has in (
      value_more (o.laws me) (g.C.Chart.grid c.args.chart.now).term s k (o.exact me c.price-price.result) (o.exact me c.loop-k.total) (o.exact me c.join-total.result)
          has lt c.price-price.ensures c.loop-k.invariant.0 c.join-total.ensures.exact,
      omega (arith, ap length e, c.loop-k.invariant.1),
    )
