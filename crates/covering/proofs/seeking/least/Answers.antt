use Rattle.std.proofs.Common.{◌≡◌, ℕ, false, sym, refl, ◌∙◌, subst, arith}
use Rattle.charts.specs.Sets.{ColumnSet}
use Rattle.charts.specs.Best.{problem}
use Rattle.fixed.specs.Sets.{member}
use Rattle.charts.specs.Sets.{Covers, Least}
use Rattle.fixed.proofs.Members.{no_member, every_member}
use Rattle.reductions.specs.declared.node.Node.{Node}
use Rattle.reductions.specs.Trails.{taken, banned}
use Rattle.covering.proofs.Walking.{Chasing, chasing_start, chasing_done, chasing_on, chasing_last, chasing_less}
use Rattle.covering.proofs.seeking.least.Goals as goal

pub loop-set-init : goal.loop-set-init
loop-set-init g c =
    let o = g.O.CostOrder in
    let me = c.args.order.now in
    let m = g.C.Chart.grid c.args.chart.now in
    let p = problem (o.meaning me) m in
    let few = (g.met.C.Chart.small c.args.chart.now).few in
    let v = c.value_of-best in
    let e = sym v.ensures.set in (
      subst (λ (x : ColumnSet). Covers m (member x)) e (λ i l. let w = c.requires i l in let k = w.1 in (w.0, w.1, every_member 256 c.all.result.on c.all.ensures w.0 (omega arith), w.3)),
      v.ensures.priced,
      chasing_start p (o.laws me) c.new-trail.result.root (member v.result.set) c.new-trail.result refl c.new-trail.ensures.steps,
    )

pub returns-in_default : goal.returns-in_default
returns-in_default g c =
    let o = g.O.CostOrder in
    let me = c.args.order.now in
    let p = problem (o.meaning me) (g.C.Chart.grid c.args.chart.now) in
    let root = c.new-trail.result.root in
    let r = sym c.new-trail.ensures.root in
    let inv = c.loop-set.invariant in
    record {
      least = chasing_done p (o.laws me) root (member c.loop-set.best.set) c.loop-set.trail inv.2
          (subst (λ (n : Node). (k : ℕ) → taken n k ≡ false) r (no_member 256 c.none.result.on c.none.ensures))
          (subst (λ (n : Node). (k : ℕ) → banned n k ≡ false) r (no_member 256 c.none-2.result.on c.none-2.ensures))
          inv.0 c.in_default.ensures;
      value = inv.1;
    }

pub returns-then-not-back_up : goal.returns-then-not-back_up
returns-then-not-back_up g c =
    let o = g.O.CostOrder in
    let me = c.args.order.now in
    let m = g.C.Chart.grid c.args.chart.now in
    let p = problem (o.meaning me) m in
    let root = c.new-trail.result.root in
    let r = sym c.new-trail.ensures.root in
    let inv = c.loop-set.invariant in
    let w = c.advance.new.trail in
    let ended = c.in-Some.ensures in
    let v = c.value_of-best-in-loop-set in
    let e = sym v.ensures.set in
    let f : w.node.taken ≡ v.result.set = sym ended.3 ∙ e in
    record {
      least = subst (λ (x : ColumnSet). Least p (member x)) f
          (chasing_last p (o.laws me) root (member c.loop-set.best.set) c.loop-set.trail w inv.2 ended.0 ended.2
          (subst (λ (n : Node). (k : ℕ) → taken n k ≡ false) r (no_member 256 c.none.result.on c.none.ensures))
          (subst (λ (n : Node). (k : ℕ) → banned n k ≡ false) r (no_member 256 c.none-2.result.on c.none-2.ensures))
          ended.1 (sym c.if-not-back_up.ensures.owed));
      value = v.ensures.priced;
    }

pub loop-set-smaller : goal.loop-set-smaller
loop-set-smaller g c =
    let o = g.O.CostOrder in
    let me = c.args.order.now in
    let p = problem (o.meaning me) (g.C.Chart.grid c.args.chart.now) in
    let inv = c.loop-set.invariant in
    let ended = c.in-Some.ensures in
    chasing_less p (o.laws me) c.new-trail.result.root (member c.loop-set.best.set) c.loop-set.trail c.advance.new.trail inv.2 ended.0 ended.2
    c.back_up.new.self c.if-not-back_up.ensures.steps (sym c.if-not-back_up.ensures.owed)

pub loop-set-preserved : goal.loop-set-preserved
loop-set-preserved g c =
    let o = g.O.CostOrder in
    let me = c.args.order.now in
    let m = g.C.Chart.grid c.args.chart.now in
    let p = problem (o.meaning me) m in
    let root = c.new-trail.result.root in
    let inv = c.loop-set.invariant in
    let w = c.advance.new.trail in
    let ended = c.in-Some.ensures in
    let back = c.if-not-back_up.ensures in
    let v = c.value_of-best-in-loop-set in
    let e = sym v.ensures.set in
    let f : w.node.taken ≡ v.result.set = sym ended.3 ∙ e in (
      subst (λ (x : ColumnSet). Covers m (member x)) f ended.1,
      v.ensures.priced,
      subst (λ (x : ColumnSet). Chasing p (o.laws me) root (member x) c.back_up.new.self) f
          (chasing_on p (o.laws me) root (member c.loop-set.best.set) c.loop-set.trail w inv.2 ended.0 ended.2 c.back_up.new.self back.root back.steps (sym back.owed)),
    )
