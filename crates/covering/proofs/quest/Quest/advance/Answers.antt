use Rattle.std.proofs.Common.{◌≡◌, ◌<◌, true, false, sym, ap, subst, arith}
use Rattle.charts.specs.Best.{problem}
use Rattle.fixed.specs.Sets.{member}
use Rattle.charts.specs.Sets.{Covers, fine}
use Rattle.reductions.specs.declared.node.Node.{Node}
use Rattle.reductions.specs.Trails.{taken, banned}
use Rattle.covering.specs.Seeking.{Barren}
use Rattle.covering.proofs.Walking.{leads_none, leads_reduce, leads_end, leads_back, less_take, leads_take, less_back}
use Rattle.covering.proofs.quest.Quest.advance.Goals as goal

pub loop-trail-init : goal.loop-trail-init
loop-trail-init g c =
    let o = g.O.CostOrder in
    let me = c.args.self.now.order.now in
    leads_none (problem (o.meaning me) (g.C.Chart.grid c.args.self.now.chart.now)) (o.laws me) c.args.self.now.strict (member c.args.self.now.bound.set) c.args.trail.now

pub returns-in-Found : goal.returns-in-Found
returns-in-Found g c =
    let o = g.O.CostOrder in
    let me = c.args.self.now.order.now in
    let p = problem (o.meaning me) (g.C.Chart.grid c.args.self.now.chart.now) in
    let bound = member c.args.self.now.bound.set in
    let st = c.args.self.now.strict in
    let w = c.reduce.new.trail in
    let Good : Node → Type 0 = λ n. Covers p.grid (taken n) × (fine p st bound (taken n) ≡ true) in
    let good : Good w.node = subst Good c.node.ensures c.in-Found.ensures in
    (leads_reduce p (o.laws me) st bound c.args.trail.now c.loop-trail.trail w c.loop-trail.invariant c.reduce.ensures, good.0, good.1, ap (λ (n : Node). n.taken) c.node-in-Found.ensures)

pub returns-then-not-back_up : goal.returns-then-not-back_up
returns-then-not-back_up g c =
    let o = g.O.CostOrder in
    let me = c.args.self.now.order.now in
    let p = problem (o.meaning me) (g.C.Chart.grid c.args.self.now.chart.now) in
    let bound = member c.args.self.now.bound.set in
    let st = c.args.self.now.strict in
    let s = c.args.trail.now in
    let w = c.reduce.new.trail in
    leads_end p (o.laws me) st bound s w (leads_reduce p (o.laws me) st bound s c.loop-trail.trail w c.loop-trail.invariant c.reduce.ensures)
    (subst (Barren p st bound) c.node.ensures c.in-Dead.ensures) (sym c.if-not-back_up.ensures.owed)

pub loop-trail-smaller-else-not-back_up : goal.loop-trail-smaller-else-not-back_up
loop-trail-smaller-else-not-back_up g c =
    let o = g.O.CostOrder in
    let me = c.args.self.now.order.now in
    let p = problem (o.meaning me) (g.C.Chart.grid c.args.self.now.chart.now) in
    let less = less_back p (o.laws me) c.args.self.now.strict (member c.args.self.now.bound.set) c.reduce.new.trail c.back_up.new.self c.if-not-back_up.ensures.steps (sym c.if-not-back_up.ensures.owed) in
    let falls = c.reduce.ensures.narrows.falls in
    omega arith

pub loop-trail-preserved-else-not-back_up : goal.loop-trail-preserved-else-not-back_up
loop-trail-preserved-else-not-back_up g c =
    let o = g.O.CostOrder in
    let me = c.args.self.now.order.now in
    let p = problem (o.meaning me) (g.C.Chart.grid c.args.self.now.chart.now) in
    let bound = member c.args.self.now.bound.set in
    let st = c.args.self.now.strict in
    let s = c.args.trail.now in
    let w = c.reduce.new.trail in
    let back = c.if-not-back_up.ensures in
    leads_back p (o.laws me) st bound s w c.back_up.new.self (leads_reduce p (o.laws me) st bound s c.loop-trail.trail w c.loop-trail.invariant c.reduce.ensures)
    (subst (Barren p st bound) c.node.ensures c.in-Dead.ensures) back.root back.steps (sym back.owed)

pub loop-trail-smaller : goal.loop-trail-smaller
loop-trail-smaller g c =
    let o = g.O.CostOrder in
    let me = c.args.self.now.order.now in
    let m = g.C.Chart.grid c.args.self.now.chart.now in
    let few = (g.met.C.Chart.small c.args.self.now.chart.now).few in
    let w = c.reduce.new.trail in
    let col = c.in-Take.column in
    let Free : Node → Type 0 = λ n. (col < m.width) × (taken n col ≡ false) × (banned n col ≡ false) in
    let free : Free w.node = subst Free c.node.ensures c.in-Take.ensures in
    let small = free.0 in
    let less = less_take (problem (o.meaning me) m) (o.laws me) c.args.self.now.strict (member c.args.self.now.bound.set) w c.fix.new.self col (omega arith) free.1 free.2 c.fix.ensures.steps in
    let falls = c.reduce.ensures.narrows.falls in
    omega arith

pub loop-trail-preserved : goal.loop-trail-preserved
loop-trail-preserved g c =
    let o = g.O.CostOrder in
    let me = c.args.self.now.order.now in
    let m = g.C.Chart.grid c.args.self.now.chart.now in
    let p = problem (o.meaning me) m in
    let few = (g.met.C.Chart.small c.args.self.now.chart.now).few in
    let bound = member c.args.self.now.bound.set in
    let st = c.args.self.now.strict in
    let s = c.args.trail.now in
    let w = c.reduce.new.trail in
    let col = c.in-Take.column in
    let Free : Node → Type 0 = λ n. (col < m.width) × (taken n col ≡ false) × (banned n col ≡ false) in
    let free : Free w.node = subst Free c.node.ensures c.in-Take.ensures in
    let small = free.0 in
    leads_take p (o.laws me) st bound w c.fix.new.self col (omega arith) free.1 free.2 c.fix.ensures.steps s
    (leads_reduce p (o.laws me) st bound s c.loop-trail.trail w c.loop-trail.invariant c.reduce.ensures) c.fix.ensures.root
