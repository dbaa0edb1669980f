use Rattle.std.proofs.Common.{◌≡◌, ℕ, ◌<◌, true, ◌⊎◌, sym, subst, arith}
use Rattle.charts.specs.Best.{problem}
use Rattle.reductions.specs.Goals.{Narrowed}
use Rattle.reductions.specs.declared.node.Node.{Node}
use Rattle.reductions.specs.declared.trail.Trail.{Trail}
use Rattle.reductions.specs.Trails.{taken, banned}
use Rattle.reductions.proofs.Narrowing.{single}
use Rattle.reductions.proofs.Trailing.{narrowed_more, narrowed_fix}
use Rattle.reductions.proofs.reducing.take_singles.Goals as goal
use Rattle.reductions.proofs.reducing.take_singles.Goals.{then-not-held_by+in-Some, else-not-held_by}

pub loop-need-preserved : goal.loop-need-preserved
loop-need-preserved g c =
    let o = g.O.CostOrder in
    let m = g.C.Chart.grid c.args.chart.now in
    let p = problem (o.meaning c.args.order.now) m in
    let s = c.loop-need.trail in
    let i = c.loop-need.need in
    let li : i < m.wanted = omega (arith, c.needs-need-end.ensures) in
    let Stays : Trail → Type 0 = λ x. Narrowed p c.args.trail.now x in
    elim c.if-not-held_by.branch [
      | then-not-held_by+in-Some w ↦
          let k = w.in-Some.column in
          let Only : Node → Type 0 = λ n. (c : ℕ) → c < m.width → m.held c i ≡ true → (banned n c ≡ true) ⊎ (c ≡ k) in
          let only : Only s.node = subst Only w.node-in-loop-need.ensures w.in-Some.ensures.alone in
          subst Stays (sym w.trail-is)
          (narrowed_more p c.args.trail.now s w.fix.new.self c.loop-need.invariant
          (narrowed_fix p s w.fix.new.self k true w.fix.ensures.root w.fix.ensures.steps
          (λ st bd. single p (o.laws c.args.order.now) st bd (taken s.node) (banned s.node) i k li only)))
      | else-not-held_by w ↦ subst Stays (sym w.trail-is) c.loop-need.invariant
    ]
