use Rattle.std.proofs.Common.{◌<◌, false, sym, subst, arith}
use Rattle.fixed.specs.Sets.{member}
use Rattle.charts.specs.Best.{problem}
use Rattle.reductions.specs.Goals.{Narrowed}
use Rattle.reductions.specs.declared.node.Node.{Node}
use Rattle.reductions.specs.declared.trail.Trail.{Trail}
use Rattle.reductions.specs.Spares.{Enough, Spare}
use Rattle.reductions.specs.Trails.{taken, banned}
use Rattle.reductions.proofs.Stepping.{free_parts}
use Rattle.reductions.proofs.Reading.{spare_from}
use Rattle.reductions.proofs.Narrowing.{spared, enough_kept}
use Rattle.reductions.proofs.Trailing.{narrowed_more, narrowed_fix, fix_keeps_taken, fix_keeps_banned}
use Rattle.reductions.proofs.reducing.drop_columns.Goals as goal
use Rattle.reductions.proofs.reducing.drop_columns.Goals.{then-is_free+then-is_spare, else-is_free}

pub loop-column-preserved : goal.loop-column-preserved
loop-column-preserved g c =
    let o = g.O.CostOrder in
    let m = g.C.Chart.grid c.args.chart.now in
    let p = problem (o.meaning c.args.order.now) m in
    let s = c.loop-column.trail in
    let a = c.loop-column.column in
    let needs = c.needs_to_hold-needs.result in
    let ns = member needs in
    let la : a < m.width = omega (arith, c.columns-column-end.ensures) in
    let narrowed = c.loop-column.invariant.0 in
    let enough = c.loop-column.invariant.1 in
    let Stays : Trail → Type 0 = λ x. Narrowed p c.args.trail.now x × Enough m (taken x.node) (banned x.node) ns in
    elim c.if-is_free.branch [
      | then-is_free+then-is_spare w ↦
          let s' = w.fix.new.self in
          let free = free_parts (taken s.node) (banned s.node) a (sym w.if-is_free.ensures) in
          let Spares : Node → Type 0 = λ x. Spare p (banned x) ns a in
          let spare : Spares s.node = subst Spares w.node-then-is_free.ensures (spare_from p (banned w.node-then-is_free.result.now) ns a (sym w.if-is_spare.ensures)) in
          subst Stays (sym w.trail-is) (
            narrowed_more p c.args.trail.now s s' narrowed
                (narrowed_fix p s s' a false w.fix.ensures.root w.fix.ensures.steps
                (λ st bd. spared p (o.laws c.args.order.now) st bd (taken s.node) (banned s.node) ns enough a la free.1 spare)),
            enough_kept m (taken s.node) (banned s.node) (taken s'.node) (banned s'.node) ns
                (fix_keeps_taken p s s' a false w.fix.ensures.root w.fix.ensures.steps)
                (fix_keeps_banned p s s' a false w.fix.ensures.root w.fix.ensures.steps) enough,
          )
      | else-is_free w ↦ subst Stays (sym w.trail-is) c.loop-column.invariant
    ]
