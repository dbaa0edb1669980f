use Rattle.std.proofs.Common.{Bool, false, List, get_or, sym, ap, ◌∙◌, subst, get_or-set_other}
use Rattle.fixed.specs.Sets.{member}
use Rattle.fixed.specs.declared.set.FixedSet.{FixedSet}
use Rattle.reductions.specs.Spares.{Enough}
use Rattle.reductions.specs.Trails.{taken, banned}
use Rattle.reductions.proofs.Reading.{implied_from}
use Rattle.reductions.proofs.Narrowing.{enough_open, enough_less}
use Rattle.reductions.proofs.needs.methods.needs_to_hold.Goals as goal
use Rattle.reductions.proofs.needs.methods.needs_to_hold.Goals.{then-contains+then-is_implied, else-contains}

pub loop-need-init : goal.loop-need-init
loop-need-init g c =
    enough_open (g.C.Chart.grid c.args.chart.now) (taken c.args.node.now) (banned c.args.node.now) (member c.open_needs-needs.result) c.open_needs-needs.ensures.closed

pub loop-need-preserved : goal.loop-need-preserved
loop-need-preserved g c =
    let m = g.C.Chart.grid c.args.chart.now in
    let t = taken c.args.node.now in
    let b = banned c.args.node.now in
    let before = c.loop-need.needs in
    let j = c.loop-need.need in
    let Stays : FixedSet 1280 → Type 0 = λ s. Enough m t b (member s) in
    elim c.if-contains.branch [
      | then-contains+then-is_implied w ↦
          subst Stays (sym w.needs-is)
          (enough_less m t b (member before) (member w.remove.new.self) j c.loop-need.invariant (implied_from m b (member before) j (sym w.if-is_implied.ensures))
          (λ k ne. ap (λ (ys : List Bool). get_or ys k false) w.remove.ensures ∙ get_or-set_other before.on j k false false ne))
      | else-contains w ↦ subst Stays (sym w.needs-is) c.loop-need.invariant
    ]
