use Rattle.std.proofs.Common.{◌≡◌, ℕ, ◌<◌, ◌+◌, Bool, false, List, get_or, nat_lt, ◌&&◌, ◌||◌, length, sym, ap, ◌∙◌, subst, arith}
use Rattle.fixed.specs.Sets.{member}
use Rattle.fixed.specs.declared.set.FixedSet.{FixedSet}
use Rattle.fixed.proofs.Members.{put_in}
use Rattle.reductions.specs.Spares.{is_left}
use Rattle.covering.proofs.Lefts.{used_in, used_out}
use Rattle.covering.proofs.floor.use_columns.Goals as goal
use Rattle.covering.proofs.floor.use_columns.Goals.{then-is_left, else-is_left}

pub loop-column-preserved : goal.loop-column-preserved
loop-column-preserved g c =
    let m = g.C.Chart.grid c.args.chart.now in
    let few = (g.met.C.Chart.small c.args.chart.now).few in
    let p : ℕ → Bool = is_left m (member c.args.left_out.now) c.args.need in
    let u : ℕ → Bool = member c.args.used.now in
    let j = c.loop-column.column in
    let s = c.loop-column.used in
    let Marks : FixedSet 256 → Type 0 = λ x. (k : ℕ) → k < 256 → member x k ≡ (u k || (nat_lt k (j + 1) && p k)) in
    elim c.if-is_left.branch [
      | then-is_left w ↦
          let within : j < length s.on = omega (arith, s.full, c.columns-column-end.ensures) in
          subst Marks (sym w.used-is)
          (λ k l. used_in p u j k (member s k) (member w.insert.new.self k) (sym w.if-is_left.ensures) (c.loop-column.invariant k l)
          (ap (λ (ys : List Bool). get_or ys k false) w.insert.ensures ∙ put_in s.on j k within))
      | else-is_left w ↦
          subst Marks (sym w.used-is)
          (λ k l. used_out p u j k (member s k) (sym w.if-is_left.ensures) (c.loop-column.invariant k l))
    ]
