use Rattle.std.proofs.Common.{◌<◌, Bool, not, nat_lt, ◌&&◌, sym, ap, ◌∙◌, inl, inr, arith}
use Rattle.std.proofs.lemmas.Bool.{cases_lt, lt-ltb, le-ltb, and_left}
use Rattle.fixed.specs.Sets.{member}
use Rattle.charts.specs.Sets.{is_held}
use Rattle.charts.proofs.Holding.{held_from, unheld_from, open_held, open_unheld}
use Rattle.reductions.proofs.needs.methods.open_needs.Goals as goal

pub returns-clause-value : goal.returns-clause-value
returns-clause-value g c i =
    let m = g.C.Chart.grid c.args.chart.now in
    let loose = not (is_held m (member c.args.columns.now) i) in
    let end = c.needs.ensures in
    elim (cases_lt i m.wanted) [
      | inl low ↦
          let small : i < 1280 = omega (arith, (g.met.C.Chart.small c.args.chart.now).deep) in
          c.from_fn_below.ensures.judged i small (omega arith) ∙ sym (ap (λ (x : Bool). x && loose) (lt-ltb i m.wanted low))
      | inr high ↦ c.from_fn_below.ensures.past i (omega arith) ∙ sym (and_left (nat_lt i m.wanted) loose (le-ltb i m.wanted high))
    ]

pub returns-clause-closed : goal.returns-clause-closed
returns-clause-closed g c i l h =
    let m = g.C.Chart.grid c.args.chart.now in
    let s = member c.args.columns.now in
    held_from m s i (open_held i m.wanted (member c.from_fn_below.result i) (is_held m s i) l (returns-clause-value g c i) h)

pub returns-clause-loose : goal.returns-clause-loose
returns-clause-loose g c i l h =
    let m = g.C.Chart.grid c.args.chart.now in
    let s = member c.args.columns.now in
    unheld_from m s i (open_unheld i m.wanted (member c.from_fn_below.result i) (is_held m s i) l (returns-clause-value g c i) h)
