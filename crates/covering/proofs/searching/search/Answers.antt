use Rattle.std.proofs.Common.{◌≡◌, ℕ, true, false, ◌&&◌, ltb, sym, refl, ap, ◌∙◌, ⊎_elim, arith}
use Rattle.std.proofs.lemmas.Bool.{cases_Bool, false≢true}
use Rattle.charts.specs.Best.{problem, columns, covering}
use Rattle.fixed.specs.Sets.{member}
use Rattle.charts.specs.Sets.{Covers}
use Rattle.fixed.proofs.Members.{every_member}
use Rattle.charts.proofs.Listings.{whole_covers, covers_whole, best_set_lem, members_cut, listed_best, total_best, size_best}
use Rattle.covering.proofs.Lefts.{covers_all, all_covered}
use Rattle.covering.proofs.searching.search.Goals as goal

pub returns-then-not-covers : goal.returns-then-not-covers
returns-then-not-covers g c =
    let o = g.O.CostOrder in
    let me = c.args.order.now in
    let m = g.C.Chart.grid c.args.chart.now in
    let p = problem (o.meaning me) m in
    let few = (g.met.C.Chart.small c.args.chart.now).few in
    let all : Covers m (λ _. true) → Covers m (member c.all.result) = λ h i l. let w = h i l in let k = w.1 in (w.0, w.1, every_member 256 c.all.result.on c.all.ensures w.0 (omega arith), w.3) in
    record {
      answered = ⊎_elim
          (λ (e : covering m (columns m) ≡ true). absurd (false≢true (c.if-not-covers.ensures ∙ all_covered m (member c.all.result) (all (whole_covers p (o.laws me) e)))))
          (λ (e : covering m (columns m) ≡ false). sym e)
          (cases_Bool (covering m (columns m)));
      set = tt;
      size = tt;
      total = tt;
      best = best_set_lem p (o.laws me);
    }

pub least-good-requires : goal.least-good-requires
least-good-requires g c = λ i l. let w = covers_all (g.C.Chart.grid c.args.chart.now) (member c.all.result) (sym c.if-not-covers.ensures) i l in (w.0, w.1, refl, w.3)

pub returns : goal.returns
returns g c =
    let o = g.O.CostOrder in
    let me = c.args.order.now in
    let m = g.C.Chart.grid c.args.chart.now in
    let p = problem (o.meaning me) m in
    let few = (g.met.C.Chart.small c.args.chart.now).few in
    let whole : Covers m (λ _. true) = λ i l. let w = covers_all (g.C.Chart.grid c.args.chart.now) (member c.all.result) (sym c.if-not-covers.ensures) i l in (w.0, w.1, refl, w.3) in
    let s = member c.earliest-best.result.set in
    let first = c.earliest-best.ensures.first in
    let value = c.earliest-best.ensures.value in
    record {
      answered = sym (covers_whole p (o.laws me) whole);
      set = members_cut 256 m.width s (member c.below.result) few (λ i. c.below.ensures i ∙ ap (λ (n : ℕ). s i && ltb i n) c.columns.ensures) ∙ listed_best p (o.laws me) s whole first;
      size = value.size ∙ size_best p (o.laws me) s whole first;
      total = value.total ∙ total_best p (o.laws me) s whole first;
      best = best_set_lem p (o.laws me);
    }
