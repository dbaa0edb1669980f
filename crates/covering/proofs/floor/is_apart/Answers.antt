use Rattle.std.proofs.Common.{not, ◌∙◌, rules, tests, arith}
use Rattle.std.proofs.lemmas.Iterator.{YieldsList-from_range}
use Rattle.std.proofs.lemmas.Iterator.Consumers.{YieldsList-from_filter}
use Rattle.std.proofs.lemmas.Iterator.Search.{all_from_yields_List}
use Rattle.fixed.specs.Sets.{member}
use Rattle.reductions.specs.Spares.{is_left}
use Rattle.reductions.specs.Trails.{taken, banned}
use Rattle.covering.proofs.Lefts.{apart_either}
use Rattle.covering.proofs.floor.is_apart.Goals as goal

pub returns : goal.returns
returns g c =
    let m = g.C.Chart.grid c.args.chart.now in
    let t = taken c.args.node.now in
    let b = banned c.args.node.now in
    let i = c.args.need in
    all_from_yields_List (λ k. not (is_left m b i k)) _ _ c.all.result c.all.ensures.ran
    (YieldsList-from_filter _ _ (YieldsList-from_range 0 m.width m.width (cc) (omega arith)) c.filter.ensures.closure (λ x r q k. search (rules, tests)))
    (λ x r q k. search (rules, tests))
    ∙ apart_either m t b (member c.args.used.now) i
