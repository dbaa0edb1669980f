use Rattle.std.proofs.Common.{rules, tests, arith}
use Rattle.std.proofs.lemmas.Iterator.{YieldsList-from_range}
use Rattle.std.proofs.lemmas.Iterator.Consumers.{YieldsList-from_filter}
use Rattle.covering.proofs.Picking.{none_picked}
use Rattle.covering.proofs.choosing.widest_column.Goals as goal

pub returns-clause-none : goal.returns-clause-none
returns-clause-none g c h =
    let n = (g.C.Chart.grid c.args.chart.now).width in
    none_picked _ c.filter.result _ c.min_by_key.result c.min_by_key.ensures.ran h
    (YieldsList-from_filter _ _ (YieldsList-from_range 0 n n (cc) (omega arith)) c.filter.ensures.closure (λ x r q k. search (rules, tests)))
