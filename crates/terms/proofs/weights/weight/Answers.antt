-- The whole table is the list of the 256 weights, by computation; each entry then is one of them.
use Rattle.std.proofs.Common.{◌<◌, arith, rules}
use Rattle.std.proofs.lemmas.List.FromFn.{get_or-map-range_with_len}
use Rattle.terms.specs.Terms.{weight, sum_below}
use Rattle.terms.proofs.weights.weight.Goals as goal

pub returns : goal.returns
unfolding sum_below
returns c =
    let h : c.args.mask < 256 = search rules in
    get_or-map-range_with_len weight 0 256 c.args.mask c.args.mask 0 h (omega arith)
