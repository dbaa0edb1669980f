use Rattle.std.proofs.Common.{◌≡◌, nat_le, rules, tests}
use Rattle.std.proofs.lemmas.Iterator.{YieldsList-from_slice}
use Rattle.std.proofs.lemmas.Iterator.Search.{all_from_yields_List}
use Rattle.orders.specs.Kinds.{all_small}
use Rattle.orders.proofs.price.Price.set_prices.Goals as goal

pub invariant_of-self : goal.invariant_of-self
invariant_of-self c =
    let e : c.all.result ≡ all_small c.args.prices = all_from_yields_List (λ p. nat_le p 1000) _ _ _ c.all.ensures.ran (YieldsList-from_slice c.args.prices cc) (λ x b q k. search (rules, tests)) in
    record { small = cc }
