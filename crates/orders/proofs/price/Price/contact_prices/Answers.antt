use Rattle.std.proofs.Common.{◌≡◌, ℕ, suc, ◌+◌, ◌*◌, ◌^◌, List, get_or, refl, ◌∙◌, arith, rules, tests}
use Rattle.std.specs.List.{range_with_len}
use Rattle.std.proofs.lemmas.Iterator.{YieldsList-from_range, YieldsList-from_map}
use Rattle.std.proofs.lemmas.Iterator.Consumers.{sum_by_from_yields_List}
use Rattle.std.proofs.lemmas.Iterator.Adapters.{fits_from_length, at_most_from_yields_List}
use Rattle.terms.specs.Terms.{bit}
use Rattle.orders.proofs.Small.{small_at, bit_price, prices_summed}
use Rattle.orders.proofs.price.Price.contact_prices.Goals as goal

pub sum-requires-clause-fits : goal.sum-requires-clause-fits
sum-requires-clause-fits c =
    let ps : List ℕ = c.args.self.now.prices in
    let m : ℕ = c.args.term.mask in
    fits_from_length _ _ 8 (2 ^ 64) (at_most_from_yields_List (YieldsList-from_range 0 8 8 (cc) refl) (omega arith))
    c.map.ensures.closure (omega arith)
    (λ x r q k. (search rules, (let small = small_at ps (suc x) c.args.self.now.small in let part = bit_price m x (get_or ps (suc x) 0) in let e : r ≡ bit m x * get_or ps (suc x) 0 = search (rules, tests) in omega arith)))

pub returns : goal.returns
returns c =
    let ps : List ℕ = c.args.self.now.prices in
    let m : ℕ = c.args.term.mask in
    let h : ℕ → ℕ = λ i. bit m i * get_or ps (suc i) 0 in
    sum_by_from_yields_List h (range_with_len 0 8) c.map.result c.sum.result c.sum.ensures.ran
    (YieldsList-from_map _ h (YieldsList-from_range 0 8 8 (cc) refl) c.map.ensures.closure (λ x r q k. search (rules, tests)))
    ∙ prices_summed ps m
