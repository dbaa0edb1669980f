use Rattle.std.proofs.Common.{refl, ◌∙◌, ℕ, ◌+◌, ◌*◌, ◌/◌, ◌%◌, ◌^◌, arith, rules, tests}
use Rattle.std.specs.List.{range_with_len}
use Rattle.std.proofs.lemmas.Iterator.{YieldsList-from_map, YieldsList-from_range}
use Rattle.std.proofs.lemmas.Iterator.Consumers.{fits_by_from_yields_list, sum_by_from_yields_List}
use Rattle.primes.proofs.BaseThree.{byte_by_bits, byte_lt}
use Rattle.primes.proofs.digits.byte_at.Goals as goal

pub sum-requires-clause-fits : goal.sum-requires-clause-fits
sum-requires-clause-fits c =
    let h : ℕ → ℕ = λ i. (c.args.x / 3 ^ i % 3 + c.args.plus) / 2 * 2 ^ i in
    fits_by_from_yields_list h (range_with_len 0 8) c.map.result _
    (YieldsList-from_map _ h (YieldsList-from_range 0 8 8 (cc) refl) c.map.ensures.closure (λ x r q k. search (rules, tests)))
    (omega (arith, byte_by_bits c.args.plus c.requires c.args.x 8, byte_lt c.args.plus 8 c.args.x))

pub returns : goal.returns
returns c =
    let h : ℕ → ℕ = λ i. (c.args.x / 3 ^ i % 3 + c.args.plus) / 2 * 2 ^ i in
    sum_by_from_yields_List h (range_with_len 0 8) c.map.result c.sum.result c.sum.ensures.ran
    (YieldsList-from_map _ h (YieldsList-from_range 0 8 8 (cc) refl) c.map.ensures.closure (λ x r q k. search (rules, tests)))
    ∙ byte_by_bits c.args.plus c.requires c.args.x 8
