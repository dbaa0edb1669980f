use Rattle.std.proofs.Common.{rules, arith, ◌≡◌, ◌∙◌, string_bytes, tests}
use Rattle.std.proofs.lemmas.Iterator.{YieldsList-from_range, YieldsList-from_map, text_from_collect}
use Rattle.std.proofs.lemmas.Result.{IfOk-weaker}
use Rattle.terms.specs.Terms.{written}
use Rattle.terms.proofs.Writing.{symbol_at, text_from}
use Rattle.terms.proofs.term.Term.written.Goals as goal

pub returns : goal.returns
returns c =
    IfOk-weaker c.collect.result _ (λ s. string_bytes s ≡ written c.args.inputs c.args.self)
    (λ s e. e ∙ text_from c.args.self c.args.inputs 0 c.args.inputs (omega arith))
    (text_from_collect c.collect.result c.collect.ensures.ran
    (YieldsList-from_map _ (symbol_at c.args.self c.args.inputs) (YieldsList-from_range 0 c.args.inputs c.args.inputs (search rules) (omega arith)) c.map.ensures.closure (λ x r q k. search (rules, tests))))
