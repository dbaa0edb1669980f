use Rattle.std.proofs.Common.{◌≡◌, ◌≤◌, length, reverse, subst, ap, ◌∙◌, rules, arith}
use Rattle.std.proofs.lemmas.Fn.{fold_over}
use Rattle.std.proofs.lemmas.Iterator.Adapters.{YieldsList-from_rev_slice}
use Rattle.std.proofs.lemmas.List.{length-reverse, reverse-reverse}
use Rattle.std.specs.Iterator.Adapters.{rev_steps}
use Rattle.std.specs.Slice.Iter.{iter_steps_back}
use Rattle.terms.specs.declared.term.Term.{Term}
use Rattle.orders.specs.Orders.{Meaning, total}
use Rattle.orders.proofs.Totalling.{total_front}
use Rattle.orders.proofs.costing.cost.Goals as goal

pub returns-clause-total : goal.returns-clause-total
returns-clause-total g c =
    let o = c.args.order.now in
    let exact = g.O.CostOrder.exact o in
    let m : Meaning = g.O.CostOrder.meaning o in
    let n = length-reverse c.args.terms.now in
    let few : length (reverse c.args.terms.now) ≤ 256 = omega (arith, c.if-terms-gt-MOST_TERMS.false) in
    fold_over (rev_steps iter_steps_back) (λ y. y.now) _ (λ ts a. length ts ≤ 256 → exact a ≡ total m (reverse ts)) _
    (λ ts a x b f so_far k. (total_front m (g.O.CostOrder.laws o) ts x.now (exact a) (exact b) so_far (search rules), search rules))
    c.rev.result (reverse c.args.terms.now) _ c.fold-sum.result (YieldsList-from_rev_slice c.args.terms.now (search rules)).runs (λ _. c.empty.ensures.exact) c.fold-sum.ensures.ran few
    ∙ ap (total m) (reverse-reverse c.args.terms.now)
