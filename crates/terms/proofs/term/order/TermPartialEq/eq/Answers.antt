use Rattle.std.proofs.Common.{sym, ap, ◌∙◌, rules}
use Rattle.std.proofs.lemmas.Bool.{eqb-true, eq-eqb}
use Rattle.terms.specs.Terms.{rank}
use Rattle.terms.proofs.term.order.TermPartialEq.eq.Goals as goal

pub returns : goal.returns
returns c =
    let a = c.number.ensures.value in
    let b = c.number-2.ensures.value in
    record {
      value = search rules;
      same = (
        λ h. c.number.ensures.differ _ _ (sym a ∙ eqb-true c.number.result c.number-2.result h ∙ b),
        λ e. eq-eqb c.number.result c.number-2.result (a ∙ ap rank e ∙ sym b),
      );
    }
