use Rattle.std.proofs.Common.{◌+◌, ◌*◌, Bool, ◌&&◌, sym, ap, ◌∙◌, arith}
use Rattle.fixed.specs.Sets.{member}
use Rattle.primes.proofs.Judged.{room, judged_split, judged_row}
use Rattle.primes.proofs.implicants.judge.Goals as goal

pub overflow_add-x : goal.overflow_add-x
overflow_add-x g c =
    let h = room _ (g.met.S.Source.proper c.args.source.now).few c.requires.number c.args.found.now c.requires.later c.requires.inputs c.power-step.ensures c.in-Some.ensures in
    omega arith

pub returns-then-contains : goal.returns-then-contains
returns-then-contains g c =
    c.contains-then-contains.ensures
    ∙ sym (judged_split _ (g.met.S.Source.proper c.args.source.now).few c.requires.number c.args.found.now c.requires.later c.requires.inputs c.power-step.ensures c.in-Some.ensures
    ∙ ap (λ (b : Bool). b && member c.args.found.now (c.args.x + 2 * c.power-step.result)) (sym c.if-contains.ensures))

pub returns-else-contains : goal.returns-else-contains
returns-else-contains g c =
    c.if-contains.false
    ∙ sym (judged_split _ (g.met.S.Source.proper c.args.source.now).few c.requires.number c.args.found.now c.requires.later c.requires.inputs c.power-step.ensures c.in-Some.ensures
    ∙ ap (λ (b : Bool). b && member c.args.found.now (c.args.x + 2 * c.power-step.result)) (sym c.if-contains.ensures))

pub returns-in-None : goal.returns-in-None
returns-in-None g c =
    c.may_hold.ensures
    ∙ sym (judged_row _ (g.met.S.Source.proper c.args.source.now).few c.requires.number c.args.found.now c.requires.later c.requires.inputs c.byte_at.ensures c.in-None.ensures)
