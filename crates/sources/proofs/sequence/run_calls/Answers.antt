use Rattle.std.proofs.Common.{◌≡◌, ℕ, suc, ◌+◌, List, [], ◌++◌, get_or, vec_items, sym, ap, ◌∙◌, subst, add-one}
use Rattle.sources.specs.declared.call.Call.{Call}
use Rattle.sources.specs.declared.call.Call.TheVariants.{Size}
use Rattle.sources.specs.Calls.{table}
use Rattle.sources.specs.Model.{Outcome, answers}
use Rattle.sources.proofs.Following.{Agrees, so_far, agrees_new, agrees_next, answer_same, answers_more, so_far_more, answers_all, faithful}
use Rattle.sources.proofs.sequence.run_calls.Goals as goal

pub loop-call-init : goal.loop-call-init
loop-call-init c =
    (ap (λ (os : List Outcome). os ++ answers [] c.args.calls.now) c.new-outcomes.ensures.items, agrees_new _ c.new-truth.ensures)

pub loop-call-preserved : goal.loop-call-preserved
loop-call-preserved c =
    let calls : List Call = c.args.calls.now in
    let i : ℕ = c.loop-call.call-index in
    let next : i + 1 ≡ suc i = add-one i in
    let a = c.loop-call.invariant.1 in
    let told = c.call.ensures.result ∙ answer_same (table c.loop-call.truth) (so_far i calls) (get_or calls i (Size 0)) a in
    rw next (
      answers_more calls i (Size 0) (vec_items c.loop-call.outcomes) (vec_items c.push.new.self) c.call.result c.loop-call-test.true c.in_ok-push.ensures.items told c.loop-call.invariant.0,
      subst (λ (b : List Call). Agrees (table c.call.new.self) b) (sym (so_far_more calls i (Size 0) c.loop-call-test.true))
          (agrees_next (table c.loop-call.truth) (table c.call.new.self) (so_far i calls) (get_or calls i (Size 0)) a c.call.ensures.after),
    )

pub returns : goal.returns
returns c =
    let e = answers_all c.args.calls.now c.loop-call.call-index _ c.loop-call-test.false c.loop-call.invariant.0 in
    record { value = e; law = faithful c.args.calls.now _ e }
