use Rattle.std.proofs.Common.{◌≡◌, ℕ, suc, ◌+◌, Bool, List, set, sym, ap, ◌∙◌, zero-add, add-one}
use Rattle.std.proofs.lemmas.List.{set-get_or}
use Rattle.terms.specs.declared.mark.Mark.{Mark}
use Rattle.terms.specs.declared.mark.Mark.TheVariants.{Off}
use Rattle.terms.specs.Terms.{holds}
use Rattle.sources.proofs.Painting.{begun, begun_in, begun_out, begun_all}
use Rattle.sources.proofs.truth_table.methods.paint.Goals as goal
use Rattle.sources.proofs.truth_table.methods.paint.Goals.{then-holds, else-holds}

pub loop-row-preserved : goal.loop-row-preserved
loop-row-preserved c =
    let p : ℕ → Bool = holds c.args.term in
    let row : ℕ = c.loop-row.row in
    let h = ap p (zero-add row) ∙ sym c.holds.ensures.value in
    let next : begun p c.args.mark (suc row) 0 c.args.marks.now ≡ begun p c.args.mark (row + 1) 0 c.args.marks.now =
    ap (λ (k : ℕ). begun p c.args.mark k 0 c.args.marks.now) (sym (add-one row)) in
    elim c.if-holds.branch [
      | then-holds w ↦
          w.marks-is ∙ ap (λ (ms : List Mark). set ms row c.args.mark) c.loop-row.invariant
          ∙ begun_in p c.args.mark row 0 c.args.marks.now (h ∙ w.if-holds.true) ∙ next
      | else-holds w ↦
          w.marks-is ∙ set-get_or c.loop-row.marks row Off ∙ c.loop-row.invariant
          ∙ begun_out p c.args.mark row 0 c.args.marks.now (h ∙ w.if-holds.false) ∙ next
    ]

pub returns : goal.returns
returns c = c.loop-row.invariant ∙ begun_all (holds c.args.term) c.args.mark c.loop-row.row 0 c.args.marks.now c.loop-row-test.false
