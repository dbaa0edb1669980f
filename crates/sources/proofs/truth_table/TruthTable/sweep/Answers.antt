use Rattle.std.proofs.Common.{◌≡◌, ℕ, ◌-◌, ◌^◌, ◌≤◌, List, length, sym, ap, ◌∙◌, arith, pow_mono}
use borrow.Rule.Slice.PartMut.{mid_of, same_len_mid}
use Rattle.terms.specs.declared.mark.Mark.{Mark}
use Rattle.terms.specs.Terms.{holds}
use Rattle.sources.specs.Calls.{entered}
use Rattle.sources.proofs.Judging.{sweep_passes, code_named}
use Rattle.sources.proofs.Painting.{table_eq, length_painted, swept_marks}
use Rattle.sources.proofs.truth_table.TruthTable.sweep.Goals as goal

pub returns-clause-after : goal.returns-clause-after
returns-clause-after c =
    let n : ℕ = c.args.self.now.inputs in
    let marks : List Mark = c.args.self.now.marks in
    let t = c.in_ok-term.ensures in
    let k = code_named c.args.code c.in_ok-mark.mark (sym c.in_ok-mark.ensures.value) in
    let e = sweep_passes n c.args.mask c.args.levels c.args.code t.test k.0 in
    let long : length marks ≡ 256 = c.args.self.now.whole in
    let room : 2 ^ n ≤ length marks = omega (arith, pow_mono {i = n} {j = 8} c.args.self.now.few) in
    rw e (table_eq n _ _ (swept_marks n c.rows-rows.result _ _ c.args.mask c.args.levels _ (entered c.args.code) marks _ _
    c.rows-rows.ensures room t.value.0 t.value.1 k.1 c.paint.ensures))

pub invariant_of-self-clause-whole : goal.invariant_of-self-clause-whole
invariant_of-self-clause-whole c =
    let marks : List Mark = c.args.self.now.marks in
    let same : length c.paint.new.marks ≡ length (mid_of 0 (c.rows-rows.result - 0) marks) =
    ap length c.paint.ensures ∙ length_painted (holds c.in_ok-term.term) c.in_ok-mark.mark 0 (mid_of 0 (c.rows-rows.result - 0) marks) in
    same_len_mid 0 (c.rows-rows.result - 0) marks c.paint.new.marks same ∙ c.args.self.now.whole
