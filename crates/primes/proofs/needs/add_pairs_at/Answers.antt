use Rattle.std.proofs.Common.{List, map, append-nil, sym, ap, ◌∙◌, subst, Bool, cond, [], ◌∷◌, ◌++◌, ℕ}
use Rattle.std.proofs.lemmas.Bool.{eq-eqb, ne_eqb}
use Rattle.fixed.specs.Lists.{entries, Tidy}
use Rattle.terms.proofs.Bits.{shift_bit}
use Rattle.primes.specs.declared.need.Need.{Need}
use Rattle.primes.specs.Needs.{NeedList, row_need, pair_need, pairs_at, added}
use Rattle.primes.proofs.Needing.{added_none, added_more, inputs_more}
use Rattle.primes.proofs.needs.add_pairs_at.Goals as goal
use Rattle.primes.proofs.needs.add_pairs_at.Goals.{then-row-input-eq0, else-row-input-eq0}

pub loop-input-init : goal.loop-input-init
loop-input-init g c = record { items = added_none (g.S.Source.meaning c.args.source.now) c.args.list.now; tidy = c.requires.tidy }

pub loop-input-preserved : goal.loop-input-preserved
loop-input-preserved g c =
    let tb = g.S.Source.meaning c.args.source.now in
    let r : ℕ = c.args.row in
    let i : ℕ = c.loop-input.input in
    let more = λ (b : Bool). map (pair_need r) (cond b (i ∷ []) []) in
    elim c.if-row-input-eq0.branch [
      | then-row-input-eq0 w ↦
          record {
            items = added_more tb _ _ (w.pair.result ∷ []) c.loop-input.invariant.items (ap entries w.list-is ∙ w.add.ensures.items)
                (inputs_more r i ∙ ap (λ (ds : List Need). pairs_at r 0 i ++ ds)
                (ap more (eq-eqb _ 0 (sym (shift_bit r i) ∙ w.if-row-input-eq0.true)) ∙ ap (λ (d : Need). d ∷ []) (sym w.pair.ensures)));
            tidy = subst (λ (l : NeedList). Tidy (row_need 0) l) (sym w.list-is) w.add.ensures.tidy;
          }
      | else-row-input-eq0 w ↦
          record {
            items = ap entries w.list-is ∙ c.loop-input.invariant.items
                ∙ ap (added tb (entries c.args.list.now)) (sym (inputs_more r i ∙ ap (λ (ds : List Need). pairs_at r 0 i ++ ds)
                (ap more (ne_eqb _ 0 (λ e. w.if-row-input-eq0.false (shift_bit r i ∙ e)))) ∙ append-nil (pairs_at r 0 i)));
            tidy = subst (λ (l : NeedList). Tidy (row_need 0) l) (sym w.list-is) c.loop-input.invariant.tidy;
          }
    ]
