use Rattle.std.proofs.Common.{◌≡◌, sym, refl, ◌∙◌, Bool, true, false, ◌&&◌, nat_lt, inl, inr}
use Rattle.std.proofs.lemmas.Bool.{cases_lt, lt-ltb, le-ltb, and_right}
use Rattle.fixed.specs.Sets.{member}
use Rattle.fixed.proofs.Members.{none_past}
use Rattle.fixed.proofs.set.FixedSet.below.Goals as goal

and_true : (x : Bool) → x ≡ (x && true)
and_true true = refl
and_true false = refl

pub returns : goal.returns
returns g c k =
    let s = member c.args.self.now k in
    let r = member c.from_fn_below.result k in
    elim (cases_lt k c.args.n) [
      | inl low ↦
          let same : r ≡ s = elim (cases_lt k g.row.N) [
            | inl small ↦ c.from_fn_below.ensures.judged k small low
            | inr large ↦ none_past g.row.N c.from_fn_below.result k large ∙ sym (none_past g.row.N c.args.self.now k large)
          ] in
          rw (lt-ltb k c.args.n low) (same ∙ and_true s)
      | inr high ↦ c.from_fn_below.ensures.past k high ∙ sym (and_right s (nat_lt k c.args.n) (le-ltb k c.args.n high))
    ]
