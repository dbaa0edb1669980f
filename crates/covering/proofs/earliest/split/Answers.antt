use Rattle.std.proofs.Common.{◌≡◌, ℕ, ◌<◌, ◌||◌, ◌&&◌, Bool, true, false, List, get_or, length, not, nat_eq, nat_lt, sym, refl, ap, ◌∙◌, inl, inr, rules, arith}
use Rattle.std.proofs.lemmas.Bool.{cases_eq, cases_lt, eq-eqb, ne_eqb, lt-ltb, le-ltb, and_left}
use Rattle.fixed.specs.Sets.{member}
use Rattle.fixed.proofs.Members.{none_past, put_in}
use Rattle.covering.proofs.Settling.{asks_by}
use Rattle.covering.proofs.earliest.split.Goals as goal

and_turned : (x y : Bool) → (x && y) ≡ (y && x)
and_turned true true = refl
and_turned true false = refl
and_turned false true = refl
and_turned false false = refl

eq_turned : (a b : ℕ) → nat_eq a b ≡ nat_eq b a
eq_turned a b = elim (cases_eq a b) [ inl e ↦ eq-eqb a b e ∙ sym (eq-eqb b a (sym e)) | inr ne ↦ ne_eqb a b ne ∙ sym (ne_eqb b a (λ e. ne (sym e))) ]

pub returns : goal.returns
returns c =
    let s : ℕ → Bool = member c.args.set.now in
    let j = c.args.j in
    let t = c.insert.new.self in
    let part = c.below-taken.result in
    let b = c.from_fn_below.result in
    let within : j < length part.on = omega (arith, part.full, c.requires) in
    let has : (k : ℕ) → k < 256 → member t k ≡ (nat_eq k j || (nat_lt k j && s k)) = λ k l.
    ap (λ (ys : List Bool). get_or ys k false) c.insert.ensures
    ∙ put_in part.on j k within
    ∙ ap (λ (x : Bool). x || member part k) (eq_turned j k)
    ∙ ap (λ (x : Bool). nat_eq k j || x) (c.below-taken.ensures k ∙ and_turned (s k) (nat_lt k j)) in
    let lacks : (k : ℕ) → k < 256 → member b k ≡ (nat_lt k j && not (s k)) = λ k l.
    elim (cases_lt k j) [
      | inl low ↦
          let judged : member b k ≡ not (s k) = search (rules, c.from_fn_below.ensures.judged k l low) in
          judged ∙ sym (ap (λ (x : Bool). x && not (s k)) (lt-ltb k j low))
      | inr high ↦ c.from_fn_below.ensures.past k high ∙ sym (and_left (nat_lt k j) (not (s k)) (le-ltb k j high))
    ] in
    asks_by 256 s (member t) (member b) j c.requires has lacks (λ k h. (none_past 256 t k h, none_past 256 b k h))
