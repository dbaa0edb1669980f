-- One entry of the table, from the later ones.
use Rattle.std.proofs.Common.{◌≡◌, ℕ, ◌+◌, ◌-◌, ◌*◌, ◌/◌, ◌%◌, ◌^◌, ◌<◌, ◌≤◌, Bool, true, false, not, ◌&&◌, List, length, get_or, set, sym, ap, ◌∙◌, subst, ap₂, ⊎_elim, arith, get_or-set_other, get_or-set_same}
use Rattle.std.proofs.lemmas.Bool.{cases_eq, lt-ltb}
use Rattle.primes.specs.Cubes.{cube_of}
use Rattle.primes.proofs.Cube.{imp}
use Rattle.fixed.specs.declared.set.FixedSet.{FixedSet}
use Rattle.fixed.specs.Sets.{member}
use Rattle.terms.specs.Marks.{is_off}
use Rattle.terms.specs.Tables.{Table, rows, mark_at}
use Rattle.sources.specs.Sources.{off_at}
use Rattle.primes.specs.Cubes.{levels_in}
use Rattle.primes.specs.Primes.{allowed, implicant_at}
use Rattle.primes.proofs.BaseThree.{pow3_pos, split_at, levels_lt, levels_same, full_at}
use Rattle.primes.proofs.CubeTerms.{implicant_at_lem, pow3_le}

-- ---- the term of a number, where the set is right for the later ones
module _ (tb : Table) (few : tb.inputs ≤ 8) {x : ℕ} (h : x < 3 ^ tb.inputs) (found : FixedSet 6561)
    (later : (y : ℕ) → x < y → y < 3 ^ tb.inputs → member found y ≡ implicant_at tb y) {n : ℕ} (same : n ≡ tb.inputs) where
  -- a term that leaves an input unread, by the two that read it too
  module _ {i p : ℕ} (e : p ≡ 3 ^ i) (d : (i < n) × (x / 3 ^ i % 3 ≡ 0)) where
    split : (x + 2 * 3 ^ i < 3 ^ tb.inputs)
        × (imp (cube_of tb.inputs x) (allowed tb) ≡ (imp (cube_of tb.inputs (x + 3 ^ i)) (allowed tb) && imp (cube_of tb.inputs (x + 2 * 3 ^ i)) (allowed tb)))
    split = split_at tb.inputs i x (allowed tb) (subst (λ (k : ℕ). i < k) same d.0) h d.1

    pub room : x + 2 * p < 6561
    room = omega (arith, split.0, pow3_le tb.inputs few)

    at : (y : ℕ) → x < y → y < 3 ^ tb.inputs → imp (cube_of tb.inputs y) (allowed tb) ≡ member found y
    at y a b = sym (implicant_at_lem tb y few b) ∙ sym (later y a b)

    pub judged_split : implicant_at tb x ≡ (member found (x + p) && member found (x + 2 * p))
    judged_split =
        let b = split.0 in
        let o = pow3_pos i in
        implicant_at_lem tb x few h ∙ split.1
        ∙ ap₂ ◌&&◌ (at (x + 3 ^ i) (omega arith) (omega arith)) (at (x + 2 * 3 ^ i) (omega arith) b)
        ∙ ap (λ (q : ℕ). member found (x + q) && member found (x + 2 * q)) (sym e)

  -- a term that reads every input, by its row
  pub judged_row : {row : ℕ} → row ≡ levels_in (cube_of 8 x) → ((k : ℕ) → k < n → x / 3 ^ k % 3 ≡ 0 → ⊥) → implicant_at tb x ≡ not (off_at tb row)
  judged_row {row} e full =
      let r : row ≡ levels_in (cube_of tb.inputs x) = e ∙ levels_same 8 tb.inputs x few h in
      let l = levels_lt tb.inputs x in
      implicant_at_lem tb x few h ∙ full_at tb.inputs x (allowed tb) (λ k a. full k (omega arith)) ∙ ap (allowed tb) (sym r)
      ∙ ap (λ (b : Bool). not (b && is_off (mark_at tb row))) (sym (lt-ltb row (rows tb) (omega arith)))

-- ---- the set so far, from the top down: from x on it is right, and below it is empty
pub record JudgedFrom (tb : Table) (x : ℕ) (s : FixedSet 6561) : Type 0 where
  pub later : (y : ℕ) → x ≤ y → y < 3 ^ tb.inputs → member s y ≡ implicant_at tb y
  pub below : (y : ℕ) → y < x → member s y ≡ false

module _ (tb : Table) (x : ℕ) (s : FixedSet 6561) (some : 0 < x) (j : JudgedFrom tb x s) where
  pub judged_in : (t : FixedSet 6561) → x ≤ 6561 → implicant_at tb (x - 1) ≡ true → t.on ≡ set s.on (x - 1) true → JudgedFrom tb (x - 1) t
  judged_in t few e q =
      let at : x - 1 < length s.on = omega (arith, s.full) in
      let same : (y : ℕ) → (y ≡ x - 1 → ⊥) → member t y ≡ member s y = λ y z. ap (λ (ys : List Bool). get_or ys y false) q ∙ get_or-set_other s.on (x - 1) y true false z in
      record {
        later = λ y a b. ⊎_elim
            (λ w. ap₂ (λ (ys : List Bool) (z : ℕ). get_or ys z false) q w ∙ get_or-set_same s.on (x - 1) true false at ∙ sym (ap (implicant_at tb) w ∙ e))
            (λ z. same y z ∙ j.later y (omega arith) b)
            (cases_eq y (x - 1));
        below = λ y a. same y (λ w. omega arith) ∙ j.below y (omega arith);
      }

  pub judged_put : (t : FixedSet 6561) (v : Bool) → x ≤ 6561 → v ≡ implicant_at tb (x - 1) → t.on ≡ set s.on (x - 1) v → JudgedFrom tb (x - 1) t
  judged_put t v few e q =
      let at : x - 1 < length s.on = omega (arith, s.full) in
      let same : (y : ℕ) → (y ≡ x - 1 → ⊥) → member t y ≡ member s y = λ y z. ap (λ (ys : List Bool). get_or ys y false) q ∙ get_or-set_other s.on (x - 1) y v false z in
      record {
        later = λ y a b. ⊎_elim
            (λ w. ap₂ (λ (ys : List Bool) (z : ℕ). get_or ys z false) q w ∙ get_or-set_same s.on (x - 1) v false at ∙ e ∙ sym (ap (implicant_at tb) w))
            (λ z. same y z ∙ j.later y (omega arith) b)
            (cases_eq y (x - 1));
        below = λ y a. same y (λ w. omega arith) ∙ j.below y (omega arith);
      }

  pub judged_out : implicant_at tb (x - 1) ≡ false → JudgedFrom tb (x - 1) s
  judged_out e =
      record {
        later = λ y a b. ⊎_elim
            (λ w. j.below y (omega arith) ∙ sym (ap (implicant_at tb) w ∙ e))
            (λ z. j.later y (omega arith) b)
            (cases_eq y (x - 1));
        below = λ y a. j.below y (omega arith);
      }
