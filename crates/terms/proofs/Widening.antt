-- A term that another lies inside reads no input that the other does not.
use Rattle.std.proofs.Common.{◌≡◌, ℕ, zero, suc, ◌-◌, ◌/◌, ◌%◌, ◌^◌, ◌<◌, ◌≤◌, max, T, eqb, refl, ap, ◌∙◌, inl, inr, arith}
use lib.Bits.{bit_and, bit_or, or_shr, or_step, or_disjoint}
use Rattle.std.proofs.lemmas.Bool.{cases_eq, cases_lt, eqb-true}
use Rattle.terms.specs.declared.term.Term.{Term}
use Rattle.terms.specs.Terms.{bit, sum_below, reads, holds, Inside, contacts}
use Rattle.terms.proofs.Bytes.{below, below_at}
use Rattle.terms.proofs.Bits.{t_eqb, bit_lt, bit_of_and, bits_tell, high_bit, levels_le, holds_by_levels}

bit_of_or : (a b i : ℕ) → bit (bit_or a b) i ≡ max (bit a i) (bit b i)
bit_of_or a b i =
    let s = or_shr a b i in
    let t = or_step (a / 2 ^ i) (b / 2 ^ i) in
    omega arith

-- the inputs that a byte does not have
pair_at : (f g : ℕ → ℕ → ℕ) → below (λ m. below (λ i. eqb (f m i) (g m i)) 8) 256 ≡ mathlib.Core.Bool.true → (m i : ℕ) → m < 256 → i < 8 → f m i ≡ g m i
pair_at f g e m i a b = eqb-true (f m i) (g m i) (below_at (λ i. eqb (f m i) (g m i)) 8 i (below_at (λ m. below (λ i. eqb (f m i) (g m i)) 8) 256 m e a) b)

bit_rest : (m i : ℕ) → m < 256 → i < 8 → bit (255 - m) i ≡ 1 - bit m i
bit_rest = pair_at (λ m i. bit (255 - m) i) (λ m i. 1 - bit m i) refl

level_bit_lem : (t : Term) (i : ℕ) → bit t.levels i ≤ bit t.mask i
level_bit_lem t i =
    let e = ap (λ (x : ℕ). bit x i) t.within in
    let b = bit_of_and t.levels t.mask i in
    omega arith

-- the term's row with every input that it does not read at 1
module _ (t : Term) where
  apart : bit_and t.levels (255 - t.mask) ≡ 0
  apart =
      let m = t.byte in
      let l = levels_le t in
      let k = lib.Bits.and_le_l t.levels (255 - t.mask) in
      bits_tell 8 (bit_and t.levels (255 - t.mask)) 0 (omega arith) (omega arith)
      (λ i h.
      let a = bit_of_and t.levels (255 - t.mask) i in
      let b = bit_rest t.mask i m h in
      let c = level_bit_lem t i in
      let d = bit_lt t.mask i in
      let z : bit 0 i ≡ 0 = ap (λ (x : ℕ). x % 2) (native.Mathlib.Nat.zero-div (2 ^ i)) in
      omega arith)

  outer_bit : (i : ℕ) → i < 8 → bit (bit_or t.levels (255 - t.mask)) i ≡ max (bit t.levels i) (1 - bit t.mask i)
  outer_bit i h = bit_of_or t.levels (255 - t.mask) i ∙ ap (λ (x : ℕ). max (bit t.levels i) x) (bit_rest t.mask i t.byte h)

  read_low : (i : ℕ) → T (reads t i) → i < 8
  read_low i h =
      elim (cases_lt i 8) [ inl l ↦ l | inr l ↦ (let z = high_bit t.mask i t.byte l in let o = lib.Dec.eqb→eq (bit t.mask i) 1 h in absurd (omega arith)) ]

  holds_outer : T (holds t (bit_or t.levels (255 - t.mask)))
  holds_outer =
      (holds_by_levels t (bit_or t.levels (255 - t.mask))).1
      (λ i h.
      let o = lib.Dec.eqb→eq (bit t.mask i) 1 h in
      let b = outer_bit i (read_low i h) in
      omega arith)

  holds_inner : T (holds t t.levels)
  holds_inner = t_eqb (bit_and t.levels t.mask) t.levels t.within

pub inside_reads : (t u : Term) → Inside t u → (i : ℕ) → bit u.mask i ≤ bit t.mask i
inside_reads t u w i =
    elim (cases_eq (bit u.mask i) 1) [
      | inl e ↦
          let r : T (reads u i) = t_eqb (bit u.mask i) 1 e in
          let low = read_low u i r in
          let a = (holds_by_levels u t.levels).0 (w t.levels (holds_inner t)) i r in
          let b = (holds_by_levels u (bit_or t.levels (255 - t.mask))).0 (w (bit_or t.levels (255 - t.mask)) (holds_outer t)) i r in
          let c = outer_bit t i low in
          let d = level_bit_lem t i in
          let k = bit_lt t.mask i in
          omega arith
      | inr n ↦ let k = bit_lt u.mask i in omega arith
    ]

-- a sum over inputs grows with its terms
pub sum_le : (k : ℕ) (f g : ℕ → ℕ) → ((i : ℕ) → f i ≤ g i) → sum_below k f ≤ sum_below k g
unfolding sum_below
sum_le zero f g h = omega arith
sum_le (suc k) f g h = let a = sum_le k f g h in let b = h k in omega arith

pub contacts_le : (t u : Term) → Inside t u → contacts u ≤ contacts t
contacts_le t u w = sum_le 8 (bit u.mask) (bit t.mask) (inside_reads t u w)
