-- A term by its bits: which rows it holds.
use Rattle.std.proofs.Common.{◌≡◌, ℕ, zero, suc, ◌+◌, ◌/◌, ◌%◌, ◌^◌, ◌<◌, ◌≤◌, min, cond, T, eqb, sym, ap, ◌∙◌, subst, inl, inr, pow-suc, arith, eqb→eq, pow_mono}
use native.Mathlib.Nat.{div-div-eq-div-mul, div-eq_of_lt}
use lib.Bits.{bit_and, and_step, and_shr, and_le_r, and_mask}
use Rattle.std.proofs.lemmas.Bool.{cases_eq, cond_both}
use Rattle.terms.specs.declared.term.Term.{Term}
use Rattle.terms.specs.Terms.{bit, reads, holds, symbol}
use Rattle.terms.specs.TermLaws.{HoldsByLevels}

pub t_eqb : (a b : ℕ) → a ≡ b → T (eqb a b)
t_eqb a b e = subst (λ (x : ℕ). T (eqb a x)) e (lib.Dec.eqb_refl a)

pub bit_lt : (a i : ℕ) → bit a i < 2
bit_lt a i = omega arith

-- the bits of a half are the higher bits
pub bit_half : (a i : ℕ) → bit (a / 2) i ≡ bit a (suc i)
bit_half a i = ap (λ (x : ℕ). x % 2) (div-div-eq-div-mul a 2 (2 ^ i) ∙ ap (λ (x : ℕ). a / x) (omega (arith, pow-suc 2 i)))

pub bit_of_and : (a b i : ℕ) → bit (bit_and a b) i ≡ min (bit a i) (bit b i)
bit_of_and a b i =
    let s = and_shr a b i in
    let t = and_step (a / 2 ^ i) (b / 2 ^ i) in
    omega arith

-- numbers below 2 ^ k with the same bits are the same
pub bits_tell : (k a b : ℕ) → a < 2 ^ k → b < 2 ^ k → ((i : ℕ) → i < k → bit a i ≡ bit b i) → a ≡ b
bits_tell zero a b h l f = omega arith
bits_tell (suc k) a b h l f =
    let p = pow-suc 2 k in
    let rest : a / 2 ≡ b / 2 = bits_tell k (a / 2) (b / 2) (omega arith) (omega arith) (λ i q. bit_half a i ∙ f (suc i) (omega arith) ∙ sym (bit_half b i)) in
    let first : a % 2 ≡ b % 2 = (let z = f 0 (omega arith) in omega arith) in
    omega arith

pub levels_le : (t : Term) → t.levels ≤ t.mask
levels_le t = subst (λ (x : ℕ). x ≤ t.mask) t.within (and_le_r t.levels t.mask)

module _ (t : Term) (r : ℕ) where
  forth : T (holds t r) → (i : ℕ) → T (reads t i) → bit r i ≡ bit t.levels i
  forth h i q =
      let e : bit_and r t.mask ≡ t.levels = eqb→eq (bit_and r t.mask) t.levels h in
      let o : bit t.mask i ≡ 1 = eqb→eq (bit t.mask i) 1 q in
      let b = bit_of_and r t.mask i in
      let s : bit (bit_and r t.mask) i ≡ bit t.levels i = ap (λ (x : ℕ). bit x i) e in
      let k = bit_lt r i in
      omega arith

  at_input : ((i : ℕ) → T (reads t i) → bit r i ≡ bit t.levels i) → (i : ℕ) → bit (bit_and r t.mask) i ≡ bit t.levels i
  at_input f i =
      let b = bit_of_and r t.mask i in
      let w : bit t.levels i ≡ min (bit t.levels i) (bit t.mask i) = ap (λ (x : ℕ). bit x i) (sym t.within) ∙ bit_of_and t.levels t.mask i in
      let k = bit_lt r i in
      let j = bit_lt t.mask i in
      elim (cases_eq (bit t.mask i) 1) [
        | inl e ↦ let z = f i (t_eqb (bit t.mask i) 1 e) in omega arith
        | inr n ↦ omega arith
      ]

  back : ((i : ℕ) → T (reads t i) → bit r i ≡ bit t.levels i) → T (holds t r)
  back f =
      let m = t.byte in
      let l = levels_le t in
      let a = and_le_r r t.mask in
      t_eqb (bit_and r t.mask) t.levels (bits_tell 8 (bit_and r t.mask) t.levels (omega arith) (omega arith) (λ i q. at_input f i))

pub holds_by_levels : HoldsByLevels
holds_by_levels t r = (forth t r, back t r)

-- what the code reads as a bit
pub shift_bit : (a i : ℕ) → bit_and (a / 2 ^ i) 1 ≡ bit a i
shift_bit a i = and_mask (a / 2 ^ i) 1

-- a byte has no bit past the eighth
pub high_bit : (a i : ℕ) → a < 256 → 8 ≤ i → bit a i ≡ 0
high_bit a i h k =
    let b : a < 2 ^ i = omega (arith, pow_mono {i = 8} {j = i} k) in
    ap (λ (x : ℕ). x % 2) (div-eq_of_lt b)

pub symbol_unread : (t : Term) (i : ℕ) → bit t.mask i ≡ 0 → 45 ≡ symbol t i
symbol_unread t i e = sym (ap (λ (x : ℕ). cond (eqb x 1) (48 + bit t.levels i) 45) e)

pub symbol_read : (t : Term) (i : ℕ) → (bit t.mask i ≡ 0 → ⊥) → 48 + bit t.levels i ≡ symbol t i
symbol_read t i n =
    let k = bit_lt t.mask i in
    let e : bit t.mask i ≡ 1 = omega arith in
    sym (ap (λ (x : ℕ). cond (eqb x 1) (48 + bit t.levels i) 45) e)

-- every symbol is one of three bytes
pub symbol_lt : (t : Term) (i : ℕ) → symbol t i < 128
symbol_lt t i = let k = bit_lt t.levels i in cond_both (reads t i) (48 + bit t.levels i) 45 (λ x. x < 128) (λ e. omega arith) (λ e. omega arith)
