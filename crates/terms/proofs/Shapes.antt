-- When a mask and levels make a term of n inputs.
use Rattle.std.proofs.Common.{◌≡◌, ℕ, ◌+◌, ◌*◌, ◌/◌, ◌%◌, ◌^◌, ◌<◌, ◌≤◌, true, false, eqb, ltb, sym, refl, inl, inr, arith, pow_pos}
use native.Mathlib.Nat.{div-eq_of_lt}
use lib.Bits.{bit_and}
use Rattle.std.proofs.lemmas.Nat.{shr_split, mod_below}
use Rattle.std.proofs.lemmas.Bool.{lt-ltb, le-ltb, eq-eqb, ne_eqb, and_right, cases_lt}
use Rattle.terms.specs.Terms.{is_term}

-- a mask has no input past the n-th exactly when nothing is left of it after n places
pub shift_lt : (n m : ℕ) → m / 2 ^ n ≡ 0 → m < 2 ^ n
shift_lt n m e = let a : 0 * 2 ^ n + m % 2 ^ n ≡ m = rw e at (shr_split m n) in let b = mod_below m (2 ^ n) (pow_pos n) in omega arith

pub shift_le : (n m : ℕ) → (m / 2 ^ n ≡ 0 → ⊥) → 2 ^ n ≤ m
shift_le n m h = elim (cases_lt m (2 ^ n)) [ inl l ↦ absurd (h (div-eq_of_lt l)) | inr l ↦ l ]

pub is_term_lem : (n m l : ℕ) → m < 2 ^ n → bit_and l m ≡ l → true ≡ is_term n m l
is_term_lem n m l a b = rw (lt-ltb m (2 ^ n) a, eq-eqb (bit_and l m) l b) refl

pub no_term_reads : (n m l : ℕ) → 2 ^ n ≤ m → false ≡ is_term n m l
no_term_reads n m l a = rw (le-ltb m (2 ^ n) a) refl

pub no_term_level : (n m l : ℕ) → (bit_and l m ≡ l → ⊥) → false ≡ is_term n m l
no_term_level n m l a = sym (and_right (ltb m (2 ^ n)) (eqb (bit_and l m) l) (ne_eqb (bit_and l m) l a))
