-- No two terms share a number: the digits of a number in base three say what its term asks of each input.
use mathlib.Core.HLevel.{is_prop→PathP}
use Rattle.std.proofs.Common.{◌≡◌, ℕ, zero, suc, ◌+◌, ◌*◌, ◌/◌, ◌%◌, ◌^◌, ◌<◌, ◌≤◌, sym, refl, ◌∙◌, ap₂, pow-suc, arith}
use native.Mathlib.Bridge.{le_prop}
use native.Mathlib.Nat.{ℕ_set}
use lib.Bits.{bit_and, and_step}
use Rattle.terms.specs.declared.term.Term.{Term}
use Rattle.terms.specs.Terms.{sum_below, weight, number}
use Rattle.terms.specs.TermLaws.{NumbersDiffer, NumbersBounded}
use Rattle.terms.proofs.Bytes.{equal_below, weight_le}
use Rattle.terms.proofs.Bits.{levels_le}

-- two terms with the same bytes are the same
pub same_term : (t u : Term) → t.mask ≡ u.mask → t.levels ≡ u.levels → t ≡ u
same_term t u p q =
    λ i. record {
      mask = p i;
      levels = q i;
      within = is_prop→PathP (λ j. bit_and (q j) (p j) ≡ q j) (λ j. ℕ_set (bit_and (q j) (p j)) (q j)) t.within u.within i;
      byte = is_prop→PathP (λ j. p j < 256) (λ j. le_prop {n = suc (p j)} {m = 256}) t.byte u.byte i;
    }

-- the weight, one input after the other from the lowest
abbrev pub horner : ℕ → ℕ → ℕ
horner zero m = 0
horner (suc k) m = m % 2 + 3 * horner k (m / 2)

pub weight_horner : (m : ℕ) → m < 256 → weight m ≡ horner 8 m
unfolding sum_below
weight_horner m h = equal_below weight (horner 8) 256 refl m h

-- levels inside a mask: so are their halves, and the lowest bit
pub within_half : (m l : ℕ) → bit_and l m ≡ l → bit_and (l / 2) (m / 2) ≡ l / 2
within_half m l h = let s = and_step l m in omega arith

pub within_first : (m l : ℕ) → bit_and l m ≡ l → l % 2 ≤ m % 2
within_first m l h = let s = and_step l m in omega arith

horner_tells : (k m l m' l' : ℕ) → m < 2 ^ k → l < 2 ^ k → m' < 2 ^ k → l' < 2 ^ k → bit_and l m ≡ l → bit_and l' m' ≡ l'
    → horner k m + horner k l ≡ horner k m' + horner k l' → (m ≡ m') × (l ≡ l')
horner_tells zero m l m' l' a b a' b' s s' e = (omega arith, omega arith)
horner_tells (suc k) m l m' l' a b a' b' s s' e =
    let p = pow-suc 2 k in
    let f = within_first m l s in
    let f' = within_first m' l' s' in
    let rest : horner k (m / 2) + horner k (l / 2) ≡ horner k (m' / 2) + horner k (l' / 2) = omega arith in
    let i = horner_tells k (m / 2) (l / 2) (m' / 2) (l' / 2) (omega arith) (omega arith) (omega arith) (omega arith) (within_half m l s) (within_half m' l' s') rest in
    (omega arith, omega arith)

pub levels_byte : (t : Term) → t.levels < 256
levels_byte t = let a = levels_le t in let b = t.byte in omega arith

number_horner : (t : Term) → number t ≡ horner 8 t.mask + horner 8 t.levels
number_horner t = ap₂ ◌+◌ (weight_horner t.mask t.byte) (weight_horner t.levels (levels_byte t))

pub numbers_differ : NumbersDiffer
numbers_differ t u e =
    let p = horner_tells 8 t.mask t.levels u.mask u.levels t.byte (levels_byte t) u.byte (levels_byte u) t.within u.within
    (sym (number_horner t) ∙ e ∙ number_horner u) in
    same_term t u p.0 p.1

pub numbers_bounded : NumbersBounded
numbers_bounded t =
    let a = weight_le t.mask t.byte in
    let b = weight_le t.levels (levels_byte t) in
    omega arith
