-- Comparing numbers, and pairs by the first number and then the second: as tests, and in words.
use Rattle.std.proofs.Common.{◌≡◌, ℕ, ◌+◌, ◌<◌, ◌≤◌, true, ◌&&◌, ◌⊎◌, ◌==◌, nat_le, nat_lt, inl, inr, ⊎_elim, arith}
use Rattle.std.proofs.lemmas.Bool.{le-leb, leb-true, cases_lt, lt-ltb, ltb-true, eq-eqb, eqb-true, or_cases, or_left, or_right, and_parts, and_from}
use Rattle.orders.specs.Kinds.{pair_at_most}

pub number_connected : (a b : ℕ) → (nat_le a b ≡ true) ⊎ (nat_le b a ≡ true)
number_connected a b = ⊎_elim (λ (h : a < b). inl (le-leb a b (omega arith))) (λ (h : b ≤ a). inr (le-leb b a h)) (cases_lt a b)

pub number_trans : (a b c : ℕ) → nat_le a b ≡ true → nat_le b c ≡ true → nat_le a c ≡ true
number_trans a b c h k = let x : a ≤ b = leb-true a b h in let y : b ≤ c = leb-true b c k in le-leb a c (omega arith)

abbrev pub Below : ℕ × ℕ → ℕ × ℕ → Type 0
Below a b = (a.0 < b.0) ⊎ ((a.0 ≡ b.0) × (a.1 ≤ b.1))

pub to_below : (a b : ℕ × ℕ) → pair_at_most a b ≡ true → Below a b
to_below a b h =
    elim (or_cases (nat_lt a.0 b.0) (a.0 == b.0 && nat_le a.1 b.1) h) [
      | inl k ↦ inl (ltb-true a.0 b.0 k)
      | inr k ↦ let w = and_parts (a.0 == b.0) (nat_le a.1 b.1) k in inr (eqb-true a.0 b.0 w.0, leb-true a.1 b.1 w.1)
    ]

pub from_below : (a b : ℕ × ℕ) → Below a b → pair_at_most a b ≡ true
from_below a b (inl h) = or_left (nat_lt a.0 b.0) (a.0 == b.0 && nat_le a.1 b.1) (lt-ltb a.0 b.0 h)
from_below a b (inr h) =
    or_right (nat_lt a.0 b.0) (a.0 == b.0 && nat_le a.1 b.1) (and_from (a.0 == b.0) (nat_le a.1 b.1) (eq-eqb a.0 b.0 h.0) (le-leb a.1 b.1 h.1))

pub below_either : (a b : ℕ × ℕ) → Below a b ⊎ Below b a
below_either a b =
    elim (cases_lt a.0 b.0) [
      | inl h ↦ inl (inl h)
      | inr h ↦ elim (cases_lt b.0 a.0) [
        | inl k ↦ inr (inl k)
        | inr k ↦ elim (cases_lt a.1 b.1) [ inl l ↦ inl (inr (omega arith, omega arith)) | inr l ↦ inr (inr (omega arith, omega arith)) ]
      ]
    ]

pub below_trans : (a b c : ℕ × ℕ) → Below a b → Below b c → Below a c
below_trans a b c (inl h) (inl k) = inl (omega arith)
below_trans a b c (inl h) (inr k) = let e = k.0 in inl (omega arith)
below_trans a b c (inr h) (inl k) = let e = h.0 in inl (omega arith)
below_trans a b c (inr h) (inr k) = let e = h.0 in let f = k.0 in let x = h.1 in let y = k.1 in inr (omega arith, omega arith)

pub below_mono : (a b c : ℕ × ℕ) → Below a b → Below (a.0 + c.0, a.1 + c.1) (b.0 + c.0, b.1 + c.1)
below_mono a b c (inl h) = inl (omega arith)
below_mono a b c (inr h) = let e = h.0 in let x = h.1 in inr (omega arith, omega arith)
