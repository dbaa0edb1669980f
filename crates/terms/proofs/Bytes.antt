-- What holds of each byte, by one test that is computed over all of them.
use Rattle.std.proofs.Common.{◌≡◌, ℕ, zero, suc, ◌<◌, ◌≤◌, Bool, true, ◌&&◌, eqb, leb, sym, refl, subst, ⊎_elim, not-suc-le-zero, arith}
use lib.Count.{ones, ones_in}
use Rattle.std.proofs.lemmas.Bool.{and_parts, cases_eq, eqb-true, leb-true}
use Rattle.terms.specs.Terms.{sum_below, bit, weight}

-- the test passes at each number below n
abbrev pub below : (ℕ → Bool) → ℕ → Bool
below f zero = true
below f (suc n) = f n && below f n

pub below_at : (f : ℕ → Bool) (n k : ℕ) → below f n ≡ true → k < n → f k ≡ true
below_at f zero k e h = absurd (not-suc-le-zero h)
below_at f (suc n) k e h =
    let p = and_parts (f n) (below f n) e in
    ⊎_elim (λ q. subst (λ (x : ℕ). f x ≡ true) (sym q) p.0) (λ q. below_at f n k p.1 (omega arith)) (cases_eq k n)

pub equal_below : (f g : ℕ → ℕ) (n : ℕ) → below (λ k. eqb (f k) (g k)) n ≡ true → (k : ℕ) → k < n → f k ≡ g k
equal_below f g n e k h = eqb-true (f k) (g k) (below_at (λ k. eqb (f k) (g k)) n k e h)

pub weight_le : (m : ℕ) → m < 256 → weight m ≤ 3280
unfolding sum_below
weight_le m h = leb-true (weight m) 3280 (below_at (λ k. leb (weight k) 3280) 256 m refl h)

-- the bits of a byte, counted
pub ones_byte : (m : ℕ) → m < 256 → ones m ≡ sum_below 8 (bit m)
unfolding sum_below ones ones_in
ones_byte m h = equal_below ones (λ m. sum_below 8 (bit m)) 256 refl m h
