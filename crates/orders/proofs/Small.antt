-- Totals of few terms are small.
use Rattle.std.proofs.Common.{Bool, false, ◌<◌, ◌≡◌, ℕ, zero, suc, ◌+◌, ◌*◌, ◌≤◌, ◌==◌, true, List, [], ◌∷◌, length, get_or, cond, filter, refl, one-mul, zero-mul, add-one, arith}
use Rattle.std.specs.List.{sum_by, range_with_len}
use Rattle.std.proofs.lemmas.List.Sums.{sum_by-cons}
use lib.Count.{ones-le}
use Rattle.std.proofs.lemmas.Bool.Decides.{nat_tests}
use Rattle.std.proofs.lemmas.Nat.{mul-le}
use Rattle.terms.specs.declared.term.Term.{Term}
use Rattle.terms.specs.Terms.{bit, sum_below, contacts}
use Rattle.terms.proofs.Bits.{bit_lt}
use Rattle.terms.proofs.Bytes.{ones_byte}
use Rattle.orders.specs.Orders.{total, JoinsExactly}
use Rattle.orders.specs.Kinds.{by_count, by_price, price_at, all_small, stopped}

contacts_few : (t : Term) → contacts t ≤ 8
contacts_few t = omega (arith, ones_byte t.mask t.byte, ones-le 8 t.mask t.byte)

pub count_small : (ts : List Term) → ((total by_count ts).0 ≡ length ts) × ((total by_count ts).1 ≤ 8 * length ts)
count_small [] = (refl, omega arith)
count_small (t ∷ ts) = grind (arith, count_small ts, contacts_few t)

-- a sum of few terms never stops
pub count_joins : (a b : ℕ × ℕ) → JoinsExactly by_count a b (stopped (a.0 + b.0), stopped (a.1 + b.1))
count_joins a b ts us ea eb few =
    grind (arith, count_small ts, count_small us)

pub small_at : (ps : List ℕ) (k : ℕ) → all_small ps ≡ true → get_or ps k 0 ≤ 1000
small_at [] k e = omega arith
small_at (p ∷ ps) zero e = grind (arith, nat_tests)
small_at (p ∷ ps) (suc k) e = grind (arith, nat_tests, small_at ps k)

pub bit_price : (a i p : ℕ) → bit a i * p ≤ p
bit_price a i p = omega (arith, mul-le (bit a i) p 1 p (omega (arith, bit_lt a i)) (omega arith))

sum_small : (k : ℕ) (ps : List ℕ) (m : ℕ) → all_small ps ≡ true → sum_below k (λ i. bit m i * get_or ps (suc i) 0) ≤ 1000 * k
unfolding sum_below
sum_small zero ps m e = omega arith
sum_small (suc k) ps m e =
    omega (arith, sum_small k ps m e, bit_price m k (get_or ps (suc k) 0), small_at ps (suc k) e)

pub price_small : (ps : List ℕ) (t : Term) → all_small ps ≡ true → price_at ps t ≤ 9000
price_small ps t e = omega (arith, sum_small 8 ps t.mask e, small_at ps 0 e)

pub prices_small : (ps : List ℕ) (ts : List Term) → all_small ps ≡ true → total (by_price ps) ts ≤ 9000 * length ts
prices_small ps [] e = omega arith
prices_small ps (t ∷ ts) e = omega (arith, prices_small ps ts e, price_small ps t e)

pub price_joins : (ps : List ℕ) (a b : ℕ) → all_small ps ≡ true → JoinsExactly (by_price ps) a b (stopped (a + b))
price_joins ps a b e ts us ea eb few = omega (arith, prices_small ps ts e, prices_small ps us e)

-- ---- the prices of the inputs that a term reads
sum_first : (f : ℕ → ℕ) (b : Bool) (x : ℕ) (xs : List ℕ) → sum_by f (cond b (x ∷ xs) xs) ≡ cond b (f x + sum_by f xs) (sum_by f xs)
sum_first f true x xs = sum_by-cons f x xs
sum_first f false x xs = refl

one_read : (b p s : ℕ) → b < 2 → cond (b == 1) (p + s) s ≡ b * p + s
one_read zero p s h = omega (arith, zero-mul p)
one_read (suc zero) p s h = omega (arith, one-mul p)
one_read (suc (suc b)) p s h = absurd (omega arith)

sum_read : (ps : List ℕ) (m : ℕ) (xs : List ℕ) → sum_by (λ i. get_or ps (i + 1) 0) (filter (λ i. bit m i == 1) xs) ≡ sum_by (λ i. bit m i * get_or ps (suc i) 0) xs
sum_read ps m [] = refl
sum_read ps m (x ∷ xs) =
    let rest = filter (λ i. bit m i == 1) xs in
    let price : ℕ → ℕ = λ i. get_or ps (i + 1) 0 in
    let term : ℕ → ℕ = λ i. bit m i * get_or ps (suc i) 0 in
    grind (arith, add-one x, sum_first price (bit m x == 1) x rest, sum_read ps m xs, one_read (bit m x) (get_or ps (suc x) 0) (sum_by term xs) (bit_lt m x), sum_by-cons term x xs)

pub read_prices : (ps : List ℕ) (m : ℕ) → sum_by (λ i. get_or ps (i + 1) 0) (filter (λ i. bit m i == 1) (range_with_len 0 8)) ≡ sum_below 8 (λ i. bit m i * get_or ps (suc i) 0)
unfolding sum_below
read_prices ps m = sum_read ps m (range_with_len 0 8)

-- the prices of eight inputs, each as often as it is read, one after the other
pub prices_summed : (ps : List ℕ) (m : ℕ) → sum_by (λ i. bit m i * get_or ps (suc i) 0) (range_with_len 0 8) ≡ sum_below 8 (λ i. bit m i * get_or ps (suc i) 0)
unfolding sum_below
prices_summed ps m = refl
