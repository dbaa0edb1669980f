-- The three orders: fewest terms, lowest price, shortest longest term.
use Rattle.std.specs.Prelude.{ℕ, suc, ◌+◌, ◌*◌, min, max, Bool, cond, ◌&&◌, ◌||◌, leb, List, Ok, Err, Result, ◌==◌, nat_le, nat_lt, slice_index}
use Rattle.std.specs.List.{list_all}
use Rattle.terms.specs.declared.refusal.Refusal.{Refusal}
use Rattle.terms.specs.declared.refusal.Refusal.TheVariants.{PriceTooHigh}
use Rattle.terms.specs.declared.term.Term.{Term}
use Rattle.terms.specs.Terms.{bit, sum_below, contacts}
use Rattle.orders.specs.Orders.{Meaning}

-- a pair is at most another: fewer of the first, or as many and no more of the second
abbrev pub pair_at_most : ℕ × ℕ → ℕ × ℕ → Bool
pair_at_most a b = nat_lt a.0 b.0 || (a.0 == b.0 && nat_le a.1 b.1)

-- fewer terms first, then fewer contacts
abbrev pub by_count : Meaning
by_count = record {
  Total = ℕ × ℕ;
  empty = (0, 0);
  price = λ t. (1, contacts t);
  join = λ a b. (a.0 + b.0, a.1 + b.1);
  at_most = pair_at_most;
}

-- what the contacts of a term cost at nine prices: the price after the first is that of input 0, and so on
abbrev pub contact_prices : List ℕ → Term → ℕ
contact_prices ps t = sum_below 8 (λ i. bit t.mask i * slice_index ps (suc i))

-- what a term costs at nine prices: the first for the term, and the others for its contacts
abbrev pub price_at : List ℕ → Term → ℕ
price_at ps t = slice_index ps 0 + contact_prices ps t

-- the sum of the prices
abbrev pub by_price : List ℕ → Meaning
by_price ps = record { Total = ℕ; empty = 0; price = price_at ps; join = λ a b. a + b; at_most = leb }

-- the most contacts in any one term
abbrev pub by_longest : Meaning
by_longest = record { Total = ℕ; empty = 0; price = contacts; join = max; at_most = leb }

-- no price is above 1,000
abbrev pub all_small : List ℕ → Bool
all_small = list_all (λ p. nat_le p 1000)

-- a number in a total stops at 2 ^ 32 - 1
abbrev pub stopped : ℕ → ℕ
stopped a = min a 4294967295

-- what setting prices gives: refused where one is above 1,000
abbrev pub priced : List ℕ → Result (Unit {0}) Refusal
priced ps = cond (all_small ps) (Ok tt) (Err PriceTooHigh)

-- the prices after it: the old ones where it is refused
abbrev pub prices_after : List ℕ → List ℕ → List ℕ
prices_after old ps = cond (all_small ps) ps old
