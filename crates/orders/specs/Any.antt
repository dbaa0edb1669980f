-- The meaning of an order that is chosen while running: that of the order chosen.
use Rattle.std.specs.Prelude.{ℕ, ◌+◌, max, Bool, nat_le}
use Rattle.terms.specs.declared.term.Term.{Term}
use Rattle.terms.specs.Terms.{contacts}
use Rattle.orders.specs.declared.any.AnyOrder.{AnyOrder}
use Rattle.orders.specs.declared.any.AnyOrder.TheVariants.{Count, Price, Longest}
use Rattle.orders.specs.Orders.{Meaning, Laws}
use Rattle.orders.specs.Kinds.{by_count, by_price, by_longest, pair_at_most, price_at, stopped}
use Rattle.orders.specs.Lawful.{count_laws, price_laws, longest_laws}

abbrev pub any_meaning : AnyOrder → Meaning
any_meaning (Count o) = by_count
any_meaning (Price o) = by_price o.prices
any_meaning (Longest o) = by_longest

pub any_laws : (o : AnyOrder) → Laws (any_meaning o)
any_laws (Count o) = count_laws
any_laws (Price o) = price_laws o.prices
any_laws (Longest o) = longest_laws

-- count uses both numbers of a total, the others the first
abbrev pub any_exact : (o : AnyOrder) → ℕ × ℕ → (any_meaning o).Total
any_exact (Count o) a = a
any_exact (Price o) a = a.0
any_exact (Longest o) a = a.0

-- the total of one term: the second number is 0 where the order has no use for it
abbrev pub any_price : AnyOrder → Term → ℕ × ℕ
any_price (Count o) t = (1, contacts t)
any_price (Price o) t = (price_at o.prices t, 0)
any_price (Longest o) t = (contacts t, 0)

-- two totals joined; a sum stops at 2 ^ 32 - 1
abbrev pub any_join : AnyOrder → ℕ × ℕ → ℕ × ℕ → ℕ × ℕ
any_join (Count o) a b = (stopped (a.0 + b.0), stopped (a.1 + b.1))
any_join (Price o) a b = (stopped (a.0 + b.0), 0)
any_join (Longest o) a b = (max a.0 b.0, 0)

-- one total is at most another
abbrev pub any_at_most : AnyOrder → ℕ × ℕ → ℕ × ℕ → Bool
any_at_most (Count o) a b = pair_at_most a b
any_at_most (Price o) a b = nat_le a.0 b.0
any_at_most (Longest o) a b = nat_le a.0 b.0
