-- The three orders keep the five laws.
use Rattle.std.specs.Prelude.{ℕ, suc, ◌*◌, ◌≤◌, List, slice_index}
use Rattle.std.proofs.Common.{mul-le-mul_right, arith}
use Rattle.std.proofs.lemmas.Bool.Decides.{nat_tests}
use Rattle.terms.specs.declared.term.Term.{Term}
use Rattle.terms.specs.Terms.{bit, Inside}
use Rattle.terms.proofs.Widening.{inside_reads, sum_le, contacts_le}
use Rattle.orders.specs.Orders.{Laws}
use Rattle.orders.specs.Kinds.{by_count, price_at, by_price, by_longest}

pub count_laws : Laws by_count
count_laws = record {
  connected = λ a b. grind (arith, nat_tests);
  trans = λ a b c h k. grind (arith, nat_tests);
  comm = λ a b. grind arith;
  assoc = λ a b c. grind arith;
  unit = λ a. grind arith;
  grows = λ a t. grind (arith, nat_tests);
  mono = λ a b c h. grind (arith, nat_tests);
  wider = λ t u w. grind (arith, nat_tests, contacts_le u t w);
}

price_le : (ps : List ℕ) (t u : Term) → Inside u t → price_at ps t ≤ price_at ps u
price_le ps t u w =
    let s = sum_le 8 (λ i. bit t.mask i * slice_index ps (suc i)) (λ i. bit u.mask i * slice_index ps (suc i))
    (λ i. mul-le-mul_right (slice_index ps (suc i)) (inside_reads u t w i)) in
    omega arith

pub price_laws : (ps : List ℕ) → Laws (by_price ps)
price_laws ps = record {
  connected = λ a b. grind (arith, nat_tests);
  trans = λ a b c h k. grind (arith, nat_tests);
  comm = λ a b. omega arith;
  assoc = λ a b c. omega arith;
  unit = λ a. omega arith;
  grows = λ a t. grind (arith, nat_tests);
  mono = λ a b c h. grind (arith, nat_tests);
  wider = λ t u w. grind (arith, nat_tests, price_le ps t u w);
}

pub longest_laws : Laws by_longest
longest_laws = record {
  connected = λ a b. grind (arith, nat_tests);
  trans = λ a b c h k. grind (arith, nat_tests);
  comm = λ a b. omega arith;
  assoc = λ a b c. omega arith;
  unit = λ a. omega arith;
  grows = λ a t. grind (arith, nat_tests);
  mono = λ a b c h. grind (arith, nat_tests);
  wider = λ t u w. grind (arith, nat_tests, contacts_le u t w);
}
