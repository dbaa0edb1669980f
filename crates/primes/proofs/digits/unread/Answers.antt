use Rattle.std.proofs.Common.{◌≡◌, ℕ, ◌/◌, ◌%◌, ◌^◌, Option, Some, None, MatchOption, arith, rules, tests}
use Rattle.std.proofs.lemmas.Iterator.{first_from_Range}
use Rattle.primes.proofs.digits.unread.Goals as goal

weaker : {P P' : Type 0} {Q Q' : ℕ → Type 0} (r : Option ℕ) → (P → P') → ((i : ℕ) → Q i → Q' i) → MatchOption r P Q → MatchOption r P' Q'
weaker None f h m = f m
weaker (Some i) f h m = h i m

pub returns : goal.returns
returns c =
    let f : ℕ → ℕ = λ i. c.args.x / 3 ^ i % 3 in
    weaker c.find.result (λ h k l. h k (omega arith) l) (λ i h. (h.1, h.2))
    (first_from_Range _ _ _ _ (λ i. f i ≡ 0) (λ i. f i ≡ 0 → ⊥) c.find.ensures.ran
    (λ x q k. search (rules, tests))
    (λ x q k. (search rules, search (rules, tests))))
