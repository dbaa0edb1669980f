use Rattle.std.proofs.Common.{◌≡◌, ℕ, ◌+◌, ◌-◌, List, length, take, drop, position, sym, ap, ◌∙◌, arith, length-drop, take_all}
use Rattle.primes.specs.declared.prime.Prime.{Prime}
use Rattle.primes.specs.Records.{no_prime, record_meets}
use Rattle.primes.proofs.Essential.{sole_not, sole_there}
use Rattle.primes.proofs.essentials.sole_holder.Goals as goal

-- what follows a place
rest : (xs : List Prime) (i : ℕ) → take (length xs - i) (drop i xs) ≡ drop i xs
rest xs i = take_all (length xs - i) (drop i xs) (omega (arith, length-drop i xs))

pub returns-in-Some : goal.returns-in-Some
returns-in-Some c =
    let xs : List Prime = c.args.primes.now in
    let i : ℕ = c.in_ok-place.place in
    sym (sole_not (record_meets c.args.need) xs i c.in-Some.field-0 no_prime (sym c.first_holder.ensures ∙ c.in_ok-place.was)
    (ap (position (record_meets c.args.need)) (sym (rest xs (i + 1))) ∙ sym c.in-Some.ensures))

pub returns-in-None : goal.returns-in-None
returns-in-None c =
    let xs : List Prime = c.args.primes.now in
    let i : ℕ = c.in_ok-place.place in
    sym (sole_there (record_meets c.args.need) xs i no_prime (sym c.first_holder.ensures ∙ c.in_ok-place.was)
    (ap (position (record_meets c.args.need)) (sym (rest xs (i + 1))) ∙ sym c.in-None.ensures))
