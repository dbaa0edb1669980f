use Rattle.std.proofs.Common.{◌≡◌, ℕ, ◌<◌, ◌≤◌, false, IfSome, MatchOption, Option, Some, None, rules, tests, arith}
use Rattle.std.specs.Bool.{⊤}
use Rattle.std.proofs.lemmas.Iterator.{first_from_Range}
use Rattle.fixed.specs.Sets.{member}
use Rattle.reductions.specs.Spares.{is_left}
use Rattle.reductions.proofs.columns_left.first_left.Goals as goal

-- what is found is the first
before_found : (N : Type 0) (Yes No : ℕ → Type 0) (n : ℕ) (r : Option ℕ)
    → MatchOption r N (λ i. (0 ≤ i) × (i < n) × Yes i × ((k : ℕ) → 0 ≤ k → k < i → No k)) → IfSome r (λ i. (k : ℕ) → k < i → No k)
before_found N Yes No n None w = tt
before_found N Yes No n (Some i) w = λ k l. w.3 k (omega arith) l

pub returns-clause-first : goal.returns-clause-first
returns-clause-first g c =
    let m = g.C.Chart.grid c.args.chart.now in
    let left : ℕ → Type 0 = λ k. is_left m (member c.args.banned.now) c.args.need k ≡ false in
    before_found _ (λ k. ⊤) left c.columns.result c.find.result (first_from_Range _ _ _ c.find.result (λ k. ⊤) left c.find.ensures.ran (λ x q k. tt) (λ x q k. search (rules, tests)))
