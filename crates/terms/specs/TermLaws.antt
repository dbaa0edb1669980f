-- What holds of all terms, in the subject's words.
use Rattle.std.specs.Prelude.{◌≡◌, ℕ, ◌≤◌, T}
use Rattle.terms.specs.declared.term.Term.{Term}
use Rattle.terms.specs.Terms.{bit, reads, holds, number}

-- a term holds a row exactly when the row has the term's level at every input read
abbrev pub HoldsByLevels : Type 0
HoldsByLevels =
    (t : Term) (r : ℕ)
    → (T (holds t r) → (i : ℕ) → T (reads t i) → bit r i ≡ bit t.levels i)
    × (((i : ℕ) → T (reads t i) → bit r i ≡ bit t.levels i) → T (holds t r))

-- no two terms share a number
abbrev pub NumbersDiffer : Type 0
NumbersDiffer = (t u : Term) → number t ≡ number u → t ≡ u

-- every number is at most 6,560
abbrev pub NumbersBounded : Type 0
NumbersBounded = (t : Term) → number t ≤ 6560
