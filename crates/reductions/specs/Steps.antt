-- The steps of a search, the last one first: which columns were taken or banned, in turn.
use Rattle.std.specs.Prelude.{ℕ, Bool, true, false, cond, not, ◌&&◌, ◌||◌, List, [], ◌∷◌, ◌==◌, nat_lt}
use Rattle.reductions.specs.declared.step.Step.{Step}

abbrev pub step : ℕ → Bool → Bool → Step
step c t d = record { column = c; takes = t; decided = d }

-- what is taken after the steps, where t was taken before them
abbrev pub taken_by : (ℕ → Bool) → List Step → ℕ → Bool
taken_by t [] k = t k
taken_by t (e ∷ r) k = (e.takes && e.column == k) || taken_by t r k

-- what is banned after the steps, where b was banned before them
abbrev pub banned_by : (ℕ → Bool) → List Step → ℕ → Bool
banned_by b [] k = b k
banned_by b (e ∷ r) k = (not e.takes && e.column == k) || banned_by b r k

-- a column that is neither taken nor banned
abbrev pub is_free : (ℕ → Bool) → (ℕ → Bool) → ℕ → Bool
is_free t b c = nat_lt c 256 && (not (t c) && not (b c))

-- each column was free when its step came
abbrev pub is_fresh : (ℕ → Bool) → (ℕ → Bool) → List Step → Bool
is_fresh t b [] = true
is_fresh t b (e ∷ r) = is_free (taken_by t r) (banned_by b r) e.column && is_fresh t b r

-- a decision is left of which the other side is still owed
abbrev pub owes : List Step → Bool
owes [] = false
owes (e ∷ r) = e.decided || owes r

-- the last decision turned: its column banned, and what came after it undone
abbrev pub backed : List Step → List Step
backed [] = []
backed (e ∷ r) = cond e.decided (step e.column false false ∷ r) (backed r)
