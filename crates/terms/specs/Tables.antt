-- Switching functions as tables, and the terms that matter for one: implicants and primes.
use Rattle.std.specs.Prelude.{◌≡◌, ℕ, ◌^◌, ◌<◌, ◌≤◌, not, T, List, length, replicate, slice_index_or}
use Rattle.terms.specs.declared.mark.Mark.{Mark}
use Rattle.terms.specs.declared.mark.Mark.TheVariants.{Off}
use Rattle.terms.specs.declared.term.Term.{Term}
use Rattle.terms.specs.Marks.{is_off}
use Rattle.terms.specs.Terms.{Over, holds, Inside}

-- a number of inputs, and a mark for each row, row 0 first
pub record Table : Type 0 where
  pub inputs : ℕ
  pub marks : List Mark

-- 1 to 8 inputs, and a mark for each of the 2 ^ n rows
pub record Proper (tb : Table) : Type 0 where
  pub some : 1 ≤ tb.inputs
  pub few : tb.inputs ≤ 8
  pub full : length tb.marks ≡ 2 ^ tb.inputs

-- the number of rows
abbrev pub rows : Table → ℕ
rows tb = 2 ^ tb.inputs

-- the mark of row r
abbrev pub mark_at : Table → ℕ → Mark
mark_at tb r = slice_index_or tb.marks r Off

-- n inputs, every row OFF
abbrev pub blank : ℕ → Table
blank n = record { inputs = n; marks = replicate (2 ^ n) Off }

-- a term over the table's inputs that holds no OFF row
pub record Implicant (tb : Table) (t : Term) : Type 0 where
  pub over : Over tb.inputs t
  pub spares : (r : ℕ) → r < rows tb → T (is_off (mark_at tb r)) → T (not (holds t r))

-- an implicant that lies inside no other implicant
pub record Prime (tb : Table) (t : Term) : Type 0 where
  pub implicant : Implicant tb t
  pub widest : (u : Term) → Implicant tb u → Inside t u → u ≡ t
