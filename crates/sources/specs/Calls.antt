-- What each accepted call on a truth table makes of it.
use Rattle.std.specs.Prelude.{ℕ, suc, ◌^◌, Bool, cond, List, [], ◌∷◌, take, slice_set}
use Rattle.std.specs.Option.{unwrap_or}
use Rattle.terms.specs.declared.mark.Mark.{Mark}
use Rattle.terms.specs.declared.mark.Mark.TheVariants.{Off}
use Rattle.terms.specs.Marks.{with_code}
use Rattle.terms.specs.Terms.{agrees}
use Rattle.terms.specs.Tables.{Table, blank}
use Rattle.sources.specs.declared.call.Call.{Call}
use Rattle.sources.specs.declared.call.Call.TheVariants.{Size, Mark as MarkRow, Sweep, Look}
use Rattle.sources.specs.declared.truth_table.TruthTable.{TruthTable}

-- the table that a truth table stands for
abbrev pub table : TruthTable → Table
table s = record { inputs = s.inputs; marks = take (2 ^ s.inputs) s.marks }

-- the mark that is entered by a code
abbrev pub entered : ℕ → Mark
entered c = unwrap_or (with_code c) Off

-- one row gets a mark
abbrev pub with_row : Table → ℕ → Mark → Table
with_row tb row m = record { inputs = tb.inputs; marks = slice_set tb.marks row m }

-- the marks of the rows from r on, with m at each row that passes the test
abbrev pub painted : (ℕ → Bool) → Mark → ℕ → List Mark → List Mark
painted p m r [] = []
painted p m r (x ∷ xs) = cond (p r) m x ∷ painted p m (suc r) xs

-- every row that agrees with the levels l at the inputs of mask k gets a mark
abbrev pub with_rows : Table → ℕ → ℕ → Mark → Table
with_rows tb k l m = record { inputs = tb.inputs; marks = painted (agrees k l) m 0 tb.marks }

-- what a table is after an accepted call
abbrev pub changed : Table → Call → Table
changed tb (Size k) = blank k
changed tb (MarkRow row c) = with_row tb row (entered c)
changed tb (Sweep m l c) = with_rows tb m l (entered c)
changed tb (Look row) = tb
