-- What a source answers, by the table that it means.
use Rattle.std.specs.Prelude.{ℕ, Bool, ◌&&◌, Result, nat_lt}
use Rattle.terms.specs.declared.mark.Mark.{Mark}
use Rattle.terms.specs.declared.refusal.Refusal.{Refusal}
use Rattle.terms.specs.Marks.{is_on, is_off}
use Rattle.terms.specs.Tables.{Table, rows, mark_at}
use Rattle.sources.specs.Rules.{look_breaks, judged}

-- the mark of a row, or the refusal where there is no such row
abbrev pub looked : Table → ℕ → Result Mark Refusal
looked tb row = judged (look_breaks tb.inputs row) (mark_at tb row)

-- the table has such a row, and it is ON
abbrev pub on_at : Table → ℕ → Bool
on_at tb row = nat_lt row (rows tb) && is_on (mark_at tb row)

-- the table has such a row, and it is OFF
abbrev pub off_at : Table → ℕ → Bool
off_at tb row = nat_lt row (rows tb) && is_off (mark_at tb row)
