use Rattle.std.proofs.Common.{◌≡◌, ℕ, ◌<◌, nat_lt, ◌&&◌, ◌||◌}
use Rattle.fixed.specs.Sets.{member}
use Rattle.reductions.specs.Spares.{is_left}
use Rattle.covering.proofs.floor.use_columns.Given as goal

-- of the columns before this one, those that are left are in
abbrev pub invariant-loop-column : goal.invariant-loop-column
invariant-loop-column g l =
    (k : ℕ) → k < 256 → member l.used k ≡ (member l.initial.used k || (nat_lt k l.column && is_left (g.C.Chart.grid l.chart) (member l.left_out) l.need k))
