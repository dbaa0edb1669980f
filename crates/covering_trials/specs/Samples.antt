-- The chart that a sample stands for.
use Rattle.std.specs.Prelude.{ℕ, ◌+◌, ◌*◌, min, Bool, false, ◌&&◌, List, nat_lt, slice_index_or}
use Rattle.std.proofs.Common.{arith}
use Rattle.std.proofs.Math.Nat.{min-le_right}
use Rattle.primes.specs.Cubes.{term_of}
use Rattle.charts.specs.Grids.{Grid, Small}
use Rattle.covering_trials.specs.declared.sample.Sample.{Sample}

-- whether a column holds a need: 12 cells for each of 10 columns
abbrev pub cell_at : List Bool → ℕ → ℕ → Bool
cell_at cells c i = nat_lt c 10 && (nat_lt i 12 && slice_index_or cells (c * 12 + i) false)

abbrev pub sample_grid : Sample → Grid
sample_grid s = record { width = min s.columns 10; wanted = min s.needs 12; held = cell_at s.cells; term = λ c. slice_index_or s.terms (min c 9) (term_of 0) }

-- it has at most 256 columns and 1,280 needs
pub sample_grid_small : (s : Sample) → Small (sample_grid s)
sample_grid_small s = let few = min-le_right s.columns 10 in let deep = min-le_right s.needs 12 in record { few = omega arith; deep = omega arith }
