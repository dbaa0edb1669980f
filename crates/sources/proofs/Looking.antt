-- What a look at a table gives.
use Rattle.std.specs.Prelude.{◌≡◌, ℕ, ◌<◌, Ok, refl}
use Rattle.terms.specs.Tables.{Table, rows, mark_at}
use Rattle.sources.specs.Sources.{looked}
use Rattle.sources.proofs.Judging.{look_passes}

-- a row that is there
pub looked_in : (tb : Table) (row : ℕ) → row < rows tb → looked tb row ≡ Ok (mark_at tb row)
looked_in tb row h = rw (look_passes tb.inputs row h) refl
