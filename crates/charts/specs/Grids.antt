-- What a covering chart means.
use Rattle.std.specs.Prelude.{ℕ, ◌≤◌, Bool}
use Rattle.terms.specs.declared.term.Term.{Term}

-- columns 0 to width - 1, in order; needs 0 to wanted - 1; which column holds which need; and the term as which a column is priced
pub record Grid : Type 0 where
  pub width : ℕ
  pub wanted : ℕ
  pub held : ℕ → ℕ → Bool
  pub term : ℕ → Term

-- at most 256 columns and 1,280 needs
pub record Small (g : Grid) : Type 0 where
  pub few : g.width ≤ 256
  pub deep : g.wanted ≤ 1280
