use Rattle.charts.proofs.Holding.{held_tells}
use Rattle.reductions.proofs.columns_left.held_by.Goals as goal

pub returns-clause-law : goal.returns-clause-law
returns-clause-law g c = held_tells
