use Rattle.primes.proofs.Needing.{added_none, added_more, rows_more}
use Rattle.primes.proofs.needs.add_rows.Goals as goal

pub loop-row-init : goal.loop-row-init
loop-row-init g c = record { items = added_none (g.S.Source.meaning c.args.source.now) c.args.list.now; tidy = c.requires.tidy }

pub loop-row-preserved : goal.loop-row-preserved
loop-row-preserved g c = record { items = added_more (g.S.Source.meaning c.args.source.now) _ _ _ c.loop-row.invariant.items c.add.ensures.items (rows_more c.loop-row.row); tidy = c.add.ensures.tidy }
