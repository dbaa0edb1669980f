use Rattle.std.proofs.Common.{sym, ◌∙◌}
use Rattle.fixed.proofs.Padding.{tidy_push}
use Rattle.primes.specs.Needs.{row_need}
use Rattle.primes.proofs.Needing.{added_yes, added_no}
use Rattle.primes.proofs.needs.add.Goals as goal

pub returns-then-is_needed-clause-items : goal.returns-then-is_needed-clause-items
returns-then-is_needed-clause-items g c = c.push.ensures.after ∙ added_yes (g.S.Source.meaning c.args.source.now) c.args.list.now c.args.need (sym c.if-is_needed.ensures)

pub returns-else-is_needed-clause-items : goal.returns-else-is_needed-clause-items
returns-else-is_needed-clause-items g c = added_no (g.S.Source.meaning c.args.source.now) c.args.list.now c.args.need (sym c.if-is_needed.ensures)

pub returns-then-is_needed-clause-tidy : goal.returns-then-is_needed-clause-tidy
returns-then-is_needed-clause-tidy g c = tidy_push (row_need 0) c.args.list.now c.push.new.self c.args.need c.push.ensures.after c.push.ensures.table c.requires
