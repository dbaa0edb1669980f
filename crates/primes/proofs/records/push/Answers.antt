use Rattle.fixed.proofs.Padding.{tidy_push}
use Rattle.primes.specs.Records.{no_prime}
use Rattle.primes.proofs.records.push.Goals as goal

pub returns-clause-tidy : goal.returns-clause-tidy
returns-clause-tidy c = tidy_push no_prime c.args.list.now c.push.new.self c.count_needs.new.prime c.push.ensures.after c.push.ensures.table c.requires
