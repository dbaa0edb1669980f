use Rattle.fixed.specs.Lists.{entries, Tidy}
use Rattle.primes.specs.Records.{no_prime, terms_in}
use Rattle.primes.proofs.Essential.{Noting}
use Rattle.primes.proofs.essentials.mark_essentials.Given as goal

abbrev pub invariant-loop-need : goal.invariant-loop-need
invariant-loop-need l = record { noting : Noting (terms_in l.initial.list) (entries l.needs) l.need-index l.list; tidy : Tidy no_prime l.list }
