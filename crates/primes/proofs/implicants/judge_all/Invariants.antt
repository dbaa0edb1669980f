use Rattle.primes.proofs.Judged.{JudgedFrom}
use Rattle.primes.proofs.implicants.judge_all.Given as goal

abbrev pub invariant-loop-x : goal.invariant-loop-x
invariant-loop-x g l = JudgedFrom (g.S.Source.meaning l.source) l.x l.found
