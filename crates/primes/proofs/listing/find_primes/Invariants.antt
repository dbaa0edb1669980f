use Rattle.std.proofs.Common.{◌≡◌, true}
use Rattle.fixed.specs.Lists.{entries}
use Rattle.primes.specs.Cubes.{cube_of}
use Rattle.primes.specs.Primes.{every, allowed}
use Rattle.primes.proofs.Cube.{stands}
use Rattle.primes.proofs.Gathering.{Gathered}
use Rattle.primes.proofs.listing.find_primes.Given as goal

abbrev pub invariant-loop-i : goal.invariant-loop-i
invariant-loop-i g l = every (stands (allowed (g.S.Source.meaning l.source)) (cube_of l.n l.x)) l.i ≡ true

abbrev pub invariant-terms : goal.invariant-terms
invariant-terms g l = Gathered (g.S.Source.meaning l.source) (entries l.needs) l.x l.list
