use Rattle.std.proofs.Common.{arith}
use Rattle.primes.proofs.BaseThree.{pow3_pos}
use Rattle.primes.proofs.digits.digit.Goals as goal

pub nonzero_div-result : goal.nonzero_div-result
nonzero_div-result c = omega (arith, pow3_pos c.args.i)
