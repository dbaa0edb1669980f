use Rattle.layers.proofs.PutIn.{put_in_bits}
use Rattle.layers.proofs.Layering.{cofactor_rows, layers_commute}
use Rattle.layers.proofs.cofactor.Cofactor.set.Goals as goal

pub returns-in_err-judge-clause-bits : goal.returns-in_err-judge-clause-bits
returns-in_err-judge-clause-bits g c = put_in_bits

pub returns-in_err-judge-clause-rows : goal.returns-in_err-judge-clause-rows
returns-in_err-judge-clause-rows g c = cofactor_rows

pub returns-in_err-judge-clause-commute : goal.returns-in_err-judge-clause-commute
returns-in_err-judge-clause-commute g c = layers_commute

pub returns-clause-bits : goal.returns-clause-bits
returns-clause-bits g c = put_in_bits

pub returns-clause-rows : goal.returns-clause-rows
returns-clause-rows g c = cofactor_rows

pub returns-clause-commute : goal.returns-clause-commute
returns-clause-commute g c = layers_commute
