use Rattle.terms.proofs.Bytes.{ones_byte}
use Rattle.terms.proofs.term.Term.contacts.Goals as goal

pub returns-clause-value : goal.returns-clause-value
returns-clause-value c = ones_byte c.args.self.mask c.args.self.byte
