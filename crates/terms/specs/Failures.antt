-- How a failure is written.
use Rattle.std.specs.Prelude.{ℕ, List}
use lib.Chars.{codes}
use Rattle.terms.specs.declared.failure.Failure.{Failure}
use Rattle.terms.specs.declared.failure.Failure.TheVariants.{Refused, OutOfMemory}
use Rattle.terms.specs.Refusals.{refusal_text}

abbrev pub failure_text : Failure → List ℕ
failure_text (Refused e) = refusal_text e
failure_text OutOfMemory = codes "out of memory"
