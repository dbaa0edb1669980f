-- What is refused, and with which refusal, where a number stands for a mark or a term.
use Rattle.std.specs.Prelude.{ℕ, Result}
use Rattle.std.specs.Option.{ok_or}
use Rattle.terms.specs.declared.mark.Mark.{Mark}
use Rattle.terms.specs.declared.refusal.Refusal.{Refusal}
use Rattle.terms.specs.declared.refusal.Refusal.TheVariants.{NoSuchMark}
use Rattle.terms.specs.Marks.{with_code}

-- the mark that has a code, or its refusal
abbrev pub mark_by_code : ℕ → Result Mark Refusal
mark_by_code c = ok_or (with_code c) NoSuchMark
