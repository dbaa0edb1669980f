-- The numbers of the refusals: the only place that gives them.
use Rattle.std.specs.Prelude.{ℕ, List, ◌++◌}
use Rattle.std.specs.Fmt.{decimal}
use lib.Chars.{codes}
use Rattle.terms.specs.declared.refusal.Refusal.{Refusal}
use Rattle.terms.specs.declared.refusal.Refusal.TheVariants.{InputsOutOfRange, NoSuchRow, NoSuchMark, MalformedTerm, TooManyPrimes, PriceTooHigh, NoSuchInput, OnlyInput, BadNameLine, MalformedLine, ContradictingLine, TextTooLong, BufferTooSmall}

abbrev pub refusal_number : Refusal → ℕ
refusal_number InputsOutOfRange = 1
refusal_number NoSuchRow = 2
refusal_number NoSuchMark = 3
refusal_number MalformedTerm = 4
refusal_number TooManyPrimes = 5
refusal_number PriceTooHigh = 6
refusal_number NoSuchInput = 7
refusal_number OnlyInput = 8
refusal_number BadNameLine = 9
refusal_number MalformedLine = 10
refusal_number ContradictingLine = 11
refusal_number TextTooLong = 12
refusal_number BufferTooSmall = 13

-- how a refusal is written
abbrev pub refusal_text : Refusal → List ℕ
refusal_text e = codes "refused " ++ decimal (refusal_number e)
