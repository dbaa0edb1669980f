-- When a call on a table is refused: the first rule that it breaks, in the fixed order.
use Rattle.std.specs.Prelude.{ℕ, ◌^◌, cond, ◌||◌, is_some, Some, None, Ok, Err, Option, Result, nat_le, nat_lt}
use Rattle.terms.specs.declared.refusal.Refusal.{Refusal}
use Rattle.terms.specs.declared.refusal.Refusal.TheVariants.{InputsOutOfRange, NoSuchRow, NoSuchMark, MalformedTerm}
use Rattle.terms.specs.Marks.{with_code}
use Rattle.terms.specs.Terms.{is_term}

-- a function has 1 to 8 inputs
abbrev pub size_breaks : ℕ → Option Refusal
size_breaks n = cond (nat_lt n 1 || nat_lt 8 n) (Some InputsOutOfRange) None

-- a function of n inputs has 2 ^ n rows
abbrev pub look_breaks : ℕ → ℕ → Option Refusal
look_breaks n row = cond (nat_le (2 ^ n) row) (Some NoSuchRow) None

-- first the row, then the code
abbrev pub mark_breaks : ℕ → ℕ → ℕ → Option Refusal
mark_breaks n row c = cond (nat_le (2 ^ n) row) (Some NoSuchRow) (cond (is_some (with_code c)) None (Some NoSuchMark))

-- first the term, then the code
abbrev pub sweep_breaks : ℕ → ℕ → ℕ → ℕ → Option Refusal
sweep_breaks n m l c = cond (is_term n m l) (cond (is_some (with_code c)) None (Some NoSuchMark)) (Some MalformedTerm)

-- the first of two rules that is broken
abbrev pub first : Option Refusal → Option Refusal → Option Refusal
first None rest = rest
first (Some e) rest = Some e

-- what a call gives: the refusal where a rule is broken, else the result
abbrev pub judged : {A : Type 0} → Option Refusal → A → Result A Refusal
judged None a = Ok a
judged (Some e) a = Err e

-- what stands after a call: the old where it is refused, else the new
abbrev pub settled : {A : Type 0} → Option Refusal → A → A → A
settled None old new = new
settled (Some e) old new = old
