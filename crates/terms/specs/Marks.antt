-- Marks: their codes, and the two questions that primes and covers ask of one.
use Rattle.std.specs.Prelude.{◌≡◌, ℕ, Bool, true, false, cond, List, Some, None, Option, ◌==◌}
use lib.Chars.{codes}
use Rattle.terms.specs.declared.mark.Mark.{Mark}
use Rattle.terms.specs.declared.mark.Mark.TheVariants.{Off, On, Free}

-- the code by which a mark is entered: the only place that gives the codes
abbrev pub code_of : Mark → ℕ
code_of Off = 0
code_of On = 1
code_of Free = 2

-- the mark that has a code, if there is one
abbrev pub with_code : ℕ → Option Mark
with_code c =
    cond (c == code_of Off) (Some Off)
    (cond (c == code_of On) (Some On)
    (cond (c == code_of Free) (Some Free) None))

-- a mark has a code exactly when it is the mark with that code
abbrev pub CodesTell : Type 0
CodesTell = (m : Mark) (c : ℕ) → (with_code c ≡ Some m → code_of m ≡ c) × (code_of m ≡ c → with_code c ≡ Some m)

-- how a mark is written: the only place that gives the words
abbrev pub mark_text : Mark → List ℕ
mark_text Off = codes "OFF"
mark_text On = codes "ON"
mark_text Free = codes "FREE"

abbrev pub is_on : Mark → Bool
is_on Off = false
is_on On = true
is_on Free = false

abbrev pub is_off : Mark → Bool
is_off Off = true
is_off On = false
is_off Free = false
