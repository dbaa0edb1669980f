-- The table that two lists of terms mean, each term a mask and levels.
use Rattle.std.specs.Prelude.{◌≡◌, ℕ, ◌^◌, Bool, cond, ◌&&◌, List, map, Some, None, Ok, Err, vec_items, Option, Result}
use Rattle.std.specs.List.{range_with_len, list_any, list_all}
use Rattle.terms.specs.declared.mark.Mark.{Mark}
use Rattle.terms.specs.declared.mark.Mark.TheVariants.{Off, On, Free}
use Rattle.terms.specs.declared.term.Term.{Term}
use Rattle.terms.specs.declared.refusal.Refusal.{Refusal}
use Rattle.terms.specs.declared.refusal.Refusal.TheVariants.{MalformedTerm}
use Rattle.terms.specs.declared.failure.Failure.{Failure}
use Rattle.terms.specs.declared.failure.Failure.TheVariants.{Refused, OutOfMemory}
use Rattle.terms.specs.Terms.{is_term, agrees}
use Rattle.terms.specs.Tables.{Table}
use Rattle.sources.specs.declared.term_list.TermList.{TermList}
use Rattle.sources.specs.Rules.{size_breaks, first}

-- the bytes of a term
abbrev pub bytes : Term → ℕ × ℕ
bytes t = (t.mask, t.levels)

-- some term of the list holds row r
abbrev pub some_holds : List (ℕ × ℕ) → ℕ → Bool
some_holds ts r = list_any (λ t. agrees t.0 t.1 r) ts

-- ON in a term of the first list, FREE only in one of the second, else OFF
abbrev pub mark_by : List (ℕ × ℕ) → List (ℕ × ℕ) → ℕ → Mark
mark_by on free r = cond (some_holds on r) On (cond (some_holds free r) Free Off)

abbrev pub listed : ℕ → List (ℕ × ℕ) → List (ℕ × ℕ) → Table
listed n on free = record { inputs = n; marks = map (mark_by on free) (range_with_len 0 (2 ^ n)) }

-- the table that a term list stands for
abbrev pub term_table : TermList → Table
term_table s = listed s.inputs (map bytes (vec_items s.on)) (map bytes (vec_items s.free))

-- every pair of bytes is a term of n inputs
abbrev pub all_terms : ℕ → List (ℕ × ℕ) → Bool
all_terms n ts = list_all (λ t. is_term n t.0 t.1) ts

-- first the number of inputs, then the terms
abbrev pub fill_breaks : ℕ → List (ℕ × ℕ) → List (ℕ × ℕ) → Option Refusal
fill_breaks n on free = first (size_breaks n) (cond (all_terms n on && all_terms n free) None (Some MalformedTerm))

-- what filling came to: done and out of memory only where no rule is broken, else the refusal
abbrev pub Filled : Option Refusal → Result (Unit {0}) Failure → Type 0
Filled b (Ok x) = b ≡ None
Filled b (Err (Refused e)) = b ≡ Some e
Filled b (Err OutOfMemory) = b ≡ None
