-- Lists of terms, one term after the other.
use Rattle.std.specs.Prelude.{◌≡◌, ℕ, ◌^◌, ◌<◌, Bool, ◌||◌, List, [], ◌∷◌, map, Ok}
use Rattle.std.proofs.Common.{refl, sym, ap, ◌∙◌, arith}
use Rattle.std.specs.List.{list_any}
use Rattle.std.proofs.lemmas.List.FromFn.{get_or-map-range_with_len}
use Rattle.terms.specs.declared.term.Term.{Term}
use Rattle.terms.specs.Terms.{holds}
use Rattle.terms.specs.declared.mark.Mark.TheVariants.{Off}
use Rattle.sources.specs.Sources.{looked}
use Rattle.sources.specs.TermLists.{bytes, some_holds, mark_by, listed}
use Rattle.sources.proofs.Looking.{looked_in}

-- whether some term holds a row, asked of the terms or of their bytes
pub some_holds-map : (ts : List Term) (row : ℕ) → some_holds (map bytes ts) row ≡ list_any (λ t. holds t row) ts
some_holds-map [] row = refl
some_holds-map (t ∷ ts) row = ap (λ (b : Bool). holds t row || b) (some_holds-map ts row)

-- a look at a row that is there gives the mark by the lists
pub looked_listed : (n : ℕ) (on free : List (ℕ × ℕ)) (row : ℕ) → row < 2 ^ n → Ok (mark_by on free row) ≡ looked (listed n on free) row
looked_listed n on free row h =
    ap Ok (sym (get_or-map-range_with_len (mark_by on free) 0 (2 ^ n) row row Off h (omega arith))) ∙ sym (looked_in (listed n on free) row h)
