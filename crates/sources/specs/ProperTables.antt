-- What a truth table and a term list stand for is a proper table: the proofs of the law that each owes as a source.
use Rattle.std.specs.Prelude.{ℕ, ◌^◌, ◌≤◌, List, length}
use Rattle.std.proofs.Common.{arith, length-take-le, pow_mono}
use Rattle.std.proofs.lemmas.List.FromFn.{length-map-range_with_len}
use Rattle.terms.specs.Tables.{Proper}
use Rattle.sources.specs.declared.truth_table.TruthTable.{TruthTable}
use Rattle.sources.specs.Calls.{table}
use Rattle.sources.specs.TermLists.{mark_by, listed}

pub table_proper : (s : TruthTable) → Proper (table s)
table_proper s =
    let room : 2 ^ s.inputs ≤ length s.marks = omega (arith, s.whole, pow_mono {i = s.inputs} {j = 8} s.few) in
    record { some = s.some; few = s.few; full = length-take-le (2 ^ s.inputs) s.marks room }

pub listed_proper : (n : ℕ) (on free : List (ℕ × ℕ)) → 1 ≤ n → n ≤ 8 → Proper (listed n on free)
listed_proper n on free a b = record { some = a; few = b; full = length-map-range_with_len (mark_by on free) 0 (2 ^ n) }
