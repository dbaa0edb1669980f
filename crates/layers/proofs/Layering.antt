-- The complement of a table, and its cofactors.
use Rattle.std.specs.Prelude.{◌≡◌, ℕ, ◌-◌, ◌^◌, ◌<◌, List, [], ◌∷◌, map, length, Some, Ok, Option, refl}
use Rattle.std.proofs.Common.{sym, ap, ap₂, subst, ◌∙◌, arith, ext_get_or}
use Rattle.std.proofs.lemmas.List.{length-map, get_or-map}
use Rattle.std.proofs.lemmas.List.FromFn.{length-map-range_with_len, get_or-map-range_with_len}
use Rattle.std.specs.List.{range_with_len}
use Rattle.terms.specs.declared.mark.Mark.{Mark}
use Rattle.terms.specs.declared.mark.Mark.TheVariants.{Off, On, Free}
use Rattle.terms.specs.Tables.{Table, Proper, rows, mark_at}
use Rattle.layers.specs.declared.setting.Setting.{Setting}
use Rattle.sources.specs.Sources.{looked}
use Rattle.layers.specs.Layers.{opposite, complement, put_in, cofactor, in_force, through, view, ComplementTwice, CofactorRows, LayersCommute}
use Rattle.sources.proofs.Painting.{table_eq}
use Rattle.sources.proofs.Looking.{looked_in}
use Rattle.layers.specs.ProperLayers.{in_force_lem, more_than_one}
use Rattle.layers.proofs.PutIn.{put_in_lt}

-- ---- complement
opposite_twice : (m : Mark) → opposite (opposite m) ≡ m
opposite_twice Off = refl
opposite_twice On = refl
opposite_twice Free = refl

map_twice : (ms : List Mark) → map opposite (map opposite ms) ≡ ms
map_twice [] = refl
map_twice (m ∷ ms) = ap₂ (λ (x : Mark) (xs : List Mark). x ∷ xs) (opposite_twice m) (map_twice ms)

pub complement_twice : ComplementTwice
complement_twice tb = table_eq tb.inputs (map opposite (map opposite tb.marks)) tb.marks (map_twice tb.marks)

pub mark_complement : (tb : Table) (row : ℕ) → Proper tb → row < rows tb → mark_at (complement tb) row ≡ opposite (mark_at tb row)
mark_complement tb row p h = get_or-map opposite tb.marks row Off Off (subst (λ (n : ℕ). row < n) (sym p.full) h)

-- ---- cofactor
pub cofactor_rows : CofactorRows
cofactor_rows tb i b p h k r l =
    (put_in_lt tb.inputs i b r h l, get_or-map-range_with_len (λ r. mark_at tb (put_in i b r)) 0 (2 ^ (tb.inputs - 1)) r r Off l (omega arith))

-- a look through a setting that counts
pub looked_through : (tb : Table) (o : Option Setting) (s : Setting) (row : ℕ) → Proper tb → in_force tb.inputs o ≡ Some s → row < 2 ^ (tb.inputs - 1)
    → looked tb (put_in s.input s.level row) ≡ looked (view o tb) row
looked_through tb o s row p e l =
    let f = in_force_lem tb.inputs o s e in
    let c = cofactor_rows tb s.input s.level p f.0 (more_than_one tb p f.1) row l in
    looked_in tb (put_in s.input s.level row) c.0
    ∙ ap Ok (sym c.1)
    ∙ sym (looked_in (cofactor s.input s.level tb) row l)
    ∙ ap (λ (x : Option Setting). looked (through x tb) row) (sym e)

pub layers_commute : LayersCommute
layers_commute tb i b p h k =
    let n : ℕ = 2 ^ (tb.inputs - 1) in
    let f : ℕ → Mark = λ r. mark_at tb (put_in i b r) in
    let g : ℕ → Mark = λ r. mark_at (complement tb) (put_in i b r) in
    let long : length (map opposite (map f (range_with_len 0 n))) ≡ n = length-map (map f (range_with_len 0 n)) opposite ∙ length-map-range_with_len f 0 n in
    table_eq (tb.inputs - 1) (map opposite (map f (range_with_len 0 n))) (map g (range_with_len 0 n))
    (ext_get_or Off (map opposite (map f (range_with_len 0 n))) (map g (range_with_len 0 n)) (long ∙ sym (length-map-range_with_len g 0 n))
    (λ r l.
    let lt : r < n = subst (λ (x : ℕ). r < x) long l in
    let c = cofactor_rows tb i b p h k r lt in
    get_or-map opposite (map f (range_with_len 0 n)) r Off Off (subst (λ (x : ℕ). r < x) (sym (length-map-range_with_len f 0 n)) lt)
    ∙ ap opposite c.1
    ∙ sym (mark_complement tb (put_in i b r) p c.0)
    ∙ sym (get_or-map-range_with_len g 0 n r r Off lt (omega arith))))
