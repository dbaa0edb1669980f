-- The layers that lie over a source: the complement of a table, and its cofactors.
use Rattle.std.specs.Prelude.{◌≡◌, ℕ, suc, ◌+◌, ◌-◌, ◌*◌, ◌/◌, ◌%◌, ◌^◌, ◌<◌, ◌≤◌, Bool, cond, map, Some, None, Option, ◌==◌, nat_le}
use Rattle.std.specs.List.{range_with_len}
use Rattle.terms.specs.declared.mark.Mark.{Mark}
use Rattle.terms.specs.declared.mark.Mark.TheVariants.{Off, On, Free}
use Rattle.terms.specs.declared.refusal.Refusal.{Refusal}
use Rattle.terms.specs.declared.refusal.Refusal.TheVariants.{NoSuchInput, OnlyInput}
use Rattle.terms.specs.Terms.{bit}
use Rattle.terms.specs.Tables.{Table, Proper, rows, mark_at}
use Rattle.sources.specs.Rules.{settled}
use Rattle.layers.specs.declared.setting.Setting.{Setting}

-- ON and OFF change places, FREE stays
abbrev pub opposite : Mark → Mark
opposite Off = On
opposite On = Off
opposite Free = Free

abbrev pub complement : Table → Table
complement tb = record { inputs = tb.inputs; marks = map opposite tb.marks }

-- a level as a number
abbrev pub level_of : Bool → ℕ
level_of b = cond b 1 0

-- row r with input i put in at a level: the inputs from i on move up one
abbrev pub put_in : ℕ → Bool → ℕ → ℕ
put_in i b r = r / 2 ^ i * 2 ^ suc i + (level_of b * 2 ^ i + r % 2 ^ i)

-- input i held at a level: one input fewer, and each row is the row below with the input put in
abbrev pub cofactor : ℕ → Bool → Table → Table
cofactor i b tb = record { inputs = tb.inputs - 1; marks = map (λ r. mark_at tb (put_in i b r)) (range_with_len 0 (2 ^ (tb.inputs - 1))) }

-- an input of a function of n inputs can be held at a level where it is there, and is not the only one
abbrev pub hold_breaks : ℕ → ℕ → Option Refusal
hold_breaks n i = cond (nat_le n i) (Some NoSuchInput) (cond (n == 1) (Some OnlyInput) None)

-- the setting that counts over a source of n inputs: what is set, where there is such an input to hold
abbrev pub in_force : ℕ → Option Setting → Option Setting
in_force n None = None
in_force n (Some s) = settled (hold_breaks n s.input) None (Some s)

-- a table through a setting that counts; where none does, everything passes
abbrev pub through : Option Setting → Table → Table
through None tb = tb
through (Some s) tb = cofactor s.input s.level tb

-- what a cofactor layer shows of the table below
abbrev pub view : Option Setting → Table → Table
view o tb = through (in_force tb.inputs o) tb

-- ---- laws
-- complementing twice gives the table again
abbrev pub ComplementTwice : Type 0
ComplementTwice = (tb : Table) → complement (complement tb) ≡ tb

-- the row that is put together has the level at the input, and the other inputs as they were
abbrev pub PutInBits : Type 0
PutInBits =
    (i : ℕ) (b : Bool) (r : ℕ)
    → (bit (put_in i b r) i ≡ level_of b)
    × ((j : ℕ) → j < i → bit (put_in i b r) j ≡ bit r j)
    × ((j : ℕ) → i ≤ j → bit (put_in i b r) (suc j) ≡ bit r j)

-- a row of the cofactor has the mark of the row below with the input put in
abbrev pub CofactorRows : Type 0
CofactorRows =
    (tb : Table) (i : ℕ) (b : Bool) → Proper tb → i < tb.inputs → 1 < tb.inputs
    → (r : ℕ) → r < rows (cofactor i b tb) → (put_in i b r < rows tb) × (mark_at (cofactor i b tb) r ≡ mark_at tb (put_in i b r))

-- it is the same to complement first and to hold the input first
abbrev pub LayersCommute : Type 0
LayersCommute =
    (tb : Table) (i : ℕ) (b : Bool) → Proper tb → i < tb.inputs → 1 < tb.inputs
    → complement (cofactor i b tb) ≡ cofactor i b (complement tb)
