-- Lists of at most a fixed number of items.
use mathlib.Core.HLevel.{is_prop→PathP}
use native.Mathlib.Bridge.{le_prop}
use native.Mathlib.Nat.{ℕ_set}
use Rattle.std.specs.Prelude.{◌≡◌, ℕ, ◌-◌, ◌≤◌, List, [], ◌∷◌, ◌++◌, length, take, replicate, if◌then◌else◌, nat_lt}
use Rattle.std.proofs.Common.{arith, length-take}
use Rattle.fixed.specs.declared.list.FixedList.{FixedList}

-- the items, in order
abbrev pub entries : {T : Type 0} {n : ℕ} → FixedList T n → List T
entries s = take s.len s.items

-- there are at most n
pub entries_fit : {T : Type 0} {n : ℕ} (s : FixedList T n) → length (entries s) ≤ n
entries_fit s =
    let a = s.fits in
    let b = s.whole in
    let c = length-take s.len s.items in
    omega arith

-- the table and the length say all of a list
pub same_list : {T : Type 0} {n : ℕ} (s t : FixedList T n) → s.items ≡ t.items → s.len ≡ t.len → s ≡ t
same_list {n = n} s t p q =
    λ i. record {
      items = p i;
      len = q i;
      whole = is_prop→PathP (λ j. length (p j) ≡ n) (λ j. ℕ_set (length (p j)) n) s.whole t.whole i;
      fits = is_prop→PathP (λ j. q j ≤ n) (λ j. le_prop {n = q j} {m = n}) s.fits t.fits i;
    }

-- a list with an item more at its end, where it has room for n
abbrev pub pushed : {T : Type 0} → ℕ → List T → T → List T
pushed n xs x = if nat_lt (length xs) n then xs ++ x ∷ [] else xs

-- a table of fixed size: the list, and then blanks
abbrev pub padded : {T : Type 0} → ℕ → T → List T → List T
padded size blank xs = xs ++ replicate (size - length xs) blank

-- what stands behind the items is blank
abbrev pub Tidy : {T : Type 0} {n : ℕ} → T → FixedList T n → Type 0
Tidy {n = n} blank s = s.items ≡ padded n blank (entries s)
