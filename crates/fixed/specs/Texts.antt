-- What is written of a full list.
use Rattle.std.specs.Prelude.{ℕ, List}
use lib.Chars.{codes}

abbrev pub full_text : List ℕ
full_text = codes "no room for another item"
