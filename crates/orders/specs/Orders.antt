-- What a cost order means, and the five laws that it keeps.
use Rattle.std.specs.Prelude.{◌≡◌, ◌+◌, ◌≤◌, Bool, true, ◌⊎◌, List, [], ◌∷◌, length}
use Rattle.terms.specs.declared.term.Term.{Term}
use Rattle.terms.specs.Terms.{Inside}

-- exact totals, without upper end: the empty total, the price of a term, two totals joined, whether one is at most another
pub record Meaning : Type 1 where
  pub Total : Type 0
  pub empty : Total
  pub price : Term → Total
  pub join : Total → Total → Total
  pub at_most : Total → Total → Bool

-- the five laws
pub record Laws (m : Meaning) : Type 0 where
  -- 1: at-most compares any two totals, and is transitive
  pub connected : (a b : m.Total) → (m.at_most a b ≡ true) ⊎ (m.at_most b a ≡ true)
  pub trans : (a b c : m.Total) → m.at_most a b ≡ true → m.at_most b c ≡ true → m.at_most a c ≡ true
  -- 2: joining is commutative and associative, and the empty total alters nothing
  pub comm : (a b : m.Total) → m.join a b ≡ m.join b a
  pub assoc : (a b c : m.Total) → m.join (m.join a b) c ≡ m.join a (m.join b c)
  pub unit : (a : m.Total) → m.join m.empty a ≡ a
  -- 3: a total is at most itself joined with the price of a term
  pub grows : (a : m.Total) (t : Term) → m.at_most a (m.join a (m.price t)) ≡ true
  -- 4: if a is at most b, then a joined with c is at most b joined with c
  pub mono : (a b c : m.Total) → m.at_most a b ≡ true → m.at_most (m.join a c) (m.join b c) ≡ true
  -- 5: the price of a term is at most the price of any term inside it
  pub wider : (t u : Term) → Inside u t → m.at_most (m.price t) (m.price u) ≡ true

-- what a list of terms costs
abbrev pub total : (m : Meaning) → List Term → m.Total
total m [] = m.empty
total m (t ∷ ts) = m.join (m.price t) (total m ts)

-- r joins a and b exactly, where they are the totals of terms, of at most 256 in all
abbrev pub JoinsExactly : (m : Meaning) → m.Total → m.Total → m.Total → Type 0
JoinsExactly m a b r = (ts us : List Term) → a ≡ total m ts → b ≡ total m us → length ts + length us ≤ 256 → r ≡ m.join a b

-- a fact holds where a and b are the totals of at most 256 terms each
abbrev pub OnTotals : (m : Meaning) → m.Total → m.Total → Type 0 → Type 0
OnTotals m a b P = (ts us : List Term) → a ≡ total m ts → b ≡ total m us → length ts ≤ 256 → length us ≤ 256 → P

-- r compares a and b exactly, where they are such totals
abbrev pub ComparesExactly : (m : Meaning) → m.Total → m.Total → Bool → Type 0
ComparesExactly m a b r = OnTotals m a b (r ≡ m.at_most a b)
