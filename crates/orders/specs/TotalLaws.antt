-- What holds of totals under every lawful cost order.
use Rattle.std.specs.Prelude.{◌≡◌, true, List, [], ◌∷◌, ◌++◌, ◌≢◌}
use Rattle.terms.specs.declared.term.Term.{Term}
use Rattle.terms.specs.Lists.{In, Ordered}
use Rattle.terms.specs.Terms.{Inside}
use Rattle.orders.specs.Orders.{Meaning, total}

-- a term costs the same wherever it stands, so that a total does not depend on the order of the terms
abbrev pub TotalInAnyOrder : Meaning → Type 0
TotalInAnyOrder m = (xs : List Term) (t : Term) (ys : List Term) → total m (xs ++ t ∷ ys) ≡ total m (t ∷ (xs ++ ys))

-- terms, none of them twice, cost at most what any terms cost that have them among them
abbrev pub MoreCostsMore : Meaning → Type 0
MoreCostsMore m =
    (ts us : List Term) → Ordered (λ t u. t ≢ u) ts → ((t : Term) → In t ts → In t us) → m.at_most (total m ts) (total m us) ≡ true

-- each term lies inside the one at the same place
abbrev pub EachInside : List Term → List Term → Type 0
EachInside [] [] = Unit {0}
EachInside [] (u ∷ us) = ⊥
EachInside (t ∷ ts) [] = ⊥
EachInside (t ∷ ts) (u ∷ us) = Inside t u × EachInside ts us

-- wider terms in place of others never cost more
abbrev pub WiderCostsLess : Meaning → Type 0
WiderCostsLess m = (ts us : List Term) → EachInside ts us → m.at_most (total m us) (total m ts) ≡ true
