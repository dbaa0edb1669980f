-- Nodes that hold no good set, and tests of values.
use Rattle.std.proofs.Common.{◌≡◌, ℕ, ◌<◌, ◌≤◌, Bool, true, false, List, map, length}
use Rattle.std.proofs.lemmas.Bool.{both_ways}
use Rattle.terms.specs.declared.term.Term.{Term}
use Rattle.orders.specs.Orders.{Laws, total}
use Rattle.charts.specs.Best.{Problem}
use Rattle.charts.specs.Sets.{down, fine, passes}
use Rattle.charts.proofs.Values.{part, fine_down, told, short}
use Rattle.reductions.specs.Goals.{Good}
use Rattle.charts.specs.Sets.{Priced}

module _ (p : Problem) (laws : Laws p.order) (strict : Bool) (bound t b : ℕ → Bool) where
  -- what is taken is too much already
  pub cut : fine p strict bound t ≡ false → (d : ℕ → Bool) → Good p strict bound t b d → ⊥
  cut f d g = both_ways _ f (fine_down p laws strict bound d t (part p laws t d g.has) g.worth)

  -- a need that no column is left for
  pub lost : (i : ℕ) → i < p.grid.wanted → ((c : ℕ) → c < p.grid.width → p.grid.held c i ≡ true → b c ≡ true) → (d : ℕ → Bool) → Good p strict bound t b d → ⊥
  lost i li none d g =
      let w = g.covers i li in
      both_ways _ (g.lacks w.0 w.1 (none w.0 w.1 w.3)) w.2

-- what the program's test says of two sets that it has priced
pub tested : (p : Problem) → p.grid.width ≤ 256 → (strict : Bool) (s b : ℕ → Bool) (x y : p.order.Total) (i j : ℕ) (r : Bool) → Priced p x i s → Priced p y j b
    → ((ts us : List Term) → x ≡ total p.order ts → y ≡ total p.order us → length ts ≤ 256 → length us ≤ 256 → r ≡ passes p.order strict x i y j) → fine p strict b s ≡ r
tested p few strict s b x y i j r hs hb says =
    told p strict s b x y i j r hs.total hs.size hb.total hb.size
    (says (map p.grid.term (down s p.grid.width)) (map p.grid.term (down b p.grid.width)) hs.total hb.total (short p s few) (short p b few))
