use Rattle.std.proofs.Common.{◌≡◌, ℕ, Bool, true, false, Some, None, Option, [], MatchOption, sym, refl, subst, inl}
use Rattle.fixed.specs.Sets.{member}
use Rattle.orders.specs.Orders.{Laws}
use Rattle.charts.specs.Best.{Problem, problem}
use Rattle.charts.specs.Sets.{ColumnSet}
use Rattle.charts.proofs.Values.{exceeds_same}
use Rattle.reductions.specs.declared.node.Node.{Node}
use Rattle.reductions.specs.declared.trail.Trail.{Trail}
use Rattle.reductions.specs.Goals.{Good, Somewhere}
use Rattle.reductions.specs.Trails.{steps_of, taken, banned}
use Rattle.covering.specs.Seeking.{Ended}
use Rattle.covering.proofs.Walking.{good_found}
use Rattle.covering.proofs.quest.Quest.find.Goals as goal

-- from a root with no step, what a walk found is good there, and where it found nothing there is nothing
module _ (p : Problem) (laws : Laws p.order) (st : Bool) (bound : ℕ → Bool) (s w : Trail) (start : steps_of s ≡ [])
    (far : (k : ℕ) → taken s.root k ≡ true → banned s.root k ≡ false) where
  found : (o : Option ColumnSet) → Ended p st bound s w o
      → MatchOption o ((d : ℕ → Bool) → Good p st bound (taken s.root) (banned s.root) d → ⊥) (λ c. Good p st bound (taken s.root) (banned s.root) (member c))
  found None ends = λ d good. ends bound (exceeds_same p laws bound bound (λ k l. refl)) (subst (Somewhere p st bound (taken s.root) (banned s.root)) (sym start) (inl (d, good)))
  found (Some c) ended =
      subst (λ (x : ColumnSet). Good p st bound (taken s.root) (banned s.root) (member x)) (sym ended.3)
      (good_found p laws st bound s w start ended.0 far ended.1 ended.2)

pub returns : goal.returns
returns g c =
    let o = g.O.CostOrder in
    let me = c.args.self.now.order.now in
    let p = problem (o.meaning me) (g.C.Chart.grid c.args.self.now.chart.now) in
    let st = c.args.self.now.strict in
    let bound = member c.args.self.now.bound.set in
    let s = c.new-trail.result in
    let r = c.new-trail.ensures.root in
    let far = subst (λ (n : Node). (k : ℕ) → taken n k ≡ true → banned n k ≡ false) (sym r) c.requires in
    let h = found p (o.laws me) st bound s c.advance.new.trail c.new-trail.ensures.steps far c.advance.result c.advance.ensures in
    subst (λ (n : Node). MatchOption c.advance.result ((d : ℕ → Bool) → Good p st bound (taken n) (banned n) d → ⊥) (λ x. Good p st bound (taken n) (banned n) (member x))) r h
