-- The reductions along a trail.
use Rattle.std.proofs.Common.{◌≡◌, ℕ, Bool, true, false, cond, not, ◌&&◌, eqb, List, ◌∷◌, sym, ap, ◌∙◌, subst}
use Rattle.std.proofs.lemmas.Bool.{or_right}
use Rattle.charts.specs.Best.{Problem}
use Rattle.reductions.specs.declared.node.Node.{Node}
use Rattle.reductions.specs.declared.step.Step.{Step}
use Rattle.reductions.specs.declared.trail.Trail.{Trail}
use Rattle.reductions.specs.Steps.{step, taken_by, banned_by, is_free}
use Rattle.reductions.specs.Trails.{steps_of, taken, banned}
use Rattle.reductions.specs.Goals.{Good, Narrows, Narrowed}
use Rattle.reductions.proofs.Narrowing.{narrows_more, narrows_fix}

module _ (p : Problem) where
  pub narrowed_more : (s u w : Trail) → Narrowed p s u → Narrowed p u w → Narrowed p s w
  narrowed_more s u w m n =
      record {
        root = n.root ∙ m.root;
        narrows = narrows_more p (taken s.root) (banned s.root) (steps_of s) (steps_of u) (steps_of w) m.narrows
            (subst (λ (r : Node). Narrows p (taken r) (banned r) (steps_of u) (steps_of w)) m.root n.narrows);
      }

  pub narrowed_twice : (s u v w : Trail) → Narrowed p s u → Narrowed p u v → Narrowed p v w → Narrowed p s w
  narrowed_twice s u v w l m n = narrowed_more s u w l (narrowed_more u v w m n)

  module _ (s s' : Trail) (c : ℕ) (x : Bool) (root : s'.root ≡ s.root)
      (steps : steps_of s' ≡ cond (is_free (taken s.node) (banned s.node) c) (step c x false ∷ steps_of s) (steps_of s)) where
    -- a column fixed for a good reason
    pub narrowed_fix : ((strict : Bool) (bound d : ℕ → Bool) → Good p strict bound (taken s.node) (banned s.node) d → (e : ℕ → Bool) × Good p strict bound (taken s.node) (banned s.node) e × (e c ≡ x)) → Narrowed p s s'
    narrowed_fix reason =
        record {
          root = root;
          narrows = narrows_fix p (taken s.root) (banned s.root) (steps_of s) (steps_of s') c x (taken s.node) (banned s.node) s.fresh s.taken s.banned steps reason;
        }

    -- what was taken or banned before still is
    pub fix_keeps_taken : (k : ℕ) → taken s.node k ≡ true → taken s'.node k ≡ true
    fix_keeps_taken k h =
        s'.taken k
        ∙ ap (λ (r : Node). taken_by (taken r) (steps_of s') k) root
        ∙ ap (λ (r : List Step). taken_by (taken s.root) r k) steps
        ∙ go (is_free (taken s.node) (banned s.node) c) (sym (s.taken k) ∙ h)
      where
        go : (y : Bool) → taken_by (taken s.root) (steps_of s) k ≡ true → taken_by (taken s.root) (cond y (step c x false ∷ steps_of s) (steps_of s)) k ≡ true
        go true e = or_right (x && eqb c k) (taken_by (taken s.root) (steps_of s) k) e
        go false e = e

    pub fix_keeps_banned : (k : ℕ) → banned s.node k ≡ true → banned s'.node k ≡ true
    fix_keeps_banned k h =
        s'.banned k
        ∙ ap (λ (r : Node). banned_by (banned r) (steps_of s') k) root
        ∙ ap (λ (r : List Step). banned_by (banned s.root) r k) steps
        ∙ go (is_free (taken s.node) (banned s.node) c) (sym (s.banned k) ∙ h)
      where
        go : (y : Bool) → banned_by (banned s.root) (steps_of s) k ≡ true → banned_by (banned s.root) (cond y (step c x false ∷ steps_of s) (steps_of s)) k ≡ true
        go true e = or_right (not x && eqb c k) (banned_by (banned s.root) (steps_of s) k) e
        go false e = e
