use Rattle.std.proofs.Common.{List, reverse, ap, ◌∙◌}
use Rattle.fixed.specs.Sets.{member}
use Rattle.reductions.specs.declared.step.Step.{Step}
use Rattle.reductions.specs.Steps.{taken_by, banned_by, is_fresh}
use Rattle.reductions.specs.Trails.{steps_of}
use Rattle.reductions.proofs.Stepping.{fresh_back}
use Rattle.reductions.proofs.trail.Trail.back_up.Goals as goal

pub replay-requires : goal.replay-requires
replay-requires c =
    let s = c.args.self.now in
    let t = member s.root.taken in
    let b = member s.root.banned in
    record { fresh = rw c.as_slice.ensures.value (ap (is_fresh t b) c.turn_last-turned.ensures.left ∙ fresh_back t b (steps_of s) s.fresh) }

pub invariant_of-self : goal.invariant_of-self
invariant_of-self c =
    let s = c.args.self.now in
    let t = member s.root.taken in
    let b = member s.root.banned in
    record {
      fresh = ap (is_fresh t b) c.turn_last-turned.ensures.left ∙ fresh_back t b (steps_of s) s.fresh;
      taken = λ k. c.replay.ensures.taken k ∙ ap (λ (xs : List Step). taken_by t (reverse xs) k) c.as_slice.ensures.value;
      banned = λ k. c.replay.ensures.banned k ∙ ap (λ (xs : List Step). banned_by b (reverse xs) k) c.as_slice.ensures.value;
    }
