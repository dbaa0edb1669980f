use Rattle.std.proofs.Common.{◌+◌, ◌<◌, false, not, get_or, reverse, take}
use Rattle.fixed.specs.Sets.{member}
use Rattle.reductions.specs.Steps.{step}
use Rattle.reductions.specs.Trails.{taken, banned}
use Rattle.reductions.proofs.Stepping.{reverse_more, fresh_at, marked, taken_next, banned_next}
use Rattle.reductions.proofs.trail.methods.replay.Goals as goal

pub loop-step-preserved : goal.loop-step-preserved
loop-step-preserved c =
    let xs = c.args.steps.now in
    let k = c.loop-step.step-index in
    let e = get_or xs k (step 0 false false) in
    let node = c.loop-step.node in
    let after = c.mark.new.self in
    let t = member c.args.root.now.taken in
    let b = member c.args.root.now.banned in
    let more = reverse_more xs k (step 0 false false) c.loop-step-test.true in
    let small : e.column < 256 = fresh_at t b xs k (step 0 false false) c.requires.fresh c.loop-step-test.true in
    record {
      taken = taken_next t (reverse (take k xs)) (reverse (take (k + 1) xs)) e (taken node) (taken after) more c.loop-step.invariant.taken
          (marked node.taken after.taken e.takes e.column small c.mark.ensures.taken);
      banned = banned_next b (reverse (take k xs)) (reverse (take (k + 1) xs)) e (banned node) (banned after) more c.loop-step.invariant.banned
          (marked node.banned after.banned (not e.takes) e.column small c.mark.ensures.banned);
    }
