use Rattle.std.proofs.Common.{◌<◌, length, sym, arith}
use Rattle.std.proofs.lemmas.Grind.{common_steps}
use Rattle.std.proofs.lemmas.List.{length-reverse}
use Rattle.fixed.specs.Lists.{entries}
use Rattle.fixed.specs.Sets.{member}
use Rattle.reductions.specs.Trails.{taken, banned, steps_of}
use Rattle.reductions.proofs.Stepping.{free_like, fresh_room}
use Rattle.reductions.proofs.trail.Trail.fix.Goals as goal

pub unwrap-requires : goal.unwrap-requires
unwrap-requires c =
    let s = c.args.self.now in
    let t = member s.root.taken in
    let b = member s.root.banned in
    let free = free_like t b (steps_of s) c.args.column (taken s.node) (banned s.node) s.taken s.banned (sym c.if-not-is_free.ensures) in
    let room = fresh_room t b (steps_of s) c.args.column free s.fresh in
    let short : length (entries s.steps) < 256 = omega (arith, length-reverse (entries s.steps)) in
    grind (arith, common_steps)
