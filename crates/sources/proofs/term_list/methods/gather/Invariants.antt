use Rattle.std.proofs.Common.{◌≡◌, map, take, vec_items}
use Rattle.sources.specs.TermLists.{bytes}
use Rattle.sources.proofs.term_list.methods.gather.Given as goal

abbrev pub invariant-loop-mask : goal.invariant-loop-mask
invariant-loop-mask l = map bytes (vec_items l.gathered) ≡ take l.mask-index l.terms
