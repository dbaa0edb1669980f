use Rattle.std.proofs.Common.{ℕ, ◌≤◌, sym, subst, rules as known}
use Rattle.primes.proofs.Needing.{added_none, added_more, pairs_more}
use Rattle.primes.proofs.needs.add_pairs.Goals as goal

pub loop-row-init : goal.loop-row-init
loop-row-init g c = record { items = added_none (g.S.Source.meaning c.args.source.now) c.args.list.now; tidy = c.requires.tidy }

pub loop-row-preserved : goal.loop-row-preserved
loop-row-preserved g c = record { items = added_more (g.S.Source.meaning c.args.source.now) _ _ _ c.loop-row.invariant.items c.add_pairs_at.ensures.items (pairs_more (g.S.Source.meaning c.args.source.now).inputs c.loop-row.row); tidy = c.add_pairs_at.ensures.tidy }

pub add_pairs_at-requires-clause-row : goal.add_pairs_at-requires-clause-row
add_pairs_at-requires-clause-row g c =
    let few : c.args.inputs ≤ 8 = subst (λ (k : ℕ). k ≤ 8) (sym c.requires.inputs) (g.met.S.Source.proper c.args.source.now).few in
    search known
