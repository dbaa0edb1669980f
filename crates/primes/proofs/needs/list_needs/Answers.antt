use Rattle.std.proofs.Common.{◌≡◌, ap, refl, ◌∙◌, ◌^◌, sym, List, [], length}
use Rattle.fixed.specs.Lists.{entries, padded}
use Rattle.fixed.proofs.Padding.{length_entries, tidy_new}
use Rattle.terms.specs.Tables.{Table}
use Rattle.primes.specs.declared.need.Need.{Need}
use Rattle.primes.specs.declared.need.Work.TheVariants.{Plain, HazardFree}
use Rattle.primes.specs.Needs.{row_need, added, candidates, needs, pairs}
use Rattle.primes.proofs.Needing.{added_all, added_more, blank_need}
use Rattle.primes.proofs.needs.list_needs.Goals as goal

pub add_rows-requires-clause-tidy : goal.add_rows-requires-clause-tidy
add_rows-requires-clause-tidy g c = tidy_new (row_need 0) c.new-list.result c.new-list.ensures.items (λ k d h. blank_need _ (c.new-list.ensures.blank k d h))

pub returns-in-Plain : goal.returns-in-Plain
returns-in-Plain g c =
    let tb : Table = g.S.Source.meaning c.args.source.now in
    let e : entries c.add_rows.new.list ≡ needs tb c.args.work =
    c.add_rows.ensures.items ∙ ap (λ (old : List Need). added tb old (candidates tb.inputs Plain)) c.new-list.ensures.items
    ∙ added_all tb Plain (g.met.S.Source.proper c.args.source.now).few ∙ ap (needs tb) (sym c.in-Plain.is) in
    record {
      items = e;
      table = c.add_rows.ensures.tidy ∙ ap (padded 1280 (row_need 0)) e;
      count = sym (length_entries c.add_rows.new.list) ∙ ap length e;
    }

pub returns-in-HazardFree : goal.returns-in-HazardFree
returns-in-HazardFree g c =
    let tb : Table = g.S.Source.meaning c.args.source.now in
    let e : entries c.add_pairs.new.list ≡ needs tb c.args.work =
    added_more tb [] (candidates tb.inputs Plain) (pairs tb.inputs 0 (2 ^ tb.inputs))
    (c.add_rows.ensures.items ∙ ap (λ (old : List Need). added tb old (candidates tb.inputs Plain)) c.new-list.ensures.items) c.add_pairs.ensures.items refl
    ∙ added_all tb HazardFree (g.met.S.Source.proper c.args.source.now).few ∙ ap (needs tb) (sym c.in-HazardFree.is) in
    record {
      items = e;
      table = c.add_pairs.ensures.tidy ∙ ap (padded 1280 (row_need 0)) e;
      count = sym (length_entries c.add_pairs.new.list) ∙ ap length e;
    }
