use Rattle.std.proofs.Common.{rules, tests, sym, ◌∙◌}
use Rattle.std.proofs.lemmas.Iterator.{YieldsList-from_slice}
use Rattle.std.proofs.lemmas.Iterator.Search.{any_from_yields_List}
use Rattle.terms.specs.declared.term.Term.{Term}
use Rattle.terms.specs.Terms.{holds}
use Rattle.sources.proofs.Listing.{some_holds-map}
use Rattle.sources.proofs.term_list.source.some_holds.Goals as goal

pub returns : goal.returns
returns c =
    any_from_yields_List (λ (t : Term). holds t c.args.row) _ _ _ c.any.ensures.ran (YieldsList-from_slice c.args.terms.now cc) (λ x b q k. search (rules, tests))
    ∙ sym (some_holds-map c.args.terms.now c.args.row)
