use Rattle.std.proofs.Common.{ℕ, ◌^◌, ◌<◌, List, map, Ok, vec_items, ap, ◌∙◌, ap₂, rules}
use Rattle.terms.specs.declared.term.Term.{Term}
use Rattle.sources.specs.TermLists.{bytes, mark_by}
use Rattle.sources.proofs.Listing.{looked_listed}
use Rattle.sources.proofs.term_list.source.TermListSource.look.Goals as goal

pub returns : goal.returns
returns c =
    let row : ℕ = c.args.row in
    let h : row < 2 ^ c.args.self.now.inputs = search rules in
    ap Ok (c.mark_by.ensures ∙ ap₂ (λ (on free : List Term). mark_by (map bytes on) (map bytes free) row) c.as_slice.ensures.value c.as_slice-2.ensures.value)
    ∙ looked_listed c.args.self.now.inputs (map bytes (vec_items c.args.self.now.on)) (map bytes (vec_items c.args.self.now.free)) row h
