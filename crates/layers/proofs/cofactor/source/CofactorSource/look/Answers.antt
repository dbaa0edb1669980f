use Rattle.std.proofs.Common.{◌≡◌, ℕ, ◌-◌, ◌^◌, ◌<◌, Some, Option, sym, ap, ◌∙◌, subst, rules}
use Rattle.terms.specs.Tables.{Table}
use Rattle.layers.specs.declared.setting.Setting.{Setting}
use Rattle.sources.specs.Sources.{looked}
use Rattle.layers.specs.Layers.{in_force}
use Rattle.layers.proofs.Layering.{looked_through}
use Rattle.layers.proofs.cofactor.source.CofactorSource.look.Goals as goal

pub returns-else-row-inputs : goal.returns-else-row-inputs
returns-else-row-inputs g c =
    let tb : Table = g.S.Source.meaning c.args.self.now.below in
    let o : Option Setting = c.args.self.now.setting in
    let e : in_force tb.inputs o ≡ Some c.in-Some.setting = ap (λ (n : ℕ). in_force n o) (sym c.inputs-inputs.ensures) ∙ sym c.in-Some.ensures in
    let q : c.args.row < 2 ^ (c.inputs-inputs.result - 1) = search rules in
    let l : c.args.row < 2 ^ (tb.inputs - 1) = subst (λ (n : ℕ). c.args.row < 2 ^ (n - 1)) c.inputs-inputs.ensures q in
    c.look-in-Some.ensures ∙ ap (looked tb) c.put_in.ensures ∙ looked_through tb o c.in-Some.setting c.args.row (g.met.S.Source.proper c.args.self.now.below) e l
