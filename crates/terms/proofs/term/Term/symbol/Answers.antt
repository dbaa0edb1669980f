use Rattle.std.proofs.Common.{ℕ, ◌+◌, sym, ap, ◌∙◌}
use Rattle.terms.proofs.Bits.{shift_bit, high_bit, symbol_unread, symbol_read}
use Rattle.terms.proofs.term.Term.symbol.Goals as goal
use Rattle.terms.proofs.term.Term.symbol.Goals.{then-input-ge8-via-then-input-ge8, then-input-ge8-via-else-input-ge8+then-self-input-eq0}

pub returns-then-input-ge8 : goal.returns-then-input-ge8
returns-then-input-ge8 c =
    symbol_unread c.args.self c.args.input (elim c.then-input-ge8.branch [
      | then-input-ge8-via-then-input-ge8 w ↦ high_bit c.args.self.mask c.args.input c.args.self.byte w.if-input-ge8.true
      | then-input-ge8-via-else-input-ge8+then-self-input-eq0 w ↦ sym (shift_bit c.args.self.mask c.args.input) ∙ w.if-self-input-eq0.true
    ])

pub returns : goal.returns
returns c =
    ap (λ (x : ℕ). 48 + x) (shift_bit c.args.self.levels c.args.input)
    ∙ symbol_read c.args.self c.args.input (λ e. c.if-self-input-eq0.false (shift_bit c.args.self.mask c.args.input ∙ e))
