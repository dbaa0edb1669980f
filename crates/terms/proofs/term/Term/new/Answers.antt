use Rattle.std.proofs.Common.{◌^◌, ◌<◌, refl, arith, pow_mono}
use Rattle.terms.proofs.Shapes.{shift_lt, shift_le, is_term_lem, no_term_reads, no_term_level}
use Rattle.terms.proofs.term.Term.new.Goals as goal
use Rattle.terms.proofs.term.Term.new.Goals.{else-inputs-lt8-via-then-inputs-lt8+else-mask-inputs-ne0, else-inputs-lt8-via-else-inputs-lt8}

pub returns-then-mask-inputs-ne0 : goal.returns-then-mask-inputs-ne0
returns-then-mask-inputs-ne0 c =
    record {
      test = no_term_reads c.args.inputs c.args.mask c.args.levels (shift_le c.args.inputs c.args.mask c.if-mask-inputs-ne0.true);
      value = refl;
    }

pub returns-then-levels-mask : goal.returns-then-levels-mask
returns-then-levels-mask c = record { test = no_term_level c.args.inputs c.args.mask c.args.levels c.if-levels-mask.true; value = refl }

pub returns : goal.returns
returns c =
    let fits : c.args.mask < 2 ^ c.args.inputs = elim c.else-inputs-lt8.branch [
      | else-inputs-lt8-via-then-inputs-lt8+else-mask-inputs-ne0 w ↦ shift_lt c.args.inputs c.args.mask w.if-mask-inputs-ne0.false
      | else-inputs-lt8-via-else-inputs-lt8 w ↦ omega (arith, pow_mono {i = 8} {j = c.args.inputs} w.if-inputs-lt8.false)
    ] in
    record { test = is_term_lem c.args.inputs c.args.mask c.args.levels fits c.if-levels-mask.false; value = (refl, refl) }
