use Rattle.std.proofs.Common.{ℕ, ◌<◌, sym, ◌∙◌, subst, ap₂}
use lib.Bits.{bit_and}
use Rattle.primes.specs.Cubes.{cube_of, levels_in_mask, mask_of_lt, term_of}
use Rattle.terms.proofs.Numbers.{same_term}
use Rattle.primes.proofs.digits.term_at.Goals as goal

pub invariant_of-result : goal.invariant_of-result
invariant_of-result c =
    let p = c.byte_at.ensures in
    let q = c.byte_at-2.ensures in
    record { within = ap₂ bit_and q p ∙ levels_in_mask (cube_of 8 c.args.x) ∙ sym q; byte = subst (λ (m : ℕ). m < 256) (sym p) (mask_of_lt 8 c.args.x) }

pub returns : goal.returns
unfolding term_of
returns c = same_term _ (term_of c.args.x) c.byte_at.ensures c.byte_at-2.ensures
