use Rattle.std.proofs.Common.{ℕ, ◌^◌, sym, ap, ◌∙◌, arith}
use Rattle.fixed.proofs.Members.{no_member}
use Rattle.primes.proofs.CubeTerms.{pow3_le}
use Rattle.primes.proofs.Judged.{judged_put}
use Rattle.primes.proofs.implicants.judge_all.Goals as goal

pub loop-x-init : goal.loop-x-init
loop-x-init g c =
    let top = c.power-x.ensures ∙ ap (λ (k : ℕ). 3 ^ k) c.inputs-inputs.ensures in
    record {
      later = λ y a b. absurd (omega arith);
      below = λ y a. no_member 6561 c.none-found.result.on c.none-found.ensures y;
    }

pub loop-x-preserved : goal.loop-x-preserved
loop-x-preserved g c =
    let top = c.power-x.ensures ∙ ap (λ (k : ℕ). 3 ^ k) c.inputs-inputs.ensures in
    let p = pow3_le (g.S.Source.meaning c.args.source.now).inputs (g.met.S.Source.proper c.args.source.now).few in
    judged_put (g.S.Source.meaning c.args.source.now) c.loop-x.x c.loop-x.found c.loop-x-test.true c.loop-x.invariant
    c.put.new.self c.judge-is_implicant.result (omega arith) c.judge-is_implicant.ensures c.put.ensures
