use Rattle.std.proofs.Common.{◌≡◌, ◌+◌, ◌^◌, ◌<◌, ◌≤◌, true, false, List, length, Err, is_ok, sym, refl, ◌∙◌, subst, arith, rules}
use Rattle.std.proofs.lemmas.Bool.{ltb-true, ltb-false}
use Rattle.fixed.specs.Lists.{entries}
use Rattle.terms.specs.declared.refusal.Refusal.TheVariants.{TooManyPrimes}
use Rattle.primes.specs.declared.need.Need.{Need}
use Rattle.primes.specs.Records.{PrimeList}
use Rattle.primes.proofs.Gathering.{trying, Gathered, skipped, dropped, stand_read, stand_unread, passed, gathered_push, gathered_none, gathered_full, gathered_all}
use Rattle.primes.proofs.listing.find_primes.Goals as goal
use Rattle.primes.proofs.listing.find_primes.Goals.{else-d-ne0-via-then-d-ne0+else-contains-2, else-d-ne0-via-else-d-ne0, then-contains+else-loop-i-test+in_ok-map_err, else-contains}

pub terms-init : goal.terms-init
terms-init g c = gathered_none (g.S.Source.meaning c.args.source.now) (entries c.args.needs.now) c.new-list.result c.new-list.ensures.items c.new-list.ensures.blank

pub terms-preserved-then-contains-2 : goal.terms-preserved-then-contains-2
terms-preserved-then-contains-2 g c =
    let t = trying (g.met.S.Source.proper c.args.source.now).few c.inputs-n.ensures c.judge_all-found.result c.judge_all-found.ensures in
    let h : c.terms.x < 3 ^ c.inputs-n.result = omega arith in
    dropped t h c.loop-i.i c.digit-d.result c.power.result c.loop-i-test.true c.digit-d.ensures c.power.ensures c.if-d-ne0.true
    (entries c.args.needs.now) c.terms.list (sym c.if-contains-2.ensures) c.terms.invariant

pub loop-i-preserved : goal.loop-i-preserved
loop-i-preserved g c =
    let t = trying (g.met.S.Source.proper c.args.source.now).few c.inputs-n.ensures c.judge_all-found.result c.judge_all-found.ensures in
    let h : c.terms.x < 3 ^ c.inputs-n.result = omega arith in
    elim c.else-d-ne0.branch [
      | else-d-ne0-via-then-d-ne0+else-contains-2 w ↦
          stand_read t h c.loop-i.i c.digit-d.result w.power.result c.loop-i-test.true c.digit-d.ensures w.power.ensures w.if-d-ne0.true
          (sym w.if-contains-2.ensures) c.loop-i.invariant
      | else-d-ne0-via-else-d-ne0 w ↦
          stand_unread t h c.loop-i.i c.loop-i-test.true (sym c.digit-d.ensures ∙ w.if-d-ne0.false) c.loop-i.invariant
    ]

pub returns-in_err-map_err-clause-items : goal.returns-in_err-map_err-clause-items
returns-in_err-map_err-clause-items g c =
    let t = trying (g.met.S.Source.proper c.args.source.now).few c.inputs-n.ensures c.judge_all-found.result c.judge_all-found.ensures in
    let h : c.terms.x < 3 ^ c.inputs-n.result = omega arith in
    let prime = passed t h c.loop-i.i (sym c.if-contains.ensures) (omega arith) (omega arith) c.loop-i.invariant in
    let no : is_ok c.push.result ≡ false = search rules in
    let full : 256 ≤ length (entries c.terms.list) = ltb-false (length (entries c.terms.list)) 256 (sym c.push.ensures.room ∙ no) in
    let is : c.from_residual.result ≡ Err TooManyPrimes = search rules in
    rw is (refl, gathered_full t h (entries c.args.needs.now) c.terms.list prime full c.terms.invariant)

pub terms-preserved : goal.terms-preserved
terms-preserved g c =
    let t = trying (g.met.S.Source.proper c.args.source.now).few c.inputs-n.ensures c.judge_all-found.result c.judge_all-found.ensures in
    let h : c.terms.x < 3 ^ c.inputs-n.result = omega arith in
    let ds : List Need = entries c.args.needs.now in
    elim c.if-contains.branch [
      | then-contains+else-loop-i-test+in_ok-map_err w ↦
          let prime = passed t h w.loop-i.i (sym w.if-contains.ensures) (omega arith) (omega arith) w.loop-i.invariant in
          let yes : is_ok w.push.result ≡ true = search rules in
          let room : length (entries c.terms.list) < 256 = ltb-true (length (entries c.terms.list)) 256 (sym w.push.ensures.room ∙ yes) in
          subst (λ (l : PrimeList). Gathered (g.S.Source.meaning c.args.source.now) ds (c.terms.x + 1) l) (sym w.list-is)
          (gathered_push t h ds c.terms.list w.push.new.list prime room w.push.ensures.after w.push.ensures.tidy c.terms.invariant)
      | else-contains w ↦
          subst (λ (l : PrimeList). Gathered (g.S.Source.meaning c.args.source.now) ds (c.terms.x + 1) l) (sym w.list-is)
          (skipped t h ds c.terms.list (sym w.if-contains.ensures) c.terms.invariant)
    ]

pub push-requires : goal.push-requires
push-requires g c = c.terms.invariant.tidy

pub returns-clause-items : goal.returns-clause-items
returns-clause-items g c =
    let t = trying (g.met.S.Source.proper c.args.source.now).few c.inputs-n.ensures c.judge_all-found.result c.judge_all-found.ensures in
    gathered_all t c.terms.x (entries c.args.needs.now) c.terms.list (omega arith) c.terms.invariant

pub returns-clause-tidy : goal.returns-clause-tidy
returns-clause-tidy g c = c.terms.invariant.tidy
