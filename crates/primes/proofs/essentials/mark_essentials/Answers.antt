use Rattle.std.proofs.Common.{◌≡◌, ℕ, ◌<◌, true, List, length, get_or, sym, ap, ◌∙◌, subst, ap₂, arith}
use Rattle.std.proofs.lemmas.List.{get_or_default}
use Rattle.fixed.specs.Lists.{entries, Tidy}
use Rattle.fixed.proofs.Padding.{tidy_set}
use Rattle.terms.specs.declared.term.Term.{Term}
use Rattle.primes.specs.declared.need.Need.{Need}
use Rattle.primes.specs.declared.prime.Prime.{Prime}
use Rattle.primes.specs.Needs.{row_need}
use Rattle.primes.specs.Records.{PrimeList, terms_in, record_meets, no_prime, sole_place}
use Rattle.primes.proofs.Essential.{noting_none, noting_sole, is_sole, none_sole}
use Rattle.primes.proofs.essentials.mark_essentials.Goals as goal
use Rattle.primes.proofs.essentials.mark_essentials.Goals.{in-Some, in_default}

pub loop-need-preserved : goal.loop-need-preserved
loop-need-preserved c =
    let ps : List Term = terms_in c.args.list.now in
    let ds : List Need = entries c.args.needs.now in
    let rs : List Prime = entries c.loop-need.list in
    let k : ℕ = c.loop-need.need-index in
    let h : k < length ds = omega (arith, ap length c.as_slice-need-items.ensures.value) in
    let need : Need = get_or ds k (row_need 0) in
    let e : c.sole_holder.result ≡ sole_place (record_meets need) rs =
    c.sole_holder.ensures ∙ ap₂ (λ (xs : List Need) (ys : List Prime). sole_place (record_meets (get_or xs k (row_need 0))) ys) c.as_slice-need-items.ensures.value c.as_slice.ensures.value in
    elim c.match-sole_holder.branch [
      | in-Some w ↦
          let s = is_sole (record_meets need) rs w.in-Some.place no_prime (sym e ∙ w.in-Some.is) in
          record {
            noting = noting_sole ps ds k (row_need 0) h c.loop-need.list c.loop-need.invariant.noting c.match-sole_holder.list w.in-Some.place _ s.0 s.1 s.2
                (ap (λ (x : Prime). record { term = x.term; number = x.number; needs = x.needs; essential = true })
                (w.index-as_slice-place.is ∙ ap (λ (xs : List Prime). get_or xs w.in-Some.place w.index-as_slice-place.result) w.as_slice-in-Some.ensures.value
                ∙ get_or_default rs w.in-Some.place w.index-as_slice-place.result no_prime s.0))
                (ap entries w.list-is ∙ w.set.ensures.items);
            tidy = subst (λ (l : PrimeList). Tidy no_prime l) (sym w.list-is)
                (tidy_set no_prime c.loop-need.list w.set.new.self w.in-Some.place _ w.set.ensures.items w.set.ensures.table c.loop-need.invariant.tidy);
          }
      | in_default w ↦
          record {
            noting = ap entries w.list-is
                ∙ noting_none ps ds k (row_need 0) h c.loop-need.list c.loop-need.invariant.noting (none_sole (record_meets need) rs (sym e ∙ w.in_default.is));
            tidy = subst (λ (l : PrimeList). Tidy no_prime l) (sym w.list-is) c.loop-need.invariant.tidy;
          }
    ]
