use Rattle.std.proofs.Common.{◌≡◌, List, Ok, map, sym, ap, ◌∙◌, rules}
use Rattle.std.proofs.lemmas.Result.{MatchResult-at_ok}
use Rattle.fixed.specs.Lists.{entries, padded}
use Rattle.terms.specs.Tables.{Table}
use Rattle.primes.specs.declared.need.Need.{Need}
use Rattle.primes.specs.Primes.{primes}
use Rattle.primes.specs.Records.{no_prime, fresh}
use Rattle.primes.proofs.Listed.{primes_listed, primes_rising}
use Rattle.primes.proofs.Gathering.{terms_found, records_found, primes_fit, few_enough}
use Rattle.primes.proofs.listing.primes.Goals as goal

pub returns-in_err-found-clause-listed : goal.returns-in_err-found-clause-listed
returns-in_err-found-clause-listed g c = primes_listed

pub returns-in_err-found-clause-rising : goal.returns-in_err-found-clause-rising
returns-in_err-found-clause-rising g c = primes_rising

pub mark_essentials-requires-clause-items : goal.mark_essentials-requires-clause-items
mark_essentials-requires-clause-items g c =
    let tb : Table = g.S.Source.meaning c.args.source.now in
    let ds : List Need = entries c.list_needs-needs.result in
    let is : c.find_primes.result ≡ Ok c.in_ok-found.found = search rules in
    let e : entries c.in_ok-found.found ≡ map (fresh ds) (primes tb) = MatchResult-at_ok _ _ c.in_ok-found.found is c.find_primes.ensures.items in
    e ∙ ap (map (fresh ds)) (sym (terms_found ds (primes tb) c.in_ok-found.found e))

pub returns-clause-table : goal.returns-clause-table
returns-clause-table g c =
    let tb : Table = g.S.Source.meaning c.args.source.now in
    let ds : List Need = entries c.list_needs-needs.result in
    let is : c.find_primes.result ≡ Ok c.in_ok-found.found = search rules in
    let e : entries c.in_ok-found.found ≡ map (fresh ds) (primes tb) = MatchResult-at_ok _ _ c.in_ok-found.found is c.find_primes.ensures.items in
    rw (few_enough tb (primes_fit ds (primes tb) c.in_ok-found.found e))
    (records_found tb c.args.work c.in_ok-found.found c.mark_essentials.new.list e c.list_needs-needs.ensures.items c.mark_essentials.ensures.items)

pub returns-clause-whole : goal.returns-clause-whole
returns-clause-whole g c =
    let tb : Table = g.S.Source.meaning c.args.source.now in
    let ds : List Need = entries c.list_needs-needs.result in
    let is : c.find_primes.result ≡ Ok c.in_ok-found.found = search rules in
    let e : entries c.in_ok-found.found ≡ map (fresh ds) (primes tb) = MatchResult-at_ok _ _ c.in_ok-found.found is c.find_primes.ensures.items in
    rw (few_enough tb (primes_fit ds (primes tb) c.in_ok-found.found e))
    (c.mark_essentials.ensures.tidy
    ∙ ap (padded 256 no_prime) (records_found tb c.args.work c.in_ok-found.found c.mark_essentials.new.list e c.list_needs-needs.ensures.items c.mark_essentials.ensures.items))

pub returns-clause-listed : goal.returns-clause-listed
returns-clause-listed g c = primes_listed

pub returns-clause-rising : goal.returns-clause-rising
returns-clause-rising g c = primes_rising
