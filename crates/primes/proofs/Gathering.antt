-- The list of primes as far as the terms have been tried.
use Rattle.std.proofs.Common.{◌≡◌, ℕ, ◌+◌, ◌-◌, ◌*◌, ◌/◌, ◌%◌, ◌^◌, ◌<◌, ◌≤◌, Bool, true, false, not, cond, All, List, [], ◌∷◌, ◌++◌, map, length, take, drop, Some, None, filter, sym, refl, ap, ◌∙◌, subst, ap₂, append-nil, arith, length-append}
use mathlib.Core.List.{map-append}
use lib.ListN.{length-map}
use Rattle.std.specs.List.{range_with_len}
use Rattle.std.proofs.lemmas.List.FromFn.{filter_of_map_range_with_len_more, take-map-range_with_len}
use Rattle.std.proofs.lemmas.List.Elements.{filter-append}
use Rattle.std.proofs.lemmas.List.{take-append-drop}
use Rattle.std.proofs.lemmas.Bool.{le-ltb}
use Rattle.terms.specs.declared.refusal.Refusal.TheVariants.{TooManyPrimes}
use Rattle.terms.specs.declared.term.Term.{Term}
use Rattle.terms.specs.Tables.{Table}
use Rattle.fixed.specs.declared.set.FixedSet.{FixedSet}
use Rattle.fixed.specs.Sets.{member}
use Rattle.fixed.specs.Lists.{entries, entries_fit, pushed, Tidy}
use Rattle.primes.specs.declared.need.Need.{Need}
use Rattle.primes.specs.declared.prime.Prime.{Prime}
use Rattle.primes.specs.Cubes.{term_of, cube_of}
use Rattle.primes.specs.Primes.{every, allowed, implicant_at, is_prime, primes, terms_over}
use Rattle.primes.specs.Records.{PrimeList, held, fresh, record_of, records, no_prime, terms_in, primes_break}
use Rattle.primes.specs.Needs.{needs}
use Rattle.primes.specs.declared.need.Work.{Work}
use Rattle.primes.proofs.Cube.{imp, stands, trial}
use Rattle.primes.proofs.CubeTerms.{prime_at_lem, number_term_of, pow3_le, implicant_at_lem}
use Rattle.fixed.proofs.Padding.{tidy_new}
use Rattle.fixed.proofs.Pushed.{pushed_fits}
use Rattle.primes.proofs.Trials.{Right, stood, stands_unread, every_more, trial_now, trial_fails, trial_no_imp}

-- the primes among the terms with numbers below x
abbrev pub up_to : Table → ℕ → List Term
up_to tb x = filter (is_prime tb) (map term_of (range_with_len 0 x))

-- the list holds them, and what stands behind it is blank
pub record Gathered (tb : Table) (ds : List Need) (x : ℕ) (l : PrimeList) : Type 0 where
  pub items : entries l ≡ map (fresh ds) (up_to tb x)
  pub tidy : Tidy no_prime l

pub gathered_none : (tb : Table) (ds : List Need) (l : PrimeList) → entries l ≡ [] → All (λ p. p ≡ no_prime) l.items → Gathered tb ds 0 l
gathered_none tb ds l e h = record { items = e; tidy = tidy_new no_prime l e h }

-- what every trial goes by: the inputs of the table, and the set of its implicants
pub record Trying (tb : Table) (n : ℕ) (found : FixedSet 6561) : Type 0 where
  pub few : tb.inputs ≤ 8
  pub same : n ≡ tb.inputs
  pub right : (y : ℕ) → y < 3 ^ tb.inputs → member found y ≡ implicant_at tb y

pub trying : {tb : Table} {n : ℕ} → tb.inputs ≤ 8 → n ≡ tb.inputs → (found : FixedSet 6561)
    → ((y : ℕ) → y < 3 ^ tb.inputs → member found y ≡ implicant_at tb y) → Trying tb n found
trying few same found right = record { few = few; same = same; right = right }

module _ {tb : Table} {n : ℕ} {found : FixedSet 6561} (t : Trying tb n found) where
  few : n ≤ 8
  few = subst (λ (k : ℕ). k ≤ 8) (sym t.same) t.few

  right : Right n found.on (allowed tb)
  right y k =
      let l : y < 3 ^ tb.inputs = subst (λ (j : ℕ). y < 3 ^ j) t.same k in
      t.right y l ∙ implicant_at_lem tb y t.few l ∙ ap (λ (j : ℕ). imp (cube_of j y) (allowed tb)) (sym t.same)

  module _ {x : ℕ} (h : x < 3 ^ n) where
    small : x < 6561
    small = let p = pow3_le n few in omega arith

    up_more : up_to tb (x + 1) ≡ up_to tb x ++ cond (trial n (allowed tb) x) (term_of x ∷ []) []
    up_more =
        filter_of_map_range_with_len_more (is_prime tb) term_of 0 x x (omega arith)
        ∙ ap (λ (b : Bool). up_to tb x ++ cond b (term_of x ∷ []) [])
        (prime_at_lem tb x t.few (subst (λ (j : ℕ). x < 3 ^ j) t.same h) ∙ ap (λ (j : ℕ). trial j (allowed tb) x) (sym t.same))

    up_skip : trial n (allowed tb) x ≡ false → up_to tb (x + 1) ≡ up_to tb x
    up_skip e = up_more ∙ ap (λ (b : Bool). up_to tb x ++ cond b (term_of x ∷ []) []) e ∙ append-nil (up_to tb x)

    up_push : trial n (allowed tb) x ≡ true → up_to tb (x + 1) ≡ up_to tb x ++ term_of x ∷ []
    up_push e = up_more ∙ ap (λ (b : Bool). up_to tb x ++ cond b (term_of x ∷ []) []) e

    gathered_skip : (ds : List Need) (l : PrimeList) → trial n (allowed tb) x ≡ false → Gathered tb ds x l → Gathered tb ds (x + 1) l
    gathered_skip ds l e g = record { items = g.items ∙ ap (map (fresh ds)) (sym (up_skip e)); tidy = g.tidy }

    -- no implicant is no prime
    pub skipped : (ds : List Need) (l : PrimeList) → member found x ≡ false → Gathered tb ds x l → Gathered tb ds (x + 1) l
    skipped ds l e = gathered_skip ds l (trial_no_imp n (allowed tb) x (sym (right x h) ∙ e))

    -- the inputs below i cannot be dropped
    abbrev pub Stand : ℕ → Type 0
    Stand i = every (stands (allowed tb) (cube_of n x)) i ≡ true

    -- input i, which the term reads, can be dropped if the term without it is an implicant
    module _ (i d p : ℕ) (k : i < n) (e : d ≡ x / 3 ^ i % 3) (q : p ≡ 3 ^ i) (z : d ≡ 0 → ⊥) where
      stays : stands (allowed tb) (cube_of n x) i ≡ not (member found (x - d * p))
      stays = stood n i x d p found.on (allowed tb) k h e q z right

      pub dropped : (ds : List Need) (l : PrimeList) → member found (x - d * p) ≡ true → Gathered tb ds x l → Gathered tb ds (x + 1) l
      dropped ds l m = gathered_skip ds l (trial_fails n (allowed tb) x i k (stays ∙ ap not m))

      pub stand_read : member found (x - d * p) ≡ false → Stand i → Stand (i + 1)
      stand_read m s = every_more (stands (allowed tb) (cube_of n x)) i s (stays ∙ ap not m)

    pub stand_unread : (i : ℕ) → i < n → x / 3 ^ i % 3 ≡ 0 → Stand i → Stand (i + 1)
    stand_unread i k e s = every_more (stands (allowed tb) (cube_of n x)) i s (stands_unread n i x (allowed tb) k e)

    -- an implicant of which no input can be dropped is a prime
    pub passed : (i : ℕ) → member found x ≡ true → n ≤ i → i ≤ n → Stand i → trial n (allowed tb) x ≡ true
    passed i m a b s = trial_now n x i found.on (allowed tb) h right m a b s

    pub gathered_push : (ds : List Need) (l m : PrimeList) → trial n (allowed tb) x ≡ true → length (entries l) < 256
        → entries m ≡ pushed 256 (entries l) (record { term = term_of x; number = x; needs = held ds (term_of x); essential = false })
        → Tidy no_prime m → Gathered tb ds x l → Gathered tb ds (x + 1) m
    gathered_push ds l m e z p d g =
        let ts : List Term = up_to tb x in
        let new : Prime = record { term = term_of x; number = x; needs = held ds (term_of x); essential = false } in
        let r : new ≡ fresh ds (term_of x) =
        ap (λ (k : ℕ). record { term = term_of x; number = k; needs = held ds (term_of x); essential = false }) (sym (number_term_of x small)) in
        record {
          items = p ∙ pushed_fits 256 (entries l) new z ∙ ap₂ (λ (rs : List Prime) (q : Prime). rs ++ q ∷ []) g.items r
              ∙ sym (map-append (fresh ds) ts (term_of x ∷ [])) ∙ ap (map (fresh ds)) (sym (up_push e));
          tidy = d;
        }

    up_le : (y : ℕ) → y ≤ 3 ^ tb.inputs → length (up_to tb y) ≤ length (primes tb)
    unfolding primes
    up_le y k =
        let p = is_prime tb in
        let xs : List Term = terms_over tb.inputs in
        let e : filter p (take y xs) ++ filter p (drop y xs) ≡ filter p xs = sym (filter-append p (take y xs) (drop y xs)) ∙ ap (filter p) (take-append-drop y xs) in
        let t : filter p (take y xs) ≡ up_to tb y = ap (filter p) (take-map-range_with_len term_of 0 (3 ^ tb.inputs) y k) in
        omega (arith, ap length e, length-append (filter p (take y xs)) (filter p (drop y xs)), ap length t)

    pub gathered_full : (ds : List Need) (l : PrimeList) → trial n (allowed tb) x ≡ true → 256 ≤ length (entries l) → Gathered tb ds x l → 256 < length (primes tb)
    gathered_full ds l e z g =
        let s = subst (λ (j : ℕ). x < 3 ^ j) t.same h in
        let b = up_le (x + 1) (omega arith) in
        let v = ap length (up_push e) in
        let w = length-append (up_to tb x) (term_of x ∷ []) in
        let a = ap length g.items ∙ length-map (up_to tb x) (fresh ds) in
        omega arith

  pub gathered_all : (x : ℕ) (ds : List Need) (l : PrimeList) → x ≡ 3 ^ n → Gathered tb ds x l → entries l ≡ map (fresh ds) (primes tb)
  unfolding primes
  gathered_all x ds l e g = g.items ∙ ap (λ (k : ℕ). map (fresh ds) (up_to tb k)) (e ∙ ap (λ (j : ℕ). 3 ^ j) t.same)

-- the terms in a list that was found
map_terms : (ds : List Need) (ps : List Term) → map (λ p. p.term) (map (fresh ds) ps) ≡ ps
map_terms ds [] = refl
map_terms ds (t ∷ ps) = ap (λ (ts : List Term). t ∷ ts) (map_terms ds ps)

pub terms_found : (ds : List Need) (ps : List Term) (l : PrimeList) → entries l ≡ map (fresh ds) ps → terms_in l ≡ ps
terms_found ds ps l e = ap (map (λ p. p.term)) e ∙ map_terms ds ps

-- their records, once the essential ones are marked
pub records_found : (tb : Table) (work : Work) (l m : PrimeList) {ds : List Need} → entries l ≡ map (fresh ds) (primes tb) → ds ≡ needs tb work
    → entries m ≡ map (record_of (terms_in l) ds) (terms_in l) → entries m ≡ records tb work
records_found tb work l m {ds} e n r = r ∙ ap₂ (λ (ps : List Term) (es : List Need). map (record_of ps es) ps) (terms_found ds (primes tb) l e) n

-- there are few enough of them
pub primes_fit : (ds : List Need) (ps : List Term) (l : PrimeList) → entries l ≡ map (fresh ds) ps → length ps ≤ 256
primes_fit ds ps l e = omega (arith, entries_fit l, ap length e ∙ length-map ps (fresh ds))

pub few_enough : (tb : Table) → length (primes tb) ≤ 256 → primes_break tb ≡ None
few_enough tb h = ap (λ (b : Bool). cond b (Some TooManyPrimes) None) (le-ltb 256 (length (primes tb)) h)
