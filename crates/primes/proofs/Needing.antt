-- Lists of needs that grow by what a test keeps of the candidates.
use Rattle.std.proofs.Common.{◌≡◌, ℕ, zero, suc, ◌+◌, ◌≤◌, Bool, true, false, not, cond, eqb, leb, List, [], ◌∷◌, ◌++◌, map, length, take, filter, sym, refl, ap, ◌∙◌, ap₂, append_assoc, append-nil, add-one, arith, take_all}
use Rattle.std.specs.List.{flat_map, range_with_len}
use Rattle.std.proofs.lemmas.Grind.{flat_map-append}
use Rattle.std.proofs.lemmas.List.{map-append}
use Rattle.std.proofs.lemmas.List.Elements.{filter-append}
use Rattle.std.proofs.lemmas.List.Filters.{length-filter_both}
use Rattle.std.proofs.lemmas.List.FromFn.{map-range_with_len_more}
use Rattle.std.proofs.lemmas.Bool.{leb-true}
use Rattle.fixed.specs.Lists.{entries, entries_fit, pushed}
use Rattle.fixed.proofs.Pushed.{pushed_taken}
use Rattle.terms.specs.Terms.{bit}
use Rattle.terms.specs.Tables.{Table}
use Rattle.terms.proofs.Bytes.{below, below_at}
use Rattle.primes.specs.declared.need.Need.{Need}
use Rattle.primes.specs.declared.need.Work.{Work}
use Rattle.primes.specs.declared.need.Work.TheVariants.{Plain, HazardFree}
use Rattle.primes.specs.Needs.{NeedList, row_need, row_needs, pair_need, pairs_at, pairs, candidates, is_needed, needs, added}

-- ---- the needs that go in
take_take : {T : Type 0} (n : ℕ) (xs ys : List T) → take n (take n xs ++ ys) ≡ take n (xs ++ ys)
take_take zero xs ys = refl
take_take (suc n) [] ys = refl
take_take (suc n) (x ∷ xs) ys = ap (λ zs. x ∷ zs) (take_take n xs ys)

module _ (tb : Table) where
  pub added_none : (l : NeedList) → entries l ≡ added tb (entries l) []
  added_none l = sym (ap (take 1280) (append-nil (entries l)) ∙ take_all 1280 (entries l) (entries_fit l))

  pub added_yes : (l : NeedList) (d : Need) → is_needed tb d ≡ true → pushed 1280 (entries l) d ≡ added tb (entries l) (d ∷ [])
  added_yes l d e =
      pushed_taken 1280 (entries l) d (entries_fit l) ∙ ap (λ (b : Bool). take 1280 (entries l ++ cond b (d ∷ []) [])) (sym e)

  pub added_no : (l : NeedList) (d : Need) → is_needed tb d ≡ false → entries l ≡ added tb (entries l) (d ∷ [])
  added_no l d e = added_none l ∙ ap (λ (b : Bool). take 1280 (entries l ++ cond b (d ∷ []) [])) (sym e)

  pub added_twice : (old xs ys : List Need) → added tb (added tb old xs) ys ≡ added tb old (xs ++ ys)
  added_twice old xs ys =
      let p = is_needed tb in
      take_take 1280 (old ++ filter p xs) (filter p ys)
      ∙ ap (take 1280) (append_assoc old (filter p xs) (filter p ys) ∙ ap (λ (zs : List Need). old ++ zs) (sym (filter-append p xs ys)))

  -- one block of candidates more
  pub added_more : (old xs ys : List Need) {now new zs : List Need} → now ≡ added tb old xs → new ≡ added tb now ys → zs ≡ xs ++ ys → new ≡ added tb old zs
  added_more old xs ys e q h =
      q ∙ ap (λ (ws : List Need). added tb ws ys) e ∙ added_twice old xs ys ∙ ap (added tb old) (sym h)

-- ---- the candidates so far
pub rows_more : (r : ℕ) → row_needs (r + 1) ≡ row_needs r ++ row_need r ∷ []
rows_more r = map-range_with_len_more row_need 0 r r (omega arith)

numbers_more : (a n : ℕ) → range_with_len a (n + 1) ≡ range_with_len a n ++ (a + n) ∷ []
numbers_more a n = ap (range_with_len a) (add-one n) ∙ go a n
  where
    go : (a n : ℕ) → range_with_len a (suc n) ≡ range_with_len a n ++ (a + n) ∷ []
    go a zero = ap (λ (i : ℕ). i ∷ []) (omega arith)
    go a (suc n) = ap (λ (is : List ℕ). a ∷ is) (go (a + 1) n ∙ ap (λ (i : ℕ). range_with_len (a + 1) n ++ i ∷ []) (omega arith))

pub inputs_more : (r i : ℕ) → pairs_at r 0 (i + 1) ≡ pairs_at r 0 i ++ map (pair_need r) (cond (eqb (bit r i) 0) (i ∷ []) [])
inputs_more r i =
    let p : ℕ → Bool = λ j. eqb (bit r j) 0 in
    ap (λ (is : List ℕ). map (pair_need r) (filter p is)) (numbers_more 0 i)
    ∙ ap (map (pair_need r)) (filter-append p (range_with_len 0 i) ((0 + i) ∷ []))
    ∙ map-append (pair_need r) (filter p (range_with_len 0 i)) (filter p ((0 + i) ∷ []))
    ∙ ap (λ (j : ℕ). pairs_at r 0 i ++ map (pair_need r) (cond (eqb (bit r j) 0) (j ∷ []) [])) (omega arith)

pub pairs_more : (n r : ℕ) → pairs n 0 (r + 1) ≡ pairs n 0 r ++ pairs_at r 0 n
pairs_more n r =
    let f : ℕ → List Need = λ q. pairs_at q 0 n in
    ap (flat_map f) (numbers_more 0 r)
    ∙ flat_map-append f (range_with_len 0 r) ((0 + r) ∷ [])
    ∙ ap (λ (ds : List Need). pairs n 0 r ++ ds) (append-nil (f (0 + r)) ∙ ap f (omega arith))

-- ---- there are at most 1,280 needs
few_by : Work → ℕ → Bool
few_by work n = leb (length (candidates n work)) 1280

few_below : (work : Work) → below (few_by work) 9 ≡ true
unfolding few_by
few_below Plain = refl
few_below HazardFree = refl

few_candidates : (n : ℕ) (work : Work) → n ≤ 8 → length (candidates n work) ≤ 1280
unfolding few_by
few_candidates n work h = leb-true (length (candidates n work)) 1280 (below_at (few_by work) 9 n (few_below work) (omega arith))

-- what stands behind a list of needs
pub blank_need : (d : Need) → (d.low ≡ 0) × (d.high ≡ 0) → d ≡ row_need 0
blank_need d e = ap₂ (λ (l h : ℕ). record { low = l; high = h }) e.0 e.1

-- so all of them go in
pub added_all : (tb : Table) (work : Work) → tb.inputs ≤ 8 → added tb [] (candidates tb.inputs work) ≡ needs tb work
unfolding needs
added_all tb work h =
    let p = is_needed tb in
    let a = length-filter_both p (λ d. not (p d)) (λ _. refl) (candidates tb.inputs work) in
    let b = few_candidates tb.inputs work h in
    take_all 1280 (filter p (candidates tb.inputs work)) (omega arith)
