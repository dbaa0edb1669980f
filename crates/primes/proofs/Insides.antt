-- A term passes the trial iff it lies inside no other implicant.
use Rattle.std.proofs.Common.{◌≡◌, ℕ, zero, suc, ◌+◌, ◌*◌, ◌/◌, ◌%◌, ◌^◌, ◌<◌, Bool, true, ◌≢◌, ◌⊎◌, List, [], ◌∷◌, length, get_or, set, sym, refl, ap, ◌∙◌, subst, ap₂, inl, inr, ⊎_elim, le_of_suc-le-suc, not-suc-le-zero, arith, length-set}
use mathlib.Core.Bool.{false≢true}
use Rattle.std.proofs.lemmas.Bool.{and_parts, and_from, both_ways, cases_Bool}
use Rattle.primes.specs.Cubes.{Digit, free, low, high}
use Rattle.primes.proofs.Cube.{fits, contains, imp, Sparing}
use Rattle.primes.proofs.Cube.{Within, Alone, Passes}
use Rattle.primes.proofs.CubeLaws.{implicant_from_imp, imp_from_implicant, contains_even, contains_odd, twice_below, odd_below}

-- u asks no more than t at each input
abbrev pub Laxer : Digit → Digit → Type 0
Laxer free t = Unit {0}
Laxer low t = t ≡ low
Laxer high t = t ≡ high

abbrev pub Wider : List Digit → List Digit → Type 0
Wider [] [] = Unit {0}
Wider [] (t ∷ ts) = ⊥
Wider (u ∷ us) [] = ⊥
Wider (u ∷ us) (t ∷ ts) = Laxer u t × Wider us ts

laxer_fits : (u t : Digit) (b : ℕ) → Laxer u t → fits t b ≡ true → fits u b ≡ true
laxer_fits free t b l h = refl
laxer_fits low t b l h = subst (λ (x : Digit). fits x b ≡ true) l h
laxer_fits high t b l h = subst (λ (x : Digit). fits x b ≡ true) l h

pub wider_contains : (us ts : List Digit) (r : ℕ) → Wider us ts → contains ts r ≡ true → contains us r ≡ true
wider_contains [] ts r w h = refl
wider_contains (u ∷ us) [] r w h = absurd w
wider_contains (u ∷ us) (t ∷ ts) r w h =
    let p = and_parts (fits t (r % 2)) (contains ts (r / 2)) h in
    and_from _ _ (laxer_fits u t (r % 2) w.0 p.0) (wider_contains us ts (r / 2) w.1 p.1)

pub wider_length : (us ts : List Digit) → Wider us ts → length us ≡ length ts
wider_length [] [] w = refl
wider_length [] (t ∷ ts) w = absurd w
wider_length (u ∷ us) [] w = absurd w
wider_length (u ∷ us) (t ∷ ts) w = ap suc (wider_length us ts w.1)

-- a row that the term holds
some_row : (ts : List Digit) → (r : ℕ) × (r < 2 ^ length ts) × (contains ts r ≡ true)
some_row [] = (0, omega arith, refl)
some_row (free ∷ ts) =
    let s = some_row ts in (2 * s.0, twice_below (length ts) s.0 s.1, contains_even free ts s.0 ∙ s.2)
some_row (low ∷ ts) =
    let s = some_row ts in (2 * s.0, twice_below (length ts) s.0 s.1, contains_even low ts s.0 ∙ s.2)
some_row (high ∷ ts) =
    let s = some_row ts in (2 * s.0 + 1, odd_below (length ts) s.0 s.1, contains_odd high ts s.0 ∙ s.2)

-- of t's rows, those that begin with a bit that fits t's first digit
even_of : (t u : Digit) (ts us : List Digit) → fits t 0 ≡ true → Within (t ∷ ts) (u ∷ us)
    → (r : ℕ) → r < 2 ^ length ts → contains ts r ≡ true → (fits u 0 ≡ true) × (contains us r ≡ true)
even_of t u ts us e h r b c =
    and_parts (fits u 0) (contains us r)
    (sym (contains_even u us r) ∙ h (2 * r) (twice_below (length ts) r b) (contains_even t ts r ∙ and_from _ _ e c))

odd_of : (t u : Digit) (ts us : List Digit) → fits t 1 ≡ true → Within (t ∷ ts) (u ∷ us)
    → (r : ℕ) → r < 2 ^ length ts → contains ts r ≡ true → (fits u 1 ≡ true) × (contains us r ≡ true)
odd_of t u ts us e h r b c =
    and_parts (fits u 1) (contains us r)
    (sym (contains_odd u us r) ∙ h (2 * r + 1) (odd_below (length ts) r b) (contains_odd t ts r ∙ and_from _ _ e c))

inside_rest : (t u : Digit) (ts us : List Digit) → Within (t ∷ ts) (u ∷ us) → Within ts us
inside_rest free u ts us h r b c = (even_of free u ts us refl h r b c).1
inside_rest low u ts us h r b c = (even_of low u ts us refl h r b c).1
inside_rest high u ts us h r b c = (odd_of high u ts us refl h r b c).1

even_first : (t u : Digit) (ts us : List Digit) → fits t 0 ≡ true → Within (t ∷ ts) (u ∷ us) → fits u 0 ≡ true
even_first t u ts us e h = let s = some_row ts in (even_of t u ts us e h s.0 s.1 s.2).0

odd_first : (t u : Digit) (ts us : List Digit) → fits t 1 ≡ true → Within (t ∷ ts) (u ∷ us) → fits u 1 ≡ true
odd_first t u ts us e h = let s = some_row ts in (odd_of t u ts us e h s.0 s.1 s.2).0

inside_laxer : (t u : Digit) (ts us : List Digit) → Within (t ∷ ts) (u ∷ us) → Laxer u t
inside_laxer t free ts us h = tt
inside_laxer free low ts us h = absurd (false≢true (odd_first free low ts us refl h))
inside_laxer low low ts us h = refl
inside_laxer high low ts us h = absurd (false≢true (odd_first high low ts us refl h))
inside_laxer free high ts us h = absurd (false≢true (even_first free high ts us refl h))
inside_laxer low high ts us h = absurd (false≢true (even_first low high ts us refl h))
inside_laxer high high ts us h = refl

wider_from_inside : (ts us : List Digit) → length us ≡ length ts → Within ts us → Wider us ts
wider_from_inside [] [] e h = tt
wider_from_inside [] (u ∷ us) e h = absurd (omega arith)
wider_from_inside (t ∷ ts) [] e h = absurd (omega arith)
wider_from_inside (t ∷ ts) (u ∷ us) e h =
    (inside_laxer t u ts us h, wider_from_inside ts us (omega arith) (inside_rest t u ts us h))

wider_self : (ts : List Digit) → Wider ts ts
wider_self [] = tt
wider_self (free ∷ ts) = (tt, wider_self ts)
wider_self (low ∷ ts) = (refl, wider_self ts)
wider_self (high ∷ ts) = (refl, wider_self ts)

-- leaving an input out makes a term wider
pub wider_set : (ts : List Digit) (i : ℕ) → i < length ts → Wider (set ts i free) ts
wider_set [] i h = absurd (not-suc-le-zero h)
wider_set (t ∷ ts) zero h = (tt, wider_self ts)
wider_set (free ∷ ts) (suc i) h = (tt, wider_set ts i (le_of_suc-le-suc h))
wider_set (low ∷ ts) (suc i) h = (refl, wider_set ts i (le_of_suc-le-suc h))
wider_set (high ∷ ts) (suc i) h = (refl, wider_set ts i (le_of_suc-le-suc h))

-- a wider term is the same, or has an input that it leaves out
abbrev Dropped : List Digit → List Digit → Type 0
Dropped us ts = (i : ℕ) × (i < length ts) × (get_or ts i free ≢ free) × Wider us (set ts i free)

low≢free : low ≢ free
low≢free e = let z : ◌≡◌ {A = ℕ} 0 1 = cc in omega arith

high≢free : high ≢ free
high≢free e = let z : ◌≡◌ {A = ℕ} 0 1 = cc in omega arith

dropped_more : (u t : Digit) (us ts : List Digit) → Laxer u t → Dropped us ts → Dropped (u ∷ us) (t ∷ ts)
dropped_more u t us ts l d = (suc d.0, omega arith, d.2, (l, d.3))

same_more : (u t : Digit) (us ts : List Digit) → u ≡ t → Laxer u t → (us ≡ ts) ⊎ Dropped us ts → ((u ∷ us) ≡ (t ∷ ts)) ⊎ Dropped (u ∷ us) (t ∷ ts)
same_more u t us ts e l h =
    ⊎_elim (λ q. inl (ap₂ (λ (x : Digit) (xs : List Digit). x ∷ xs) e q)) (λ d. inr (dropped_more u t us ts l d)) h

wider_cases : (us ts : List Digit) → Wider us ts → (us ≡ ts) ⊎ Dropped us ts
wider_cases [] [] w = inl refl
wider_cases [] (t ∷ ts) w = absurd w
wider_cases (u ∷ us) [] w = absurd w
wider_cases (free ∷ us) (free ∷ ts) w = same_more free free us ts refl tt (wider_cases us ts w.1)
wider_cases (free ∷ us) (low ∷ ts) w = inr (0, omega arith, low≢free, (tt, w.1))
wider_cases (free ∷ us) (high ∷ ts) w = inr (0, omega arith, high≢free, (tt, w.1))
wider_cases (low ∷ us) (t ∷ ts) w = same_more low t us ts (sym w.0) w.0 (wider_cases us ts w.1)
wider_cases (high ∷ us) (t ∷ ts) w = same_more high t us ts (sym w.0) w.0 (wider_cases us ts w.1)

-- a term inside an implicant is one
wider_imp : (us ts : List Digit) (f : ℕ → Bool) → Wider us ts → Sparing us f → Sparing ts f
wider_imp us ts f w h r b c =
    h r (subst (λ (n : ℕ). r < 2 ^ n) (sym (wider_length us ts w)) b) (wider_contains us ts r w c)

pub alone_from_passes : (t : List Digit) (f : ℕ → Bool) → Passes t f → Alone t f
alone_from_passes t f p u e h s =
    ⊎_elim (λ q. q)
    (λ d. absurd (both_ways (imp (set t d.0 free) f) (p d.0 d.1 d.2)
    (imp_from_implicant (set t d.0 free) f (wider_imp u (set t d.0 free) f d.3 h))))
    (wider_cases u t (wider_from_inside t u e s))

get_or_set_free : (ts : List Digit) (i : ℕ) → get_or (set ts i free) i free ≡ free
get_or_set_free [] i = refl
get_or_set_free (t ∷ ts) zero = refl
get_or_set_free (t ∷ ts) (suc i) = get_or_set_free ts i

pub passes_from_alone : (t : List Digit) (f : ℕ → Bool) → Alone t f → Passes t f
passes_from_alone t f a i h n =
    ⊎_elim
    (λ e. absurd (n (subst (λ (x : List Digit). get_or x i free ≡ free)
    (a (set t i free) (length-set t i free) (implicant_from_imp (set t i free) f e) (λ r b c. wider_contains (set t i free) t r (wider_set t i h) c))
    (get_or_set_free t i))))
    (λ e. e)
    (cases_Bool (imp (set t i free) f))
