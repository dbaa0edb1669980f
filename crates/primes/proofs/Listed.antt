-- The list of primes holds the primes and nothing else, in rising rank.
use Rattle.std.proofs.Common.{◌≡◌, ℕ, ◌+◌, ◌*◌, ◌/◌, ◌%◌, ◌^◌, ◌<◌, ◌≤◌, Bool, true, false, not, ◌||◌, T, eqb, ◌≢◌, List, [], ◌∷◌, length, get_or, set, sym, refl, ap, ◌∙◌, subst, ap₂, mod-eq_of_lt, pow-suc, arith, pow_pos}
use lib.Bits.{bit_and, and_le_r, and_mod}
use Rattle.std.proofs.lemmas.Nat.{mod_below}
use Rattle.std.proofs.lemmas.Bool.{and_parts, and_from, not-true, both_ways}
use Rattle.terms.specs.declared.term.Term.{Term}
use Rattle.terms.specs.Lists.{In}
use Rattle.terms.specs.Marks.{is_off}
use Rattle.terms.specs.Terms.{agrees, holds, Inside, number, rank}
use Rattle.terms.specs.Tables.{Table, Proper, rows, mark_at, Implicant, Prime}
use Rattle.terms.proofs.Bits.{levels_le}
use Rattle.terms.proofs.Members.{kept_in, in_kept, ordered_kept, counted_in, in_counted, ordered_counted}
use Rattle.terms.proofs.Numbers.{same_term}
use Rattle.primes.specs.Cubes.{Digit, free, low, high, cube_of, read_bit, level_bit, mask_in, levels_in, levels_in_mask, term_of}
use Rattle.primes.specs.Primes.{every, allowed, is_prime, primes, terms_over}
use Rattle.primes.specs.PrimeLaws.{PrimesListed, PrimesRising}
use Rattle.primes.proofs.Cube.{contains, imp, num, Sparing, Within, Alone, is_free, stands, trial}
use Rattle.primes.proofs.CubeLaws.{implicant_from_imp, imp_from_implicant, length_cube_of, num_lt}
use Rattle.primes.proofs.CubeBytes.{read_lt, level_lt, cube, digit, mask_cube, levels_cube, contains_cube}
use Rattle.primes.proofs.CubeTerms.{every_at, every_from, length_cube, cube_of_lem, prime_trial, term_of_number, number_term_of, number_cube, term_over, pow3_le}
use Rattle.primes.proofs.Insides.{alone_from_passes, passes_from_alone}

-- ---- the trial of digits, as a test and as a statement
stands_imp : (f : ℕ → Bool) (ds : List Digit) (i : ℕ) → stands f ds i ≡ true → get_or ds i free ≢ free → imp (set ds i free) f ≡ false
stands_imp f ds i e z = go (get_or ds i free) z e
  where
    go : (d : Digit) → d ≢ free → (is_free d || not (imp (set ds i free) f)) ≡ true → imp (set ds i free) f ≡ false
    go free z e = absurd (z refl)
    go low z e = not-true (imp (set ds i free) f) e
    go high z e = not-true (imp (set ds i free) f) e

imp_stands : (f : ℕ → Bool) (ds : List Digit) (i : ℕ) → (get_or ds i free ≢ free → imp (set ds i free) f ≡ false) → stands f ds i ≡ true
imp_stands f ds i h = go (get_or ds i free) h
  where
    go : (d : Digit) → (d ≢ free → imp (set ds i free) f ≡ false) → (is_free d || not (imp (set ds i free) f)) ≡ true
    go free h = refl
    go low h = ap not (h (λ e. let z : ◌≡◌ {A = ℕ} 0 1 = cc in omega arith))
    go high h = ap not (h (λ e. let z : ◌≡◌ {A = ℕ} 0 1 = cc in omega arith))

passes_from_trial : (n : ℕ) (f : ℕ → Bool) (x : ℕ) → trial n f x ≡ true → Sparing (cube_of n x) f × Alone (cube_of n x) f
unfolding trial
passes_from_trial n f x e =
    let p = and_parts (imp (cube_of n x) f) (every (stands f (cube_of n x)) n) e in (
      implicant_from_imp (cube_of n x) f p.0,
      alone_from_passes (cube_of n x) f (λ i h z. stands_imp f (cube_of n x) i
          (every_at (stands f (cube_of n x)) n i p.1 (subst (λ (k : ℕ). i < k) (length_cube_of n x) h)) z),
    )

trial_from_alone : (n : ℕ) (f : ℕ → Bool) (x : ℕ) → Sparing (cube_of n x) f → Alone (cube_of n x) f → trial n f x ≡ true
unfolding trial
trial_from_alone n f x h a =
    and_from (imp (cube_of n x) f) (every (stands f (cube_of n x)) n) (imp_from_implicant (cube_of n x) f h)
    (every_from (stands f (cube_of n x)) n (λ i k. imp_stands f (cube_of n x) i
    (passes_from_alone (cube_of n x) f a i (subst (λ (j : ℕ). i < j) (sym (length_cube_of n x)) k))))

-- ---- each list of digits is a term's
digit_of : (d : Digit) → digit (read_bit d) (level_bit d) ≡ d
digit_of free = refl
digit_of low = refl
digit_of high = refl

low_bit : (d a : ℕ) → d < 2 → (d + 2 * a) % 2 ≡ d
low_bit d a h = omega arith

low_half : (d a : ℕ) → d < 2 → (d + 2 * a) / 2 ≡ a
low_half d a h = omega arith

cube_in : (ds : List Digit) → cube (length ds) (mask_in ds) (levels_in ds) ≡ ds
cube_in [] = refl
cube_in (d ∷ ds) =
    let r = read_lt d in
    let w = level_lt d in
    ap₂ (λ (x : Digit) (xs : List Digit). x ∷ xs)
    (ap₂ digit (low_bit (read_bit d) (mask_in ds) r) (low_bit (level_bit d) (levels_in ds) w) ∙ digit_of d)
    (ap₂ (cube (length ds)) (low_half (read_bit d) (mask_in ds) r) (low_half (level_bit d) (levels_in ds) w) ∙ cube_in ds)

mask_in_lt : (ds : List Digit) → mask_in ds < 2 ^ length ds
mask_in_lt [] = omega arith
mask_in_lt (d ∷ ds) = omega (arith, mask_in_lt ds, read_lt d, pow-suc 2 (length ds))

-- the term of a list of at most eight digits
pub term_in : (n : ℕ) (ds : List Digit) → n ≤ 8 → length ds ≡ n → (t : Term) × (t.mask < 2 ^ n) × (cube n t.mask t.levels ≡ ds)
term_in n ds h e =
    let m = subst (λ (k : ℕ). mask_in ds < 2 ^ k) e (mask_in_lt ds) in (
      record { mask = mask_in ds; levels = levels_in ds; within = levels_in_mask ds; byte = omega (arith, lib.Pow.pow_mono {i = n} {j = 8} h) },
      m,
      ap (λ (k : ℕ). cube k (mask_in ds) (levels_in ds)) (sym e) ∙ cube_in ds,
    )

-- ---- by bytes: the terms over the inputs of a table
pub t_of : (b : Bool) → b ≡ true → T b
t_of true e = tt
t_of false e = let z : ◌≡◌ {A = ℕ} 0 1 = cc in absurd (omega arith)

pub true_of : (b : Bool) → T b → b ≡ true
true_of true t = refl
true_of false t = absurd t

-- a row seen through a mask of n inputs is a row of n inputs
agrees_mod : (n m l r : ℕ) → m < 2 ^ n → agrees m l r ≡ agrees m l (r % 2 ^ n)
agrees_mod n m l r h =
    let k = and_le_r r m in
    let a : bit_and r m % 2 ^ n ≡ bit_and r m = mod-eq_of_lt (omega arith) in
    let b : m % 2 ^ n ≡ m = mod-eq_of_lt h in
    ap (λ (x : ℕ). eqb x l) (sym a ∙ and_mod r m n ∙ ap (bit_and (r % 2 ^ n)) b)

not_both : (b : Bool) → T b → T (not b) → ⊥
not_both true h k = k
not_both false h k = h

-- an implicant, by rows and by digits
pub sparing_of : (tb : Table) (t : Term) → Implicant tb t → Sparing (cube tb.inputs t.mask t.levels) (allowed tb)
sparing_of tb t i r b c =
    let h : r < rows tb = subst (λ (k : ℕ). r < 2 ^ k) (length_cube tb.inputs t.mask t.levels) b in
    let held : T (holds t r) = t_of (holds t r) (sym (contains_cube tb.inputs t.mask t.levels r i.over t.within) ∙ c) in
    go (is_off (mark_at tb r)) (λ o. not_both (holds t r) held (i.spares r h o))
  where
    go : (o : Bool) → (T o → ⊥) → not o ≡ true
    go true f = absurd (f tt)
    go false f = refl

pub implicant_of : (tb : Table) (t : Term) → t.mask < rows tb → Sparing (cube tb.inputs t.mask t.levels) (allowed tb) → Implicant tb t
implicant_of tb t m s =
    record {
      over = m;
      spares = λ r h o. go (holds t r) (is_off (mark_at tb r)) o
          (λ c. s r (subst (λ (k : ℕ). r < 2 ^ k) (sym (length_cube tb.inputs t.mask t.levels)) h) (contains_cube tb.inputs t.mask t.levels r m t.within ∙ c));
    }
  where
    go : (b o : Bool) → T o → (b ≡ true → not o ≡ true) → T (not b)
    go true true k f = absurd (both_ways false refl (f refl))
    go true false k f = absurd k
    go false o k f = tt

-- one term inside another
pub within_of : (tb : Table) (t u : Term) → t.mask < rows tb → u.mask < rows tb → Inside t u
    → Within (cube tb.inputs t.mask t.levels) (cube tb.inputs u.mask u.levels)
within_of tb t u a b i r h c =
    contains_cube tb.inputs u.mask u.levels r b u.within
    ∙ true_of (holds u r) (i r (t_of (holds t r) (sym (contains_cube tb.inputs t.mask t.levels r a t.within) ∙ c)))

pub inside_of : (tb : Table) (t u : Term) → t.mask < rows tb → u.mask < rows tb
    → Within (cube tb.inputs t.mask t.levels) (cube tb.inputs u.mask u.levels) → Inside t u
inside_of tb t u a b w r h =
    let n : ℕ = tb.inputs in
    let q : ℕ = r % 2 ^ n in
    let l : q < 2 ^ n = mod_below r (2 ^ n) (pow_pos n) in
    let c : contains (cube n t.mask t.levels) q ≡ true =
    contains_cube n t.mask t.levels q a t.within ∙ sym (agrees_mod n t.mask t.levels r a) ∙ true_of (holds t r) h in
    t_of (holds u r)
    (agrees_mod n u.mask u.levels r b ∙ sym (contains_cube n u.mask u.levels q b u.within)
    ∙ w q (subst (λ (k : ℕ). q < 2 ^ k) (sym (length_cube n t.mask t.levels)) l) c)

pub same_cube : (n : ℕ) (t u : Term) → t.mask < 2 ^ n → u.mask < 2 ^ n → cube n u.mask u.levels ≡ cube n t.mask t.levels → u ≡ t
same_cube n t u a b e =
    let x = levels_le t in
    let y = levels_le u in
    same_term u t
    (sym (mask_cube n u.mask u.levels b) ∙ ap mask_in e ∙ mask_cube n t.mask t.levels a)
    (sym (levels_cube n u.mask u.levels (omega arith) u.within) ∙ ap levels_in e ∙ levels_cube n t.mask t.levels (omega arith) t.within)

-- ---- the trial and the definition
-- an implicant that no other has inside, by its digits
pub prime_from_alone : (tb : Table) (t : Term) → t.mask < rows tb → Sparing (cube tb.inputs t.mask t.levels) (allowed tb)
    → Alone (cube tb.inputs t.mask t.levels) (allowed tb) → Prime tb t
prime_from_alone tb t m s a =
    let n : ℕ = tb.inputs in
    record {
      implicant = implicant_of tb t m s;
      widest = λ u i w. same_cube n t u m i.over
          (a (cube n u.mask u.levels) (length_cube n u.mask u.levels ∙ sym (length_cube n t.mask t.levels)) (sparing_of tb u i) (within_of tb t u m i.over w));
    }

prime_from_trial : (tb : Table) (t : Term) → Proper tb → t.mask < rows tb → is_prime tb t ≡ true → Prime tb t
prime_from_trial tb t p m e =
    let n : ℕ = tb.inputs in
    let q = passes_from_trial n (allowed tb) (number t) (sym (prime_trial tb t p.few m) ∙ e) in
    let c = cube_of_lem n t p.few in
    let s : Sparing (cube n t.mask t.levels) (allowed tb) = subst (λ (ds : List Digit). Sparing ds (allowed tb)) c q.0 in
    let a : Alone (cube n t.mask t.levels) (allowed tb) = subst (λ (ds : List Digit). Alone ds (allowed tb)) c q.1 in
    prime_from_alone tb t m s a

trial_from_prime : (tb : Table) (t : Term) → Proper tb → Prime tb t → is_prime tb t ≡ true
trial_from_prime tb t p q =
    let n : ℕ = tb.inputs in
    let m = q.implicant.over in
    let ts : List Digit = cube n t.mask t.levels in
    let c : cube_of n (number t) ≡ ts = cube_of_lem n t p.few in
    let alone : Alone ts (allowed tb) =
    λ ds e s w.
    let u = term_in n ds p.few (e ∙ length_cube n t.mask t.levels) in
    let g : cube n u.0.mask u.0.levels ≡ ds = u.2 in
    let i : Implicant tb u.0 = implicant_of tb u.0 u.1 (subst (λ (es : List Digit). Sparing es (allowed tb)) (sym g) s) in
    let v : Inside t u.0 = inside_of tb t u.0 m u.1 (subst (λ (es : List Digit). Within ts es) (sym g) w) in
    sym g ∙ ap (λ (z : Term). cube n z.mask z.levels) (q.widest u.0 i v) in
    prime_trial tb t p.few m
    ∙ trial_from_alone n (allowed tb) (number t) (subst (λ (ds : List Digit). Sparing ds (allowed tb)) (sym c) (sparing_of tb t q.implicant))
    (subst (λ (ds : List Digit). Alone ds (allowed tb)) (sym c) alone)

-- ---- the list
number_below : (n : ℕ) (t : Term) → n ≤ 8 → t.mask < 2 ^ n → number t < 3 ^ n
number_below n t h m =
    let e : number t ≡ num (cube n t.mask t.levels) = number_cube n t h m in
    let b = num_lt (cube n t.mask t.levels) in
    let c = ap (λ (k : ℕ). 3 ^ k) (length_cube n t.mask t.levels) in
    omega arith

pub primes_listed : PrimesListed
unfolding primes
primes_listed tb p t =
    let n : ℕ = tb.inputs in (
      λ h.
          let k = kept_in (is_prime tb) t (terms_over n) h in
          let w = counted_in term_of 0 (3 ^ n) t k.0 in
          let l = w.2 in
          let m : t.mask < rows tb = subst (λ (u : Term). u.mask < rows tb) (sym w.3) (term_over n w.0 (omega arith)) in
          prime_from_trial tb t p m k.1,
      λ q.
          let l = number_below n t p.few q.implicant.over in
          in_kept (is_prime tb) t (terms_over n)
          (subst (λ (u : Term). In u (terms_over n)) (term_of_number t) (in_counted term_of 0 (3 ^ n) (number t) (omega arith) (omega arith)))
          (trial_from_prime tb t p q),
    )

pub primes_rising : PrimesRising
unfolding primes
primes_rising tb p =
    let b = pow3_le tb.inputs p.few in
    ordered_kept (is_prime tb) (λ t u. rank t < rank u) (terms_over tb.inputs)
    (ordered_counted term_of (λ t u. rank t < rank u) 0 (3 ^ tb.inputs)
    (λ i j l m u. let x = number_term_of i (omega arith) in let y = number_term_of j (omega arith) in omega arith))
