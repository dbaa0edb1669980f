-- Each implicant lies inside a prime, and each need is met by one.
use Rattle.std.proofs.Common.{◌≡◌, ℕ, zero, suc, ◌+◌, ◌/◌, ◌%◌, ◌^◌, ◌<◌, ◌≤◌, Bool, true, false, not, ◌&&◌, ◌||◌, ◌≢◌, ◌⊎◌, List, [], ◌∷◌, length, get_or, set, sym, refl, ap, ◌∙◌, subst, inl, inr, ⊎_elim, le_of_suc-le-suc, not-suc-le-zero, pow-suc, arith, length-set}
use Rattle.std.proofs.lemmas.Bool.{cases_Bool, and_parts, and_from, eqb-true, eq-eqb, or_parts, not-false, both_ways}
use Rattle.terms.specs.declared.term.Term.{Term}
use Rattle.terms.specs.Terms.{bit, holds, Inside}
use Rattle.terms.specs.Tables.{Table, Proper, rows, Implicant, Prime}
use Rattle.terms.proofs.Bits.{bit_half}
use Rattle.primes.specs.Cubes.{Digit, free, low, high}
use Rattle.primes.specs.Primes.{every, allowed}
use Rattle.primes.proofs.Cube.{fits, contains, imp, Sparing, Within, Alone, Passes, is_free, stands}
use Rattle.primes.proofs.CubeLaws.{implicant_from_imp}
use Rattle.primes.proofs.CubeBytes.{cube, contains_cube}
use Rattle.primes.proofs.CubeTerms.{every_at, length_cube}
use Rattle.primes.proofs.Insides.{wider_contains, wider_set, alone_from_passes}
use Rattle.primes.proofs.Listed.{term_in, sparing_of, implicant_of, inside_of, prime_from_alone}

-- ---- dropping inputs ends
-- how many inputs a cube reads
abbrev reading : List Digit → ℕ
reading [] = 0
reading (free ∷ ds) = reading ds
reading (low ∷ ds) = suc (reading ds)
reading (high ∷ ds) = suc (reading ds)

reading_less : (ds : List Digit) (i : ℕ) → i < length ds → is_free (get_or ds i free) ≡ false → suc (reading (set ds i free)) ≡ reading ds
reading_less [] i h e = absurd (not-suc-le-zero h)
reading_less (free ∷ ds) zero h e = absurd (Rattle.std.proofs.lemmas.Bool.true≢false e)
reading_less (low ∷ ds) zero h e = refl
reading_less (high ∷ ds) zero h e = refl
reading_less (free ∷ ds) (suc i) h e = reading_less ds i (le_of_suc-le-suc h) e
reading_less (low ∷ ds) (suc i) h e = ap suc (reading_less ds i (le_of_suc-le-suc h) e)
reading_less (high ∷ ds) (suc i) h e = ap suc (reading_less ds i (le_of_suc-le-suc h) e)

-- a test that does not pass everywhere fails somewhere
every_fails : (f : ℕ → Bool) (n : ℕ) → every f n ≡ false → (k : ℕ) × (k < n) × (f k ≡ false)
every_fails f zero e = absurd (Rattle.std.proofs.lemmas.Bool.true≢false e)
every_fails f (suc n) e =
    ⊎_elim (λ (h : f n ≡ true). let w = every_fails f n (ap (λ (b : Bool). b && every f n) (sym h) ∙ e) in let l = w.1 in (w.0, omega arith, w.2))
    (λ (h : f n ≡ false). (n, omega arith, h))
    (cases_Bool (f n))

passes_from_every : (ds : List Digit) (f : ℕ → Bool) → every (stands f ds) (length ds) ≡ true → Passes ds f
passes_from_every ds f e i h z = go (get_or ds i free) z (every_at (stands f ds) (length ds) i e h)
  where
    go : (d : Digit) → d ≢ free → (is_free d || not (imp (set ds i free) f)) ≡ true → imp (set ds i free) f ≡ false
    go free z e = absurd (z refl)
    go low z e = Rattle.std.proofs.lemmas.Bool.not-true _ e
    go high z e = Rattle.std.proofs.lemmas.Bool.not-true _ e

-- a cube over the same inputs that has ds inside, is an implicant, and lies inside no other
abbrev Top : List Digit → (ℕ → Bool) → Type 0
Top ds f = (es : List Digit) × (length es ≡ length ds) × Sparing es f × Alone es f × Within ds es

top_step : (ds : List Digit) (f : ℕ → Bool) → Sparing ds f
    → ((i : ℕ) → suc (reading (set ds i free)) ≡ reading ds → Sparing (set ds i free) f → Top (set ds i free) f) → Top ds f
top_step ds f s next =
    ⊎_elim
    (λ (e : every (stands f ds) (length ds) ≡ true). (ds, refl, s, alone_from_passes ds f (passes_from_every ds f e), λ r b c. c))
    (λ (e : every (stands f ds) (length ds) ≡ false).
    let w = every_fails (stands f ds) (length ds) e in
    let i : ℕ = w.0 in
    let p = or_parts (is_free (get_or ds i free)) (not (imp (set ds i free) f)) w.2 in
    let t = next i (reading_less ds i w.1 p.0) (implicant_from_imp (set ds i free) f (not-false _ p.1)) in
    let len = length-set ds i free in (
      t.0,
      t.1 ∙ len,
      t.2,
      t.3,
      λ r b c. t.4 r (subst (λ (m : ℕ). r < 2 ^ m) (sym len) b) (wider_contains (set ds i free) ds r (wider_set ds i w.1) c),
    ))
    (cases_Bool (every (stands f ds) (length ds)))

above : (k : ℕ) (ds : List Digit) (f : ℕ → Bool) → reading ds ≤ k → Sparing ds f → Top ds f
above zero ds f h s = top_step ds f s (λ i e t. absurd (omega arith))
above (suc k) ds f h s = top_step ds f s (λ i e t. above k (set ds i free) f (omega arith) t)

-- each implicant lies inside a prime
pub prime_above : (tb : Table) → Proper tb → (t : Term) → Implicant tb t → (u : Term) × Prime tb u × Inside t u
prime_above tb p t i =
    let n : ℕ = tb.inputs in
    let ds : List Digit = cube n t.mask t.levels in
    let w = above (reading ds) ds (allowed tb) (omega arith) (sparing_of tb t i) in
    let v = term_in n w.0 p.few (w.1 ∙ length_cube n t.mask t.levels) in
    let u : Term = v.0 in
    let g : cube n u.mask u.levels ≡ w.0 = v.2 in (
      u,
      prime_from_alone tb u v.1 (subst (λ (es : List Digit). Sparing es (allowed tb)) (sym g) w.2) (subst (λ (es : List Digit). Alone es (allowed tb)) (sym g) w.3),
      inside_of tb t u i.over v.1 (subst (λ (es : List Digit). Within ds es) (sym g) w.4),
    )

-- ---- the cube of one row, and of two neighbouring rows
bit_digit : ℕ → Digit
bit_digit zero = low
bit_digit (suc b) = high

fits_bit : (b c : ℕ) → b < 2 → c < 2 → fits (bit_digit b) c ≡ true → c ≡ b
unfolding bit_digit
fits_bit zero c h l e = eqb-true c 0 e
fits_bit (suc zero) c h l e = eqb-true c 1 e
fits_bit (suc (suc b)) c h l e = absurd (omega arith)

bit_fits : (b : ℕ) → b < 2 → fits (bit_digit b) b ≡ true
unfolding bit_digit
bit_fits zero h = refl
bit_fits (suc zero) h = refl
bit_fits (suc (suc b)) h = absurd (omega arith)

row_cube : ℕ → ℕ → List Digit
row_cube zero r = []
row_cube (suc n) r = bit_digit (r % 2) ∷ row_cube n (r / 2)

pair_cube : ℕ → ℕ → ℕ → List Digit
pair_cube zero r i = []
pair_cube (suc n) r zero = free ∷ row_cube n (r / 2)
pair_cube (suc n) r (suc i) = bit_digit (r % 2) ∷ pair_cube n (r / 2) i

length_row : (n r : ℕ) → length (row_cube n r) ≡ n
unfolding row_cube
length_row zero r = refl
length_row (suc n) r = ap suc (length_row n (r / 2))

length_pair : (n r i : ℕ) → length (pair_cube n r i) ≡ n
unfolding pair_cube
length_pair zero r i = refl
length_pair (suc n) r zero = ap suc (length_row n (r / 2))
length_pair (suc n) r (suc i) = ap suc (length_pair n (r / 2) i)

row_only : (n r q : ℕ) → r < 2 ^ n → q < 2 ^ n → contains (row_cube n r) q ≡ true → q ≡ r
unfolding row_cube
row_only zero r q h l c = omega arith
row_only (suc n) r q h l c =
    let p = pow-suc 2 n in
    let w = and_parts (fits (bit_digit (r % 2)) (q % 2)) (contains (row_cube n (r / 2)) (q / 2)) c in
    let first = fits_bit (r % 2) (q % 2) (omega arith) (omega arith) w.0 in
    let rest = row_only n (r / 2) (q / 2) (omega arith) (omega arith) w.1 in
    omega arith

row_held : (n r : ℕ) → contains (row_cube n r) r ≡ true
unfolding row_cube
row_held zero r = refl
row_held (suc n) r = and_from (fits (bit_digit (r % 2)) (r % 2)) (contains (row_cube n (r / 2)) (r / 2)) (bit_fits (r % 2) (omega arith)) (row_held n (r / 2))

pair_only : (n r i q : ℕ) → r < 2 ^ n → q < 2 ^ n → i < n → bit r i ≡ 0 → contains (pair_cube n r i) q ≡ true → (q ≡ r) ⊎ (q ≡ r + 2 ^ i)
unfolding pair_cube
pair_only zero r i q h l k b c = absurd (omega arith)
pair_only (suc n) r zero q h l k b c =
    let p = pow-suc 2 n in
    let w = and_parts true (contains (row_cube n (r / 2)) (q / 2)) c in
    let rest = row_only n (r / 2) (q / 2) (omega arith) (omega arith) w.1 in
    ⊎_elim (λ (e : q ≡ r). inl e) (λ (e : q ≡ r → ⊥). inr (omega arith)) (Rattle.std.proofs.lemmas.Bool.cases_eq q r)
pair_only (suc n) r (suc i) q h l k b c =
    let p = pow-suc 2 n in
    let d = pow-suc 2 i in
    let w = and_parts (fits (bit_digit (r % 2)) (q % 2)) (contains (pair_cube n (r / 2) i) (q / 2)) c in
    let first = fits_bit (r % 2) (q % 2) (omega arith) (omega arith) w.0 in
    ⊎_elim (λ (e : q / 2 ≡ r / 2). inl (omega arith)) (λ (e : q / 2 ≡ r / 2 + 2 ^ i). inr (omega arith))
    (pair_only n (r / 2) i (q / 2) (omega arith) (omega arith) (omega arith) (bit_half r i ∙ b) w.1)

pair_low : (n r i : ℕ) → contains (pair_cube n r i) r ≡ true
unfolding pair_cube
pair_low zero r i = refl
pair_low (suc n) r zero = and_from true (contains (row_cube n (r / 2)) (r / 2)) refl (row_held n (r / 2))
pair_low (suc n) r (suc i) = and_from (fits (bit_digit (r % 2)) (r % 2)) (contains (pair_cube n (r / 2) i) (r / 2)) (bit_fits (r % 2) (omega arith)) (pair_low n (r / 2) i)

pair_high : (n r i : ℕ) → bit r i ≡ 0 → contains (pair_cube n r i) (r + 2 ^ i) ≡ true
unfolding pair_cube
pair_high zero r i b = refl
pair_high (suc n) r zero b =
    let e : (r + 1) / 2 ≡ r / 2 = omega arith in
    and_from true (contains (row_cube n (r / 2)) ((r + 1) / 2)) refl (ap (contains (row_cube n (r / 2))) e ∙ row_held n (r / 2))
pair_high (suc n) r (suc i) b =
    let d = pow-suc 2 i in
    let e : (r + 2 ^ suc i) / 2 ≡ r / 2 + 2 ^ i = omega arith in
    let f : (r + 2 ^ suc i) % 2 ≡ r % 2 = omega arith in
    and_from (fits (bit_digit (r % 2)) ((r + 2 ^ suc i) % 2)) (contains (pair_cube n (r / 2) i) ((r + 2 ^ suc i) / 2))
    (ap (fits (bit_digit (r % 2))) f ∙ bit_fits (r % 2) (omega arith))
    (ap (contains (pair_cube n (r / 2) i)) e ∙ pair_high n (r / 2) i (bit_half r i ∙ b))

-- ---- the terms of these cubes
module _ (tb : Table) (p : Proper tb) where
  abbrev n : ℕ
  n = tb.inputs

  term_with : (ds : List Digit) → length ds ≡ n → Sparing ds (allowed tb) → (u : Term) × Implicant tb u × ((r : ℕ) → r < rows tb → contains ds r ≡ true → holds u r ≡ true)
  term_with ds e s =
      let v = term_in n ds p.few e in
      let u : Term = v.0 in (
        u,
        implicant_of tb u v.1 (subst (λ (es : List Digit). Sparing es (allowed tb)) (sym v.2) s),
        λ r l c. sym (contains_cube n u.mask u.levels r v.1 u.within) ∙ ap (λ (es : List Digit). contains es r) v.2 ∙ c,
      )

  -- a row that is not OFF is held by a prime
  pub row_met : (r : ℕ) → r < rows tb → allowed tb r ≡ true → (u : Term) × Prime tb u × (holds u r ≡ true)
  row_met r l a =
      let len = length_row n r in
      let w = term_with (row_cube n r) len (λ q b c. subst (λ (k : ℕ). allowed tb k ≡ true) (sym (row_only n r q l (subst (λ (m : ℕ). q < 2 ^ m) len b) c)) a) in
      let v = prime_above tb p w.0 w.1 in
      (v.0, v.1, Rattle.primes.proofs.Listed.true_of (holds v.0 r) (v.2 r (Rattle.primes.proofs.Listed.t_of (holds w.0 r) (w.2 r l (row_held n r)))))

  -- two neighbouring rows that are not OFF are held together by a prime
  pub pair_met : (r i : ℕ) → r < rows tb → r + 2 ^ i < rows tb → i < n → bit r i ≡ 0 → allowed tb r ≡ true → allowed tb (r + 2 ^ i) ≡ true
      → (u : Term) × Prime tb u × (holds u r ≡ true) × (holds u (r + 2 ^ i) ≡ true)
  pair_met r i l m k z a b =
      let len = length_pair n r i in
      let w = term_with (pair_cube n r i) len (λ q h c.
      ⊎_elim (λ (e : q ≡ r). subst (λ (k : ℕ). allowed tb k ≡ true) (sym e) a) (λ (e : q ≡ r + 2 ^ i). subst (λ (k : ℕ). allowed tb k ≡ true) (sym e) b)
      (pair_only n r i q l (subst (λ (m : ℕ). q < 2 ^ m) len h) k z c)) in
      let v = prime_above tb p w.0 w.1 in
      let up : (q : ℕ) → holds w.0 q ≡ true → holds v.0 q ≡ true = λ q h. Rattle.primes.proofs.Listed.true_of (holds v.0 q) (v.2 q (Rattle.primes.proofs.Listed.t_of (holds w.0 q) h)) in
      (v.0, v.1, up r (w.2 r l (pair_low n r i)), up (r + 2 ^ i) (w.2 (r + 2 ^ i) m (pair_high n r i z)))
