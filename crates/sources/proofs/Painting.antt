-- The marks of a table after a call.
use Rattle.std.proofs.Common.{◌≡◌, ℕ, zero, suc, ◌+◌, ◌-◌, ◌^◌, ◌≤◌, Bool, true, false, cond, List, [], ◌∷◌, ◌++◌, length, take, set, replicate, sym, refl, ap, ◌∙◌, ap₂, le_of_suc-le-suc, add-zero, arith, length-take-le, take_at, pow_mono}
use Rattle.std.proofs.lemmas.List.{take-replicate}
use Rattle.terms.specs.declared.mark.Mark.{Mark}
use Rattle.terms.specs.declared.mark.Mark.TheVariants.{Off}
use Rattle.terms.specs.Tables.{Table, blank}
use Rattle.terms.specs.Terms.{agrees}
use Rattle.sources.specs.Calls.{painted}

pub table_eq : (n : ℕ) (xs ys : List Mark) → xs ≡ ys → ◌≡◌ {A = Table} (record { inputs = n; marks = xs }) (record { inputs = n; marks = ys })
table_eq n xs ys e = ap (λ (zs : List Mark). record { inputs = n; marks = zs }) e

pub blank_marks : (n : ℕ) → n ≤ 8 → ◌≡◌ {A = Table} (record { inputs = n; marks = take (2 ^ n) (replicate 256 Off) }) (blank n)
blank_marks n h = table_eq n _ _ (take-replicate (2 ^ n) 256 Off (pow_mono {i = n} {j = 8} h))

-- the first k of the rows from r on are painted, the others not yet
abbrev pub begun : (ℕ → Bool) → Mark → ℕ → ℕ → List Mark → List Mark
begun p m zero r xs = xs
begun p m (suc k) r [] = []
begun p m (suc k) r (x ∷ xs) = cond (p r) m x ∷ begun p m k (suc r) xs

pub begun_all : (p : ℕ → Bool) (m : Mark) (k r : ℕ) (xs : List Mark) → length xs ≤ k → begun p m k r xs ≡ painted p m r xs
begun_all p m zero r [] h = refl
begun_all p m zero r (x ∷ xs) h = absurd (omega arith)
begun_all p m (suc k) r [] h = refl
begun_all p m (suc k) r (x ∷ xs) h = ap (λ (ys : List Mark). cond (p r) m x ∷ ys) (begun_all p m k (suc r) xs (le_of_suc-le-suc h))

-- one row more, which passes the test
pub begun_in : (p : ℕ → Bool) (m : Mark) (k r : ℕ) (xs : List Mark) → p (r + k) ≡ true → set (begun p m k r xs) k m ≡ begun p m (suc k) r xs
begun_in p m zero r [] e = refl
begun_in p m zero r (x ∷ xs) e =
    let z : p r ≡ true = ap p (sym (add-zero r)) ∙ e in
    rw z refl
begun_in p m (suc k) r [] e = refl
begun_in p m (suc k) r (x ∷ xs) e =
    ap (λ (ys : List Mark). cond (p r) m x ∷ ys) (begun_in p m k (suc r) xs (ap p (omega arith) ∙ e))

-- one row more, which does not
pub begun_out : (p : ℕ → Bool) (m : Mark) (k r : ℕ) (xs : List Mark) → p (r + k) ≡ false → begun p m k r xs ≡ begun p m (suc k) r xs
begun_out p m zero r [] e = refl
begun_out p m zero r (x ∷ xs) e =
    let z : p r ≡ false = ap p (sym (add-zero r)) ∙ e in
    rw z refl
begun_out p m (suc k) r [] e = refl
begun_out p m (suc k) r (x ∷ xs) e =
    ap (λ (ys : List Mark). cond (p r) m x ∷ ys) (begun_out p m k (suc r) xs (ap p (omega arith) ∙ e))

pub length_painted : (p : ℕ → Bool) (m : Mark) (r : ℕ) (xs : List Mark) → length (painted p m r xs) ≡ length xs
length_painted p m r [] = refl
length_painted p m r (x ∷ xs) = ap suc (length_painted p m (suc r) xs)

-- the rows of a table, painted in place, with what lies past them
pub swept_marks : (n k a b a' b' : ℕ) (m m' : Mark) (xs ys zs : List Mark) → k ≡ 2 ^ n → 2 ^ n ≤ length xs → a ≡ a' → b ≡ b' → m' ≡ m
    → ys ≡ painted (agrees a b) m 0 (take (k - 0) xs) → take (2 ^ n) (ys ++ zs) ≡ painted (agrees a' b') m' 0 (take (2 ^ n) xs)
swept_marks n k a b a' b' m m' xs ys zs e h f g q w =
    let z : k - 0 ≡ 2 ^ n = omega arith in
    let v : ys ≡ painted (agrees a' b') m' 0 (take (2 ^ n) xs) =
    w ∙ ap (λ (j : ℕ). painted (agrees a b) m 0 (take j xs)) z
    ∙ ap₂ (λ (x y : ℕ). painted (agrees x y) m 0 (take (2 ^ n) xs)) f g
    ∙ ap (λ (x : Mark). painted (agrees a' b') x 0 (take (2 ^ n) xs)) (sym q) in
    let l : length ys ≡ 2 ^ n = ap length v ∙ length_painted (agrees a' b') m' 0 (take (2 ^ n) xs) ∙ length-take-le (2 ^ n) xs h in
    take_at ys zs (2 ^ n) l ∙ v
