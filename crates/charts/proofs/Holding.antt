-- Whether a number of a row passes a test, and what that says of the numbers.
use Rattle.std.proofs.Common.{◌≡◌, ℕ, zero, suc, ◌+◌, ◌<◌, ◌≤◌, Bool, true, false, cond, not, nat_lt, ◌&&◌, ◌||◌, ◌∷◌, filter, sym, refl, ap, ◌∙◌, ⊎_elim, arith}
use Rattle.std.specs.List.{list_any, range_with_len}
use Rattle.std.proofs.lemmas.Bool.{cases_eq, or_right, lt-ltb, false≢true}
use Rattle.charts.specs.Grids.{Grid}
use Rattle.charts.specs.Sets.{is_held, Held, HeldTells}

-- one number that is kept and passes is enough
pub any_here : (p s : ℕ → Bool) (a k c : ℕ) → a ≤ c → c < a + k → s c ≡ true → p c ≡ true → list_any p (filter s (range_with_len a k)) ≡ true
any_here p s a zero c l u h q = absurd (omega arith)
any_here p s a (suc k) c l u h q =
    let rest = filter s (range_with_len (a + 1) k) in
    ⊎_elim
    (λ (e : c ≡ a). ap (λ (b : Bool). list_any p (cond b (a ∷ rest) rest)) (sym (ap s e) ∙ h) ∙ ap (λ (b : Bool). b || list_any p rest) (sym (ap p e) ∙ q))
    (λ (n : c ≡ a → ⊥). later (s a) (any_here p s (a + 1) k c (omega arith) (omega arith) h q))
    (cases_eq c a)
  where
    later : (b : Bool) → list_any p (filter s (range_with_len (a + 1) k)) ≡ true → list_any p (cond b (a ∷ filter s (range_with_len (a + 1) k)) (filter s (range_with_len (a + 1) k))) ≡ true
    later true e = or_right (p a) (list_any p (filter s (range_with_len (a + 1) k))) e
    later false e = e

-- where one passes, there is one
pub any_found : (p s : ℕ → Bool) (a k : ℕ) → list_any p (filter s (range_with_len a k)) ≡ true → (c : ℕ) × (c < a + k) × (s c ≡ true) × (p c ≡ true)
any_found p s a zero h = absurd (false≢true h)
any_found p s a (suc k) h = go (s a) refl (λ e. let w = any_found p s (a + 1) k e in let l = w.1 in (w.0, omega arith, w.2, w.3)) h
  where
    first : (b : Bool) → s a ≡ true → p a ≡ b
        → (list_any p (filter s (range_with_len (a + 1) k)) ≡ true → (c : ℕ) × (c < a + suc k) × (s c ≡ true) × (p c ≡ true))
        → (b || list_any p (filter s (range_with_len (a + 1) k))) ≡ true → (c : ℕ) × (c < a + suc k) × (s c ≡ true) × (p c ≡ true)
    first true y q rest e = (a, omega arith, y, q)
    first false y q rest e = rest e

    go : (b : Bool) → s a ≡ b
        → (list_any p (filter s (range_with_len (a + 1) k)) ≡ true → (c : ℕ) × (c < a + suc k) × (s c ≡ true) × (p c ≡ true))
        → list_any p (cond b (a ∷ filter s (range_with_len (a + 1) k)) (filter s (range_with_len (a + 1) k))) ≡ true → (c : ℕ) × (c < a + suc k) × (s c ≡ true) × (p c ≡ true)
    go true y rest e = first (p a) y refl rest e
    go false y rest e = rest e

-- a need that is held is held by some member, and one that is not by none
pub held_from : (g : Grid) (s : ℕ → Bool) (i : ℕ) → is_held g s i ≡ true → Held g s i
held_from g s i h = let w = any_found (λ c. g.held c i) s 0 g.width h in let l = w.1 in (w.0, omega arith, w.2, w.3)

pub from_held : (g : Grid) (s : ℕ → Bool) (i : ℕ) → Held g s i → is_held g s i ≡ true
from_held g s i h = let l = h.1 in any_here (λ c. g.held c i) s 0 g.width h.0 (omega arith) (omega arith) h.2 h.3

pub unheld_from : (g : Grid) (s : ℕ → Bool) (i : ℕ) → is_held g s i ≡ false → (c : ℕ) → c < g.width → s c ≡ true → g.held c i ≡ false
unheld_from g s i h c l y = go (g.held c i) refl
  where
    go : (b : Bool) → g.held c i ≡ b → g.held c i ≡ false
    go false e = e
    go true e = absurd (false≢true (sym h ∙ any_here (λ c. g.held c i) s 0 g.width c (omega arith) (omega arith) y e))

pub held_tells : HeldTells
held_tells g s i = (held_from g s i, unheld_from g s i)

-- a need that is there is open exactly when it is not held
pub open_held : (i n : ℕ) (r b : Bool) → i < n → r ≡ (nat_lt i n && not b) → r ≡ false → b ≡ true
open_held i n r true l e h = refl
open_held i n r false l e h = absurd (false≢true (sym h ∙ e ∙ ap (λ (a : Bool). a && true) (lt-ltb i n l)))

pub open_unheld : (i n : ℕ) (r b : Bool) → i < n → r ≡ (nat_lt i n && not b) → r ≡ true → b ≡ false
open_unheld i n r false l e h = refl
open_unheld i n r true l e h = absurd (false≢true (sym (ap (λ (a : Bool). a && false) (lt-ltb i n l)) ∙ sym e ∙ h))
