-- The values of sets of columns.
use Rattle.std.proofs.Common.{◌≡◌, ℕ, zero, suc, ◌+◌, ◌<◌, ◌≤◌, Bool, true, false, cond, not, ◌&&◌, ◌||◌, ltb, List, [], ◌∷◌, map, length, sym, refl, ap, ◌∙◌, subst, ⊎_elim, arith}
use lib.ListN.{length-map}
use Rattle.std.proofs.lemmas.Bool.{cases_Bool, cases_eq, le-ltb, ltb-false, and_cases, or_parts, or_from, and_left, and_right, not-false, not_from_false, not_from_true, both_ways, not-true, ltb-true, and_parts, or_cases, eq-eqb, ne_eqb}
use Rattle.terms.specs.declared.term.Term.{Term}
use Rattle.orders.specs.Orders.{Meaning, Laws, total}
use Rattle.orders.proofs.Totalling.{at_most_self, mono_left, total_one}
use Rattle.charts.specs.Best.{Problem, beats}
use Rattle.charts.specs.Sets.{down, cost, size, exceeds, passes, fine, put, without}

-- ---- the order of values
module _ {m : Meaning} (laws : Laws m) where
  -- what a does not beat, and what that does not beat
  pub not_beats_trans : (a b c : m.Total) (x y z : ℕ) → beats m a x b y ≡ false → beats m b y c z ≡ false → beats m a x c z ≡ false
  not_beats_trans a b c x y z f g =
      let ab = or_parts (not (m.at_most b a)) (m.at_most a b && ltb x y) f in
      let bc = or_parts (not (m.at_most c b)) (m.at_most b c && ltb y z) g in
      let ba : m.at_most b a ≡ true = not-false _ ab.0 in
      let cb : m.at_most c b ≡ true = not-false _ bc.0 in
      or_from _ _ (not_from_true _ (laws.trans c b a cb ba))
      (⊎_elim
      (λ (ac : m.at_most a c ≡ true).
      let h : y ≤ x = ⊎_elim (λ (e : m.at_most a b ≡ false). absurd (both_ways _ e (laws.trans a c b ac cb))) (λ (e : ltb x y ≡ false). ltb-false x y e) (and_cases (m.at_most a b) (ltb x y) ab.1) in
      let k : z ≤ y = ⊎_elim (λ (e : m.at_most b c ≡ false). absurd (both_ways _ e (laws.trans b a c ba ac))) (λ (e : ltb y z ≡ false). ltb-false y z e) (and_cases (m.at_most b c) (ltb y z) bc.1) in
      and_right _ _ (le-ltb x z (omega arith)))
      (λ (ac : m.at_most a c ≡ false). and_left _ _ ac)
      (cases_Bool (m.at_most a c)))

  pub beats_asym : (a b : m.Total) (x y : ℕ) → beats m a x b y ≡ true → beats m b y a x ≡ false
  beats_asym a b x y f =
      ⊎_elim
      (λ (e : not (m.at_most b a) ≡ true).
      let ba : m.at_most b a ≡ false = not-true _ e in
      let ab : m.at_most a b ≡ true = ⊎_elim (λ h. h) (λ h. absurd (both_ways _ ba h)) (laws.connected a b) in
      or_from _ _ (not_from_true _ ab) (and_left _ _ ba))
      (λ (e : (m.at_most a b && ltb x y) ≡ true).
      let both = and_parts (m.at_most a b) (ltb x y) e in
      let lt : x < y = ltb-true x y both.1 in
      or_from _ _ (not_from_true _ both.0) (and_right _ _ (le-ltb y x (omega arith))))
      (or_cases (not (m.at_most b a)) (m.at_most a b && ltb x y) f)

  -- what costs as much or more, and has as many terms or more, does not beat
  pub not_beats : (a c : m.Total) (x z : ℕ) → m.at_most a c ≡ true → x ≤ z → beats m c z a x ≡ false
  not_beats a c x z ac xz = or_from _ _ (not_from_true _ ac) (and_right _ _ (le-ltb z x xz))

-- ---- members
module _ (s : ℕ → Bool) (k : ℕ) where
  pub down_with : s k ≡ true → down s (suc k) ≡ k ∷ down s k
  down_with e = ap (λ (b : Bool). cond b (k ∷ down s k) (down s k)) e

  pub down_less : s k ≡ false → down s (suc k) ≡ down s k
  down_less e = ap (λ (b : Bool). cond b (k ∷ down s k) (down s k)) e

pub down_same : (s t : ℕ → Bool) (n : ℕ) → ((k : ℕ) → k < n → s k ≡ t k) → down s n ≡ down t n
down_same s t zero h = refl
down_same s t (suc n) h =
    let ih : down s n ≡ down t n = down_same s t n (λ k l. h k (omega arith)) in
    let e : s n ≡ t n = h n (omega arith) in
    ap (λ (b : Bool). cond b (n ∷ down s n) (down s n)) e ∙ ap (λ (u : List ℕ). cond (t n) (n ∷ u) u) ih

pub down_short : (s : ℕ → Bool) (n : ℕ) → length (down s n) ≤ n
down_short s zero = omega arith
down_short s (suc n) =
    let ih = down_short s n in
    ⊎_elim (λ (e : s n ≡ true). let q = ap length (down_with s n e) in omega arith) (λ (e : s n ≡ false). let q = ap length (down_less s n e) in omega arith) (cases_Bool (s n))

pub put_other : (s : ℕ → Bool) (c k : ℕ) → (c ≡ k → ⊥) → put s c k ≡ s k
put_other s c k ne = ap (λ (b : Bool). b || s k) (ne_eqb c k ne)

pub put_same : (s : ℕ → Bool) (c : ℕ) → put s c c ≡ true
put_same s c = ap (λ (b : Bool). b || s c) (eq-eqb c c refl)

pub without_same : (s : ℕ → Bool) (c : ℕ) → without s c c ≡ false
without_same s c = ap (λ (b : Bool). not b && s c) (eq-eqb c c refl)

pub without_other : (s : ℕ → Bool) (c k : ℕ) → (c ≡ k → ⊥) → without s c k ≡ s k
without_other s c k ne = ap (λ (b : Bool). not b && s k) (ne_eqb c k ne)

-- one more member makes one more
pub more_members : (s : ℕ → Bool) (c n : ℕ) → c < n → s c ≡ false → length (down (put s c) n) ≡ suc (length (down s n))
more_members s c zero h e = absurd (omega arith)
more_members s c (suc n) h e =
    ⊎_elim
    (λ (q : c ≡ n).
    let front : down (put s c) n ≡ down s n = down_same (put s c) s n (λ k l. put_other s c k (λ i. omega arith)) in
    let at : put s c n ≡ true = subst (λ (k : ℕ). put s c k ≡ true) q (put_same s c) in
    let none : s n ≡ false = subst (λ (k : ℕ). s k ≡ false) q e in
    omega (arith, ap length (down_with (put s c) n at), ap length front, ap length (down_less s n none)))
    (λ (ne : c ≡ n → ⊥).
    let ih = more_members s c n (omega arith) e in
    let at : put s c n ≡ s n = put_other s c n ne in
    ⊎_elim
    (λ (f : s n ≡ true). omega (arith, ap length (down_with (put s c) n (at ∙ f)), ap length (down_with s n f)))
    (λ (f : s n ≡ false). omega (arith, ap length (down_less (put s c) n (at ∙ f)), ap length (down_less s n f)))
    (cases_Bool (s n)))
    (cases_eq c n)

-- ---- costs
module _ {m : Meaning} (laws : Laws m) (term : ℕ → Term) where
  abbrev sum : (ℕ → Bool) → ℕ → m.Total
  sum s n = total m (map term (down s n))

  sum_with : (s : ℕ → Bool) (n : ℕ) → s n ≡ true → sum s (suc n) ≡ m.join (m.price (term n)) (sum s n)
  sum_with s n e = ap (λ (u : List ℕ). total m (map term u)) (down_with s n e)

  sum_less : (s : ℕ → Bool) (n : ℕ) → s n ≡ false → sum s (suc n) ≡ sum s n
  sum_less s n e = ap (λ (u : List ℕ). total m (map term u)) (down_less s n e)

  -- a set within another one costs no more, and has no more members
  pub within : (s t : ℕ → Bool) (n : ℕ) → ((k : ℕ) → k < n → s k ≡ true → t k ≡ true) → (m.at_most (sum s n) (sum t n) ≡ true) × (length (down s n) ≤ length (down t n))
  within s t zero h = (at_most_self m laws m.empty, omega arith)
  within s t (suc n) h =
      let ih = within s t n (λ k l. h k (omega arith)) in
      let lo = ih.1 in
      ⊎_elim
      (λ (e : s n ≡ true).
      let f : t n ≡ true = h n (omega arith) e in
      let x = ap length (down_with s n e) in
      let y = ap length (down_with t n f) in
      (rw (sum_with s n e, sum_with t n f) (mono_left m laws (sum s n) (sum t n) (m.price (term n)) ih.0), omega arith))
      (λ (e : s n ≡ false).
      let x = ap length (down_less s n e) in
      ⊎_elim
      (λ (f : t n ≡ true).
      let y = ap length (down_with t n f) in
      let up : m.at_most (sum t n) (m.join (m.price (term n)) (sum t n)) ≡ true = rw (laws.comm (m.price (term n)) (sum t n)) (laws.grows (sum t n) (term n)) in
      (rw (sum_less s n e, sum_with t n f) (laws.trans (sum s n) (sum t n) _ ih.0 up), omega arith))
      (λ (f : t n ≡ false).
      let y = ap length (down_less t n f) in
      (rw (sum_less s n e, sum_less t n f) ih.0, omega arith))
      (cases_Bool (t n)))
      (cases_Bool (s n))

  -- one more member
  pub more : (s : ℕ → Bool) (c n : ℕ) → c < n → s c ≡ false → sum (put s c) n ≡ m.join (m.price (term c)) (sum s n)
  more s c zero h e = absurd (omega arith)
  more s c (suc n) h e =
      ⊎_elim
      (λ (q : c ≡ n).
      let front : down (put s c) n ≡ down s n = down_same (put s c) s n (λ k l. put_other s c k (λ i. omega arith)) in
      let at : put s c n ≡ true = subst (λ (k : ℕ). put s c k ≡ true) q (put_same s c) in
      let none : s n ≡ false = subst (λ (k : ℕ). s k ≡ false) q e in
      sum_with (put s c) n at
      ∙ ap (λ (u : List ℕ). m.join (m.price (term n)) (total m (map term u))) front
      ∙ ap (λ (k : ℕ). m.join (m.price (term k)) (sum s n)) (sym q)
      ∙ ap (m.join (m.price (term c))) (sym (sum_less s n none)))
      (λ (ne : c ≡ n → ⊥).
      let ih = more s c n (omega arith) e in
      let at : put s c n ≡ s n = put_other s c n ne in
      ⊎_elim
      (λ (f : s n ≡ true).
      let r = sum s n in
      let a = m.price (term n) in
      let b = m.price (term c) in
      sum_with (put s c) n (at ∙ f) ∙ ap (m.join a) ih ∙ sym (laws.assoc a b r) ∙ ap (λ (v : m.Total). m.join v r) (laws.comm a b) ∙ laws.assoc b a r ∙ ap (m.join b) (sym (sum_with s n f)))
      (λ (f : s n ≡ false). sum_less (put s c) n (at ∙ f) ∙ ih ∙ ap (m.join (m.price (term c))) (sym (sum_less s n f)))
      (cases_Bool (s n)))
      (cases_eq c n)

-- ---- values
module _ (p : Problem) (laws : Laws p.order) where
  pub exceeds_weak : (a b c : ℕ → Bool) → exceeds p a b ≡ false → exceeds p b c ≡ false → exceeds p a c ≡ false
  exceeds_weak a b c f g = not_beats_trans laws (cost p a) (cost p b) (cost p c) (size p.grid a) (size p.grid b) (size p.grid c) f g

  pub exceeds_asym : (a b : ℕ → Bool) → exceeds p a b ≡ true → exceeds p b a ≡ false
  exceeds_asym a b f = beats_asym laws (cost p a) (cost p b) (size p.grid a) (size p.grid b) f

  pub exceeds_same : (a b : ℕ → Bool) → ((k : ℕ) → k < p.grid.width → a k ≡ b k) → exceeds p a b ≡ false
  exceeds_same a b h =
      let w = within laws p.grid.term b a p.grid.width (λ k l e. h k l ∙ e) in
      not_beats laws (cost p b) (cost p a) (size p.grid b) (size p.grid a) w.0 w.1

  -- what is no worse than a fine set is fine
  pub fine_down : (strict : Bool) (best d e : ℕ → Bool) → exceeds p d e ≡ false → fine p strict best d ≡ true → fine p strict best e ≡ true
  fine_down true best d e h f =
      ⊎_elim (λ (y : exceeds p e best ≡ true). y)
      (λ (y : exceeds p e best ≡ false). absurd (both_ways _ (exceeds_weak d e best h y) f))
      (cases_Bool (exceeds p e best))
  fine_down false best d e h f =
      not_from_false _ (exceeds_weak best d e (not-true _ f) h)

  pub part : (s t : ℕ → Bool) → ((k : ℕ) → k < p.grid.width → s k ≡ true → t k ≡ true) → exceeds p t s ≡ false
  part s t h =
      let w = within laws p.grid.term s t p.grid.width h in
      not_beats laws (cost p s) (cost p t) (size p.grid s) (size p.grid t) w.0 w.1

  -- one column in the place of another that is no cheaper
  pub swap : (e : ℕ → Bool) (a b : ℕ) → a < p.grid.width → b < p.grid.width → e a ≡ false → e b ≡ false → p.order.at_most (p.order.price (p.grid.term b)) (p.order.price (p.grid.term a)) ≡ true → exceeds p (put e a) (put e b) ≡ false
  swap e a b la lb ea eb le =
      let ma = more laws p.grid.term e a p.grid.width la ea in
      let mb = more laws p.grid.term e b p.grid.width lb eb in
      let x = more_members e a p.grid.width la ea in
      let y = more_members e b p.grid.width lb eb in
      not_beats laws (cost p (put e b)) (cost p (put e a)) (size p.grid (put e b)) (size p.grid (put e a))
      (rw (mb, ma) (laws.mono (p.order.price (p.grid.term b)) (p.order.price (p.grid.term a)) (cost p e) le))
      (omega arith)

  pub exceeds_cong : (a b c d : ℕ → Bool) → ((k : ℕ) → k < p.grid.width → a k ≡ b k) → ((k : ℕ) → k < p.grid.width → c k ≡ d k) → exceeds p a c ≡ exceeds p b d
  exceeds_cong a b c d h k =
      let x = down_same a b p.grid.width h in
      let y = down_same c d p.grid.width k in
      let m = p.order in
      let f : List ℕ → List ℕ → Bool = λ u v. beats m (total m (map p.grid.term u)) (length u) (total m (map p.grid.term v)) (length v) in
      ap (λ (u : List ℕ). f u (down c p.grid.width)) x ∙ ap (f (down b p.grid.width)) y

module _ {m : Meaning} (laws : Laws m) where
  -- the program joins one more price
  pub value_more : (term : ℕ → Term) (s : ℕ → Bool) (k : ℕ) (a c r : m.Total) → s k ≡ true → k < 256 → a ≡ m.price (term k) → c ≡ total m (map term (down s k))
      → ((ts us : List Term) → a ≡ total m ts → c ≡ total m us → length ts + length us ≤ 256 → r ≡ m.join a c) → r ≡ total m (map term (down s (k + 1)))
  value_more term s k a c r e l ea ec joins =
      let one : k + 1 ≡ suc k = omega arith in
      let n = length-map (down s k) term in
      let er : r ≡ m.join a c = joins (term k ∷ []) (map term (down s k)) (ea ∙ total_one m laws (term k)) ec (omega (arith, down_short s k)) in
      rw one (er ∙ ap (λ (v : m.Total). m.join v c) ea ∙ ap (m.join (m.price (term k))) ec ∙ sym (ap (λ (u : List ℕ). total m (map term u)) (down_with s k e)))

-- the program's test is the order's
pub told : (p : Problem) (strict : Bool) (s b : ℕ → Bool) (x y : p.order.Total) (i j : ℕ) (r : Bool) → x ≡ cost p s → i ≡ size p.grid s → y ≡ cost p b → j ≡ size p.grid b → r ≡ passes p.order strict x i y j → fine p strict b s ≡ r
told p strict s b x y i j r ex ei ey ej er =
    let m = p.order in
    sym (er
    ∙ ap (λ (v : m.Total). passes m strict v i y j) ex
    ∙ ap (λ (v : m.Total). passes m strict (cost p s) i v j) ey
    ∙ ap (λ (n : ℕ). passes m strict (cost p s) n (cost p b) j) ei
    ∙ ap (λ (n : ℕ). passes m strict (cost p s) (size p.grid s) (cost p b) n) ej)

pub short : (p : Problem) (s : ℕ → Bool) → p.grid.width ≤ 256 → length (map p.grid.term (down s p.grid.width)) ≤ 256
short p s h = omega (arith, length-map (down s p.grid.width) p.grid.term, down_short s p.grid.width)

-- what the program says of two prices
pub priced : (m : Meaning) (laws : Laws m) (t u : Term) (x y : m.Total) (r : Bool) → x ≡ m.price t → y ≡ m.price u
    → ((ts us : List Term) → x ≡ total m ts → y ≡ total m us → length ts ≤ 256 → length us ≤ 256 → r ≡ m.at_most x y) → m.at_most (m.price t) (m.price u) ≡ r
priced m laws t u x y r ex ey says =
    let e = says (t ∷ []) (u ∷ []) (ex ∙ total_one m laws t) (ey ∙ total_one m laws u) (omega arith) (omega arith) in
    sym (e ∙ ap (λ (v : m.Total). m.at_most v y) ex ∙ ap (m.at_most (m.price t)) ey)
