-- What needs without a common column cost at least.
use Rattle.std.proofs.Common.{◌≡◌, ℕ, ◌+◌, ◌<◌, ◌≤◌, Bool, true, false, eqb, ◌⊎◌, List, [], ◌∷◌, map, length, sym, ap, ◌∙◌, subst, inl, inr, ⊎_elim, arith}
use lib.ListN.{length-map}
use Rattle.std.proofs.lemmas.Bool.{cases_Bool, both_ways, eqb-true, or_cases, not-true, not_from_false}
use Rattle.terms.specs.declared.term.Term.{Term}
use Rattle.orders.specs.Orders.{Meaning, Laws, total}
use Rattle.orders.proofs.Totalling.{at_most_self, mono_left, total_one}
use Rattle.charts.specs.Best.{Problem, beats}
use Rattle.charts.specs.Sets.{down, cost, size, fine, passes, put}
use Rattle.charts.proofs.Values.{not_beats, not_beats_trans, more, more_members, part, fine_down}
use Rattle.reductions.specs.Goals.{Good}
use Rattle.covering.specs.Floors.{Floor, Apart, Cheapest}
use Rattle.charts.specs.Sets.{Priced}

-- what costs no more and has no more columns passes too
passes_mono : {m : Meaning} (laws : Laws m) (strict : Bool) (a c b : m.Total) (x z y : ℕ) → m.at_most a c ≡ true → x ≤ z → passes m strict c z b y ≡ true → passes m strict a x b y ≡ true
passes_mono {m} laws true a c b x z y ac xz h =
    ⊎_elim (λ (e : beats m a x b y ≡ true). e)
    (λ (e : beats m a x b y ≡ false). absurd (both_ways _ (not_beats_trans laws c a b z x y (not_beats laws a c x z ac xz) e) h))
    (cases_Bool (beats m a x b y))
passes_mono {m} laws false a c b x z y ac xz h = not_from_false _ (not_beats_trans laws b c a y z x (not-true _ h) (not_beats laws a c x z ac xz))

module _ (p : Problem) (laws : Laws p.order) (strict : Bool) (bound t b : ℕ → Bool) where
  -- what is taken
  pub floor_start : (used : ℕ → Bool) (x : p.order.Total) (n : ℕ) → Priced p x n t → Floor p strict bound t b used x n
  floor_start used x n h =
      record {
        ts = map p.grid.term (down t p.grid.width);
        sum = h.total;
        count = length-map (down t p.grid.width) p.grid.term ∙ sym h.size;
        under = λ d g. record {
          part = t;
          inside = g.has;
          dear = subst (λ (y : p.order.Total). p.order.at_most y (cost p t) ≡ true) (sym h.total) (at_most_self p.order laws (cost p t));
          many = (let e = h.size in omega arith);
          from = λ c l e. inl e;
        };
      }

  -- one need more, apart from those before
  pub floor_more : (used used' : ℕ → Bool) (x y z : p.order.Total) (n i r : ℕ) → Floor p strict bound t b used x n → n < 256 → i < p.grid.wanted → y ≡ p.order.price (p.grid.term r)
      → Apart p.grid t b used i → Cheapest p b i r
      → ((c : ℕ) → c < p.grid.width → p.grid.held c i ≡ true → b c ≡ false → used' c ≡ true)
      → ((c : ℕ) → used c ≡ true → used' c ≡ true)
      → ((ts us : List Term) → y ≡ total p.order ts → x ≡ total p.order us → length ts + length us ≤ 256 → z ≡ p.order.join y x)
      → Floor p strict bound t b used' z (n + 1)
  floor_more used used' x y z n i r f few li ey far cheap marks keeps joins =
      let m = p.order in
      let len = f.count in
      let ez : z ≡ m.join (m.price (p.grid.term r)) x = joins (p.grid.term r ∷ []) f.ts (ey ∙ total_one m laws (p.grid.term r)) f.sum (omega arith) ∙ ap (λ (v : m.Total). m.join v x) ey in
      record {
        ts = p.grid.term r ∷ f.ts;
        sum = ez ∙ ap (m.join (m.price (p.grid.term r))) f.sum;
        count = omega arith;
        under = λ d g.
            let u = f.under d g in
            let e = u.part in
            let w = g.covers i li in
            let c = w.0 in
            let bc : b c ≡ false = ⊎_elim (λ (q : b c ≡ true). absurd (both_ways _ (g.lacks c w.1 q) w.2)) (λ (q : b c ≡ false). q) (cases_Bool (b c)) in
            let free = far c w.1 w.3 bc in
            let ec : e c ≡ false =
            ⊎_elim (λ (q : e c ≡ true). ⊎_elim {C = e c ≡ false} (λ (v : t c ≡ true). absurd (both_ways _ free.0 v)) (λ (v : used c ≡ true). absurd (both_ways _ free.1 v)) (u.from c w.1 q))
            (λ (q : e c ≡ false). q) (cases_Bool (e c)) in
            let one = more laws p.grid.term e c p.grid.width w.1 ec in
            let a = m.price (p.grid.term r) in
            let a' = m.price (p.grid.term c) in
            let low : m.at_most (m.join a x) (m.join a' x) ≡ true = laws.mono a a' x (cheap c w.1 w.3 bc) in
            let high : m.at_most (m.join a' x) (m.join a' (cost p e)) ≡ true = mono_left m laws x (cost p e) a' u.dear in
            let many = u.many in
            let longer = more_members e c p.grid.width w.1 ec in
            record {
              part = put e c;
              inside = λ k l h. ⊎_elim (λ (q : eqb c k ≡ true). subst (λ (j : ℕ). d j ≡ true) (eqb-true c k q) w.2) (λ (q : e k ≡ true). u.inside k l q) (or_cases (eqb c k) (e k) h);
              dear = rw (ez, one) (laws.trans (m.join a x) (m.join a' x) (m.join a' (cost p e)) low high);
              many = omega arith;
              from = λ k l h. ⊎_elim {C = (t k ≡ true) ⊎ (used' k ≡ true)}
                  (λ (q : eqb c k ≡ true). inr (subst (λ (j : ℕ). used' j ≡ true) (eqb-true c k q) (marks c w.1 w.3 bc)))
                  (λ (q : e k ≡ true). ⊎_elim {C = (t k ≡ true) ⊎ (used' k ≡ true)} (λ (v : t k ≡ true). inl v) (λ (v : used k ≡ true). inr (keeps k v)) (u.from k l q))
                  (or_cases (eqb c k) (e k) h);
            };
      }

  -- a floor that does not pass: no set of the node does
  pub floor_ends : (used : ℕ → Bool) (x y : p.order.Total) (n k : ℕ) → p.grid.width ≤ 256 → n ≤ 256 → Floor p strict bound t b used x n → Priced p y k bound
      → ((ts us : List Term) → x ≡ total p.order ts → y ≡ total p.order us → length ts ≤ 256 → length us ≤ 256 → false ≡ passes p.order strict x n y k)
      → (d : ℕ → Bool) → Good p strict bound t b d → ⊥
  floor_ends used x y n k few room f h says d g =
      let m = p.order in
      let u = f.under d g in
      let e = u.part in
      let count = f.count in
      let er = says f.ts (map p.grid.term (down bound p.grid.width)) f.sum h.total (omega arith) (Rattle.charts.proofs.Values.short p bound few) in
      let fails : passes m strict x n (cost p bound) (size p.grid bound) ≡ false =
      sym (er ∙ ap (λ (v : m.Total). passes m strict x n v k) h.total ∙ ap (passes m strict x n (cost p bound)) h.size) in
      let ok : fine p strict bound e ≡ true = fine_down p laws strict bound d e (part p laws e d u.inside) g.worth in
      both_ways _ fails (passes_mono laws strict x (cost p e) (cost p bound) n (size p.grid e) (size p.grid bound) u.dear u.many ok)
