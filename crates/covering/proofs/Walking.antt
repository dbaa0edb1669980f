-- Turns of a search along its trail.
use Rattle.std.proofs.Common.{◌≡◌, ℕ, ◌<◌, ◌≤◌, Bool, true, false, cond, List, [], ◌∷◌, sym, refl, ap, ◌∙◌, subst, inl, ⊎_elim, arith}
use Rattle.std.proofs.lemmas.Bool.{cases_Bool, both_ways, not-true, not_from_false}
use Rattle.orders.specs.Orders.{Laws}
use Rattle.charts.specs.Best.{Problem}
use Rattle.charts.specs.Sets.{Covers, fine, exceeds, Least}
use Rattle.charts.proofs.Values.{exceeds_weak, exceeds_asym, exceeds_same, part}
use Rattle.reductions.specs.declared.node.Node.{Node}
use Rattle.reductions.specs.declared.step.Step.{Step}
use Rattle.reductions.specs.declared.trail.Trail.{Trail}
use Rattle.reductions.specs.Steps.{step, taken_by, banned_by, is_free, owes, backed}
use Rattle.reductions.specs.Trails.{steps_of, taken, banned}
use Rattle.reductions.specs.Goals.{Good, Owed, Somewhere, turns, Narrowed}
use Rattle.reductions.proofs.Stepping.{branch, back, none_owed, gone, free_from, free_like, fresh_room, turns_branch, turns_back, apart, taken_more, banned_more}
use Rattle.covering.specs.Seeking.{Barren, Leads, Exhausted}

module _ (p : Problem) (laws : Laws p.order) (strict : Bool) (bound : ℕ → Bool) where
  self : exceeds p bound bound ≡ false
  self = exceeds_same p laws bound bound (λ k l. refl)

  -- what is good for a bound is good for each that is no better
  pub good_looser : (low t b d : ℕ → Bool) → exceeds p bound low ≡ false → Good p strict low t b d → Good p strict bound t b d
  good_looser low t b d h g = record { covers = g.covers; has = g.has; lacks = g.lacks; worth = go strict g.worth }
    where
      go : (st : Bool) → fine p st low d ≡ true → fine p st bound d ≡ true
      go true w = ⊎_elim (λ (y : exceeds p d bound ≡ true). y) (λ (y : exceeds p d bound ≡ false). absurd (both_ways _ (exceeds_weak p laws d bound low y h) w)) (cases_Bool (exceeds p d bound))
      go false w = not_from_false _ (exceeds_weak p laws bound low d h (not-true _ w))

  pub leads_none : (s : Trail) → Leads p strict bound s s
  leads_none s = record { root = refl; falls = omega arith; keeps = λ low h w. w }

  pub leads_reduce : (s u w : Trail) → Leads p strict bound s u → Narrowed p u w → Leads p strict bound s w
  leads_reduce s u w l n =
      let a = l.falls in
      let b = n.narrows.falls in
      record {
        root = n.root ∙ l.root;
        falls = omega arith;
        keeps = λ low h x. subst (λ (r : Node). Somewhere p strict low (taken r) (banned r) (steps_of u) → Somewhere p strict low (taken r) (banned r) (steps_of w)) l.root (n.narrows.keeps strict low) (l.keeps low h x);
      }

  -- nothing at the node: what there is, is owed
  owed : (s w : Trail) → Leads p strict bound s w → Barren p strict bound w.node → (low : ℕ → Bool) → exceeds p bound low ≡ false
      → Somewhere p strict low (taken s.root) (banned s.root) (steps_of s) → Owed p strict low (taken s.root) (banned s.root) (steps_of w)
  owed s w l none low h x =
      gone p strict low (taken s.root) (banned s.root) (steps_of w) (taken w.node) (banned w.node)
      (λ k. w.taken k ∙ ap (λ (r : Node). taken_by (taken r) (steps_of w) k) l.root)
      (λ k. w.banned k ∙ ap (λ (r : Node). banned_by (banned r) (steps_of w) k) l.root)
      (λ d g. none d (good_looser low (taken w.node) (banned w.node) d h g))
      (l.keeps low h x)

  pub leads_end : (s w : Trail) → Leads p strict bound s w → Barren p strict bound w.node → owes (steps_of w) ≡ false → Exhausted p strict bound s
  leads_end s w l none e low h x = none_owed p strict low (taken s.root) (banned s.root) (steps_of w) e (owed s w l none low h x)

  pub leads_back : (s w w' : Trail) → Leads p strict bound s w → Barren p strict bound w.node → w'.root ≡ w.root → steps_of w' ≡ backed (steps_of w) → owes (steps_of w) ≡ true → Leads p strict bound s w'
  leads_back s w w' l none root e o =
      let a = l.falls in
      let b = turns_back 256 (steps_of w) o in
      record {
        root = root ∙ l.root;
        falls = subst (λ (r : List Step). turns 256 r ≤ turns 256 (steps_of s)) (sym e) (omega arith);
        keeps = λ low h x. subst (Somewhere p strict low (taken s.root) (banned s.root)) (sym e) (back p strict low (taken s.root) (banned s.root) (steps_of w) (owed s w l none low h x));
      }

  -- a free column is decided on
  module _ (w w' : Trail) (c : ℕ) (small : c < 256) (nt : taken w.node c ≡ false) (nb : banned w.node c ≡ false)
      (steps : steps_of w' ≡ cond (is_free (taken w.node) (banned w.node) c) (step c true true ∷ steps_of w) (steps_of w)) where
    decided : steps_of w' ≡ step c true true ∷ steps_of w
    decided = steps ∙ ap (λ (y : Bool). cond y (step c true true ∷ steps_of w) (steps_of w)) (free_from (taken w.node) (banned w.node) c small nt nb)

    pub less_take : turns 256 (steps_of w') < turns 256 (steps_of w)
    less_take =
        let t = taken w.root in
        let b = banned w.root in
        let free = free_like t b (steps_of w) c (taken w.node) (banned w.node) w.taken w.banned (free_from (taken w.node) (banned w.node) c small nt nb) in
        subst (λ (r : List Step). turns 256 r < turns 256 (steps_of w)) (sym decided) (turns_branch 256 c true (steps_of w) (fresh_room t b (steps_of w) c free w.fresh))

    pub leads_take : (s : Trail) → Leads p strict bound s w → w'.root ≡ w.root → Leads p strict bound s w'
    leads_take s l root =
        let a = l.falls in
        let b = less_take in
        record {
          root = root ∙ l.root;
          falls = omega arith;
          keeps = λ low h x. subst (Somewhere p strict low (taken s.root) (banned s.root)) (sym decided) (branch p strict low (taken s.root) (banned s.root) (steps_of w) c (l.keeps low h x));
        }

  pub less_back : (w w' : Trail) → steps_of w' ≡ backed (steps_of w) → owes (steps_of w) ≡ true → turns 256 (steps_of w') < turns 256 (steps_of w)
  less_back w w' e o = subst (λ (r : List Step). turns 256 r < turns 256 (steps_of w)) (sym e) (turns_back 256 (steps_of w) o)

  -- a set found below a root is good there
  pub good_found : (s w : Trail) → steps_of s ≡ [] → Leads p strict bound s w → ((k : ℕ) → taken s.root k ≡ true → banned s.root k ≡ false)
      → Covers p.grid (taken w.node) → fine p strict bound (taken w.node) ≡ true → Good p strict bound (taken s.root) (banned s.root) (taken w.node)
  good_found s w e l far c f =
      let t = taken s.root in
      let b = banned s.root in
      let Far : Node → Type 0 = λ r. (k : ℕ) → taken r k ≡ true → banned r k ≡ false in
      let far' : Far w.root = subst Far (sym l.root) far in
      record {
        covers = c;
        has = λ k h i. w.taken k ∙ ap (λ (r : Node). taken_by (taken r) (steps_of w) k) l.root ∙ taken_more p strict bound t b (steps_of w) k i;
        lacks = λ k h i. ⊎_elim
            (λ (q : taken w.node k ≡ true).
            absurd (both_ways _
            (apart (taken w.root) (banned w.root) (steps_of w) far' w.fresh k (sym (w.taken k) ∙ q))
            (ap (λ (r : Node). banned_by (banned r) (steps_of w) k) l.root ∙ banned_more p strict bound t b (steps_of w) k i)))
            (λ (q : taken w.node k ≡ false). q)
            (cases_Bool (taken w.node k));
        worth = f;
      }

-- ---- the search for a least set, whose bound falls on the way
module _ (p : Problem) (laws : Laws p.order) (root : Node) where
  -- no set that is better than the best so far was lost
  pub record Chasing (best : ℕ → Bool) (s : Trail) : Type 0 where
    pub start : s.root ≡ root
    pub keeps : (low : ℕ → Bool) → exceeds p best low ≡ false → (d : ℕ → Bool) → Good p true low (taken root) (banned root) d → Somewhere p true low (taken root) (banned root) (steps_of s)

  pub chasing_start : (best : ℕ → Bool) (s : Trail) → s.root ≡ root → steps_of s ≡ [] → Chasing best s
  chasing_start best s r e = record { start = r; keeps = λ low h d g. subst (Somewhere p true low (taken root) (banned root)) (sym e) (inl (d, g)) }

  -- nothing is left: the best so far is least
  pub chasing_done : (best : ℕ → Bool) (s : Trail) → Chasing best s → ((k : ℕ) → taken root k ≡ false) → ((k : ℕ) → banned root k ≡ false) → Covers p.grid best → Exhausted p true best s → Least p best
  chasing_done best s h nt nb c ends =
      record {
        covers = c;
        least = λ d k. ⊎_elim
            (λ (y : exceeds p d best ≡ true).
            let self = exceeds_same p laws best best (λ k l. refl) in
            let g : Good p true best (taken root) (banned root) d = record { covers = k; has = λ i l x. absurd (both_ways _ (nt i) x); lacks = λ i l x. absurd (both_ways _ (nb i) x); worth = y } in
            absurd (ends best self (subst (λ (r : Node). Somewhere p true best (taken r) (banned r) (steps_of s)) (sym h.start) (h.keeps best self d g))))
            (λ (y : exceeds p d best ≡ false). y)
            (cases_Bool (exceeds p d best));
      }

  -- a better set is found: it is the bound from now on, and its own node holds nothing better
  module _ (best : ℕ → Bool) (s w : Trail) (h : Chasing best s) (l : Leads p true best s w) (good : fine p true best (taken w.node) ≡ true) where
    improved : exceeds p best (taken w.node) ≡ false
    improved = exceeds_asym p laws (taken w.node) best good

    barren : Barren p true (taken w.node) w.node
    barren d g = both_ways _ (exceeds_weak p laws d (taken w.node) (taken w.node) (part p laws (taken w.node) d g.has) (exceeds_same p laws (taken w.node) (taken w.node) (λ k l. refl))) g.worth

    tighter : Leads p true (taken w.node) s w
    tighter = record { root = l.root; falls = l.falls; keeps = λ low k. l.keeps low (exceeds_weak p laws best (taken w.node) low improved k) }

    next : (low : ℕ → Bool) → exceeds p (taken w.node) low ≡ false → (d : ℕ → Bool) → Good p true low (taken root) (banned root) d → Somewhere p true low (taken s.root) (banned s.root) (steps_of s)
    next low k d g = subst (λ (r : Node). Somewhere p true low (taken r) (banned r) (steps_of s)) (sym h.start) (h.keeps low (exceeds_weak p laws best (taken w.node) low improved k) d g)

    pub chasing_on : (w' : Trail) → w'.root ≡ w.root → steps_of w' ≡ backed (steps_of w) → owes (steps_of w) ≡ true → Chasing (taken w.node) w'
    chasing_on w' r e o =
        let on = leads_back p laws true (taken w.node) s w w' tighter barren r e o in
        record {
          start = on.root ∙ h.start;
          keeps = λ low k d g. subst (λ (x : Node). Somewhere p true low (taken x) (banned x) (steps_of w')) h.start (on.keeps low k (next low k d g));
        }

    pub chasing_last : ((k : ℕ) → taken root k ≡ false) → ((k : ℕ) → banned root k ≡ false) → Covers p.grid (taken w.node) → owes (steps_of w) ≡ false → Least p (taken w.node)
    chasing_last nt nb c o =
        chasing_done (taken w.node) s record { start = h.start; keeps = λ low k d g. h.keeps low (exceeds_weak p laws best (taken w.node) low improved k) d g } nt nb c
        (leads_end p laws true (taken w.node) s w tighter barren o)

    pub chasing_less : (w' : Trail) → steps_of w' ≡ backed (steps_of w) → owes (steps_of w) ≡ true → turns 256 (steps_of w') < turns 256 (steps_of s)
    chasing_less w' e o = let a = less_back p laws true best w w' e o in let b = l.falls in omega arith
