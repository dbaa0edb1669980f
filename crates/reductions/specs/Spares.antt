-- Which needs and columns a node can do without.
use Rattle.std.specs.Prelude.{◌≡◌, ℕ, ◌<◌, Bool, true, false, not, ◌&&◌, ◌||◌, ◌⊎◌, List, filter, ◌==◌}
use Rattle.std.specs.List.{list_any, list_all, range_with_len}
use Rattle.fixed.specs.declared.set.FixedSet.{FixedSet}
use Rattle.charts.specs.Grids.{Grid}
use Rattle.charts.specs.Best.{Problem, columns}
use Rattle.charts.specs.Sets.{Held}

-- a set of needs: a chart has at most 1,280
abbrev pub NeedSet : Type 0
NeedSet = FixedSet 1280

-- the needs of a chart, in order
abbrev pub needs : Grid → List ℕ
needs g = range_with_len 0 g.wanted

-- the column c holds the need i, and is none of the banned b
abbrev pub is_left : Grid → (ℕ → Bool) → ℕ → ℕ → Bool
is_left g b i c = not (b c) && g.held c i

-- the columns that are left for a need, where b are banned
abbrev pub left_for : Grid → (ℕ → Bool) → ℕ → List ℕ
left_for g b i = filter (is_left g b i) (columns g)

-- whether each column that is left for the need i holds the need j
abbrev pub follows : Grid → (ℕ → Bool) → ℕ → ℕ → Bool
follows g b i j = list_all (λ c. g.held c j) (left_for g b i)

-- whether j follows from another of the needs ns
abbrev pub is_implied : Grid → (ℕ → Bool) → (ℕ → Bool) → ℕ → Bool
is_implied g b ns j = list_any (λ i. follows g b i j) (filter ns (filter (λ i. not (i == j)) (needs g)))

-- whether the column a holds none of the needs ns
abbrev pub is_useless : Grid → (ℕ → Bool) → ℕ → Bool
is_useless g ns a = list_all (λ i. not (g.held a i)) (filter ns (needs g))

-- whether the column k holds each of the needs ns that a holds
abbrev pub stands_in : Grid → (ℕ → Bool) → ℕ → ℕ → Bool
stands_in g ns a k = list_all (λ i. g.held k i) (filter (λ i. g.held a i) (filter ns (needs g)))

-- whether the column k costs no more than a
abbrev pub no_dearer : Problem → ℕ → ℕ → Bool
no_dearer p k a = p.order.at_most (p.order.price (p.grid.term k)) (p.order.price (p.grid.term a))

-- whether another column, which is not banned and no dearer, stands in for a
abbrev pub is_outdone : Problem → (ℕ → Bool) → (ℕ → Bool) → ℕ → Bool
is_outdone p b ns a = list_any (λ k. stands_in p.grid ns a k) (filter (λ k. no_dearer p k a) (filter (λ k. not (b k)) (filter (λ k. not (k == a)) (columns p.grid))))

-- whether the column a can be done without
abbrev pub is_spare : Problem → (ℕ → Bool) → (ℕ → Bool) → ℕ → Bool
is_spare p b ns a = is_useless p.grid ns a || is_outdone p b ns a

-- a set of columns that has t, lacks b and holds the needs ns holds all needs
abbrev pub Enough : Grid → (ℕ → Bool) → (ℕ → Bool) → (ℕ → Bool) → Type 0
Enough g t b ns =
    (e : ℕ → Bool) → ((k : ℕ) → k < g.width → t k ≡ true → e k ≡ true) → ((k : ℕ) → k < g.width → b k ≡ true → e k ≡ false)
    → ((i : ℕ) → i < g.wanted → ns i ≡ true → Held g e i) → (i : ℕ) → i < g.wanted → Held g e i

-- c is the one column that is left for the need i
pub record OnlyLeft (g : Grid) (b : ℕ → Bool) (i c : ℕ) : Type 0 where
  pub within : c < g.width
  pub free : b c ≡ false
  pub holds : g.held c i ≡ true
  pub alone : (k : ℕ) → k < g.width → g.held k i ≡ true → (b k ≡ true) ⊎ (k ≡ c)

-- each column that is left for another of the needs holds j
pub record Implied (g : Grid) (b ns : ℕ → Bool) (j : ℕ) : Type 0 where
  pub by : ℕ
  pub within : by < g.wanted
  pub apart : by ≡ j → ⊥
  pub wanted : ns by ≡ true
  pub holds : (c : ℕ) → c < g.width → g.held c by ≡ true → (b c ≡ true) ⊎ (g.held c j ≡ true)

-- the column a holds none of the needs
abbrev pub Useless : Grid → (ℕ → Bool) → ℕ → Type 0
Useless g ns a = (i : ℕ) → i < g.wanted → g.held a i ≡ true → ns i ≡ false

-- another column holds all that a holds of the needs, and is no dearer
pub record Outdone (p : Problem) (b ns : ℕ → Bool) (a : ℕ) : Type 0 where
  pub other : ℕ
  pub within : other < p.grid.width
  pub apart : a ≡ other → ⊥
  pub free : b other ≡ false
  pub cheap : p.order.at_most (p.order.price (p.grid.term other)) (p.order.price (p.grid.term a)) ≡ true
  pub holds : (i : ℕ) → i < p.grid.wanted → p.grid.held a i ≡ true → (p.grid.held other i ≡ true) ⊎ (ns i ≡ false)

-- the column a can be done without
abbrev pub Spare : (p : Problem) (b ns : ℕ → Bool) (a : ℕ) → Type 0
Spare p b ns a = Useless p.grid ns a ⊎ Outdone p b ns a
