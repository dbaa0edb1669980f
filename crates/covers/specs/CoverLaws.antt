-- What the best cover is, in the subject's words.
use Rattle.std.specs.Prelude.{◌≡◌, List, true, false, ◌&&◌, ℕ, ◌+◌, ◌^◌, ◌<◌, T}
use Rattle.terms.specs.declared.term.Term.{Term}
use Rattle.terms.specs.Lists.{In}
use Rattle.terms.specs.Marks.{is_on, is_off}
use Rattle.terms.specs.Terms.{bit, rank, holds}
use Rattle.terms.specs.Tables.{Table, Proper, rows, mark_at, Implicant}
use Rattle.orders.specs.Orders.{Meaning, total}
use Rattle.primes.specs.declared.need.Work.{Work}
use Rattle.primes.specs.declared.need.Work.TheVariants.{HazardFree}
use Rattle.primes.specs.Primes.{primes}
use Rattle.primes.specs.Needs.{needs}
use Rattle.charts.specs.Choice.{some_of, BestPart}
use Rattle.covers.specs.Covers.{value_at, covers_needs, better_cover, best_cover}

-- a set of primes that is a cover, than which no such set is better, and of those as good the earliest: it holds the earliest term in which two sets differ
abbrev pub IsBestCover : Meaning → Table → Work → List Term → Type 0
IsBestCover m tb work c = BestPart rank (primes tb) (covers_needs (needs tb work)) (better_cover m) c

-- any list of implicants that holds every need
pub record Rival (tb : Table) (work : Work) (d : List Term) : Type 0 where
  pub implicants : (t : Term) → In t d → Implicant tb t
  pub covers : covers_needs (needs tb work) d ≡ true

-- the cover c does all that is asked of an answer
pub record Solves (m : Meaning) (tb : Table) (work : Work) (c : List Term) : Type 0 where
  -- it is 1 on every ON row, and 0 on every OFF row
  pub on : (r : ℕ) → r < rows tb → T (is_on (mark_at tb r)) → value_at c r ≡ true
  pub off : (r : ℕ) → r < rows tb → T (is_off (mark_at tb r)) → value_at c r ≡ false
  -- in hazard-free work, two ON rows that differ in one input share a term
  pub quiet : work ≡ HazardFree → (r i : ℕ) → bit r i ≡ 0 → r + 2 ^ i < rows tb → T (is_on (mark_at tb r)) → T (is_on (mark_at tb (r + 2 ^ i)))
      → some_of (λ t. holds t r && holds t (r + 2 ^ i)) c ≡ true
  -- it is the best cover, and no other set is
  pub best : IsBestCover m tb work c
  pub only : (d : List Term) → IsBestCover m tb work d → d ≡ c
  -- it costs at most what any cover by implicants costs; in hazard-free work, any hazard-free cover
  pub cheapest : (d : List Term) → Rival tb work d → m.at_most (total m c) (total m d) ≡ true

-- for every table and kind of work the best cover does all that
abbrev pub BestSolves : Meaning → Type 0
BestSolves m = (tb : Table) → Proper tb → (work : Work) → Solves m tb work (best_cover m tb work)
