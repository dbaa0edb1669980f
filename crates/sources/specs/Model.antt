-- The reference model of a sequence of calls on a new truth table: what stands after them, row by row.
use Rattle.std.specs.Prelude.{◌≡◌, ℕ, ◌^◌, ◌<◌, cond, List, [], ◌∷◌, ◌++◌, reverse, length, Some, None, Ok, Err, Option, Result, ◌==◌, slice_index_or}
use Rattle.terms.specs.declared.mark.Mark.{Mark}
use Rattle.terms.specs.declared.mark.Mark.TheVariants.{Off}
use Rattle.terms.specs.declared.refusal.Refusal.{Refusal}
use Rattle.terms.specs.Terms.{agrees}
use Rattle.sources.specs.declared.call.Call.{Call}
use Rattle.sources.specs.declared.call.Call.TheVariants.{Size, Mark as MarkRow, Sweep, Look}
use Rattle.sources.specs.Rules.{size_breaks, look_breaks, mark_breaks, sweep_breaks, judged, settled}
use Rattle.sources.specs.Calls.{entered}

-- the rule that a call breaks on a function of n inputs, if any
abbrev pub breaks : ℕ → Call → Option Refusal
breaks n (Size k) = size_breaks k
breaks n (MarkRow row c) = mark_breaks n row c
breaks n (Sweep m l c) = sweep_breaks n m l c
breaks n (Look row) = look_breaks n row

-- the number of inputs after an accepted call, where there were n
abbrev pub resized : Call → ℕ → ℕ
resized (Size k) n = k
resized (MarkRow row c) n = n
resized (Sweep m l c) n = n
resized (Look row) n = n

-- the mark of row r after an accepted call, where it was x
abbrev pub remarked : Call → ℕ → Mark → Mark
remarked (Size k) r x = Off
remarked (MarkRow row c) r x = cond (r == row) (entered c) x
remarked (Sweep m l c) r x = cond (agrees m l r) (entered c) x
remarked (Look row) r x = x

-- the number of inputs after some calls, the latest first: a new table has one, and a refused call changes nothing
unfoldable pub inputs_after : List Call → ℕ
inputs_after [] = 1
inputs_after (c ∷ before) = let n = inputs_after before in settled (breaks n c) n (resized c n)

-- the mark of row r after some calls, the latest first: a new table is all OFF, and a refused call changes nothing
unfoldable pub mark_after : List Call → ℕ → Mark
mark_after [] r = Off
mark_after (c ∷ before) r = let x = mark_after before r in settled (breaks (inputs_after before) c) x (remarked c r x)

-- what a call came to: the mark of an accepted look, nothing of any other accepted call, or the refusal
abbrev pub Outcome : Type 0
Outcome = Result (Option Mark) Refusal

-- what an accepted call gives, where f has the marks
abbrev pub given : Call → (ℕ → Mark) → Option Mark
given (Size k) f = None
given (MarkRow row c) f = None
given (Sweep m l c) f = None
given (Look row) f = Some (f row)

-- the model's answer to a call after some others, the latest first
abbrev pub answer : List Call → Call → Outcome
answer before c = judged (breaks (inputs_after before) c) (given c (mark_after before))

-- the model's answers to a list of calls, after some others
unfoldable pub answers : List Call → List Call → List Outcome
answers before [] = []
answers before (c ∷ cs) = answer before c ∷ answers (c ∷ before) cs

-- what a run of calls on a new table gave is right: each accepted look gave the mark that the model, fed the calls
-- before it, has at that row, and each call that breaks a rule gave the refusal of the first one it breaks
pub record Faithful (calls : List Call) (outcomes : List Outcome) : Type 0 where
  pub count : length outcomes ≡ length calls
  pub looks : (before after : List Call) (row : ℕ) → calls ≡ before ++ Look row ∷ after → row < 2 ^ inputs_after (reverse before)
      → slice_index_or outcomes (length before) (Ok None) ≡ Ok (Some (mark_after (reverse before) row))
  pub refusals : (before after : List Call) (c : Call) (e : Refusal) → calls ≡ before ++ c ∷ after → breaks (inputs_after (reverse before)) c ≡ Some e
      → slice_index_or outcomes (length before) (Ok None) ≡ Err e
