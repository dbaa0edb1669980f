-- A truth table follows the reference model, call by call.
use Rattle.std.proofs.Common.{◌≡◌, ℕ, zero, suc, ◌+◌, ◌^◌, ◌<◌, ◌≤◌, Bool, true, false, cond, eqb, leb, List, [], ◌∷◌, ◌++◌, reverse, length, get_or, take, drop, set, Some, None, Ok, Option, sym, refl, ap, ◌∙◌, subst, ap₂, inl, inr, append_assoc, append-nil, add-zero, arith, length-set, drop_of_length-le, drop-cons, get_or-set_other, take-suc, get_or-set_same}
use mathlib.Core.List.{reverse_aux, reverse-append}
use lib.ListN.{length-replicate, get_or-replicate}
use Rattle.std.proofs.lemmas.Bool.{cases_eq, eq-eqb, ne_eqb, leb-false, lt-leb}
use Rattle.terms.specs.declared.mark.Mark.{Mark}
use Rattle.terms.specs.declared.mark.Mark.TheVariants.{Off}
use Rattle.terms.specs.declared.refusal.Refusal.{Refusal}
use Rattle.terms.specs.declared.refusal.Refusal.TheVariants.{NoSuchRow}
use Rattle.terms.specs.Terms.{agrees}
use Rattle.terms.specs.Tables.{Table, mark_at, blank}
use Rattle.sources.specs.declared.call.Call.{Call}
use Rattle.sources.specs.declared.call.Call.TheVariants.{Size, Mark as MarkRow, Sweep, Look}
use Rattle.sources.specs.Rules.{judged, settled}
use Rattle.sources.specs.Calls.{entered, painted, changed}
use Rattle.sources.specs.Model.{breaks, resized, remarked, inputs_after, mark_after, Outcome, given, answer, answers, Faithful}
use Rattle.sources.proofs.Painting.{length_painted}

-- the table is the model's after some calls
pub record Agrees (tb : Table) (before : List Call) : Type 0 where
  pub inputs : tb.inputs ≡ inputs_after before
  pub full : length tb.marks ≡ 2 ^ tb.inputs
  pub marks : (r : ℕ) → r < 2 ^ tb.inputs → mark_at tb r ≡ mark_after before r

pub agrees_new : (tb : Table) → tb ≡ blank 1 → Agrees tb []
unfolding inputs_after mark_after
agrees_new tb e = subst (λ (u : Table). Agrees u []) (sym e)
    (record { inputs = refl; full = refl; marks = λ r h. get_or-replicate 2 r Off Off h })

get_or_painted : (p : ℕ → Bool) (m d : Mark) (a r : ℕ) (xs : List Mark) → r < length xs → get_or (painted p m a xs) r d ≡ cond (p (a + r)) m (get_or xs r d)
get_or_painted p m d a r [] h = absurd (omega arith)
get_or_painted p m d a zero (x ∷ xs) h = ap (λ (k : ℕ). cond (p k) m x) (sym (add-zero a))
get_or_painted p m d a (suc r) (x ∷ xs) h =
    let e : suc a + r ≡ a + suc r = omega arith in
    get_or_painted p m d (suc a) r xs (omega arith) ∙ ap (λ (k : ℕ). cond (p k) m (get_or xs r d)) e

-- the model after an accepted call
module _ (before : List Call) (c : Call) (e : breaks (inputs_after before) c ≡ None) where
  inputs_accepted : inputs_after (c ∷ before) ≡ resized c (inputs_after before)
  unfolding inputs_after
  inputs_accepted = ap (λ (o : Option Refusal). settled o (inputs_after before) (resized c (inputs_after before))) e

  mark_accepted : (r : ℕ) → mark_after (c ∷ before) r ≡ remarked c r (mark_after before r)
  unfolding mark_after
  mark_accepted r = ap (λ (o : Option Refusal). settled o (mark_after before r) (remarked c r (mark_after before r))) e

-- and after a refused one
module _ (before : List Call) (c : Call) (x : Refusal) (e : breaks (inputs_after before) c ≡ Some x) where
  inputs_refused : inputs_after (c ∷ before) ≡ inputs_after before
  unfolding inputs_after
  inputs_refused = ap (λ (o : Option Refusal). settled o (inputs_after before) (resized c (inputs_after before))) e

  mark_refused : (r : ℕ) → mark_after (c ∷ before) r ≡ mark_after before r
  unfolding mark_after
  mark_refused r = ap (λ (o : Option Refusal). settled o (mark_after before r) (remarked c r (mark_after before r))) e

-- an accepted call changes the table as it changes the model
inputs_change : (tb : Table) (c : Call) → (changed tb c).inputs ≡ resized c tb.inputs
inputs_change tb (Size k) = refl
inputs_change tb (MarkRow row c) = refl
inputs_change tb (Sweep m l c) = refl
inputs_change tb (Look row) = refl

full_change : (tb : Table) (c : Call) → length tb.marks ≡ 2 ^ tb.inputs → length (changed tb c).marks ≡ 2 ^ (changed tb c).inputs
full_change tb (Size k) h = length-replicate (2 ^ k) Off
full_change tb (MarkRow row c) h = length-set tb.marks row (entered c) ∙ h
full_change tb (Sweep m l c) h = length_painted (agrees m l) (entered c) 0 tb.marks ∙ h
full_change tb (Look row) h = h

mark_change : (tb : Table) (c : Call) (r : ℕ) → length tb.marks ≡ 2 ^ tb.inputs → r < 2 ^ (changed tb c).inputs
    → mark_at (changed tb c) r ≡ remarked c r (mark_at tb r)
mark_change tb (Size k) r h b = get_or-replicate (2 ^ k) r Off Off b
mark_change tb (MarkRow row c) r h b =
    elim (cases_eq r row) [
      | inl e ↦
          let l : row < length tb.marks = omega arith in
          ap (λ (j : ℕ). get_or (set tb.marks row (entered c)) j Off) e ∙ get_or-set_same tb.marks row (entered c) Off l
          ∙ sym (ap (λ (t : Bool). cond t (entered c) (mark_at tb r)) (eq-eqb r row e))
      | inr n ↦ get_or-set_other tb.marks row r (entered c) Off n ∙ sym (ap (λ (t : Bool). cond t (entered c) (mark_at tb r)) (ne_eqb r row n))
    ]
mark_change tb (Sweep m l c) r h b =
    let k : r < length tb.marks = omega arith in
    get_or_painted (agrees m l) (entered c) Off 0 r tb.marks k ∙ ap (λ (j : ℕ). cond (agrees m l j) (entered c) (mark_at tb r)) (omega arith)
mark_change tb (Look row) r h b = refl

-- where two marks agree on the rows there were, they agree after an accepted call
remark_same : (c : Call) (n r : ℕ) (x y : Mark) → (r < 2 ^ n → x ≡ y) → r < 2 ^ resized c n → remarked c r x ≡ remarked c r y
remark_same (Size k) n r x y f h = refl
remark_same (MarkRow row c) n r x y f h = ap (λ (z : Mark). cond (eqb r row) (entered c) z) (f h)
remark_same (Sweep m l c) n r x y f h = ap (λ (z : Mark). cond (agrees m l r) (entered c) z) (f h)
remark_same (Look row) n r x y f h = f h

-- the table after a call is the model's
follow : (tb : Table) (before : List Call) (c : Call) → Agrees tb before → (o : Option Refusal) → breaks tb.inputs c ≡ o
    → Agrees (settled o tb (changed tb c)) (c ∷ before)
follow tb before c a None e =
    let e' : breaks (inputs_after before) c ≡ None = ap (λ (n : ℕ). breaks n c) (sym a.inputs) ∙ e in
    let i : (changed tb c).inputs ≡ resized c (inputs_after before) = inputs_change tb c ∙ ap (resized c) a.inputs in
    record {
      inputs = i ∙ sym (inputs_accepted before c e');
      full = full_change tb c a.full;
      marks = λ r h. mark_change tb c r a.full h ∙ remark_same c tb.inputs r _ _ (a.marks r) (subst (λ (n : ℕ). r < 2 ^ n) (inputs_change tb c) h) ∙ sym (mark_accepted before c e' r);
    }
follow tb before c a (Some x) e =
    let e' : breaks (inputs_after before) c ≡ Some x = ap (λ (n : ℕ). breaks n c) (sym a.inputs) ∙ e in
    record {
      inputs = a.inputs ∙ sym (inputs_refused before c x e');
      full = a.full;
      marks = λ r h. a.marks r h ∙ sym (mark_refused before c x e' r);
    }

pub agrees_next : (tb u : Table) (before : List Call) (c : Call) → Agrees tb before → u ≡ settled (breaks tb.inputs c) tb (changed tb c) → Agrees u (c ∷ before)
agrees_next tb u before c a e = subst (λ (v : Table). Agrees v (c ∷ before)) (sym e) (follow tb before c a (breaks tb.inputs c) refl)

-- and what the call gives is the model's answer
given_same : (tb : Table) (before : List Call) (c : Call) → Agrees tb before → breaks tb.inputs c ≡ None → given c (mark_at tb) ≡ given c (mark_after before)
given_same tb before (Size k) a e = refl
given_same tb before (MarkRow row c) a e = refl
given_same tb before (Sweep m l c) a e = refl
given_same tb before (Look row) a e = ap Some (a.marks row (there (leb (2 ^ tb.inputs) row) e (leb-false (2 ^ tb.inputs) row)))
  where
    there : (b : Bool) → ◌≡◌ {A = Option Refusal} (cond b (Some NoSuchRow) None) None → (b ≡ false → row < 2 ^ tb.inputs) → row < 2 ^ tb.inputs
    there true e f = let z : ◌≡◌ {A = ℕ} 0 1 = cc in absurd (omega arith)
    there false e f = f refl

pub answer_same : (tb : Table) (before : List Call) (c : Call) → Agrees tb before → judged (breaks tb.inputs c) (given c (mark_at tb)) ≡ answer before c
answer_same tb before c a = go (breaks tb.inputs c) refl ∙ ap (λ (n : ℕ). judged (breaks n c) (given c (mark_after before))) a.inputs
  where
    go : (o : Option Refusal) → breaks tb.inputs c ≡ o → judged o (given c (mark_at tb)) ≡ judged o (given c (mark_after before))
    go None e = ap Ok (given_same tb before c a e)
    go (Some x) e = refl

-- ---- a whole run
-- after the first i calls: what is still to be answered, and what the table is then
abbrev pub so_far : ℕ → List Call → List Call
so_far i calls = reverse (take i calls)

pub so_far_more : (calls : List Call) (i : ℕ) (d : Call) → i < length calls → so_far (suc i) calls ≡ get_or calls i d ∷ so_far i calls
so_far_more calls i d h = ap reverse (take-suc calls i d h) ∙ reverse-append (take i calls) (get_or calls i d ∷ [])

pub answers_more : (calls : List Call) (i : ℕ) (d : Call) (old new : List Outcome) (o : Outcome) → i < length calls
    → new ≡ old ++ (o ∷ []) → o ≡ answer (so_far i calls) (get_or calls i d) → old ++ answers (so_far i calls) (drop i calls) ≡ answers [] calls
    → new ++ answers (so_far (suc i) calls) (drop (suc i) calls) ≡ answers [] calls
unfolding answers
answers_more calls i d old new o h p q w =
    let c : Call = get_or calls i d in
    ap₂ (λ (xs : List Outcome) (b : List Call). xs ++ answers b (drop (suc i) calls)) (p ∙ ap (λ (x : Outcome). old ++ (x ∷ [])) q) (so_far_more calls i d h)
    ∙ append_assoc old (answer (so_far i calls) c ∷ []) (answers (c ∷ so_far i calls) (drop (suc i) calls))
    ∙ ap (λ (cs : List Call). old ++ answers (so_far i calls) cs) (sym (drop-cons calls i d h))
    ∙ w

pub answers_all : (calls : List Call) (i : ℕ) (outcomes : List Outcome) → length calls ≤ i → outcomes ++ answers (so_far i calls) (drop i calls) ≡ answers [] calls
    → outcomes ≡ answers [] calls
unfolding answers
answers_all calls i outcomes h w =
    sym (append-nil outcomes) ∙ ap (λ (cs : List Call). outcomes ++ answers (so_far i calls) cs) (sym (drop_of_length-le calls h)) ∙ w

length_answers : (before calls : List Call) → length (answers before calls) ≡ length calls
unfolding answers
length_answers before [] = refl
length_answers before (c ∷ calls) = ap suc (length_answers (c ∷ before) calls)

answers_at : (past before : List Call) (c : Call) (after : List Call) → get_or (answers past (before ++ c ∷ after)) (length before) (Ok None) ≡ answer (reverse_aux before past) c
unfolding answers
answers_at past [] c after = refl
answers_at past (x ∷ before) c after = answers_at (x ∷ past) before c after

pub faithful : (calls : List Call) (outcomes : List Outcome) → outcomes ≡ answers [] calls → Faithful calls outcomes
faithful calls outcomes e =
    record {
      count = ap length e ∙ length_answers [] calls;
      looks = λ before after row s h. at before (Look row) after s
          ∙ ap (λ (b : Bool). judged (cond b (Some NoSuchRow) None) (Some (mark_after (reverse before) row))) (lt-leb (2 ^ inputs_after (reverse before)) row h);
      refusals = λ before after c x s b. at before c after s ∙ ap (λ (o : Option Refusal). judged o (given c (mark_after (reverse before)))) b;
    }
  where
    at : (before : List Call) (c : Call) (after : List Call) → calls ≡ before ++ c ∷ after → get_or outcomes (length before) (Ok None) ≡ answer (reverse before) c
    at before c after s =
        ap₂ (λ (os : List Outcome) (n : ℕ). get_or os n (Ok None)) (e ∙ ap (answers []) s) refl ∙ answers_at [] before c after
