-- What a layer shows is a proper table where the table below is: the proofs of the law that each layer owes as a source.
use Rattle.std.specs.Prelude.{◌≡◌, ℕ, ◌-◌, ◌^◌, ◌<◌, Bool, true, false, cond, Some, None, Option, ◌==◌, ◌≢◌, nat_le}
use Rattle.std.proofs.Common.{subst, refl, ◌∙◌, arith}
use Rattle.std.proofs.lemmas.List.{length-map}
use Rattle.std.proofs.lemmas.Bool.{leb-false, eqb-false}
use Rattle.std.proofs.lemmas.List.FromFn.{length-map-range_with_len}
use Rattle.terms.specs.declared.refusal.Refusal.{Refusal}
use Rattle.terms.specs.declared.refusal.Refusal.TheVariants.{NoSuchInput, OnlyInput}
use Rattle.terms.specs.Tables.{Table, Proper, mark_at}
use Rattle.layers.specs.declared.setting.Setting.{Setting}
use Rattle.sources.specs.Rules.{settled}
use Rattle.layers.specs.Layers.{opposite, complement, put_in, cofactor, hold_breaks, in_force, through, view}

pub complement_proper : (tb : Table) → Proper tb → Proper (complement tb)
complement_proper tb p = record { some = p.some; few = p.few; full = length-map tb.marks opposite ∙ p.full }

-- an input that can be held is there, and is not the only one
held_fits : (n i : ℕ) → hold_breaks n i ≡ None → (i < n) × (n ≢ 1)
held_fits n i e = go (nat_le n i) (n == 1) (leb-false n i) (eqb-false n 1) e
  where
    go : (a b : Bool) → (a ≡ false → i < n) → (b ≡ false → n ≢ 1)
        → ◌≡◌ {A = Option Refusal} (cond a (Some NoSuchInput) (cond b (Some OnlyInput) None)) None → (i < n) × (n ≢ 1)
    go true b f g e = let z : ◌≡◌ {A = ℕ} 0 1 = cc in absurd (omega arith)
    go false true f g e = let z : ◌≡◌ {A = ℕ} 0 1 = cc in absurd (omega arith)
    go false false f g e = (f refl, g refl)

-- a setting that counts is one that can be held
pub in_force_lem : (n : ℕ) (o : Option Setting) (s : Setting) → in_force n o ≡ Some s → (s.input < n) × (n ≢ 1)
in_force_lem n None s e = let z : ◌≡◌ {A = ℕ} 0 1 = cc in absurd (omega arith)
in_force_lem n (Some t) s e = go (hold_breaks n t.input) refl e
  where
    go : (x : Option Refusal) → hold_breaks n t.input ≡ x → settled x None (Some t) ≡ Some s → (s.input < n) × (n ≢ 1)
    go None h e = let q : t ≡ s = cc in subst (λ (u : Setting). (u.input < n) × (n ≢ 1)) q (held_fits n t.input h)
    go (Some x) h e = let z : ◌≡◌ {A = ℕ} 0 1 = cc in absurd (omega arith)

cofactor_proper : (tb : Table) (i : ℕ) (b : Bool) → Proper tb → 1 < tb.inputs → Proper (cofactor i b tb)
cofactor_proper tb i b p k =
    let f = p.few in
    record { some = omega arith; few = omega arith; full = length-map-range_with_len (λ r. mark_at tb (put_in i b r)) 0 (2 ^ (tb.inputs - 1)) }

pub more_than_one : (tb : Table) → Proper tb → (tb.inputs ≢ 1) → 1 < tb.inputs
more_than_one tb p k = let s = p.some in omega arith

pub view_proper : (o : Option Setting) (tb : Table) → Proper tb → Proper (view o tb)
view_proper o tb p = go (in_force tb.inputs o) refl
  where
    go : (x : Option Setting) → in_force tb.inputs o ≡ x → Proper (through x tb)
    go None e = p
    go (Some s) e = cofactor_proper tb s.input s.level p (more_than_one tb p (in_force_lem tb.inputs o s e).1)
