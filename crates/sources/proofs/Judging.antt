-- The rules, where a call passes them.
use Rattle.std.specs.Prelude.{◌≡◌, ℕ, ◌^◌, ◌<◌, ◌≤◌, true, is_some, Some, None, Ok, Option, refl}
use Rattle.std.proofs.Common.{arith}
use Rattle.std.proofs.lemmas.Bool.{lt-leb, le-ltb}
use Rattle.std.specs.Option.{unwrap_or}
use Rattle.terms.specs.declared.mark.Mark.{Mark}
use Rattle.terms.specs.declared.mark.Mark.TheVariants.{Off}
use Rattle.terms.specs.declared.refusal.Refusal.TheVariants.{NoSuchMark}
use Rattle.terms.specs.Marks.{with_code}
use Rattle.terms.specs.Rules.{mark_by_code}
use Rattle.terms.specs.Terms.{is_term}
use Rattle.sources.specs.Rules.{size_breaks, look_breaks, mark_breaks, sweep_breaks}
use Rattle.sources.specs.Calls.{entered}

pub size_passes : (n : ℕ) → 1 ≤ n → n ≤ 8 → size_breaks n ≡ None
size_passes n a b = rw (le-ltb n 1 a, le-ltb 8 n b) refl

pub look_passes : (n row : ℕ) → row < 2 ^ n → look_breaks n row ≡ None
look_passes n row h = rw (lt-leb (2 ^ n) row h) refl

-- a code that names a mark
pub code_named : (c : ℕ) (m : Mark) → mark_by_code c ≡ Ok m → (is_some (with_code c) ≡ true) × (entered c ≡ m)
code_named c m e = go (with_code c) e
  where
    go : (o : Option Mark) → Rattle.std.specs.Option.ok_or o NoSuchMark ≡ Ok m → (is_some o ≡ true) × (unwrap_or o Off ≡ m)
    go None e = let z : ◌≡◌ {A = ℕ} 0 1 = cc in absurd (omega arith)
    go (Some x) e = (refl, cc)

pub mark_passes : (n row c : ℕ) → row < 2 ^ n → is_some (with_code c) ≡ true → mark_breaks n row c ≡ None
mark_passes n row c h e = rw (lt-leb (2 ^ n) row h, e) refl

pub sweep_passes : (n m l c : ℕ) → true ≡ is_term n m l → is_some (with_code c) ≡ true → sweep_breaks n m l c ≡ None
sweep_passes n m l c h e = rw (← h, e) refl
