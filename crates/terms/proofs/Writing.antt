-- The written form, one symbol after the other.
use Rattle.std.proofs.Common.{◌≡◌, ℕ, zero, suc, ◌+◌, ◌-◌, List, ◌∷◌, ◌++◌, map, refl, ap, ◌∙◌, arith, encode_utf8_all}
use Rattle.std.specs.List.{range_with_len}
use Rattle.std.proofs.lemmas.Str.{encode_ascii}
use Rattle.terms.specs.declared.term.Term.{Term}
use Rattle.terms.specs.Terms.{symbol, written}
use Rattle.terms.proofs.Bits.{symbol_lt}

-- the symbol that stands at place k, over n inputs
abbrev pub symbol_at : Term → ℕ → ℕ → ℕ
symbol_at t n k = symbol t (n - 1 - k)

-- the text of the symbols from place k on is the written form of the m inputs that are left
pub text_from : (t : Term) (n k m : ℕ) → n ≡ k + m → encode_utf8_all (map (symbol_at t n) (range_with_len k m)) ≡ written m t
text_from t n k zero e = refl
text_from t n k (suc m) e =
    let one : n - 1 - k ≡ m = omega (arith, e) in
    ap (λ (xs : List ℕ). xs ++ encode_utf8_all (map (symbol_at t n) (range_with_len (k + 1) m))) (encode_ascii (symbol_at t n k) (symbol_lt t (n - 1 - k)))
    ∙ ap (λ (j : ℕ). symbol t j ∷ encode_utf8_all (map (symbol_at t n) (range_with_len (k + 1) m))) one
    ∙ ap (λ (xs : List ℕ). symbol t m ∷ xs) (text_from t n (k + 1) m (omega (arith, e)))
