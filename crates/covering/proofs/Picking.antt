-- What the last call of a chain says of the list that the chain gives: a least item, and the items put together.
use Rattle.std.proofs.Common.{◌≡◌, false, List, [], ◌∷◌, length, Some, None, Option, is_some, MatchOption, sym, refl, ap, subst}
use Rattle.std.specs.Fn.{Called}
use Rattle.std.specs.Iterator.{Drains, ReducesItems, FoldTurn}
use Rattle.std.specs.List.{FoldsTo, reduce}
use Rattle.std.proofs.lemmas.Bool.{false≢true}
use Rattle.std.proofs.lemmas.Iterator.{YieldsList}
use Rattle.std.proofs.lemmas.Iterator.Consumers.{count_from_yields_List, reduce_from_yields_List}
use denote.Param.Members.{Mut}

-- where there is no least item there is none
pub none_picked : {S A : Type 0} {steps : S → Option A → S → Type 0} (P : A → Type 0) (s : S) (all : List A) (r : Option A) → MatchOption r (Drains steps s []) P → is_some r ≡ false → YieldsList steps (λ x. x) s all → length all ≡ 0
none_picked P s all None p h y = sym (count_from_yields_List s 0 ([], p, refl) y)
none_picked P s all (Some x) p h y = absurd (false≢true (sym h))

module _ {A F : Type 0} (g : Mut F (A × (A × Unit {0})) A) (h : A → A → A) (f : F)
    (k : (a x b : A) (q : F) → Called g f (a, (x, tt)) b q → (q ≡ f) × (b ≡ h a x)) where
  turned : (x y : A) (xs : List A) (f' e : F) → e ≡ f → FoldsTo {P = F × A} (FoldTurn g) (e, x) xs (f', y) → FoldsTo (λ p z c. c ≡ h p z) x xs y
  turned x y [] f' e q w = ap (λ (p : F × A). p.1) w
  turned x y (z ∷ zs) f' e q w =
      let m = k x z w.0.1 w.0.0 (subst (λ (u : F). Called g u (x, (z, tt)) w.0.1 w.0.0) q w.1) in
      (w.0.1, m.1, turned w.0.1 y zs f' w.0.0 m.0 w.2)

  -- `reduce` with a closure that computes h
  pub reduced : {S : Type 0} {steps : S → Option A → S → Type 0} {all : List A} (s : S) (r : Option A) → ReducesItems steps g s f r → YieldsList steps (λ x. x) s all → r ≡ reduce h all
  reduced {S} {steps} {all} s r w y = reduce_from_yields_List h s r (go r w) y
    where
      go : (o : Option A) → ReducesItems steps g s f o → MatchOption o (Drains steps s []) (λ z. (x : A) × (xs : List A) × Drains steps s (x ∷ xs) × FoldsTo (λ p v c. c ≡ h p v) x xs z)
      go None w = w
      go (Some z) w = (w.0, w.1, w.3, turned w.0 z w.1 w.2 f refl w.4)
