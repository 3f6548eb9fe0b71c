-- SPDX-License-Identifier: MIT OR Apache-2.0
-- Lists that hold the same elements.
use Rattle.std.proofs.Common.{◌≡◌, suc, List, [], ◌∷◌, length, refl, ap, ◌∙◌, subst}
use Rattle.std.proofs.lemmas.List.{nil_from_length}
use Rattle.ordered_stream.specs.Bags.{Same}
use Rattle.ordered_stream.specs.Bags.Same.{none, both, swap, then}

module _ {A : Type 0} where
  same_refl : (xs : List A) → Same xs xs
  same_refl [] = none
  same_refl (x ∷ xs) = both (same_refl xs)

  pub same_path : {xs ys : List A} → xs ≡ ys → Same xs ys
  same_path {xs = xs} e = subst (Same xs) e (same_refl xs)

  pub same_length : {xs ys : List A} → Same xs ys → length xs ≡ length ys
  same_length none = refl
  same_length (both p) = ap suc (same_length p)
  same_length swap = refl
  same_length (then p q) = same_length p ∙ same_length q

  pub same_none : {xs ys : List A} → Same xs ys → ys ≡ [] → xs ≡ []
  same_none {xs = xs} p e = nil_from_length xs (same_length p ∙ ap length e)
