-- SPDX-License-Identifier: MIT OR Apache-2.0
-- Lists of which the order does not count. Assumes nothing.
use Rattle.std.specs.Prelude.{List, [], ◌∷◌}

-- two lists hold the same elements, each as often
pub data Same {A : Type 0} : List A → List A → Type 0 where
  none : Same [] []
  both : {x : A} {xs ys : List A} → Same xs ys → Same (x ∷ xs) (x ∷ ys)
  swap : {x y : A} {xs : List A} → Same (x ∷ y ∷ xs) (y ∷ x ∷ xs)
  then : {xs ys zs : List A} → Same xs ys → Same ys zs → Same xs zs
