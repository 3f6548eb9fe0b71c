-- SPDX-License-Identifier: MIT OR Apache-2.0
-- What a total order says of orderings that are not greater.
use Rattle.std.proofs.Common.{◌≡◌, false, List, [], ◌∷◌, Ordering, Less, arith}
use Rattle.std.proofs.lemmas.Cmp.{upto}
use Rattle.std.specs.Cmp.{IsTotalOrder}
use Rattle.std.specs.Ordering.{is_gt}
use Rattle.ordered_stream.specs.Meaning.{NoneBelow}

-- the first is not greater than the second
abbrev pub UpTo : {O : Type 0} → (O → O → Ordering) → O → O → Type 0
UpTo cmp x y = is_gt (cmp x y) ≡ false

module _ {O : Type 0} (cmp : O → O → Ordering) (total : IsTotalOrder cmp) where
  -- what is not greater than x has x not below it
  pub not_below : (o x : O) → UpTo cmp o x → cmp x o ≡ Less → ⊥
  not_below o x up less = let e = total.antisymm o x in grind arith

  -- and the other way round
  pub up_to : (o x : O) → (cmp x o ≡ Less → ⊥) → UpTo cmp o x
  up_to o x not_less = let e = total.antisymm o x in grind arith

  pub none_below_up_to : {D : Type 0} (o u : O) → UpTo cmp o u → (xs : List (O × D)) → NoneBelow cmp u xs → NoneBelow cmp o xs
  none_below_up_to o u up [] h = h
  none_below_up_to o u up (x ∷ xs) h = (not_below o x.0 (upto total o u x.0 up (up_to u x.0 h.0)), none_below_up_to o u up xs h.1)
