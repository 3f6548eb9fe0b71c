-- SPDX-License-Identifier: MIT OR Apache-2.0
-- NoneBefore, by a position that is not below the bound.
use Rattle.std.proofs.Common.{◌≡◌, ℕ, true, List, Option, Ordering, arith}
use Rattle.std.specs.Cmp.{IsTotalOrder}
use Rattle.ordered_stream.specs.declared.answer.Answer.TheVariants.{NoneBefore}
use Rattle.ordered_stream.specs.Meaning.{Lower, Spends, Tells}
use Rattle.ordered_stream.specs.Orders.{reaches}
use Rattle.ordered_stream.proofs.Orders.{up_to, none_below_up_to}

module _ {O : Type 0} (D : Type 0) (cmp : O → O → Ordering) where
  -- it takes no wait
  pub position_spends : (p b : Option O) → reaches cmp p b ≡ true → (w : ℕ) → Spends {D = D} w b NoneBefore w
  position_spends p b i w = grind arith

module _ {O D : Type 0} (cmp : O → O → Ordering) where
  -- it tells what the position does
  pub position_tells : IsTotalOrder cmp → (p b : Option O) → reaches cmp p b ≡ true → (xs : List (O × D)) → Lower cmp p xs → Tells cmp b NoneBefore xs
  position_tells total p b i xs l = grind (arith, up_to cmp total, none_below_up_to cmp total)
