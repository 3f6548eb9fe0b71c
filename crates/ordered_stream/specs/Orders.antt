-- SPDX-License-Identifier: MIT OR Apache-2.0
-- What a total order is. Assumes nothing.
use Rattle.std.specs.Prelude.{◌≡◌, Bool, false, Some, None, Option}
use Rattle.std.specs.declared.cmp.Ordering.TheVariants.{Equal}
use Rattle.std.specs.declared.cmp.Ordering.{Ordering}
use Rattle.std.specs.Cmp.{IsTotalOrder}
use Rattle.std.specs.Ordering.{is_ge}

-- less one way is greater the other, the comparison chains, and equal holds only of the same ordering
pub record OrderLaws {O : Type 0} (cmp : O → O → Ordering) : Type 0 where
  pub total : IsTotalOrder cmp
  pub same : (x y : O) → cmp x y ≡ Equal → x ≡ y

-- a position, if there is one, is not below a bound that is given
abbrev pub reaches : {O : Type 0} → (O → O → Ordering) → Option O → Option O → Bool
reaches cmp None b = false
reaches cmp (Some o) None = false
reaches cmp (Some o) (Some b) = is_ge (cmp o b)
