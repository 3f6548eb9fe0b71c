-- SPDX-License-Identifier: MIT OR Apache-2.0
-- When a slot is not above another.
use Rattle.std.proofs.Common.{◌≡◌, ◌≤◌, arith}
use Rattle.std.proofs.lemmas.Bool.Decides.{nat_tests}
use Rattle.ordered_stream.proofs.Orders.{UpTo}
use Rattle.post_log.specs.Classes.{rank}
use Rattle.garage.specs.declared.slot.Slot.{Slot}
use Rattle.garage.specs.Kinds.{slot_order}

pub slot_up_to : (a b : Slot) → a.instant ≤ b.instant → (a.instant ≡ b.instant → rank a.class ≤ rank b.class) → a.post ≤ b.post → a.number ≤ b.number → UpTo slot_order a b
slot_up_to a b instant class post number = grind (arith, nat_tests)
