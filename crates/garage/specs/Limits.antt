-- SPDX-License-Identifier: MIT OR Apache-2.0
-- What a slot, an amount and a line may be. Assumes nothing.
use Rattle.std.specs.Prelude.{◌≡◌, ℕ, ◌<◌, Ok, Err, Result}
use Rattle.garage.specs.declared.amount.Amount.{Amount}
use Rattle.garage.specs.declared.limit.PastLimit.{PastLimit}
use Rattle.garage.specs.declared.line.Line.{Line}
use Rattle.garage.specs.declared.slot.Slot.{Slot}
use Rattle.garage.specs.Refusals.{Refuses}

-- of a slot
abbrev pub InstantWithin : ℕ → Type 0
InstantWithin t = t < 0x4000_0000

abbrev pub PostWithin : ℕ → Type 0
PostWithin p = p < 1024

abbrev pub NumberWithin : ℕ → Type 0
NumberWithin n = n < 0x10_0000

pub record SlotWithin (s : Slot) : Type 0 where
  pub instant : InstantWithin s.instant
  pub post : PostWithin s.post
  pub number : NumberWithin s.number

abbrev pub AmountWithin : Amount → Type 0
AmountWithin a = a.units < 0x1000_0000

pub record LineWithin (l : Line) : Type 0 where
  pub post : PostWithin l.post
  pub amount : AmountWithin l.amount

-- a record: a slot with its amount
abbrev pub RecordWithin : Slot × Amount → Type 0
RecordWithin x = SlotWithin x.0 × AmountWithin x.1

-- What is asked for is made if it is within its limits, and else refused.
abbrev pub Makes : {A : Type 0} → (A → Type 0) → A → Result A PastLimit → Type 0
Makes Within x (Ok y) = (y ≡ x) × Within x
Makes Within x (Err e) = Refuses e × (Within x → ⊥)
