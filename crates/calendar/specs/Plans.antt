-- SPDX-License-Identifier: MIT OR Apache-2.0
-- What a plan of tariffs may be, and its records. Assumes nothing.
use Rattle.std.specs.Prelude.{◌≡◌, ℕ, ◌+◌, ◌-◌, ◌*◌, ◌%◌, ◌<◌, ◌≤◌, min, cond, List, map, ◌==◌}
use Rattle.std.specs.List.{AllByRecursion, range_with_len}
use Rattle.garage.specs.declared.amount.Amount.{Amount}
use Rattle.garage.specs.declared.slot.Slot.{Slot}
use Rattle.garage.specs.Limits.{InstantWithin, PostWithin, AmountWithin, RecordWithin}
use Rattle.post_log.specs.declared.class.Class.TheVariants.{Tariff}
use Rattle.calendar.specs.declared.plan.Plan.{Plan}

-- The limits of a plan.
pub record PlanWithin (p : Plan) : Type 0 where
  -- no two changes at one instant
  pub apart : 0 < p.step
  -- at most a day from one to the next
  pub near : p.step ≤ 86400
  -- at most a thousand changes
  pub few : p.count ≤ 1000
  -- rates and post as of every amount and slot
  pub even : AmountWithin (record { units = p.even })
  pub odd : AmountWithin (record { units = p.odd })
  pub post : PostWithin p.post
  -- and so the first instant and the last, which is the first where there is no change
  pub first : InstantWithin p.first
  pub last : InstantWithin (p.first + (p.count - 1) * p.step)

-- of record i, counted from 0; it stays at the top of 32 bits
abbrev pub instant_at : Plan → ℕ → ℕ
instant_at p i = min (p.first + i * p.step) 0xFFFF_FFFF

abbrev pub slot_at : Plan → ℕ → Slot
slot_at p i = record { instant = instant_at p i; class = Tariff; post = p.post; number = i }

-- the rates in turn
abbrev pub amount_at : Plan → ℕ → Amount
amount_at p i = record { units = cond (i % 2 == 0) p.even p.odd }

-- k records from record i on
abbrev pub records_from : Plan → ℕ → ℕ → List (Slot × Amount)
records_from p i k = map (λ j. (slot_at p j, amount_at p j)) (range_with_len i k)

-- What a plan within its limits comes to: no instant is cut off at the top, and each record is within the limits.
pub record AsPlanned (p : Plan) : Type 0 where
  pub instants : (i : ℕ) → i < p.count → instant_at p i ≡ p.first + i * p.step
  pub within : AllByRecursion RecordWithin (records_from p 0 p.count)
