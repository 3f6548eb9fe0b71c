-- SPDX-License-Identifier: MIT OR Apache-2.0
-- What a calendar stands for, and what it answers. Assumes nothing.
use Rattle.std.specs.Prelude.{◌≡◌, ℕ, ◌+◌, ◌-◌, Bool, cond, not, List, Some, None, Option, Result, MatchResult, ◌==◌, nat_lt}
use Rattle.ordered_stream.specs.declared.answer.Answer.{Answer}
use Rattle.ordered_stream.specs.declared.answer.Answer.TheVariants.{Item, NoneBefore, Terminated}
use Rattle.ordered_stream.specs.Orders.{reaches}
use Rattle.ordered_stream.specs.Streams.{Stream}
use Rattle.garage.specs.declared.amount.Amount.{Amount}
use Rattle.garage.specs.declared.limit.PastLimit.{PastLimit}
use Rattle.garage.specs.declared.slot.Slot.{Slot}
use Rattle.garage.specs.Kinds.{slot_order}
use Rattle.garage.specs.Refusals.{Refuses}
use Rattle.calendar.specs.declared.plan.Plan.{Plan}
use Rattle.calendar.specs.declared.calendar.Calendar.{Calendar}
use Rattle.calendar.specs.Plans.{PlanWithin, AsPlanned, slot_at, amount_at, records_from}

-- the records below the count that are not handed out
abbrev pub calendar_records : Calendar → List (Slot × Amount)
calendar_records c = records_from c.plan c.done (c.plan.count - c.done)

abbrev pub calendar_waits : Calendar → ℕ
calendar_waits c = 0

-- every calendar answers in order
abbrev pub CalendarSound : Calendar → Type 0
CalendarSound c = Unit {0}

-- the last ordering handed out
abbrev pub calendar_hint : Calendar → Option Slot
calendar_hint c = cond (c.done == 0) None (Some (slot_at c.plan (c.done - 1)))

-- a record is handed out
abbrev pub handed : Calendar → Calendar
handed c = record { plan = c.plan; done = c.done + 1 }

-- the answer under a bound, and the calendar after it
abbrev pub calendar_step : Calendar → Option Slot → Answer Slot Amount × Calendar
calendar_step c b =
    cond (reaches slot_order (calendar_hint c) b) (NoneBefore, c)
    (cond (nat_lt c.done c.plan.count)
    (Item (slot_at c.plan c.done) (amount_at c.plan c.done), handed c)
    (Terminated, c))

abbrev pub CalendarAnswers : Calendar → Option Slot → Answer Slot Amount → Calendar → Type 0
CalendarAnswers c b a d = (a, d) ≡ calendar_step c b

abbrev pub calendar_terminated : Calendar → Bool
calendar_terminated c = not (nat_lt c.done c.plan.count)

-- a calendar as a stream
abbrev pub calendar_stream : Stream Calendar Slot Amount
calendar_stream = record { records = calendar_records; waits = calendar_waits; sound = CalendarSound; answers = CalendarAnswers; hint = calendar_hint }

-- The calendar that is made of a plan within its limits has nothing handed out.
pub record Opened (p : Plan) (c : Calendar) : Type 0 where
  pub new : c ≡ record { plan = p; done = 0 }
  pub planned : PlanWithin p
  pub ruled : AsPlanned p

-- It is made if the plan is within its limits, and else refused.
abbrev pub Opens : Plan → Result Calendar PastLimit → Type 0
Opens p r = MatchResult r (Opened p) (λ e. Refuses e × (PlanWithin p → ⊥))
