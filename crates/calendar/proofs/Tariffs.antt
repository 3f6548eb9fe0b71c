-- SPDX-License-Identifier: MIT OR Apache-2.0
-- A calendar is a stream, and its records are within their limits.
use Rattle.std.proofs.Common.{◌≡◌, ℕ, zero, suc, ◌+◌, ◌-◌, ◌*◌, ◌%◌, ◌<◌, ◌≤◌, eqb, [], ◌∷◌, Option, sym, ap, subst, arith}
use Rattle.std.proofs.lemmas.Nat.{mul-le}
use Rattle.std.proofs.lemmas.Bool.{cond_both}
use Rattle.std.proofs.lemmas.Bool.Decides.{nat_tests}
use Rattle.ordered_stream.specs.declared.answer.Answer.{Answer}
use Rattle.std.specs.List.{AllByRecursion}
use Rattle.ordered_stream.specs.Meaning.{InTurn, HandsInTurn, Spends, Tells, NoneBelow, Lower}
use Rattle.ordered_stream.specs.Streams.{IsStream}
use Rattle.ordered_stream.proofs.Orders.{not_below}
use Rattle.ordered_stream.proofs.Positions.{position_spends, position_tells}
use Rattle.ordered_stream.proofs.Turns.{leaves_in_turn}
use Rattle.garage.specs.declared.amount.Amount.{Amount}
use Rattle.garage.specs.declared.slot.Slot.{Slot}
use Rattle.garage.specs.Kinds.{slot_order, slot_laws}
use Rattle.garage.specs.Limits.{RecordWithin}
use Rattle.garage.proofs.Slots.{slot_up_to}
use Rattle.calendar.specs.declared.plan.Plan.{Plan}
use Rattle.calendar.specs.declared.calendar.Calendar.{Calendar}
use Rattle.calendar.specs.Plans.{PlanWithin, AsPlanned, slot_at, amount_at, records_from}
use Rattle.calendar.specs.Calendars.{calendar_records, calendar_hint, handed, calendar_step, CalendarAnswers, calendar_stream}

-- no record is below an earlier one
none_from : (p : Plan) (i j k : ℕ) → i < j → NoneBelow slot_order (slot_at p i) (records_from p j k)
none_from p i j zero h = tt
none_from p i j (suc k) h =
    let more = mul-le i p.step j p.step (omega arith) (omega arith) in (
      not_below slot_order slot_laws.total (slot_at p i) (slot_at p j) (slot_up_to (slot_at p i) (slot_at p j) (omega (arith, more)) (λ _. omega arith) (omega arith) (omega arith)),
      none_from p i (j + 1) k (omega arith),
    )

-- the last ordering handed out is above no record to come
hint_low : (c : Calendar) → Lower slot_order (calendar_hint c) (calendar_records c)
hint_low c =
    grind (arith, nat_tests, none_from c.plan (c.done - 1) c.done (c.plan.count - c.done))

-- an item is the first of the records to come
next_first : (c : Calendar) → c.done < c.plan.count → calendar_records c ≡ (slot_at c.plan c.done, amount_at c.plan c.done) ∷ calendar_records (handed c)
next_first c h =
    let e : c.plan.count - c.done ≡ suc (c.plan.count - (c.done + 1)) = omega arith in
    ap (records_from c.plan c.done) e

none_left : (c : Calendar) → c.plan.count ≤ c.done → calendar_records c ≡ []
none_left c h =
    let e : c.plan.count - c.done ≡ 0 = omega arith in
    ap (records_from c.plan c.done) e

-- what an answer and the calendar after it are to a calendar
record Follows (c : Calendar) (b : Option Slot) (r : Answer Slot Amount × Calendar) : Type 0 where
  turns : InTurn (calendar_records c) r.0 (calendar_records r.1)
  spends : Spends 0 b r.0 0
  tells : Tells slot_order b r.0 (calendar_records r.1)

step_follows : (c : Calendar) (b : Option Slot) → Follows c b (calendar_step c b)
step_follows c b =
    let p = c.plan in
    let i = c.done in
    grind (arith, nat_tests, position_spends Amount slot_order (calendar_hint c) b, position_tells {D = Amount} slot_order slot_laws.total (calendar_hint c) b, hint_low c, next_first c, none_from p i (i + 1) (p.count - (i + 1)), none_left c)

follows : (c : Calendar) (b : Option Slot) (r : Answer Slot Amount) (d : Calendar) → CalendarAnswers c b r d → Follows c b (r, d)
follows c b r d a = subst (Follows c b) (sym a) (step_follows c b)

pub calendar_laws : IsStream slot_order calendar_stream
calendar_laws =
    record {
      takes = λ c b r d a. let f = follows c b r d a in (leaves_in_turn (calendar_records c) r (calendar_records d) f.turns, f.spends);
      tells = λ c b r d _ a. (follows c b r d a).tells;
      keeps = λ c b r d _ a. tt;
      hints = λ c _. hint_low c;
    }

pub calendar_in_turn : HandsInTurn calendar_records CalendarAnswers
calendar_in_turn c b r d a = (follows c b r d a).turns

-- an instant of a plan within its limits
module _ (p : Plan) (h : PlanWithin p) where
  not_late : (i : ℕ) → i < p.count → p.first + i * p.step < 0x4000_0000
  not_late i l = omega (arith, mul-le i p.step (p.count - 1) p.step (omega arith) (omega arith), h.last)

  within_from : (i k : ℕ) → i + k ≤ p.count → AllByRecursion RecordWithin (records_from p i k)
  within_from i zero l = tt
  within_from i (suc k) l = (
    (
      record { instant = omega (arith, not_late i (omega arith)); post = h.post; number = omega (arith, h.few) },
      cond_both (eqb (i % 2) 0) p.even p.odd (λ r. r < 0x1000_0000) (λ _. h.even) (λ _. h.odd),
    ),
    within_from (i + 1) k (omega arith),
  )

  pub as_planned : AsPlanned p
  as_planned = record { instants = λ i l. omega (arith, not_late i l); within = within_from 0 p.count (omega arith) }
