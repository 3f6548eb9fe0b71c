-- SPDX-License-Identifier: MIT OR Apache-2.0
-- How a log is read, poll by poll. Assumes nothing.
use Rattle.std.specs.Prelude.{ℕ, ◌+◌, ◌-◌, cond, List, [], ◌∷◌, length, Some, None, Option, ◌==◌}
use Rattle.std.specs.Ordering.{ord_max}
use Rattle.ordered_stream.specs.declared.answer.Answer.{Answer}
use Rattle.ordered_stream.specs.declared.answer.Answer.TheVariants.{Item, NoneBefore, Terminated, Pending}
use Rattle.ordered_stream.specs.Meaning.{NoneBelow, Lower}
use Rattle.ordered_stream.specs.Orders.{reaches}
use Rattle.post_log.specs.declared.class.Class.{Class}
use Rattle.post_log.specs.declared.entry.Entry.{Entry}
use Rattle.post_log.specs.declared.entry.Entry.TheVariants.{Floor, Silence, Record}
use Rattle.post_log.specs.Entries.{entries_of, spelled, records}
use Rattle.post_log.specs.Words.{body}
use Rattle.garage.specs.declared.amount.Amount.{Amount}
use Rattle.garage.specs.declared.slot.Slot.{Slot}
use Rattle.garage.specs.Kinds.{slot_order, least}

-- A log that is partly read.
pub record State : Type 0 where
  pub post : ℕ
  -- of the first word that is not read yet
  pub place : ℕ
  -- of the next record
  pub number : ℕ
  -- how many polls stay unanswered
  pub silence : ℕ
  -- no record to come has a lower slot
  pub floor : Option Slot
  -- what the unread words say
  pub ahead : List Entry

-- the log of a post, of which the header is read
abbrev pub opened : ℕ → List ℕ → State
opened p ws = record { post = p; place = 2; number = 0; silence = 0; floor = None; ahead = entries_of (body ws) }

-- What is to come

abbrev pub slot : ℕ → ℕ → Class → ℕ → Slot
slot p t c n = record { instant = t; class = c; post = p; number = n }

-- the records of a post's entries
abbrev pub records_of : ℕ → List Entry → List (Slot × Amount)
records_of p [] = []
records_of p (Floor t ∷ es) = records_of p es
records_of p (Silence k ∷ es) = records_of p es
records_of p (Record t c n a ∷ es) = (slot p t c n, record { units = a }) ∷ records_of p es

-- all their silences
abbrev pub silences : List Entry → ℕ
silences [] = 0
silences (Floor t ∷ es) = silences es
silences (Silence k ∷ es) = k + silences es
silences (Record t c n a ∷ es) = silences es

abbrev pub records_in : State → List (Slot × Amount)
records_in s = records_of s.post s.ahead

abbrev pub waits_in : State → ℕ
waits_in s = s.silence + silences s.ahead

-- How a poll is answered

-- the greater of a floor and a slot
abbrev pub raised : Option Slot → Slot → Slot
raised None s = s
raised (Some f) s = ord_max slot_order f s

-- an entry is passed, es being those after it: the silence then left, and the floor
abbrev pub past : Entry → List Entry → ℕ → Option Slot → State → State
past e es left floor s =
    record { post = s.post; place = s.place + length (spelled e); number = s.number + records (e ∷ []); silence = left; floor = floor; ahead = es }

-- each floor that stands before another entry is passed, and raises the floor
abbrev pub past_floors : List Entry → State → State
past_floors [] s = s
past_floors (Floor t ∷ es) s = past_floors es (past (Floor t) es s.silence (Some (raised s.floor (least t))) s)
past_floors (Silence k ∷ es) s = s
past_floors (Record t c n a ∷ es) s = s

-- with no silence left, the floors at the place are passed
abbrev pub settled : State → State
settled s = cond (s.silence == 0) (past_floors s.ahead s) s

-- one poll less stays unanswered
abbrev pub waited : State → State
waited s = record { post = s.post; place = s.place; number = s.number; silence = s.silence - 1; floor = s.floor; ahead = s.ahead }

-- The answer of the entry at the place: a silence begins, this poll the first of its polls; or a record is handed out, and its
-- slot becomes the floor. No floor is at the place, since `settled` passes them.
abbrev pub by_entry : List Entry → State → Answer Slot Amount × State
by_entry [] s = (Terminated, s)
by_entry (Floor t ∷ es) s = (Terminated, s)
by_entry (Silence k ∷ es) s = (Pending, past (Silence k) es (k - 1) s.floor s)
by_entry (Record t c n a ∷ es) s = (Item (slot s.post t c n) (record { units = a }), past (Record t c n a) es s.silence (Some (slot s.post t c n)) s)

abbrev pub answered : State → Answer Slot Amount × State
answered s = cond (s.silence == 0) (by_entry s.ahead s) (Pending, waited s)

-- the answer to a poll, and what is left
abbrev pub polled : Option Slot → State → Answer Slot Amount × State
polled b s = cond (reaches slot_order (settled s).floor b) (NoneBefore, settled s) (answered (settled s))

-- What makes a reader sound

-- no record of a post's entries is below an entry before it
abbrev pub Rising : ℕ → List Entry → Type 0
Rising p [] = Unit {0}
Rising p (Floor t ∷ es) = NoneBelow slot_order (least t) (records_of p es) × Rising p es
Rising p (Silence k ∷ es) = Rising p es
Rising p (Record t c n a ∷ es) = NoneBelow slot_order (slot p t c n) (records_of p es) × Rising p es

-- none to come is below the floor either
pub record Sound (s : State) : Type 0 where
  pub above : Lower slot_order s.floor (records_in s)
  pub rising : Rising s.post s.ahead
