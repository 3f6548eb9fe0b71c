-- SPDX-License-Identifier: MIT OR Apache-2.0
-- What a reader stands for. Assumes nothing.
use Rattle.std.specs.Prelude.{◌≡◌, ℕ, ◌+◌, ◌≤◌, Bool, false, cond, List, [], ◌∷◌, map, length, drop, Some, None, Option, ◌==◌}
use Rattle.ordered_stream.specs.declared.answer.Answer.{Answer}
use Rattle.ordered_stream.specs.Streams.{Stream}
use Rattle.post_log.specs.declared.entry.Entry.{Entry}
use Rattle.post_log.specs.Entries.{entries, spelled, records, Sized}
use Rattle.post_log.specs.Words.{word_of, post}
use Rattle.garage.specs.declared.amount.Amount.{Amount}
use Rattle.garage.specs.declared.slot.Slot.{Slot}
use Rattle.post_reader.specs.declared.reader.Reader.{Reader}
use Rattle.post_reader.specs.Reading.{State, records_in, waits_in, past_floors, by_entry, polled, Sound}

-- the caller's words
abbrev pub words_of : Reader → List ℕ
words_of r = r.log.words.now

-- those from the place on
abbrev pub unread_of : Reader → List ℕ
unread_of r = drop r.place (words_of r)

-- what the words from a place on say, their records numbered from n
abbrev pub ahead_from : List ℕ → ℕ → ℕ → List Entry
ahead_from ws place n = entries n (map word_of (drop place ws))

abbrev pub state_of : Reader → State
state_of r =
    record { post = post (words_of r); place = r.place; number = r.number; silence = r.silence; floor = r.floor; ahead = ahead_from (words_of r) r.place r.number }

abbrev pub reader_records : Reader → List (Slot × Amount)
reader_records r = records_in (state_of r)

abbrev pub reader_waits : Reader → ℕ
reader_waits r = waits_in (state_of r)

abbrev pub reader_floor : Reader → Option Slot
reader_floor r = r.floor

abbrev pub ReaderSound : Reader → Type 0
ReaderSound r = Sound (state_of r)

-- The reader s answers a, and becomes t: what is computed of its state; its words stay.
pub record Answered (computed : Answer Slot Amount × State) (s : Reader) (a : Answer Slot Amount) (t : Reader) : Type 0 where
  pub step : (a, state_of t) ≡ computed
  pub kept : t.log.words ≡ s.log.words

abbrev pub ReaderAnswers : Reader → Option Slot → Answer Slot Amount → Reader → Type 0
ReaderAnswers s b = Answered (polled b (state_of s)) s

-- a reader as a stream
abbrev pub reader_stream : Stream Reader Slot Amount
reader_stream = record { records = reader_records; waits = reader_waits; sound = ReaderSound; answers = ReaderAnswers; hint = reader_floor }

abbrev pub all_read : Reader → Bool
all_read r = length (unread_of r) == 0

-- no silence is left, and no word
abbrev pub reader_terminated : Reader → Bool
reader_terminated r = cond (r.silence == 0) (all_read r) false

-- What the functions below a poll do

-- The entry at the place, and what follows it.
pub record AtPlace (r : Reader) (e : Entry) : Type 0 where
  pub first : (state_of r).ahead ≡ e ∷ ahead_from (words_of r) (r.place + length (spelled e)) (r.number + records (e ∷ []))
  pub within : r.place + length (spelled e) ≤ length (words_of r)
  pub no_more_records : records (e ∷ []) ≤ length (spelled e)
  pub sized : Sized e

abbrev pub Next : Reader → Option Entry → Type 0
Next r None = (state_of r).ahead ≡ []
Next r (Some e) = AtPlace r e

-- The entry at the place is passed.
pub record Passed (e : Entry) (s t : Reader) : Type 0 where
  pub words : t.log.words ≡ s.log.words
  pub place : t.place ≡ s.place + length (spelled e)
  pub number : t.number ≡ s.number + records (e ∷ [])
  pub silence : t.silence ≡ s.silence
  pub floor : t.floor ≡ s.floor

-- The floors at the place are passed.
pub record FloorsPassed (s t : Reader) : Type 0 where
  pub state : state_of t ≡ past_floors (state_of s).ahead (state_of s)
  pub kept : t.log.words ≡ s.log.words

-- the answer is that of the entry at the place
abbrev pub ByEntry : Reader → Answer Slot Amount → Reader → Type 0
ByEntry s = Answered (by_entry (state_of s).ahead (state_of s)) s
