-- SPDX-License-Identifier: MIT OR Apache-2.0
-- A reader has the laws of a stream, since its state moves so.
use Rattle.std.proofs.Common.{Option, sym, subst}
use Rattle.ordered_stream.specs.declared.answer.Answer.{Answer}
use Rattle.ordered_stream.specs.Meaning.{HandsInTurn}
use Rattle.ordered_stream.specs.Streams.{IsStream}
use Rattle.ordered_stream.proofs.Turns.{leaves_in_turn}
use Rattle.post_log.specs.Entries.{EachSized}
use Rattle.garage.specs.declared.amount.Amount.{Amount}
use Rattle.garage.specs.declared.slot.Slot.{Slot}
use Rattle.garage.specs.Kinds.{slot_order}
use Rattle.post_reader.specs.declared.reader.Reader.{Reader}
use Rattle.post_reader.specs.Readers.{words_of, state_of, reader_records, reader_stream, ReaderAnswers}
use Rattle.post_reader.proofs.Moving.{Moves, poll_moves}
use Rattle.post_reader.proofs.Sounding.{StaysSound, poll_tells}

-- what is known of the entries of a log
module _ (sized : EachSized) where
  moves : (s : Reader) (b : Option Slot) (r : Answer Slot Amount) (t : Reader) → ReaderAnswers s b r t → Moves (state_of s) b (r, state_of t)
  moves s b r t a = subst (Moves (state_of s) b) (sym a.step) (poll_moves (state_of s) b (sized (words_of s) s.log.lawful s.number s.place))

  pub reader_laws : IsStream slot_order reader_stream
  reader_laws =
      record {
        takes = λ s b r t a. let m = moves s b r t a in (leaves_in_turn (reader_records s) r (reader_records t) m.0, m.1);
        tells = λ s b r t h a. (subst (StaysSound b) (sym a.step) (poll_tells (state_of s) b h)).1;
        keeps = λ s b r t h a. (subst (StaysSound b) (sym a.step) (poll_tells (state_of s) b h)).0;
        hints = λ s h. h.above;
      }

  pub reader_in_turn : HandsInTurn reader_records ReaderAnswers
  reader_in_turn s b r t a = (moves s b r t a).0
