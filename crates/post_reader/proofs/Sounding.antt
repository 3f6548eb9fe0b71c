-- SPDX-License-Identifier: MIT OR Apache-2.0
-- A poll of a sound state leaves a sound one, and tells what is to come.
use Rattle.std.proofs.Common.{◌≡◌, List, [], ◌∷◌, Some, Option, refl, ap, subst, arith}
use Rattle.std.proofs.lemmas.Bool.{cond_both}
use Rattle.std.proofs.lemmas.Bool.Decides.{nat_tests}
use Rattle.ordered_stream.specs.declared.answer.Answer.{Answer}
use Rattle.ordered_stream.specs.declared.answer.Answer.TheVariants.{NoneBefore}
use Rattle.ordered_stream.specs.Meaning.{NoneBelow, Lower, Tells}
use Rattle.ordered_stream.specs.Orders.{reaches}
use Rattle.ordered_stream.proofs.Positions.{position_tells}
use Rattle.post_log.specs.declared.entry.Entry.{Entry}
use Rattle.post_log.specs.declared.entry.Entry.TheVariants.{Floor, Silence, Record}
use Rattle.garage.specs.declared.amount.Amount.{Amount}
use Rattle.garage.specs.declared.slot.Slot.{Slot}
use Rattle.garage.specs.Kinds.{slot_order, slot_laws, least}
use Rattle.post_reader.specs.Reading.{State, records_of, records_in, raised, past, past_floors, settled, by_entry, answered, polled, Rising, Sound}
use Rattle.post_reader.proofs.Moving.{NoFloor, settles}

-- what is above neither a floor nor a slot is not above the greater
raised_below : (f : Option Slot) (o : Slot) (xs : List (Slot × Amount)) → Lower slot_order f xs → NoneBelow slot_order o xs → NoneBelow slot_order (raised f o) xs
raised_below f o xs h k = grind arith

-- a sound state, by the entries ahead of it
module _ (s : State) (es : List Entry) (e : s.ahead ≡ es) (h : Sound s) where
  above_of : Lower slot_order s.floor (records_of s.post es)
  above_of = subst (λ l. Lower slot_order s.floor (records_of s.post l)) e h.above

  rising_of : Rising s.post es
  rising_of = subst (Rising s.post) e h.rising

floors_sound : (es : List Entry) (s : State) → s.ahead ≡ es → Sound s → Sound (past_floors es s)
floors_sound [] s e h = h
floors_sound (Floor t ∷ es) s e h =
    let above = above_of s (Floor t ∷ es) e h in
    let rising = rising_of s (Floor t ∷ es) e h in
    floors_sound es (past (Floor t) es s.silence (Some (raised s.floor (least t))) s) refl (record { above = raised_below s.floor (least t) (records_of s.post es) above rising.0; rising = rising.1 })
floors_sound (Silence k ∷ es) s e h = h
floors_sound (Record t c n a ∷ es) s e h = h

settled_sound : (s : State) → Sound s → Sound (settled s)
settled_sound s h = let floors = floors_sound s.ahead s refl h in grind arith

-- an answer and a sound state
abbrev pub StaysSound : Option Slot → Answer Slot Amount × State → Type 0
StaysSound b r = Sound r.1 × Tells slot_order b r.0 (records_in r.1)

entry_tells : (es : List Entry) (s : State) (b : Option Slot) → s.ahead ≡ es → NoFloor es → Sound s → StaysSound b (by_entry es s)
entry_tells es s b e n h = grind (arith, ap (records_of s.post) e, above_of s es e h, rising_of s es e h)

answer_tells : (s : State) (b : Option Slot) → (s.silence ≡ 0 → NoFloor s.ahead) → Sound s → StaysSound b (answered s)
answer_tells s b n h =
    grind (arith, nat_tests, entry_tells s.ahead s b refl)

pub poll_tells : (s : State) (b : Option Slot) → Sound s → StaysSound b (polled b s)
poll_tells s b h =
    let t = settled s in
    let k = settled_sound s h in
    cond_both (reaches slot_order t.floor b) (NoneBefore, t) (answered t) (StaysSound b)
    (λ i. (k, position_tells slot_order slot_laws.total t.floor b i (records_in t) k.above))
    (λ _. answer_tells t b (settles s).front k)
