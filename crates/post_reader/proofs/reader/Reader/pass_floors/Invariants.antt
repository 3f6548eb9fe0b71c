-- SPDX-License-Identifier: MIT OR Apache-2.0
use Rattle.std.proofs.Common.{◌≡◌, ◌-◌, length}
use Rattle.post_reader.specs.Reading.{past_floors}
use Rattle.post_reader.specs.Readers.{words_of, state_of}
use Rattle.post_reader.proofs.reader.Reader.pass_floors.Given as goal

-- Passing the floors that are left comes to what passing all of them does.
abbrev pub invariant-loop-instant : goal.invariant-loop-instant
invariant-loop-instant l =
    (past_floors (state_of l.self).ahead (state_of l.self) ≡ past_floors (state_of l.initial.self).ahead (state_of l.initial.self))
    × (l.self.log.words ≡ l.initial.self.log.words)

abbrev pub decreases-loop-instant : goal.decreases-loop-instant
decreases-loop-instant l = length (words_of l.self) - l.self.place
