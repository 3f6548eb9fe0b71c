-- SPDX-License-Identifier: MIT OR Apache-2.0
-- A kind of stream as one value, for what is built over it. Assumes nothing.
use Rattle.std.specs.declared.cmp.Ordering.{Ordering}
use Rattle.ordered_stream.specs.declared.stream.OrderedStream.{Ghosts}
use Rattle.ordered_stream.specs.Meaning.{StreamLaws}

-- what streams of the type S mean: the ghost members of the interface
abbrev pub Stream : Type 0 → Type 0 → Type 0 → Type 1
Stream S O D = Ghosts S O D

-- they have the laws
abbrev pub IsStream : {S O D : Type 0} → (O → O → Ordering) → Stream S O D → Type 0
IsStream cmp K = StreamLaws cmp K.records K.waits K.sound K.answers K.hint
