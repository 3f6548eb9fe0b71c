-- SPDX-License-Identifier: MIT OR Apache-2.0
-- A log worked by hand. Assumes nothing.
use Rattle.std.specs.Prelude.{◌≡◌, [], ◌∷◌, Some}
use Rattle.ordered_stream.specs.declared.answer.Answer.TheVariants.{NoneBefore, Terminated}
use Rattle.garage.specs.Kinds.{least}
use Rattle.post_reader.specs.Reading.{State, opened, polled}

-- a log of post 5 with a floor at instant 80, and nothing else
abbrev pub floor_alone : State
floor_alone = opened 5 (0xC000_0005 ∷ 0x0000_0001 ∷ 0x0000_0050 ∷ [])

-- Nothing is to come below instant 80, and nothing at all.
pub record FloorAlone : Type 0 where
  pub at_the_floor : (polled (Some (least 80)) floor_alone).0 ≡ NoneBefore
  pub above_the_floor : (polled (Some (least 81)) floor_alone).0 ≡ Terminated
