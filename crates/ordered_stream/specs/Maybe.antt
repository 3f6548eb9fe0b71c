-- SPDX-License-Identifier: MIT OR Apache-2.0
-- A stream that may be absent: absent, it is at its end. Assumes nothing.
use Rattle.std.specs.Prelude.{◌≡◌, ℕ, Bool, true, List, [], Some, None, Option, IfSome}
use Rattle.std.specs.Option.{option_map_or, option_and_then}
use Rattle.ordered_stream.specs.declared.answer.Answer.{Answer}
use Rattle.ordered_stream.specs.declared.answer.Answer.TheVariants.{Terminated}
use Rattle.ordered_stream.specs.Streams.{Stream}

module _ {S O D : Type 0} (K : Stream S O D) where
  abbrev pub option_records : Option S → List (O × D)
  option_records p = option_map_or K.records p []

  abbrev pub option_waits : Option S → ℕ
  option_waits p = option_map_or K.waits p 0

  abbrev pub OptionSound : Option S → Type 0
  OptionSound p = IfSome p K.sound

  abbrev pub OptionAnswers : Option S → Option O → Answer O D → Option S → Type 0
  OptionAnswers (Some s) b r (Some t) = K.answers s b r t
  OptionAnswers (Some s) b r None = ⊥
  OptionAnswers None b r (Some t) = ⊥
  OptionAnswers None b r None = r ≡ Terminated

  abbrev pub option_hint : Option S → Option O
  option_hint = option_and_then K.hint

abbrev pub option_terminated : {S : Type 0} → (S → Bool) → Option S → Bool
option_terminated terminated p = option_map_or terminated p true
