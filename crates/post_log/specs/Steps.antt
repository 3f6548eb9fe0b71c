-- SPDX-License-Identifier: MIT OR Apache-2.0
-- How the entries of a log are handed out. Assumes nothing.
use Rattle.std.specs.Prelude.{◌≡◌, List, [], ◌∷◌, map, Option, MatchOption}
use Rattle.post_log.specs.declared.entry.Entry.{Entry}
use Rattle.post_log.specs.declared.entries.Entries.{Entries}
use Rattle.post_log.specs.Entries.{entries}
use Rattle.post_log.specs.Words.{word_of}

-- what is still to be handed out
abbrev pub shown : Entries → List Entry
shown s = entries s.number (map word_of s.unread.now)

-- the next one is the first of these
abbrev pub Steps : Entries → Option Entry → Entries → Type 0
Steps s r t = MatchOption r ((shown s ≡ []) × (t ≡ s)) (λ e. shown s ≡ e ∷ shown t)
