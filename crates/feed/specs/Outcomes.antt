-- SPDX-License-Identifier: MIT OR Apache-2.0
-- What an input comes to. Assumes nothing.
use Rattle.std.specs.Prelude.{◌≡◌, ℕ, ◌%◌, ◌<◌, ◌≤◌, cond, ◌⊎◌, List, [], ◌∷◌, length, Some, None, Ok, Err, Result, ◌==◌, ◌≢◌, nat_lt}
use Rattle.post_log.specs.Entries.{Told}
use Rattle.post_log.specs.Refusals.{number, place}
use Rattle.post_log.specs.Rules as rules
use Rattle.post_log.specs.Rules.{Lawful}
use Rattle.post_log.specs.Verdict.{verdict}
use Rattle.post_log.specs.Words.{body}
use Rattle.feed.specs.declared.failure.Failure.{Failure}
use Rattle.feed.specs.declared.failure.Failure.TheVariants.{Refused, TooLong, NotWords, MoreLogs, NoMemory}
use Rattle.feed.specs.Inputs.{words_of, spelled, first_log, later_words}
use Rattle.feed.specs.Lines.{listing_of}

-- the listing of a log that passes, with no words after it
abbrev pub listed : List ℕ → List ℕ → Result (List ℕ) Failure
listed ws [] = Ok (listing_of ws)
listed ws (w ∷ later) = Err MoreLogs

-- that is given, or else memory ran out
abbrev pub Lists : List ℕ → List ℕ → Result (List ℕ) Failure → Type 0
Lists ws later (Ok text) = listed ws later ≡ Ok text
Lists ws later (Err f) = (listed ws later ≡ Err f) ⊎ (f ≡ NoMemory)

-- a log and the words after it
abbrev pub judged : List ℕ → List ℕ → Result (List ℕ) Failure
judged ws later = elim (verdict ws) [ None ↦ listed ws later | Some e ↦ Err (Refused e) ]

-- the text of a listing, or why there is none
abbrev pub outcome : List ℕ → Result (List ℕ) Failure
outcome bytes =
    cond (nat_lt 65536 (length bytes)) (Err TooLong)
    (cond (length bytes % 4 == 0) (judged (first_log (words_of bytes)) (later_words (words_of bytes))) (Err NotWords))

-- The outcome is given, or else, but not before an input in fours and of at most 65,536 bytes is read, memory ran out.
abbrev pub Gives : List ℕ → Result (List ℕ) Failure → Type 0
Gives bytes (Ok text) = outcome bytes ≡ Ok text
Gives bytes (Err f) = (outcome bytes ≡ Err f) ⊎ ((f ≡ NoMemory) × (length bytes ≤ 65536) × (length bytes % 4 ≡ 0))

-- The input is words, and the first log in them is one that says what its words spell.
abbrev pub Read : List ℕ → Type 0
Read bytes = (spelled (words_of bytes) ≡ bytes) × Lawful (first_log (words_of bytes)) × Told (body (first_log (words_of bytes)))

-- In the words of the rules: what is listed is so read and is all there is, and what is refused breaks the rule that its
-- number and place name.
abbrev pub Ruled : List ℕ → Result (List ℕ) Failure → Type 0
Ruled bytes (Ok text) = Read bytes × (later_words (words_of bytes) ≡ []) × (text ≡ listing_of (first_log (words_of bytes)))
Ruled bytes (Err (Refused e)) = rules.Refused (first_log (words_of bytes)) (number e) (place e)
Ruled bytes (Err MoreLogs) = Read bytes × (later_words (words_of bytes) ≢ [])
Ruled bytes (Err TooLong) = 65536 < length bytes
Ruled bytes (Err NotWords) = length bytes % 4 ≡ 0 → ⊥
Ruled bytes (Err NoMemory) = Unit {0}
