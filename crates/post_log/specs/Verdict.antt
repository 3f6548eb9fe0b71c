-- SPDX-License-Identifier: MIT OR Apache-2.0
-- How a list of words is judged, from the left. Assumes nothing.
use Rattle.std.specs.Prelude.{◌≡◌, ℕ, ◌+◌, ◌/◌, Bool, true, false, cond, List, [], ◌∷◌, map, length, Some, None, Ok, Err, Option, Result, ◌==◌, nat_lt}
use Rattle.std.specs.Option.{option_or}
use Rattle.post_log.specs.declared.class.Class.{Class}
use Rattle.post_log.specs.declared.judge.Progress.{Progress}
use Rattle.post_log.specs.declared.refusal.Refusal.{Refusal}
use Rattle.post_log.specs.declared.refusal.Refusal.TheVariants.{TooShort, BadHeader, BadCount, Misplaced, Falling}
use Rattle.post_log.specs.declared.word.Word.{Word}
use Rattle.post_log.specs.declared.word.Word.TheVariants.{Floor, Head, Silence, Data}
use Rattle.post_log.specs.Classes.{rank}
use Rattle.post_log.specs.Words.{word_of, is_data}

-- before the first word of a body
abbrev pub start : Progress
start = record { place = 2; instant = 0; class = None; headed = false }

-- one word further, at an instant; a new instant has no record yet
abbrev pub reached : ℕ → Bool → Progress → Progress
reached t h p = record { place = p.place + 1; instant = t; class = cond (t == p.instant) p.class None; headed = h }

-- one word further, at the same instant
abbrev pub passed : Option Class → Progress → Progress
passed c p = record { place = p.place + 1; instant = p.instant; class = c; headed = false }

-- a floor or a head: refused where its instant falls
abbrev pub timed : ℕ → Bool → Progress → Result Progress Refusal
timed t h p = cond (nat_lt t p.instant) (Err (Falling p.place)) (Ok (reached t h p))

-- a class is below the one of the latest record, if there is one
abbrev pub below : Class → Option Class → Bool
below c None = false
below c (Some d) = nat_lt (rank c) (rank d)

-- A word, where `followed` says whether a data word follows it: refused, or passed.
abbrev pub judged : Word → Bool → Progress → Result Progress Refusal
judged (Floor t) followed p = timed t false p
judged (Head t) followed p = cond followed (timed t true p) (Err (Misplaced p.place))
judged (Silence n) followed p = cond (n == 0) (Err (Misplaced p.place)) (Ok (passed p.class p))
judged (Data None a) followed p = Err (Misplaced p.place)
judged (Data (Some c) a) followed p =
    cond p.headed
    (cond (below c p.class) (Err (Falling p.place)) (Ok (passed (Some c) p)))
    (Err (Misplaced p.place))

-- whether the words begin with data
abbrev pub data_next : List Word → Bool
data_next [] = false
data_next (w ∷ ws) = is_data w

-- the first refusal in the words of a body, from the left
abbrev pub body_verdict : Progress → List Word → Option Refusal
body_verdict p [] = None
body_verdict p (w ∷ ws) = elim (judged w (data_next ws) p) [ Ok q ↦ body_verdict q ws | Err e ↦ Some e ]

-- the refusal of a header before a body of some length
abbrev pub header_verdict : ℕ → ℕ → ℕ → Option Refusal
header_verdict h n len =
    cond (h / 0x400 == 0x30_0000)
    (cond (nat_lt 16382 n) (Some BadCount) (cond (n == len) None (Some BadCount)))
    (Some BadHeader)

-- why the words are no log, or nothing where they are one
abbrev pub verdict : List ℕ → Option Refusal
verdict [] = Some TooShort
verdict (h ∷ []) = Some TooShort
verdict (h ∷ n ∷ body) = option_or (header_verdict h n (length body)) (body_verdict start (map word_of body))

-- the words are not refused
abbrev pub Passes : List ℕ → Type 0
Passes ws = verdict ws ≡ None
