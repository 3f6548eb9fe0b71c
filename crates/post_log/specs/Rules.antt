-- SPDX-License-Identifier: MIT OR Apache-2.0
-- The rules of a log, by the places of its words. Assumes nothing.
use Rattle.std.specs.Prelude.{◌≡◌, ℕ, zero, suc, ◌+◌, ◌/◌, ◌<◌, ◌≤◌, true, ◌⊎◌, List, [], ◌∷◌, map, length, is_some, Some, None, Option, MatchOption}
use Rattle.std.specs.List.{slice_get}
use Rattle.post_log.specs.declared.class.Class.{Class}
use Rattle.post_log.specs.declared.refusal.Refusal.{Refusal}
use Rattle.post_log.specs.declared.refusal.Refusal.TheVariants.{TooShort, BadHeader, BadCount, Misplaced, Falling}
use Rattle.post_log.specs.declared.word.Word.{Word}
use Rattle.post_log.specs.declared.word.Word.TheVariants.{Floor, Head, Silence, Data}
use Rattle.post_log.specs.Classes.{rank}
use Rattle.post_log.specs.Refusals.{number, place}
use Rattle.post_log.specs.Words.{word_of}

-- The words of a body. Places count from its first word.
module _ (ws : List Word) where
  -- the word before a place
  abbrev pub before : ℕ → Option Word
  before zero = None
  before (suc i) = slice_get ws i

  -- a floor or a record's head of the instant t stands at the place
  abbrev pub Timed : ℕ → ℕ → Type 0
  Timed i t = (slice_get ws i ≡ Some (Floor t)) ⊎ (slice_get ws i ≡ Some (Head t))

  -- a record of the instant t and the class c ends at the place
  abbrev pub Ends : ℕ → ℕ → Class → Type 0
  Ends i t c = (a : ℕ) × (before i ≡ Some (Head t)) × (slice_get ws i ≡ Some (Data (Some c) a))

  -- What a word asks of its place: a head that data follows, a silence that it is not 0, and data that it follows a head
  -- and has a class.
  abbrev pub Fits : ℕ → Word → Type 0
  Fits i (Floor t) = Unit {0}
  Fits i (Head t) = (c : Option Class) × (a : ℕ) × (slice_get ws (suc i) ≡ Some (Data c a))
  Fits i (Silence n) = 0 < n
  Fits i (Data c a) = (t : ℕ) × (before i ≡ Some (Head t)) × (is_some c ≡ true)

  -- the word at a place, if there is one, may stand there
  abbrev pub InPlace : ℕ → Type 0
  InPlace i = (w : Word) → slice_get ws i ≡ Some w → Fits i w

  -- the word at a place does not fall below those before it
  pub record Rising (i : ℕ) : Type 0 where
    -- no floor or record has an instant below an earlier one
    pub instant : (j t u : ℕ) → j < i → Timed j t → Timed i u → t ≤ u
    -- at one instant no record has a class below an earlier one
    pub class : (j t : ℕ) (c d : Class) → j < i → Ends j t c → Ends i t d → rank c ≤ rank d

  -- a place keeps the rules
  abbrev pub Stands : ℕ → Type 0
  Stands i = InPlace i × Rising i

  -- each place left of i does
  abbrev pub StandsTo : ℕ → Type 0
  StandsTo i = (j : ℕ) → j < i → Stands j

  -- the leftmost place that breaks a rule has a word out of its place
  abbrev pub FirstMisplaced : ℕ → Type 0
  FirstMisplaced i = StandsTo i × (InPlace i → ⊥)

  -- or else one that falls
  abbrev pub FirstFalling : ℕ → Type 0
  FirstFalling i = StandsTo i × InPlace i × (Rising i → ⊥)

-- A log's first word has kind 3, zeros in bits 29 to 10, and the post in the others.
abbrev pub HeaderWord : ℕ → Type 0
HeaderWord h = h / 0x400 ≡ 0x30_0000

-- Its second word is the number of words after it, at most 16,382.
pub record CountWord (n : ℕ) (body : List ℕ) : Type 0 where
  pub count : n ≡ length body
  pub few : n ≤ 16382

abbrev pub Headed : ℕ → ℕ → List ℕ → Type 0
Headed h n body = HeaderWord h × CountWord n body

-- The words are a log.
abbrev pub Lawful : List ℕ → Type 0
Lawful [] = ⊥
Lawful (h ∷ []) = ⊥
Lawful (h ∷ n ∷ body) = Headed h n body × ((i : ℕ) → Stands (map word_of body) i)

-- The words are refused, by a number and at a place that counts from the log's first word: by the header, or else by the
-- leftmost place of the body that breaks a rule.
pub data Refused : List ℕ → ℕ → ℕ → Type 0 where
  no_word : Refused [] (number TooShort) (place TooShort)
  one_word : {h : ℕ} → Refused (h ∷ []) (number TooShort) (place TooShort)
  bad_header : {h n : ℕ} {body : List ℕ} → (HeaderWord h → ⊥) → Refused (h ∷ n ∷ body) (number BadHeader) (place BadHeader)
  bad_count : {h n : ℕ} {body : List ℕ} → HeaderWord h → (CountWord n body → ⊥) → Refused (h ∷ n ∷ body) (number BadCount) (place BadCount)
  misplaced : {h n i : ℕ} {body : List ℕ} → Headed h n body → FirstMisplaced (map word_of body) i → Refused (h ∷ n ∷ body) (number (Misplaced (i + 2))) (place (Misplaced (i + 2)))
  falling : {h n i : ℕ} {body : List ℕ} → Headed h n body → FirstFalling (map word_of body) i → Refused (h ∷ n ∷ body) (number (Falling (i + 2))) (place (Falling (i + 2)))

-- The answer v to the words, a refusal or none, is what the rules give, and the rules give nothing else.
pub record Decided (ws : List ℕ) (v : Option Refusal) : Type 0 where
  pub ruled : MatchOption v (Lawful ws) (λ e. Refused ws (number e) (place e))
  pub accepted : Lawful ws → v ≡ None
  pub refused : (n p : ℕ) → Refused ws n p → MatchOption v ⊥ (λ e. (number e ≡ n) × (place e ≡ p))
