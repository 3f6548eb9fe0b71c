-- SPDX-License-Identifier: MIT OR Apache-2.0
-- The words in bytes, and the logs in words. Assumes nothing.
use Rattle.std.specs.Prelude.{ℕ, ◌+◌, min, List, [], ◌∷◌, length, take, drop}
use Rattle.std.specs.Int.{from_be_bytes, to_be_bytes, w32}
use Rattle.std.specs.List.{flat_map}

-- the word in four bytes, the highest first
abbrev pub word : List ℕ → ℕ
word = from_be_bytes w32

-- four bytes to a word
abbrev pub words_of : List ℕ → List ℕ
words_of [] = []
words_of (a ∷ []) = []
words_of (a ∷ b ∷ []) = []
words_of (a ∷ b ∷ c ∷ []) = []
words_of (a ∷ b ∷ c ∷ d ∷ bs) = word (a ∷ b ∷ c ∷ d ∷ []) ∷ words_of bs

-- the bytes of words, four each, the highest first
abbrev pub spelled : List ℕ → List ℕ
spelled ws = flat_map (to_be_bytes w32) ws

-- how many words the first log has: its header and the body that its second word names, or all that remains
abbrev pub log_length : List ℕ → ℕ
log_length [] = 0
log_length (h ∷ []) = 1
log_length (h ∷ n ∷ ws) = 2 + min n (length ws)

abbrev pub first_log : List ℕ → List ℕ
first_log ws = take (log_length ws) ws

abbrev pub later_words : List ℕ → List ℕ
later_words ws = drop (log_length ws) ws
