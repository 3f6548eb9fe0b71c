-- SPDX-License-Identifier: MIT OR Apache-2.0
-- What the bits of a word say. Assumes nothing.
use Rattle.std.specs.Prelude.{ℕ, ◌+◌, ◌*◌, ◌/◌, ◌%◌, ◌^◌, ◌<◌, Bool, true, false, cond, List, drop, Some, None, ◌==◌, slice_index}
use Rattle.post_log.specs.declared.word.Word.{Word}
use Rattle.post_log.specs.declared.word.Word.TheVariants.{Floor, Head, Silence, Data}
use Rattle.post_log.specs.Classes.{class, code}

-- bits 31 and 30
abbrev pub kind : ℕ → ℕ
kind w = w / 0x4000_0000

-- bits 29 to 0
abbrev pub low : ℕ → ℕ
low w = w % 0x4000_0000

-- a word of a body by its kind; in data, bits 29 and 28 are the class and the others the amount
abbrev pub word_of : ℕ → Word
word_of w =
    cond (kind w == 0) (Floor (low w))
    (cond (kind w == 1) (Head (low w))
    (cond (kind w == 2) (Silence (low w))
    (Data (class (low w / 0x1000_0000)) (low w % 0x1000_0000))))

-- the other way: a word's bits
abbrev pub bits : Word → ℕ
bits (Floor t) = t
bits (Head t) = 0x4000_0000 + t
bits (Silence n) = 0x8000_0000 + n
bits (Data None a) = 0xF000_0000 + a
bits (Data (Some c) a) = 0xC000_0000 + 0x1000_0000 * code c + a

abbrev pub is_data : Word → Bool
is_data (Floor t) = false
is_data (Head t) = false
is_data (Silence n) = false
is_data (Data c a) = true

-- the post, bits 9 to 0 of a log's first word
abbrev pub post : List ℕ → ℕ
post ws = slice_index ws 0 % 0x400

-- the words after the header
abbrev pub body : List ℕ → List ℕ
body ws = drop 2 ws

-- each is of 32 bits
abbrev pub Narrow : List ℕ → Type 0
Narrow ws = (i : ℕ) → slice_index ws i < 2 ^ 32
