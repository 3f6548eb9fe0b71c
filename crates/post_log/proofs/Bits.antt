-- SPDX-License-Identifier: MIT OR Apache-2.0
-- A word is its bits.
use Rattle.std.proofs.Common.{◌≡◌, ℕ, suc, ◌^◌, ◌<◌, List, [], ◌∷◌, map, refl, arith}
use Rattle.std.proofs.lemmas.Bool.Decides.{nat_tests}
use Rattle.post_log.specs.Words.{word_of, bits, Narrow}

-- the bits of a word taken apart are the word
bits_word : (w : ℕ) → w < 2 ^ 32 → bits (word_of w) ≡ w
bits_word w h = grind (arith, nat_tests)

pub bits_words : (ws : List ℕ) → Narrow ws → map bits (map word_of ws) ≡ ws
bits_words [] h = refl
bits_words (w ∷ ws) h = let first = bits_word w (h 0) in let rest = bits_words ws (λ i. h (suc i)) in cc
