-- SPDX-License-Identifier: MIT OR Apache-2.0
-- The words in bytes, and the bytes in words.
use Rattle.std.proofs.Common.{◌≡◌, ℕ, suc, zero, ◌/◌, ◌%◌, ◌<◌, List, [], ◌∷◌, length, map, get_or, refl, arith}
use Rattle.std.proofs.lemmas.Nat.{be_bytes_4}
use Rattle.std.specs.Simd.{first_chunks}
use Rattle.feed.specs.Inputs.{word, words_of, spelled}

-- the words, four bytes at a time
pub words_of_fours : (bs : List ℕ) → map word (first_chunks 4 (length bs / 4) bs) ≡ words_of bs
words_of_fours [] = refl
words_of_fours (a ∷ []) = refl
words_of_fours (a ∷ b ∷ []) = refl
words_of_fours (a ∷ b ∷ c ∷ []) = refl
words_of_fours (a ∷ b ∷ c ∷ d ∷ bs) =
    let one_more : length (a ∷ b ∷ c ∷ d ∷ bs) / 4 ≡ suc (length bs / 4) = omega arith in
    rw one_more (cc (words_of_fours bs))

-- the bytes of words made of bytes are those bytes
pub spelled_words : (bs : List ℕ) → ((i : ℕ) → get_or bs i 0 < 256) → length bs % 4 ≡ 0 → spelled (words_of bs) ≡ bs
spelled_words [] h e = refl
spelled_words (a ∷ []) h e = grind arith
spelled_words (a ∷ b ∷ []) h e = grind arith
spelled_words (a ∷ b ∷ c ∷ []) h e = grind arith
spelled_words (a ∷ b ∷ c ∷ d ∷ bs) h e =
    let first = be_bytes_4 (a ∷ b ∷ c ∷ d ∷ []) (word (a ∷ b ∷ c ∷ d ∷ [])) refl (λ i. small i) refl in
    cc (first, spelled_words bs (λ i. h (suc (suc (suc (suc i))))) (omega (arith, e)))
  where
    small : (i : ℕ) → get_or (a ∷ b ∷ c ∷ d ∷ []) i 0 < 256
    small zero = h 0
    small (suc zero) = h 1
    small (suc (suc zero)) = h 2
    small (suc (suc (suc zero))) = h 3
    small (suc (suc (suc (suc i)))) = omega arith
