-- SPDX-License-Identifier: MIT OR Apache-2.0
-- What holds of each entry of a log's words, from any place on.
use Rattle.std.proofs.Common.{◌≡◌, ℕ, suc, ◌+◌, ◌<◌, List, [], ◌∷◌, map, drop, Some, None, refl, ap, subst, arith}
use Rattle.std.proofs.lemmas.Bool.Decides.{nat_tests}
use Rattle.std.proofs.lemmas.List.{drop-map}
use Rattle.std.proofs.lemmas.List.Elements.{All-drop, All-from_recursion, recursion_from_All}
use Rattle.std.specs.List.{AllByRecursion, slice_get}
use Rattle.post_log.specs.declared.word.Word.{Word}
use Rattle.post_log.specs.declared.word.Word.TheVariants.{Floor, Head, Silence, Data}
use Rattle.post_log.specs.Entries.{entries, Sized, EachSized}
use Rattle.post_log.specs.Rules.{Lawful}
use Rattle.post_log.specs.Words.{kind, low, word_of}
use Rattle.post_log.proofs.Whole.{lawful_from_passes}

-- the same of a word
abbrev Good : Word → Type 0
Good (Floor t) = t < 0x4000_0000
Good (Head t) = t < 0x4000_0000
Good (Silence k) = 0 < k
Good (Data c a) = a < 0x1000_0000

-- every word is so, if its silence is of one poll or more
good_word : (w : ℕ) → (kind w ≡ 2 → 0 < low w) → Good (word_of w)
good_word w h = grind (arith, nat_tests)

silence_word : (w : ℕ) → kind w ≡ 2 → word_of w ≡ Silence (low w)
silence_word w e = rw e refl

entries_sized : (n : ℕ) (ws : List Word) → AllByRecursion Good ws → AllByRecursion Sized (entries n ws)
entries_sized n [] g = tt
entries_sized n (Floor t ∷ ws) g = (g.0, entries_sized n ws g.1)
entries_sized n (Silence k ∷ ws) g = (g.0, entries_sized n ws g.1)
entries_sized n (Data c a ∷ ws) g = tt
entries_sized n (Head t ∷ []) g = tt
entries_sized n (Head t ∷ Floor u ∷ ws) g = tt
entries_sized n (Head t ∷ Head u ∷ ws) g = tt
entries_sized n (Head t ∷ Silence k ∷ ws) g = tt
entries_sized n (Head t ∷ Data None a ∷ ws) g = tt
entries_sized n (Head t ∷ Data (Some c) a ∷ ws) g = ((g.0, g.1.0), entries_sized (n + 1) ws g.1.1)

good_body : (ws : List ℕ) → ((i k : ℕ) → slice_get (map word_of ws) i ≡ Some (Silence k) → 0 < k) → AllByRecursion Good (map word_of ws)
good_body [] h = tt
good_body (w ∷ ws) h = (good_word w (λ e. h 0 (low w) (ap Some (silence_word w e))), good_body ws (λ i. h (suc i)))

-- the header's words are no silences, and no silence of a lawful body is of 0 polls
lawful_good : (ws : List ℕ) → Lawful ws → AllByRecursion Good (map word_of ws)
lawful_good [] l = absurd l
lawful_good (h ∷ []) l = absurd l
lawful_good (h ∷ n ∷ ws) l =
    let head = l.0.0 in
    let few = l.0.1.few in
    (good_word h (λ e. omega arith), (good_word n (λ e. omega arith), good_body ws (λ i k. (l.1 i).0 (Silence k))))

pub each_sized : EachSized
each_sized ws p n place =
    let all = All-drop Good place (map word_of ws) (All-from_recursion Good (map word_of ws) (lawful_good ws (lawful_from_passes ws p))) in
    entries_sized n (map word_of (drop place ws)) (subst (AllByRecursion Good) (drop-map word_of place ws) (recursion_from_All Good (drop place (map word_of ws)) all))
