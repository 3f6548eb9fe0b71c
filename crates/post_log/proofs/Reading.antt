-- SPDX-License-Identifier: MIT OR Apache-2.0
-- The first entry of words, and the entries after it.
use Rattle.std.proofs.Common.{◌≡◌, ℕ, ◌+◌, ◌<◌, ◌≤◌, List, [], ◌∷◌, map, length, drop, Some, None, Option, sym, refl, ap, ◌∙◌, subst, add-zero, arith}
use Rattle.std.proofs.lemmas.List.{drop-map, length-map, take_rest}
use Rattle.std.specs.List.{between, slice_get}
use Rattle.post_log.specs.declared.entry.Entry.{Entry}
use Rattle.post_log.specs.declared.entry.Entry.TheVariants.{Floor as FloorAt, Silence as Silent}
use Rattle.post_log.specs.declared.word.Word.{Word}
use Rattle.post_log.specs.declared.word.Word.TheVariants.{Floor, Head, Silence, Data}
use Rattle.post_log.specs.Words.{word_of}
use Rattle.post_log.specs.Entries.{entries, spelled, records, Begins, FirstBegins}

-- an entry takes a word or more for each record in it
narrow : (e : Entry) → records (e ∷ []) ≤ length (spelled e)
narrow e = grind arith

module _ (n : ℕ) where
  -- an entry, and those of the words after it
  abbrev SplitsOff : List Word → Option Entry → Type 0
  SplitsOff ws None = entries n ws ≡ []
  SplitsOff ws (Some e) = (entries n ws ≡ e ∷ entries (n + records (e ∷ [])) (drop (length (spelled e)) ws)) × (length (spelled e) ≤ length ws)

  splits : (ws : List Word) → SplitsOff ws (slice_get (entries n ws) 0)
  splits [] = refl
  splits (Floor t ∷ ws) = (ap (λ m. FloorAt t ∷ entries m ws) (sym (add-zero n)), omega arith)
  splits (Silence k ∷ ws) = (ap (λ m. Silent k ∷ entries m ws) (sym (add-zero n)), omega arith)
  splits (Data c a ∷ ws) = refl
  splits (Head t ∷ []) = refl
  splits (Head t ∷ Floor u ∷ ws) = refl
  splits (Head t ∷ Head u ∷ ws) = refl
  splits (Head t ∷ Silence k ∷ ws) = refl
  splits (Head t ∷ Data None a ∷ ws) = refl
  splits (Head t ∷ Data (Some c) a ∷ ws) = (refl, omega arith)

  -- an entry and those after it, of words that are not taken apart
  begins_from : (ws : List ℕ) (r : Option Entry) → SplitsOff (map word_of ws) r → Begins n ws r
  begins_from ws None s = s
  begins_from ws (Some e) s =
      record {
        first = s.0 ∙ ap (λ v. e ∷ entries (n + records (e ∷ [])) v) (drop-map word_of (length (spelled e)) ws);
        within = omega (arith, s.1, length-map ws word_of);
        no_more_records = narrow e;
      }

pub first_begins : FirstBegins
first_begins n ws r e = begins_from n ws r (subst (SplitsOff n (map word_of ws)) (sym e) (splits n (map word_of ws)))

-- the words after the first entry have the others
pub after_first : (n : ℕ) (ws : List ℕ) (e : Entry) → Some e ≡ slice_get (entries n (map word_of ws)) 0 → entries n (map word_of ws) ≡ e ∷ entries (n + records (e ∷ [])) (map word_of (between (length (spelled e)) (length ws) ws))
after_first n ws e h = rw (take_rest ws (length (spelled e))) (first_begins n ws (Some e) h).first

pub fewer_after : (n : ℕ) (ws : List ℕ) (e : Entry) → Some e ≡ slice_get (entries n (map word_of ws)) 0 → length (entries (n + records (e ∷ [])) (map word_of (between (length (spelled e)) (length ws) ws))) < length (entries n (map word_of ws))
fewer_after n ws e h = let all = ap length (after_first n ws e h) in omega arith

-- what is known of the first entry
pub ruleset first_entry = (first_begins, after_first, fewer_after)
