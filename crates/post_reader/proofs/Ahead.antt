-- SPDX-License-Identifier: MIT OR Apache-2.0
-- The entry at a reader's place.
use Rattle.std.proofs.Common.{◌≡◌, ℕ, ◌+◌, ◌<◌, true, List, [], ◌∷◌, map, length, Some, None, Option, sym, ap, ◌∙◌, subst, arith, length-drop, drop-drop}
use Rattle.std.specs.List.{AllByRecursion}
use Rattle.std.proofs.lemmas.List.{nil_from_length}
use Rattle.std.proofs.lemmas.Bool.{eqb-true}
use Rattle.post_log.specs.declared.entry.Entry.{Entry}
use Rattle.post_log.specs.Entries.{entries, spelled, records, Sized, EachSized, Begins}
use Rattle.post_log.specs.Words.{word_of}
use Rattle.post_reader.specs.declared.reader.Reader.{Reader}
use Rattle.post_reader.specs.Readers.{words_of, unread_of, all_read, reader_records, Next}

some_word : (e : Entry) → 0 < length (spelled e)
some_word e = grind arith

-- what the unread words begin with, by the words of the reader
pub next_by : EachSized → (r : Reader) (u : List ℕ) (e : Option Entry) → u ≡ unread_of r → Begins r.number u e → Next r e
next_by sized r u None same h = ap (λ l. entries r.number (map word_of l)) (sym same) ∙ h
next_by sized r u (Some e) same h =
    let s = subst (λ l. Begins r.number l (Some e)) same h in
    record {
      first = s.first ∙ ap (λ l. e ∷ entries (r.number + records (e ∷ [])) (map word_of l)) (drop-drop (length (spelled e)) r.place (words_of r));
      within = omega (arith, s.within, length-drop r.place (words_of r), some_word e);
      no_more_records = s.no_more_records;
      sized = (subst (AllByRecursion Sized) s.first (sized (words_of r) r.log.lawful r.number r.place)).0;
    }

-- where no word is left, nothing is to come
pub none_ahead : (r : Reader) → all_read r ≡ true → reader_records r ≡ []
none_ahead r h =
    grind (arith, eqb-true (length (unread_of r)) 0, nil_from_length (unread_of r))
