-- SPDX-License-Identifier: MIT OR Apache-2.0
-- What the words of a log's body say. Assumes nothing.
use Rattle.std.specs.Prelude.{◌≡◌, ℕ, ◌+◌, ◌<◌, ◌≤◌, List, [], ◌∷◌, map, length, take, drop, Some, None, Option}
use Rattle.std.specs.List.{AllByRecursion, flat_map, slice_get}
use Rattle.post_log.specs.declared.class.Class.{Class}
use Rattle.post_log.specs.declared.entry.Entry.{Entry}
use Rattle.post_log.specs.declared.entry.Entry.TheVariants.{Record, Floor as FloorAt, Silence as Silent}
use Rattle.post_log.specs.declared.word.Word.{Word}
use Rattle.post_log.specs.declared.word.Word.TheVariants.{Floor, Head, Silence, Data}
use Rattle.post_log.specs.Classes.{rank}
use Rattle.post_log.specs.Verdict.{Passes}
use Rattle.post_log.specs.Words.{word_of, bits}

-- the entries of words in turn, up to a word that begins none; their records are numbered from n
abbrev pub entries : ℕ → List Word → List Entry
entries n [] = []
entries n (Floor t ∷ ws) = FloorAt t ∷ entries n ws
entries n (Silence k ∷ ws) = Silent k ∷ entries n ws
entries n (Data c a ∷ ws) = []
entries n (Head t ∷ []) = []
entries n (Head t ∷ Floor u ∷ ws) = []
entries n (Head t ∷ Head u ∷ ws) = []
entries n (Head t ∷ Silence k ∷ ws) = []
entries n (Head t ∷ Data None a ∷ ws) = []
entries n (Head t ∷ Data (Some c) a ∷ ws) = Record t c n a ∷ entries (n + 1) ws

-- the words of an entry
abbrev pub spelled : Entry → List Word
spelled (FloorAt t) = Floor t ∷ []
spelled (Silent k) = Silence k ∷ []
spelled (Record t c n a) = Head t ∷ Data (Some c) a ∷ []

-- and of entries in turn
abbrev pub spelling : List Entry → List Word
spelling es = flat_map spelled es

-- how many of them are records
abbrev pub records : List Entry → ℕ
records [] = 0
records (FloorAt t ∷ es) = records es
records (Silent k ∷ es) = records es
records (Record t c n a ∷ es) = 1 + records es

-- an instant has 30 bits and an amount 28, and a silence is of one poll or more
abbrev pub Sized : Entry → Type 0
Sized (FloorAt t) = t < 0x4000_0000
Sized (Silent k) = 0 < k
Sized (Record t c n a) = (t < 0x4000_0000) × (a < 0x1000_0000)

-- of words that pass each entry is so, from any place on
abbrev pub EachSized : Type 0
EachSized = (ws : List ℕ) → Passes ws → (n place : ℕ) → AllByRecursion Sized (entries n (map word_of (drop place ws)))

-- The words ws begin with the entry e: the words after its own say the others.
pub record Leads (n : ℕ) (ws : List ℕ) (e : Entry) : Type 0 where
  pub first : entries n (map word_of ws) ≡ e ∷ entries (n + records (e ∷ [])) (map word_of (drop (length (spelled e)) ws))
  pub within : length (spelled e) ≤ length ws
  pub no_more_records : records (e ∷ []) ≤ length (spelled e)

-- they begin with an entry or with none
abbrev pub Begins : ℕ → List ℕ → Option Entry → Type 0
Begins n ws None = entries n (map word_of ws) ≡ []
Begins n ws (Some e) = Leads n ws e

-- the first of the entries of words is what the words begin with
abbrev pub FirstBegins : Type 0
FirstBegins = (n : ℕ) (ws : List ℕ) (r : Option Entry) → r ≡ slice_get (entries n (map word_of ws)) 0 → Begins n ws r

-- An entry may stand before another: no instant falls, and at one instant no class.
abbrev pub NotAbove : Entry → Entry → Type 0
NotAbove (FloorAt t) (FloorAt u) = t ≤ u
NotAbove (FloorAt t) (Record u c n a) = t ≤ u
NotAbove (FloorAt t) (Silent k) = Unit {0}
NotAbove (Silent k) f = Unit {0}
NotAbove (Record t c n a) (FloorAt u) = t ≤ u
NotAbove (Record t c n a) (Record u d m b) = (t ≤ u) × (t ≡ u → rank c ≤ rank d)
NotAbove (Record t c n a) (Silent k) = Unit {0}

-- the entries of a body's words, its records numbered from 0
abbrev pub entries_of : List ℕ → List Entry
entries_of ws = entries 0 (map word_of ws)

-- What a body says: the words of its entries, bit by bit, are exactly its words; none falls below an earlier one; and each
-- record's number is the count of the records before it.
pub record Told (ws : List ℕ) : Type 0 where
  pub whole : map bits (spelling (entries_of ws)) ≡ ws
  pub rising : (j k : ℕ) (e f : Entry) → j < k → slice_get (entries_of ws) j ≡ Some e → slice_get (entries_of ws) k ≡ Some f → NotAbove e f
  pub counted : (k t n a : ℕ) (c : Class) → slice_get (entries_of ws) k ≡ Some (Record t c n a) → n ≡ records (take k (entries_of ws))
