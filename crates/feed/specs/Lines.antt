-- SPDX-License-Identifier: MIT OR Apache-2.0
-- The text of a listing. Assumes nothing.
use Rattle.std.specs.Prelude.{ℕ, List, [], ◌∷◌, ◌++◌, Some, None, Option, codes, decimal}
use Rattle.std.specs.List.{filter_map, flat_map, join_by}
use Rattle.post_log.specs.declared.entry.Entry.{Entry}
use Rattle.post_log.specs.declared.entry.Entry.TheVariants.{Floor, Silence, Record}
use Rattle.post_log.specs.Classes.{code}
use Rattle.post_log.specs.Entries.{entries_of}
use Rattle.post_log.specs.Words.{post, body}
use Rattle.feed.specs.declared.line.Line.{Line}

-- numbers in decimal, with single spaces between
abbrev pub spaced : List ℕ → List ℕ
spaced ns = join_by decimal (codes " ") ns

abbrev pub line : Line → List ℕ
line x = spaced (x.instant ∷ code x.class ∷ x.post ∷ x.number ∷ x.amount ∷ [])

-- the line that a post's entry has, if it is a record
abbrev pub line_of : ℕ → Entry → Option Line
line_of p (Floor t) = None
line_of p (Silence k) = None
line_of p (Record t c n a) = Some (record { instant = t; class = c; post = p; number = n; amount = a })

-- a line for each record of a post, in turn
abbrev pub listing : ℕ → List Entry → List ℕ
listing p es = flat_map (λ l. line l ++ codes "\n") (filter_map (line_of p) es)

-- the listing of a log's words
abbrev pub listing_of : List ℕ → List ℕ
listing_of ws = listing (post ws) (entries_of (body ws))
