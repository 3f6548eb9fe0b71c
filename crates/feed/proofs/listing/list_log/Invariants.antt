-- SPDX-License-Identifier: MIT OR Apache-2.0
use Rattle.std.proofs.Common.{◌≡◌, ◌++◌, string_bytes}
use Rattle.post_log.specs.Steps.{shown}
use Rattle.post_log.specs.Words.{post}
use Rattle.feed.specs.Lines.{listing, listing_of}
use Rattle.feed.proofs.listing.list_log.Given as goal

-- The text so far, before the lines of the entries to come, is the listing.
abbrev pub invariant-loop-entry : goal.invariant-loop-entry
invariant-loop-entry l =
    string_bytes l.text ++ listing (post l.log.words.now) (shown l.entry-iterator) ≡ listing_of l.log.words.now
