-- SPDX-License-Identifier: MIT OR Apache-2.0
use Rattle.std.proofs.Common.{◌≡◌, ◌%◌, length, string_bytes, ap, ◌∙◌, arith}
use Rattle.std.specs.Result.{result_map_both}
use Rattle.feed.specs.Inputs.{first_log, later_words}
use Rattle.feed.proofs.Whole.{listing_given}
use Rattle.feed.proofs.listing.list.Goals as goal

pub returns : goal.returns
returns c =
    let fours : length c.args.input.now % 4 ≡ 0 = omega arith in
    let words = c.as_slice.ensures.value ∙ c.in_ok-words.ensures.value in
    let both = listing_given c.args.input.now c.first_log.result.0 c.in_ok-log.log c.first_log.result.1.now
    (record {
      small = omega arith;
      fours = fours;
      whole = rw c.in_ok-words.ensures.value at (c.in_ok-words.ensures.whole fours);
      first = c.first_log.ensures.log ∙ ap first_log words;
      others = c.first_log.ensures.later ∙ ap later_words words;
      checks = c.in_ok-log.ensures;
    })
    (result_map_both string_bytes (λ f. f) c.list_only.result) c.list_only.ensures in
    record { value = both.0; ruled = both.1 }
