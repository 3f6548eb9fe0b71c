-- SPDX-License-Identifier: MIT OR Apache-2.0
use Rattle.std.proofs.Common.{◌≡◌, ◌%◌, length, IfOk, ap, ◌∙◌, rules}
use Rattle.std.proofs.lemmas.Result.{IfOk-weaker}
use Rattle.feed.specs.Inputs.{words_of, spelled}
use Rattle.feed.proofs.Bytes.{words_of_fours, spelled_words}
use Rattle.feed.proofs.input.words.Goals as goal

pub returns : goal.returns
returns c =
    let bs = c.args.bytes.now in
    let value : IfOk c.collect.result (λ v. v.items ≡ words_of bs) = rw (← words_of_fours bs) (search rules) in
    let spelled_back = spelled_words bs (λ i. (c.type_inv.bytes i).fits) in
    record {
      value = value;
      whole = IfOk-weaker c.collect.result (λ v. v.items ≡ words_of bs) (λ v. length bs % 4 ≡ 0 → spelled v.items ≡ bs) (λ v e fours. ap spelled e ∙ spelled_back fours) value;
    }
