-- SPDX-License-Identifier: MIT OR Apache-2.0
use Rattle.std.proofs.Common.{arith}
use Rattle.ordered_stream.specs.Bags.Same.{none}
use Rattle.ordered_stream.proofs.maybe.OptionOrderedStream.meaning.Goals as goal

pub returns : goal.returns
returns g c =
    let laws = c.meaning.ensures in
    record {
      takes = λ p b r q a. grind (arith, laws.takes, none);
      tells = λ p b r q s a. grind (arith, laws.tells);
      keeps = λ p b r q s a. grind (arith, laws.keeps);
      hints = λ p s. grind (arith, laws.hints);
    }
