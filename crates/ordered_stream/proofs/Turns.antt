-- SPDX-License-Identifier: MIT OR Apache-2.0
-- Records that are handed out in the order of their list.
use Rattle.std.proofs.Common.{List, arith}
use Rattle.ordered_stream.specs.declared.answer.Answer.{Answer}
use Rattle.ordered_stream.specs.Meaning.{Leaves, InTurn}
use Rattle.ordered_stream.proofs.Bags.{same_path}

pub leaves_in_turn : {O D : Type 0} (xs : List (O × D)) (r : Answer O D) (ys : List (O × D)) → InTurn xs r ys → Leaves xs r ys
leaves_in_turn xs r ys e = grind (arith, same_path)
