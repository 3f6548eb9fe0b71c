-- SPDX-License-Identifier: MIT OR Apache-2.0
-- What an answer gives when it is taken apart. Assumes nothing.
use Rattle.std.specs.Prelude.{Some, None, Ok, Err, Option, Result}
use Rattle.std.specs.Result.{result_map_both}
use Rattle.ordered_stream.specs.declared.answer.Answer.{Answer}
use Rattle.ordered_stream.specs.declared.answer.Answer.TheVariants.{Item, NoneBefore, Terminated, Pending}

abbrev pub into_data : {O D : Type 0} → Answer O D → Option D
into_data (Item o d) = Some d
into_data NoneBefore = None
into_data Terminated = None
into_data Pending = None

abbrev pub into_tuple : {O D : Type 0} → Answer O D → Option (O × D)
into_tuple (Item o d) = Some (o, d)
into_tuple NoneBefore = None
into_tuple Terminated = None
into_tuple Pending = None

abbrev pub map_data : {O D E : Type 0} → (D → E) → Answer O D → Answer O E
map_data f (Item o d) = Item o (f d)
map_data f NoneBefore = NoneBefore
map_data f Terminated = Terminated
map_data f Pending = Pending

-- an error leaves with its ordering
abbrev pub transpose_result_item : {O D E : Type 0} → Answer O (Result D E) → Result (Answer O D) (O × E)
transpose_result_item (Item o (Ok d)) = Ok (Item o d)
transpose_result_item (Item o (Err e)) = Err (o, e)
transpose_result_item NoneBefore = Ok NoneBefore
transpose_result_item Terminated = Ok Terminated
transpose_result_item Pending = Ok Pending

-- or without it
abbrev pub transpose_result : {O D E : Type 0} → Answer O (Result D E) → Result (Answer O D) E
transpose_result a = result_map_both (λ b. b) (λ e. e.1) (transpose_result_item a)
