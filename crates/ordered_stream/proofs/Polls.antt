-- SPDX-License-Identifier: MIT OR Apache-2.0
-- A loop that polls without a bound ends, and then nothing is to come.
use Rattle.std.proofs.Common.{◌≡◌, ℕ, ◌+◌, ◌<◌, ◌⊎◌, [], length, None, Ordering, inl, inr, arith}
use Rattle.std.proofs.lemmas.Bool.{false≢true}
use Rattle.ordered_stream.specs.declared.answer.Answer.{Answer}
use Rattle.ordered_stream.specs.declared.answer.Answer.TheVariants.{Item, NoneBefore, Terminated, Pending}
use Rattle.ordered_stream.specs.Streams.{Stream, IsStream}
use Rattle.ordered_stream.proofs.Bags.{same_length, same_none}

-- the most polls that an item or Pending answers
abbrev pub left : {S O D : Type 0} → Stream S O D → S → ℕ
left K s = length (K.records s) + K.waits s

module _ {S O D : Type 0} (cmp : O → O → Ordering) (K : Stream S O D) (laws : IsStream cmp K) (s t : S) where
  pub item_less : (o : O) (d : D) → K.answers s None (Item o d) t → left K t < left K s
  item_less o d a = let h = laws.takes s None (Item o d) t a in omega (arith, same_length h.0, h.1)

  pub pending_less : K.answers s None Pending t → left K t < left K s
  pending_less a = let h = laws.takes s None Pending t a in omega (arith, same_length h.0, h.1)

  -- where neither comes, nothing was to come
  pub none_came : (r : Answer O D) → K.sound s → K.answers s None r t → (r ≡ NoneBefore) ⊎ (r ≡ Terminated) → K.records s ≡ []
  none_came (Item o d) k a (inl e) = absurd (false≢true (cc))
  none_came (Item o d) k a (inr e) = absurd (false≢true (cc))
  none_came NoneBefore k a e = absurd (laws.takes s None NoneBefore t a).1
  none_came Terminated k a e = same_none (laws.takes s None Terminated t a).0 (laws.tells s None Terminated t k a)
  none_came Pending k a (inl e) = absurd (false≢true (cc))
  none_came Pending k a (inr e) = absurd (false≢true (cc))
