-- SPDX-License-Identifier: MIT OR Apache-2.0
-- What a stream's answers mean. Assumes nothing.
use Rattle.std.specs.Prelude.{◌≡◌, ℕ, ◌<◌, ◌≤◌, List, [], ◌∷◌, Some, None, Option, IfSome, ◌≢◌}
use Rattle.std.specs.declared.cmp.Ordering.TheVariants.{Less}
use Rattle.std.specs.declared.cmp.Ordering.{Ordering}
use Rattle.std.specs.List.{AllByRecursion}
use Rattle.ordered_stream.specs.declared.answer.Answer.{Answer}
use Rattle.ordered_stream.specs.declared.answer.Answer.TheVariants.{Item, NoneBefore, Terminated, Pending}
use Rattle.ordered_stream.specs.Bags.{Same}

-- What an answer leaves of the records to come, xs before it and ys after it: an item takes its record, any other nothing.
abbrev pub Leaves : {O D : Type 0} → List (O × D) → Answer O D → List (O × D) → Type 0
Leaves xs (Item o d) ys = Same xs ((o, d) ∷ ys)
Leaves xs NoneBefore ys = Same xs ys
Leaves xs Terminated ys = Same xs ys
Leaves xs Pending ys = Same xs ys

-- What an answer under a bound spends of the waits, w before it and v after it: Pending at least one. And only under a bound
-- may it be NoneBefore.
abbrev pub Spends : {O D : Type 0} → ℕ → Option O → Answer O D → ℕ → Type 0
Spends w b (Item o d) v = v ≤ w
Spends w None NoneBefore v = ⊥
Spends w (Some b) NoneBefore v = v ≤ w
Spends w b Terminated v = v ≤ w
Spends w b Pending v = v < w

-- what an answer takes, of any stream
abbrev pub Takes : {O D : Type 0} → List (O × D) → ℕ → Option O → Answer O D → List (O × D) → ℕ → Type 0
Takes xs w b r ys v = Leaves xs r ys × Spends w b r v

-- The records are handed out in the order of their list: an item is the first of them.
abbrev pub InTurn : {O D : Type 0} → List (O × D) → Answer O D → List (O × D) → Type 0
InTurn xs (Item o d) ys = xs ≡ (o, d) ∷ ys
InTurn xs NoneBefore ys = xs ≡ ys
InTurn xs Terminated ys = xs ≡ ys
InTurn xs Pending ys = xs ≡ ys

-- every answer of a kind of stream does so
abbrev pub HandsInTurn : {S O D : Type 0} → (S → List (O × D)) → (S → Option O → Answer O D → S → Type 0) → Type 0
HandsInTurn {S} {O} {D} records answers = (s : S) (b : Option O) (r : Answer O D) (t : S) → answers s b r t → InTurn (records s) r (records t)

module _ {O D : Type 0} (cmp : O → O → Ordering) where
  -- no record's ordering is below o
  abbrev pub NoneBelow : O → List (O × D) → Type 0
  NoneBelow o = AllByRecursion (λ x. cmp x.0 o ≢ Less)

  -- a position, if there is one, is above no record's ordering
  abbrev pub Lower : Option O → List (O × D) → Type 0
  Lower p xs = IfSome p (λ o. NoneBelow o xs)

  -- What an answer of a sound stream tells of the records that are still to come.
  abbrev pub Tells : Option O → Answer O D → List (O × D) → Type 0
  Tells b (Item o d) ys = NoneBelow o ys
  Tells b NoneBefore ys = Lower b ys
  Tells b Terminated ys = ys ≡ []
  Tells b Pending ys = Unit {0}

  -- What is asked of every stream. `takes` holds of any value of the type, so that nothing is lost and every loop ends whatever
  -- it is called on; the rest holds of a sound one.
  pub record StreamLaws {S : Type 0} (records : S → List (O × D)) (waits : S → ℕ) (sound : S → Type 0) (answers : S → Option O → Answer O D → S → Type 0) (hint : S → Option O) : Type 0 where
    pub takes : (s : S) (b : Option O) (r : Answer O D) (t : S) → answers s b r t → Takes (records s) (waits s) b r (records t) (waits t)
    pub tells : (s : S) (b : Option O) (r : Answer O D) (t : S) → sound s → answers s b r t → Tells b r (records t)
    pub keeps : (s : S) (b : Option O) (r : Answer O D) (t : S) → sound s → answers s b r t → sound t
    pub hints : (s : S) → sound s → Lower (hint s) (records s)
