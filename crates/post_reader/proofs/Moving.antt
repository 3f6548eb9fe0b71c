-- SPDX-License-Identifier: MIT OR Apache-2.0
-- A poll hands records out in turn, and spends waits, whatever is ahead.
use Rattle.std.proofs.Common.{◌≡◌, ◌+◌, List, [], ◌∷◌, Some, Option, sym, refl, ap, ◌∙◌, subst, arith}
use Rattle.std.proofs.lemmas.Bool.{cond_both}
use Rattle.std.proofs.lemmas.Bool.Decides.{nat_tests}
use Rattle.std.specs.List.{AllByRecursion}
use Rattle.ordered_stream.specs.declared.answer.Answer.{Answer}
use Rattle.ordered_stream.specs.declared.answer.Answer.TheVariants.{NoneBefore}
use Rattle.ordered_stream.specs.Meaning.{InTurn, Spends}
use Rattle.ordered_stream.specs.Orders.{reaches}
use Rattle.ordered_stream.proofs.Positions.{position_spends}
use Rattle.post_log.specs.declared.entry.Entry.{Entry}
use Rattle.post_log.specs.declared.entry.Entry.TheVariants.{Floor, Silence, Record}
use Rattle.post_log.specs.Entries.{Sized}
use Rattle.garage.specs.declared.amount.Amount.{Amount}
use Rattle.garage.specs.declared.slot.Slot.{Slot}
use Rattle.garage.specs.Kinds.{slot_order, least}
use Rattle.post_reader.specs.Reading.{State, records_of, silences, records_in, waits_in, raised, past, past_floors, settled, by_entry, answered, polled}

-- no floor is at the place
abbrev pub NoFloor : List Entry → Type 0
NoFloor [] = Unit {0}
NoFloor (Floor t ∷ es) = ⊥
NoFloor (Silence k ∷ es) = Unit {0}
NoFloor (Record t c n a ∷ es) = Unit {0}

-- passing floors takes nothing, and leaves none at the place
pub record Settled (s t : State) : Type 0 where
  pub records : records_in t ≡ records_in s
  pub waits : waits_in t ≡ waits_in s
  pub sized : AllByRecursion Sized s.ahead → AllByRecursion Sized t.ahead
  pub front : t.silence ≡ 0 → NoFloor t.ahead

-- where nothing is passed
stays : (s : State) → NoFloor s.ahead → Settled s s
stays s n = record { records = refl; waits = refl; sized = λ h. h; front = λ _. n }

floors_settle : (es : List Entry) (s : State) → s.ahead ≡ es → Settled s (past_floors es s)
floors_settle [] s e = stays s (subst NoFloor (sym e) tt)
floors_settle (Floor t ∷ es) s e =
    let r = floors_settle es (past (Floor t) es s.silence (Some (raised s.floor (least t))) s) refl in
    record {
      records = r.records ∙ ap (records_of s.post) (sym e);
      waits = r.waits ∙ ap (λ l. s.silence + silences l) (sym e);
      sized = λ h. r.sized (subst (AllByRecursion Sized) e h).1;
      front = r.front;
    }
floors_settle (Silence k ∷ es) s e = stays s (rw e tt)
floors_settle (Record t c n a ∷ es) s e = stays s (subst NoFloor (sym e) tt)

pub settles : (s : State) → Settled s (settled s)
settles s =
    let floors = floors_settle s.ahead s refl in grind (arith, nat_tests)

-- an answer and a state, from a state
abbrev pub Moves : State → Option Slot → Answer Slot Amount × State → Type 0
Moves s b r = InTurn (records_in s) r.0 (records_in r.1) × Spends (waits_in s) b r.0 (waits_in r.1)

entry_moves : (es : List Entry) (s : State) (b : Option Slot) → s.ahead ≡ es → s.silence ≡ 0 → AllByRecursion Sized es → Moves s b (by_entry es s)
entry_moves es s b e z l = grind (arith, ap (records_of s.post) e, ap silences e)

answer_moves : (s : State) (b : Option Slot) → AllByRecursion Sized s.ahead → Moves s b (answered s)
answer_moves s b l =
    grind (arith, nat_tests, entry_moves s.ahead s b refl)

pub poll_moves : (s : State) (b : Option Slot) → AllByRecursion Sized s.ahead → Moves s b (polled b s)
poll_moves s b l =
    let k = settles s in
    let t = settled s in
    let a = polled b s in
    let r : Moves t b a =
    cond_both (reaches slot_order t.floor b) (NoneBefore, t) (answered t) (Moves t b)
    (λ i. (refl, position_spends Amount slot_order t.floor b i (waits_in t)))
    (λ _. answer_moves t b (k.sized l)) in (
      subst (λ xs. InTurn xs a.0 (records_in a.1)) k.records r.0,
      subst (λ w. Spends w b a.0 (waits_in a.1)) k.waits r.1,
    )
