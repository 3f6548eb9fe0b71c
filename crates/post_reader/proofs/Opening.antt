-- SPDX-License-Identifier: MIT OR Apache-2.0
-- A log of which only the header is read is sound, and its records are within their limits.
use Rattle.std.proofs.Common.{◌≡◌, ℕ, zero, suc, ◌+◌, ◌<◌, ◌≤◌, List, [], ◌∷◌, length, take, drop, Some, sym, refl, ap, ◌∙◌, arith}
use Rattle.std.proofs.lemmas.List.{length-map}
use Rattle.std.specs.List.{AllByRecursion, slice_get}
use Rattle.ordered_stream.specs.Meaning.{NoneBelow}
use Rattle.ordered_stream.proofs.Orders.{UpTo, not_below}
use Rattle.post_log.specs.declared.class.Class.{Class}
use Rattle.post_log.specs.declared.entry.Entry.{Entry}
use Rattle.post_log.specs.declared.entry.Entry.TheVariants.{Floor, Silence, Record}
use Rattle.post_log.specs.Entries.{entries_of, records, spelling, Sized, EachSized, NotAbove, Told}
use Rattle.post_log.specs.Rules.{Lawful}
use Rattle.post_log.specs.Verdict.{Passes}
use Rattle.post_log.specs.Words.{bits, post, body}
use Rattle.garage.specs.declared.slot.Slot.{Slot}
use Rattle.garage.specs.Kinds.{slot_order, slot_laws, least}
use Rattle.garage.proofs.Slots.{slot_up_to}
use Rattle.garage.specs.Limits.{NumberWithin, PostWithin, RecordWithin}
use Rattle.post_reader.specs.Reading.{slot, records_of, opened, Rising, Sound}

-- what the rules say of entries, whose records are numbered from n on
record Ordered (n : ℕ) (es : List Entry) : Type 0 where
  rising : (j k : ℕ) (e f : Entry) → j < k → slice_get es j ≡ Some e → slice_get es k ≡ Some f → NotAbove e f
  counted : (k t m a : ℕ) (c : Class) → slice_get es k ≡ Some (Record t c m a) → m ≡ n + records (take k es)

module _ (p : ℕ) where
  -- no record is below o, place by place
  none_below : (o : Slot) (es : List Entry) → ((k t n a : ℕ) (c : Class) → slice_get es k ≡ Some (Record t c n a) → UpTo slot_order o (slot p t c n)) → NoneBelow slot_order o (records_of p es)
  none_below o [] h = tt
  none_below o (Floor t ∷ es) h = none_below o es (λ k. h (suc k))
  none_below o (Silence k ∷ es) h = none_below o es (λ k. h (suc k))
  none_below o (Record t c n a ∷ es) h = (not_below slot_order slot_laws.total o (slot p t c n) (h 0 t n a c refl), none_below o es (λ k. h (suc k)))

  ordered_rises : (n : ℕ) (es : List Entry) → Ordered n es → Rising p es
  ordered_rises n [] h = tt
  ordered_rises n (Floor t ∷ es) h = (
    none_below (least t) es (λ k u m a c e. slot_up_to (least t) (slot p u c m) (h.rising 0 (suc k) (Floor t) (Record u c m a) (omega arith) refl e) (λ _. omega arith) (omega arith) (omega arith)),
    ordered_rises n es (record { rising = λ j k e f l. h.rising (suc j) (suc k) e f (omega arith); counted = λ k. h.counted (suc k) }),
  )
  ordered_rises n (Silence q ∷ es) h = ordered_rises n es (record { rising = λ j k e f l. h.rising (suc j) (suc k) e f (omega arith); counted = λ k. h.counted (suc k) })
  ordered_rises n (Record t c m a ∷ es) h =
      let first : m ≡ n + 0 = h.counted 0 t m a c refl in (
        none_below (slot p t c m) es (λ k u i b d e.
            let r = h.rising 0 (suc k) (Record t c m a) (Record u d i b) (omega arith) refl e in
            let more = h.counted (suc k) u i b d e in
            slot_up_to (slot p t c m) (slot p u d i) r.0 r.1 (omega arith) (omega (arith, first, more))),
        ordered_rises (n + 1) es (record { rising = λ j k e f l. h.rising (suc j) (suc k) e f (omega arith); counted = λ k u i b d e. omega (arith, h.counted (suc k) u i b d e) }),
      )

pub opened_sound : (p : ℕ) (ws : List ℕ) → Told (body ws) → Sound (opened p ws)
opened_sound p ws told =
    record {
      above = tt;
      rising = ordered_rises p 0 (entries_of (body ws)) (record { rising = told.rising; counted = λ k t m a c e. omega (arith, told.counted k t m a c e) });
    }

-- and so it is of the post that its words name
pub opened_log : (ws : List ℕ) → Told (body ws) → Sound (opened (post ws) ws)
opened_log ws = opened_sound (post ws) ws

-- of entries, the first k have no more records than all have words
records_up_to : (k : ℕ) (es : List Entry) → records (take k es) ≤ length (spelling es)
records_up_to zero es = omega arith
records_up_to (suc k) [] = omega arith
records_up_to (suc k) (e ∷ es) = grind (arith, records_up_to k es)

-- a log's words after its header are few
few_in_body : (ws : List ℕ) → Lawful ws → length (drop 2 ws) ≤ 16382
few_in_body ws l = grind arith

-- each record is within the limits, place by place
all_within : (p : ℕ) → PostWithin p → (es : List Entry) → AllByRecursion Sized es → ((k t n a : ℕ) (c : Class) → slice_get es k ≡ Some (Record t c n a) → NumberWithin n) → AllByRecursion RecordWithin (records_of p es)
all_within p known [] s h = tt
all_within p known (Floor t ∷ es) s h = all_within p known es s.1 (λ k. h (suc k))
all_within p known (Silence q ∷ es) s h = all_within p known es s.1 (λ k. h (suc k))
all_within p known (Record t c n a ∷ es) s h =
    ((record { instant = s.0.0; post = known; number = h 0 t n a c refl }, s.0.1), all_within p known es s.1 (λ k. h (suc k)))

pub opened_within : EachSized → (p : ℕ) (ws : List ℕ) → PostWithin p → Passes ws → Lawful ws → Told (body ws) → AllByRecursion RecordWithin (records_of p (entries_of (body ws)))
opened_within sized p ws known passes lawful told =
    let es = entries_of (body ws) in
    let words : length (spelling es) ≡ length (body ws) = sym (length-map (spelling es) bits) ∙ ap length told.whole in
    all_within p known es (sized ws passes 0 2) (λ k t n a c e. omega (arith, told.counted k t n a c e, records_up_to k es, words, few_in_body ws lawful))
