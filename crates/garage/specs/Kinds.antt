-- SPDX-License-Identifier: MIT OR Apache-2.0
-- The kinds of orderings: what decides, key after key. Assumes nothing.
use Rattle.std.specs.Prelude.{◌≡◌, ℕ}
use Rattle.std.specs.declared.cmp.Ordering.{Ordering}
use Rattle.std.specs.Cmp.Rules.{comparing}
use Rattle.std.specs.Ordering.{nat_cmp, on, then_cmp}
use Rattle.std.proofs.Common.{arith, rules}
use Rattle.std.proofs.lemmas.Bool.Decides.{nat_tests}
use Rattle.ordered_stream.specs.Orders.{OrderLaws}
use Rattle.post_log.specs.contracts.class.ClassOrd.TheImpl as class
use Rattle.post_log.specs.contracts.class.ClassOrd.TheImpl.Laws as class_laws
use Rattle.post_log.specs.declared.class.Class.{Class}
use Rattle.post_log.specs.Classes.{rank, first}
use Rattle.garage.specs.declared.instant.Instant.{Instant}
use Rattle.garage.specs.declared.minute.Minute.{Minute}
use Rattle.garage.specs.declared.slot.Slot.{Slot}

abbrev pub instant_order : Instant → Instant → Ordering
instant_order = on (λ t. t.seconds) nat_cmp

pub instant_laws : OrderLaws instant_order
instant_laws = record { total = search (comparing, rules); same = λ x y e. grind (arith, nat_tests) }

abbrev pub minute_order : Minute → Minute → Ordering
minute_order = on (λ m. m.minutes) nat_cmp

pub minute_laws : OrderLaws minute_order
minute_laws = record { total = search (comparing, rules); same = λ x y e. grind (arith, nat_tests) }

-- by the instant, then the class, the post and the number; the classes in a given order
abbrev pub slots_by : (Class → Class → Ordering) → Slot → Slot → Ordering
slots_by classes =
    then_cmp (on (λ s. s.instant) nat_cmp)
    (then_cmp (on (λ s. s.class) classes)
    (then_cmp (on (λ s. s.post) nat_cmp) (on (λ s. s.number) nat_cmp)))

-- the classes by their ranks
abbrev pub slots_by_rank : Slot → Slot → Ordering
slots_by_rank = slots_by (on rank nat_cmp)

-- the classes as they compare, which is the same
abbrev pub slot_order : Slot → Slot → Ordering
slot_order = slots_by class.ghosts.cmp

pub slot_by_rank : (x y : Slot) → slot_order x y ≡ slots_by_rank x y
slot_by_rank x y = grind arith

pub slot_laws : OrderLaws slot_order
slot_laws = record { total = search (comparing, rules, class_laws.total-law) depth 9; same = λ x y e. grind (arith, nat_tests) }

-- the least slot of an instant
abbrev pub least : ℕ → Slot
least t = record { instant = t; class = first; post = 0; number = 0 }
