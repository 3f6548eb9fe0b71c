-- SPDX-License-Identifier: MIT OR Apache-2.0
-- What a body that passes says.
use Rattle.std.proofs.Common.{◌≡◌, ℕ, zero, suc, ◌+◌, ◌<◌, ◌≤◌, true, false, List, [], ◌∷◌, map, take, Some, None, Option, Bool, sym, refl, ap, ◌∙◌, subst, add-zero, zero-add, arith}
use Rattle.std.proofs.lemmas.Bool.Decides.{nat_tests}
use Rattle.std.specs.List.{slice_get}
use Rattle.post_log.specs.declared.class.Class.{Class}
use Rattle.post_log.specs.declared.entry.Entry.{Entry}
use Rattle.post_log.specs.declared.entry.Entry.TheVariants.{Record, Floor as FloorAt, Silence as Silent}
use Rattle.post_log.specs.declared.judge.Progress.{Progress}
use Rattle.post_log.specs.declared.word.Word.{Word}
use Rattle.post_log.specs.declared.word.Word.TheVariants.{Floor, Head, Silence, Data}
use Rattle.post_log.specs.Entries.{entries, entries_of, spelling, records, NotAbove, Told}
use Rattle.post_log.specs.Words.{word_of, bits, Narrow}
use Rattle.post_log.specs.Verdict.{below, reached, passed, start, body_verdict, data_next}
use Rattle.post_log.proofs.Bits.{bits_words}

-- no entry falls below an earlier one
abbrev AllRise : List Entry → Type 0
AllRise es = (j k : ℕ) (e f : Entry) → j < k → slice_get es j ≡ Some e → slice_get es k ≡ Some f → NotAbove e f

rising_cons : (e : Entry) (es : List Entry) → ((k : ℕ) (f : Entry) → slice_get es k ≡ Some f → NotAbove e f) → AllRise es → AllRise (e ∷ es)
rising_cons e es first rest j zero x y l a b = let q : ⊥ = omega arith in absurd q
rising_cons e es first rest zero (suc k) x y l a b = let same : e ≡ x = cc in subst (λ v. NotAbove v y) same (first k y b)
rising_cons e es first rest (suc j) (suc k) x y l a b = rest j k x y (omega arith) a b

-- an entry is not below the instant t, nor at that instant below the class o, if there is one
abbrev NotBelow : ℕ → Option Class → Entry → Type 0
NotBelow t o (FloorAt u) = t ≤ u
NotBelow t o (Silent n) = Unit {0}
NotBelow t o (Record u c n a) = (t ≤ u) × (t ≡ u → below c o ≡ false)

-- what is not below the class o is not below q either
abbrev AtLeast : Option Class → Option Class → Type 0
AtLeast o q = (c : Class) → below c o ≡ false → below c q ≡ false

lower : (t u : ℕ) (o q : Option Class) → t ≤ u → (t ≡ u → AtLeast q o) → (e : Entry) → NotBelow u q e → NotBelow t o e
lower t u o q l top e h = grind arith

floor_above : (t : ℕ) (o : Option Class) (e : Entry) → NotBelow t o e → NotAbove (FloorAt t) e
floor_above t o e h = grind arith

record_above : (t n a : ℕ) (c : Class) (e : Entry) → NotBelow t (Some c) e → NotAbove (Record t c n a) e
record_above t n a c e h = grind (arith, nat_tests)

-- Entries from an instant and a class on.
record From (t : ℕ) (o : Option Class) (es : List Entry) : Type 0 where
  rising : AllRise es
  above : (j : ℕ) (e : Entry) → slice_get es j ≡ Some e → NotBelow t o e

from_nil : (t : ℕ) (o : Option Class) → From t o []
from_nil t o =
    record {
      rising = λ i j e f l a b. cc;
      above = λ j e a. cc;
    }

-- an entry from t and o on, before others from u and q on
from_cons : (t u : ℕ) (o q : Option Class) (e : Entry) (es : List Entry) → t ≤ u → (t ≡ u → AtLeast q o) → NotBelow t o e → ((f : Entry) → NotBelow u q f → NotAbove e f) → From u q es → From t o (e ∷ es)
from_cons t u o q e es l top own first f =
    record {
      rising = rising_cons e es (λ j x a. first x (f.above j x a)) f.rising;
      above = above_cons;
    }
  where
    above_cons : (j : ℕ) (x : Entry) → slice_get (e ∷ es) j ≡ Some x → NotBelow t o x
    above_cons zero x a = let same : e ≡ x = cc in subst (NotBelow t o) same own
    above_cons (suc j) x a = lower t u o q l top x (f.above j x a)

-- What passing tells of the first word.
module _ (p : Progress) (ws : List Word) where
  at_floor : (t : ℕ) → body_verdict p (Floor t ∷ ws) ≡ None → (p.instant ≤ t) × (body_verdict (reached t false p) ws ≡ None)
  at_floor t e = grind (arith, nat_tests)

  at_silence : (n : ℕ) → body_verdict p (Silence n ∷ ws) ≡ None → body_verdict (passed p.class p) ws ≡ None
  at_silence n e = grind (arith, nat_tests)

  at_head : (t : ℕ) → body_verdict p (Head t ∷ ws) ≡ None → (data_next ws ≡ true) × (p.instant ≤ t) × (body_verdict (reached t true p) ws ≡ None)
  at_head t e = grind (arith, nat_tests)

  at_data : (c : Class) (a : ℕ) → body_verdict p (Data (Some c) a ∷ ws) ≡ None → (p.headed ≡ true) × (below c p.class ≡ false) × (body_verdict (passed (Some c) p) ws ≡ None)
  at_data c a e = grind (arith, nat_tests)

-- each record has as its number the count of the records before it, from n on
abbrev Counted : ℕ → List Entry → Type 0
Counted n es = (k t m a : ℕ) (c : Class) → slice_get es k ≡ Some (Record t c m a) → m ≡ n + records (take k es)

records_cons : (e : Entry) (es : List Entry) → records (e ∷ es) ≡ records (e ∷ []) + records es
records_cons e es = grind arith

counted_cons : (n : ℕ) (e : Entry) (es : List Entry) → ((t m a : ℕ) (c : Class) → e ≡ Record t c m a → m ≡ n) → Counted (n + records (e ∷ [])) es → Counted n (e ∷ es)
counted_cons n e es own rest zero t m a c h = let k = own t m a c (cc) in omega arith
counted_cons n e es own rest (suc k) t m a c h = let i = rest k t m a c h in omega (arith, records_cons e (take k es))

record Tells (p : Progress) (n : ℕ) (ws : List Word) : Type 0 where
  whole : spelling (entries n ws) ≡ ws
  from : From p.instant p.class (entries n ws)
  counted : Counted n (entries n ws)

not_below_on : (c d : Class) (o : Option Class) → below c o ≡ false → below d (Some c) ≡ false → below d o ≡ false
not_below_on c d o l m = grind (arith, nat_tests)

-- an instant that is not new keeps its class
class_kept : (p : Progress) (t : ℕ) (h : Bool) → p.instant ≡ t → (reached t h p).class ≡ p.class
class_kept p t h e = grind (arith, nat_tests)

passing_tells : (p : Progress) (n : ℕ) (ws : List Word) → p.headed ≡ false → body_verdict p ws ≡ None → Tells p n ws
passing_tells p n [] h v = record { whole = refl; from = from_nil p.instant p.class; counted = λ k t m a c e. cc }
passing_tells p n (Floor t ∷ ws) h v =
    let f = at_floor p ws t v in
    let q = reached t false p in
    let r = passing_tells q n ws refl f.1 in
    record {
      whole = ap (λ us. Floor t ∷ us) r.whole;
      from = from_cons p.instant t p.class q.class (FloorAt t) (entries n ws) f.0 (λ e c. subst (λ o. below c o ≡ false) (class_kept p t false e)) f.0 (floor_above t q.class) r.from;
      counted = counted_cons n (FloorAt t) (entries n ws) (λ u m a c e. cc) (subst (λ k. Counted k (entries n ws)) (sym (add-zero n)) r.counted);
    }
passing_tells p n (Silence k ∷ ws) h v =
    let q = passed p.class p in
    let r = passing_tells q n ws refl (at_silence p ws k v) in
    record {
      whole = ap (λ us. Silence k ∷ us) r.whole;
      from = from_cons p.instant p.instant p.class p.class (Silent k) (entries n ws) (omega arith) (λ _ _ x. x) tt (λ _ _. tt) r.from;
      counted = counted_cons n (Silent k) (entries n ws) (λ u m a c e. cc) (subst (λ k. Counted k (entries n ws)) (sym (add-zero n)) r.counted);
    }
passing_tells p n (Data None a ∷ ws) h v = cc
passing_tells p n (Data (Some c) a ∷ ws) h v = let f = at_data p ws c a v in cc
passing_tells p n (Head t ∷ []) h v = cc
passing_tells p n (Head t ∷ Floor u ∷ ws) h v = cc
passing_tells p n (Head t ∷ Head u ∷ ws) h v = cc
passing_tells p n (Head t ∷ Silence k ∷ ws) h v = cc
passing_tells p n (Head t ∷ Data None a ∷ ws) h v = let f = at_head p (Data None a ∷ ws) t v in let w = f.2 in cc
passing_tells p n (Head t ∷ Data (Some c) a ∷ ws) h v =
    let f = at_head p (Data (Some c) a ∷ ws) t v in
    let q = reached t true p in
    let g = at_data q ws c a f.2 in
    let r = passing_tells (passed (Some c) q) (n + 1) ws refl g.2 in
    let kept : p.instant ≡ t → below c p.class ≡ false = λ e. subst (λ o. below c o ≡ false) (class_kept p t true e) g.1 in
    record {
      whole = ap (λ us. Head t ∷ Data (Some c) a ∷ us) r.whole;
      from = from_cons p.instant t p.class (Some c) (Record t c n a) (entries (n + 1) ws) f.1 (λ e d x. not_below_on c d p.class (kept e) x) (f.1, kept) (record_above t n a c) r.from;
      counted = counted_cons n (Record t c n a) (entries (n + 1) ws) (λ u m b d e. cc) r.counted;
    }

pub told : (ws : List ℕ) → Narrow ws → body_verdict start (map word_of ws) ≡ None → Told ws
told ws h v =
    let r = passing_tells start 0 (map word_of ws) refl v in
    record {
      whole = ap (map bits) r.whole ∙ bits_words ws h;
      rising = r.from.rising;
      counted = λ k t n a c e. r.counted k t n a c e ∙ zero-add (records (take k (entries_of ws)));
    }
