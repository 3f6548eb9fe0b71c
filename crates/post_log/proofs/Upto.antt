-- SPDX-License-Identifier: MIT OR Apache-2.0
-- What the progress of a judgement says of the places that it has passed, and what one more word does to it.
use Rattle.std.proofs.Common.{◌≡◌, ℕ, suc, ◌+◌, ◌<◌, ◌≤◌, Bool, true, false, eqb, ◌⊎◌, List, Some, None, Option, sym, subst, inl, inr, arith}
use Rattle.std.proofs.lemmas.Bool.{cases_lt, eqb-true, ltb-true, cond_both}
use Rattle.std.proofs.lemmas.Bool.Decides.{nat_tests}
use Rattle.std.specs.List.{slice_get}
use Rattle.post_log.specs.declared.class.Class.{Class}
use Rattle.post_log.specs.declared.judge.Progress.{Progress}
use Rattle.post_log.specs.declared.word.Word.{Word}
use Rattle.post_log.specs.declared.word.Word.TheVariants.{Head}
use Rattle.post_log.specs.Classes.{rank}
use Rattle.post_log.specs.Rules.{before, Timed, Ends, InPlace, Rising, Stands, StandsTo}
use Rattle.post_log.specs.Verdict.{reached, passed, below}

-- a class is at most that of the latest record
abbrev pub Within : Class → Option Class → Type 0
Within c None = ⊥
Within c (Some d) = rank c ≤ rank d

-- what holds of each number below i, and of i
pub below_suc : (P : ℕ → Type 0) (i : ℕ) → ((j : ℕ) → j < i → P j) → P i → (j : ℕ) → j < suc i → P j
below_suc P i low here j h = elim (cases_lt j i) [ inl l ↦ low j l | inr l ↦ let e : i ≡ j = omega arith in subst P e here ]

module _ (ws : List Word) where
  -- a record below i of the instant t has the class, if there is one
  abbrev pub ClassMet : ℕ → ℕ → Option Class → Type 0
  ClassMet i t None = Unit {0}
  ClassMet i t (Some c) = (j : ℕ) × (j < i) × Ends ws j t c

  -- The places below i keep the rules; the instant and its class are the highest among them, and were met there.
  pub record Upto (i : ℕ) (p : Progress) : Type 0 where
    pub place : p.place ≡ i + 2
    pub stands : StandsTo ws i
    pub highest : (j : ℕ) → j < i → (t : ℕ) → Timed ws j t → t ≤ p.instant
    pub met : (p.instant ≡ 0) ⊎ ((j : ℕ) × (j < i) × Timed ws j p.instant)
    pub class_highest : (j : ℕ) → j < i → (c : Class) → Ends ws j p.instant c → Within c p.class
    pub class_met : ClassMet i p.instant p.class
    pub head : p.headed ≡ true → before ws i ≡ Some (Head p.instant)
    pub no_head : p.headed ≡ false → (t : ℕ) → before ws i ≡ Some (Head t) → ⊥

  one_instant : (i t u : ℕ) → Timed ws i t → Timed ws i u → t ≡ u
  one_instant i t u a b = grind arith

  -- no record ends where a floor or a head stands
  timed_not_end : (i t u : ℕ) (c : Class) → Timed ws i t → Ends ws i u c → ⊥
  timed_not_end i t u c a e = grind arith

  -- where a record ends, its head stands before
  end_timed : (i t : ℕ) (c : Class) → Ends ws i t c → (j : ℕ) × (j < i) × Timed ws j t
  end_timed i t c e = grind arith

  pub later : (i t : ℕ) (o : Option Class) → ClassMet i t o → ClassMet (suc i) t o
  later i t o m = grind arith

  module _ (i : ℕ) (p : Progress) (u : Upto i p) where
    -- an instant below the highest falls
    pub falls : (t : ℕ) → Timed ws i t → t < p.instant → Rising ws i → ⊥
    falls t e l time =
        elim u.met [ inl z ↦ omega arith | inr m ↦ let k = time.instant m.0 p.instant t m.1 m.2 e in omega arith ]

    -- a class below the highest of its instant falls
    pub class_falls : (c : Class) → Ends ws i p.instant c → below c p.class ≡ true → Rising ws i → ⊥
    class_falls c e l time = met p.class u.class_met l
      where
        met : (o : Option Class) → ClassMet i p.instant o → below c o ≡ true → ⊥
        met None m z = cc
        met (Some d) m z = let k = time.class m.0 p.instant d c m.1 m.2 e in omega (arith, ltb-true (rank c) (rank d) z)

    -- the highest class at an instant not below the highest
    class_at : (t : ℕ) → p.instant ≤ t → (o : Option Class) → (t ≡ p.instant → p.class ≡ o) → (j : ℕ) → j < i → (c : Class) → Ends ws j t c → Within c o
    class_at t l o to j h c e =
        let m = end_timed j t c e in
        let top = u.highest m.0 (omega (arith, m.1)) t m.2 in
        let same : t ≡ p.instant = omega arith in
        subst (Within c) (to same) (u.class_highest j h c (subst (λ s. Ends ws j s c) same e))

    -- one word further, at an instant that does not fall
    pub reach : (t : ℕ) (h : Bool) → Timed ws i t → p.instant ≤ t → InPlace ws i → (h ≡ true → slice_get ws i ≡ Some (Head t)) → (h ≡ false → (s : ℕ) → slice_get ws i ≡ Some (Head s) → ⊥) → Upto (suc i) (reached t h p)
    reach t h e l placed is_head no_head =
        record {
          place = omega (arith, u.place);
          stands =
              below_suc (Stands ws) i u.stands (
                placed,
                record {
                  instant = λ j s v b x y. let top = u.highest j b s x in let same = one_instant i t v e y in omega arith;
                  class = λ j s c d b x y. absurd (timed_not_end i t s d e y);
                },
              );
          highest =
              below_suc (λ j. (s : ℕ) → Timed ws j s → s ≤ t) i
              (λ j b s x. let top = u.highest j b s x in omega arith)
              (λ s x. let same = one_instant i t s e x in omega arith);
          met = inr (i, omega arith, e);
          class_highest =
              below_suc (λ j. (c : Class) → Ends ws j t c → Within c (reached t h p).class) i
              (class_at t l (reached t h p).class (λ same. grind (arith, nat_tests)))
              (λ c x. absurd (timed_not_end i t t c e x));
          class_met =
              cond_both (eqb t p.instant) p.class None (ClassMet (suc i) t)
              (λ y. subst (λ s. ClassMet (suc i) s p.class) (sym (eqb-true t p.instant y)) (later i p.instant p.class u.class_met))
              (λ _. tt);
          head = is_head;
          no_head = no_head;
        }

    -- One word further, at the same instant: o is the class of the record that ends there, or else stays.
    pub pass : (o : Option Class) → ((t : ℕ) → Timed ws i t → ⊥) → InPlace ws i → ((c : Class) → Within c p.class → Within c o) → ((t : ℕ) (c : Class) → Ends ws i t c → (t ≡ p.instant) × (o ≡ Some c)) → ClassMet (suc i) p.instant o → Upto (suc i) (passed o p)
    pass o untimed placed over here met =
        record {
          place = omega (arith, u.place);
          stands =
              below_suc (Stands ws) i u.stands (
                placed,
                record {
                  instant = λ j s v b x y. absurd (untimed v y);
                  class = λ j s c d b x y.
                      let own = here s d y in
                      subst (Within c) own.1 (over c (u.class_highest j b c (subst (λ v. Ends ws j v c) own.0 x)));
                },
              );
          highest = below_suc (λ j. (s : ℕ) → Timed ws j s → s ≤ p.instant) i u.highest (λ s x. absurd (untimed s x));
          met = elim u.met [ inl z ↦ inl z | inr m ↦ inr (m.0, omega (arith, m.1), m.2) ];
          class_highest =
              below_suc (λ j. (c : Class) → Ends ws j p.instant c → Within c o) i
              (λ j b c x. over c (u.class_highest j b c x))
              (λ c x. subst (Within c) (sym (here p.instant c x).1) (omega arith));
          class_met = met;
          head = λ z. cc;
          no_head = λ z t x. untimed t (inr x);
        }
