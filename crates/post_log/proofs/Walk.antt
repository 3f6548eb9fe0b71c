-- SPDX-License-Identifier: MIT OR Apache-2.0
-- The verdict on a body, by the rules of its places.
use borrow.Author.Count.{below_none}
use Rattle.std.proofs.Common.{◌≡◌, ℕ, suc, ◌+◌, ◌-◌, ◌≤◌, Bool, true, false, cond, eqb, ltb, List, [], ◌∷◌, Some, None, Ok, Err, Option, Result, sym, refl, ap, ◌∙◌, subst, inl, inr, add-zero, zero-add, arith}
use Rattle.std.proofs.lemmas.Bool.{cases_lt, cond_both, ltb-true, ltb-false, eqb-true, eqb-false, both_ways}
use Rattle.std.proofs.lemmas.Bool.Decides.{nat_tests}
use Rattle.std.specs.List.{slice_get}
use Rattle.post_log.specs.declared.class.Class.{Class}
use Rattle.post_log.specs.declared.judge.Progress.{Progress}
use Rattle.post_log.specs.declared.refusal.Refusal.{Refusal}
use Rattle.post_log.specs.declared.refusal.Refusal.TheVariants.{TooShort, BadHeader, BadCount, Misplaced, Falling}
use Rattle.post_log.specs.declared.word.Word.{Word}
use Rattle.post_log.specs.declared.word.Word.TheVariants.{Floor, Head, Silence, Data}
use Rattle.post_log.specs.Classes.{rank}
use Rattle.post_log.specs.Rules.{Timed, Ends, Fits, InPlace, Stands, StandsTo, FirstMisplaced, FirstFalling}
use Rattle.post_log.specs.Verdict.{below, judged, timed, reached, passed, start, body_verdict, data_next}
use Rattle.post_log.proofs.Upto.{Upto, Within, later, falls, class_falls, reach, pass}

-- a floor's or a head's instant
abbrev instant_of : Word → Option ℕ
instant_of (Floor t) = Some t
instant_of (Head t) = Some t
instant_of (Silence n) = None
instant_of (Data c a) = None

data_first : (ws : List Word) → data_next ws ≡ true → (c : Option Class) × (a : ℕ) × (slice_get ws 0 ≡ Some (Data c a))
data_first [] z = cc
data_first (Floor t ∷ ws) z = cc
data_first (Head t ∷ ws) z = cc
data_first (Silence n ∷ ws) z = cc
data_first (Data c a ∷ ws) z = (c, a, refl)

first_data : (ws : List Word) (c : Option Class) (a : ℕ) → slice_get ws 0 ≡ Some (Data c a) → data_next ws ≡ true
first_data ws c a e = grind arith

-- a class that is not below the latest is above all that are within it
over : (c : Class) (o : Option Class) → below c o ≡ false → (b : Class) → Within b o → rank b ≤ rank c
over c o l b h = grind (arith, nat_tests)

-- a verdict by the judgement of the first word
abbrev going_on : List Word → Result Progress Refusal → Option Refusal
going_on ws r = elim r [ Ok q ↦ body_verdict q ws | Err e ↦ Some e ]

module _ (ws : List Word) where
  -- the leftmost place that breaks a rule
  abbrev pub Breaks : Refusal → Type 0
  Breaks TooShort = ⊥
  Breaks BadHeader = ⊥
  Breaks BadCount = ⊥
  Breaks (Misplaced q) = (i : ℕ) × (q ≡ i + 2) × FirstMisplaced ws i
  Breaks (Falling q) = (i : ℕ) × (q ≡ i + 2) × FirstFalling ws i

  -- what a verdict says of the whole
  abbrev pub Says : Option Refusal → Type 0
  Says None = (i : ℕ) → Stands ws i
  Says (Some e) = Breaks e

  -- what the judgement of the word at i says
  abbrev Steps : ℕ → Result Progress Refusal → Type 0
  Steps i (Ok q) = Upto ws (suc i) q
  Steps i (Err e) = Breaks e

  -- whether data stands at a place
  record Followed (i : ℕ) (f : Bool) : Type 0 where
    yes : f ≡ true → (c : Option Class) × (a : ℕ) × (slice_get ws i ≡ Some (Data c a))
    none : f ≡ false → (c : Option Class) (a : ℕ) → slice_get ws i ≡ Some (Data c a) → ⊥

  placed_by : (i : ℕ) (w : Word) → slice_get ws i ≡ Some w → Fits ws i w → InPlace ws i
  placed_by i w e fits v x = let same : w ≡ v = cc in subst (Fits ws i) same fits

  untimed : (i : ℕ) (w : Word) → slice_get ws i ≡ Some w → instant_of w ≡ None → (t : ℕ) → Timed ws i t → ⊥
  untimed i w e none t x = grind arith

  module _ (i : ℕ) (p : Progress) (u : Upto ws i p) where
    -- a floor or a head
    at_timed : (t : ℕ) (h : Bool) → Timed ws i t → InPlace ws i → (h ≡ true → slice_get ws i ≡ Some (Head t)) → (h ≡ false → (s : ℕ) → slice_get ws i ≡ Some (Head s) → ⊥) → Steps i (timed t h p)
    at_timed t h e placed is_head no_head =
        cond_both (ltb t p.instant) (Err (Falling p.place)) (Ok (reached t h p)) (Steps i)
        (λ y. (i, u.place, (u.stands, placed, falls ws i p u t e (ltb-true t p.instant y))))
        (λ n. reach ws i p u t h e (ltb-false t p.instant n) placed is_head no_head)

    at_head : (t : ℕ) (f : Bool) → slice_get ws i ≡ Some (Head t) → Followed (suc i) f → Steps i (judged (Head t) f p)
    at_head t true e d = at_timed t true (inr e) (placed_by i (Head t) e (d.yes refl)) (λ _. e) (λ z. cc)
    at_head t false e d =
        (i, u.place, (u.stands, λ placed. let fits = placed (Head t) e in d.none refl fits.0 fits.1 fits.2))

    at_silence : (n : ℕ) (f : Bool) → slice_get ws i ≡ Some (Silence n) → Steps i (judged (Silence n) f p)
    at_silence n f e =
        cond_both (eqb n 0) (Err (Misplaced p.place)) (Ok (passed p.class p)) (Steps i)
        (λ y. (i, u.place, (u.stands, λ placed. let fits = placed (Silence n) e in omega (arith, eqb-true n 0 y))))
        (λ z.
        pass ws i p u p.class (untimed i (Silence n) e refl) (placed_by i (Silence n) e (omega (arith, eqb-false n 0 z))) (λ _ x. x)
        (λ t c x. let y = x.2 in cc)
        (later ws i p.instant p.class u.class_met))

    at_data : (c : Class) (a : ℕ) (f : Bool) (h : Bool) → slice_get ws i ≡ Some (Data (Some c) a) → p.headed ≡ h → Steps i (cond h (cond (below c p.class) (Err (Falling p.place)) (Ok (passed (Some c) p))) (Err (Misplaced p.place)))
    at_data c a f true e y =
        let own : Ends ws i p.instant c = (a, u.head y, e) in
        let placed = placed_by i (Data (Some c) a) e (p.instant, u.head y, refl) in
        cond_both (below c p.class) (Err (Falling p.place)) (Ok (passed (Some c) p)) (Steps i)
        (λ l. (i, u.place, (u.stands, placed, class_falls ws i p u c own l)))
        (λ l.
        pass ws i p u (Some c) (untimed i (Data (Some c) a) e refl) placed (over c p.class l)
        (λ t d x. let here = u.head y in let head = x.1 in let data_word = x.2 in (cc, cc))
        (i, omega arith, own))
    at_data c a f false e y = (i, u.place, (u.stands, λ placed. let fits = placed (Data (Some c) a) e in u.no_head y fits.0 fits.1))

    step : (w : Word) (f : Bool) → slice_get ws i ≡ Some w → Followed (suc i) f → Steps i (judged w f p)
    step (Floor t) f e d = at_timed t false (inl e) (placed_by i (Floor t) e tt) (λ z. cc) (λ _ s x. cc)
    step (Head t) f e d = at_head t f e d
    step (Silence n) f e d = at_silence n f e
    step (Data None a) f e d = (i, u.place, (u.stands, λ placed. let fits = placed (Data None a) e in cc))
    step (Data (Some c) a) f e d = at_data c a f p.headed e refl

  -- the words after the place i stand in ws from there on
  abbrev Rest : ℕ → List Word → Type 0
  Rest i rest = (k : ℕ) → slice_get ws (i + k) ≡ slice_get rest k

  rest_first : (i : ℕ) (w : Word) (rest : List Word) → Rest i (w ∷ rest) → slice_get ws i ≡ Some w
  rest_first i w rest r = grind (arith, r 0)

  rest_after : (i : ℕ) (w : Word) (rest : List Word) → Rest i (w ∷ rest) → Rest (suc i) rest
  rest_after i w rest r k = grind (arith, r (suc k))

  followed : (i : ℕ) (rest : List Word) → Rest i rest → Followed i (data_next rest)
  followed i rest r =
      let e : slice_get ws i ≡ slice_get rest 0 = subst (λ n. slice_get ws n ≡ slice_get rest 0) (add-zero i) (r 0) in
      record {
        yes = λ z. let d = data_first rest z in (d.0, d.1, e ∙ d.2);
        none = λ z c a x. both_ways (data_next rest) z (first_data rest c a (sym e ∙ x));
      }

  -- past the last word every rule is kept
  all_stand : (i : ℕ) → StandsTo ws i → Rest i [] → (j : ℕ) → Stands ws j
  all_stand i low r j =
      elim (cases_lt j i) [
        | inl l ↦ low j l
        | inr l ↦
            let e : i + (j - i) ≡ j = omega arith in
            let past : slice_get ws j ≡ None = subst (λ n. slice_get ws n ≡ None) e (r (j - i)) in
            (λ w x. cc, record { instant = λ k t v b x y. grind arith; class = λ k t c d b x y. let z = y.2 in cc })
      ]

  going : (i : ℕ) (rest : List Word) (r : Result Progress Refusal) → Steps i r → ((q : Progress) → Upto ws (suc i) q → Says (body_verdict q rest)) → Says (going_on rest r)
  going i rest r s k = grind (arith, k)

  pub walk : (i : ℕ) (p : Progress) (rest : List Word) → Upto ws i p → Rest i rest → Says (body_verdict p rest)
  walk i p [] u r = all_stand i u.stands r
  walk i p (w ∷ rest) u r =
      let after = rest_after i w rest r in
      going i rest (judged w (data_next rest) p) (step i p u w (data_next rest) (rest_first i w rest r) (followed (suc i) rest after))
      (λ q v. walk (suc i) q rest v after)

-- before the first word
begun : (ws : List Word) → Upto ws 0 start
begun ws =
    record {
      place = refl;
      stands = below_none (Stands ws);
      highest = below_none (λ j. (t : ℕ) → Timed ws j t → t ≤ 0);
      met = inl refl;
      class_highest = below_none (λ j. (c : Class) → Ends ws j 0 c → Within c None);
      class_met = tt;
      head = λ z. cc;
      no_head = λ _ t x. cc;
    }

pub says : (ws : List Word) → Says ws (body_verdict start ws)
says ws = walk ws 0 start ws (begun ws) (λ k. ap (slice_get ws) (zero-add k))
