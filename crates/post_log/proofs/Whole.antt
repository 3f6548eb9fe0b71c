-- SPDX-License-Identifier: MIT OR Apache-2.0
-- The verdict on a list of words is the one that the rules give.
use Rattle.std.proofs.Common.{◌≡◌, ℕ, suc, ◌+◌, ◌≤◌, List, [], ◌∷◌, map, length, Some, None, Option, sym, refl, ap, subst, arith, MatchOption}
use Rattle.std.proofs.lemmas.Bool.{cases_order}
use Rattle.std.specs.Option.{option_or}
use Rattle.std.proofs.lemmas.Bool.Decides.{nat_tests}
use Rattle.post_log.specs.declared.refusal.Refusal.{Refusal}
use Rattle.post_log.specs.declared.refusal.Refusal.TheVariants.{TooShort, BadHeader, BadCount, Misplaced, Falling}
use Rattle.post_log.specs.declared.word.Word.{Word}
use Rattle.post_log.specs.Refusals.{number, place}
use Rattle.post_log.specs.Rules.{Lawful, Refused, no_word, one_word, bad_header, bad_count, misplaced, falling, Decided, Headed, HeaderWord, Stands, StandsTo, InPlace}
use Rattle.post_log.specs.Words.{word_of, body, Narrow}
use Rattle.post_log.specs.Verdict.{verdict, header_verdict, body_verdict, start, Passes}
use Rattle.post_log.specs.Entries.{Told}
use Rattle.post_log.proofs.Telling.{told}
use Rattle.post_log.proofs.Walk.{Says, says}

abbrev Ruled : List ℕ → Option Refusal → Type 0
Ruled ws v = MatchOption v (Lawful ws) (λ e. Refused ws (number e) (place e))

module _ (h n : ℕ) (body : List ℕ) (headed : Headed h n body) where
  by_body : (v : Option Refusal) → Says (map word_of body) v → Ruled (h ∷ n ∷ body) v
  by_body None s = (headed, s)
  by_body (Some TooShort) s = absurd s
  by_body (Some BadHeader) s = absurd s
  by_body (Some BadCount) s = absurd s
  by_body (Some (Misplaced q)) s = subst (Refused (h ∷ n ∷ body) 4) (sym s.1) (misplaced {i = s.0} headed s.2)
  by_body (Some (Falling q)) s = subst (Refused (h ∷ n ∷ body) 5) (sym s.1) (falling {i = s.0} headed s.2)

by_header : (h n : ℕ) (ws : List ℕ) (v : Option Refusal) → v ≡ header_verdict h n (length ws) → Ruled (h ∷ n ∷ ws) (option_or v (body_verdict start (map word_of ws)))
by_header h n ws None e =
    let headed : HeaderWord h × (n ≡ length ws) × (n ≤ 16382) = grind (arith, nat_tests) in
    by_body h n ws (headed.0, record { count = headed.1; few = headed.2 }) (body_verdict start (map word_of ws)) (says (map word_of ws))
by_header h n ws (Some BadHeader) e = bad_header (λ x. grind (arith, nat_tests))
by_header h n ws (Some BadCount) e =
    let head : HeaderWord h = grind (arith, nat_tests) in
    bad_count head (λ x. let count = x.count in let few = x.few in grind (arith, nat_tests))
by_header h n ws (Some r) e = grind (arith, nat_tests)

ruled : (ws : List ℕ) → Ruled ws (verdict ws)
ruled [] = no_word
ruled (h ∷ []) = one_word
ruled (h ∷ n ∷ body) = by_header h n body (header_verdict h n (length body)) refl

-- two leftmost places that break a rule are one
one_place : (ws : List Word) (i j : ℕ) → StandsTo ws i → StandsTo ws j → (Stands ws i → ⊥) → (Stands ws j → ⊥) → i ≡ j
one_place ws i j low lower a b = grind (arith, cases_order i j)

-- the rules give one refusal at most
one_refusal : {ws : List ℕ} {n p m q : ℕ} → Refused ws n p → Refused ws m q → (n ≡ m) × (p ≡ q)
one_refusal no_word no_word = (refl, refl)
one_refusal one_word one_word = (refl, refl)
one_refusal (bad_header a) (bad_header b) = (refl, refl)
one_refusal (bad_header a) (bad_count h b) = absurd (a h)
one_refusal (bad_header a) (misplaced h b) = absurd (a h.0)
one_refusal (bad_header a) (falling h b) = absurd (a h.0)
one_refusal (bad_count h a) (bad_header b) = absurd (b h)
one_refusal (bad_count h a) (bad_count k b) = (refl, refl)
one_refusal (bad_count h a) (misplaced k b) = absurd (a k.1)
one_refusal (bad_count h a) (falling k b) = absurd (a k.1)
one_refusal (misplaced h a) (bad_header b) = absurd (b h.0)
one_refusal (misplaced h a) (bad_count k b) = absurd (b h.1)
one_refusal {ws = w ∷ n ∷ body} (misplaced {i = i} h a) (misplaced {i = j} k b) =
    (refl, ap (λ x. x + 2) (one_place (map word_of body) i j a.0 b.0 (λ x. a.1 x.0) (λ x. b.1 x.0)))
one_refusal {ws = w ∷ n ∷ body} (misplaced {i = i} h a) (falling {i = j} k b) =
    let e = one_place (map word_of body) i j a.0 b.0 (λ x. a.1 x.0) (λ x. b.2 x.1) in absurd (a.1 (subst (InPlace (map word_of body)) (sym e) b.1))
one_refusal (falling h a) (bad_header b) = absurd (b h.0)
one_refusal (falling h a) (bad_count k b) = absurd (b h.1)
one_refusal {ws = w ∷ n ∷ body} (falling {i = i} h a) (misplaced {i = j} k b) =
    let e = one_place (map word_of body) i j a.0 b.0 (λ x. a.2 x.1) (λ x. b.1 x.0) in absurd (b.1 (subst (InPlace (map word_of body)) e a.1))
one_refusal {ws = w ∷ n ∷ body} (falling {i = i} h a) (falling {i = j} k b) =
    (refl, ap (λ x. x + 2) (one_place (map word_of body) i j a.0 b.0 (λ x. a.2 x.1) (λ x. b.2 x.1)))

-- and none of a log
unrefused : {ws : List ℕ} {n p : ℕ} → Lawful ws → Refused ws n p → ⊥
unrefused l no_word = l
unrefused l one_word = l
unrefused l (bad_header a) = a l.0.0
unrefused l (bad_count h a) = a l.0.1
unrefused l (misplaced {i = i} h a) = a.1 (l.1 i).0
unrefused l (falling {i = i} h a) = a.2 (l.1 i).1

decided_from : (ws : List ℕ) (v : Option Refusal) → Ruled ws v → Decided ws v
decided_from ws v r = grind (arith, unrefused, one_refusal)

pub decided_as : (ws : List ℕ) (v : Option Refusal) → v ≡ verdict ws → Decided ws v
decided_as ws v e = subst (Decided ws) (sym e) (decided_from ws (verdict ws) (ruled ws))

pub none_from_passes : (ws : List ℕ) → Passes ws → None ≡ verdict ws
none_from_passes ws h = sym h

pub lawful_from_passes : (ws : List ℕ) → Passes ws → Lawful ws
lawful_from_passes ws h = subst (Ruled ws) (sym (none_from_passes ws h)) (ruled ws)

-- where the words pass, those of the body do
body_passes : (h n : ℕ) (ws : List ℕ) → Passes (h ∷ n ∷ ws) → body_verdict start (map word_of ws) ≡ None
body_passes h n ws p = grind (arith, nat_tests)

-- words that pass tell what they spell
pub told_from_passes : (ws : List ℕ) → Narrow ws → Passes ws → Told (body ws)
told_from_passes [] h p = cc
told_from_passes (w ∷ []) h p = cc
told_from_passes (w ∷ n ∷ ws) h p = told ws (λ i. h (suc (suc i))) (body_passes w n ws p)
