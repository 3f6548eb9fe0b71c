-- SPDX-License-Identifier: MIT OR Apache-2.0
-- What an input comes to, by the log in it.
use Rattle.std.proofs.Common.{◌≡◌, ℕ, ◌%◌, ◌≤◌, false, true, eqb, ltb, List, [], ◌∷◌, length, Ok, Err, Result, sym, refl, subst, inl, inr, Bor}
use Rattle.std.proofs.lemmas.Bool.{le-ltb, eq-eqb}
use Rattle.post_log.specs.declared.checked.CheckedLog.{CheckedLog}
use Rattle.post_log.specs.Checks.{Checks}
use Rattle.post_log.specs.Entries.{Told}
use Rattle.post_log.specs.Rules.{Lawful}
use Rattle.post_log.specs.Words.{body}
use Rattle.feed.specs.declared.failure.Failure.{Failure}
use Rattle.feed.specs.declared.failure.Failure.TheVariants.{MoreLogs}
use Rattle.feed.specs.Inputs.{words_of, spelled, first_log, later_words}
use Rattle.feed.specs.Outcomes.{listed, outcome, Gives, Lists, Read, Ruled}

-- An input in fours, and not too long, whose first log passes.
pub record Passed (bytes : List ℕ) (words : Bor (List ℕ)) (log : CheckedLog) (later : List ℕ) : Type 0 where
  pub small : length bytes ≤ 65536
  pub fours : length bytes % 4 ≡ 0
  pub whole : spelled (words_of bytes) ≡ bytes
  pub first : words.now ≡ first_log (words_of bytes)
  pub others : later ≡ later_words (words_of bytes)
  pub checks : Checks words (Ok log)

module _ (bytes : List ℕ) (words : Bor (List ℕ)) (log : CheckedLog) (later : List ℕ) (p : Passed bytes words log later) where
  outcome_is : outcome bytes ≡ listed words.now later
  outcome_is =
      let short : ltb 65536 (length bytes) ≡ false = le-ltb 65536 (length bytes) p.small in
      let in_fours : eqb (length bytes % 4) 0 ≡ true = eq-eqb (length bytes % 4) 0 p.fours in
      simp (short, in_fours, ← p.first, ← p.others) (cc)

  read : Read bytes
  read = (p.whole, subst Lawful p.first p.checks.decided.ruled, subst (λ ws. Told (body ws)) p.first p.checks.told)

  -- what is listed of the log, or why it is not, is what the input comes to
  pub listing_given : (r : Result (List ℕ) Failure) → Lists log.words.now later r → Gives bytes r × Ruled bytes r
  listing_given r h = given later refl r (subst (λ w. Lists w.now later r) p.checks.held h)
    where
      given : (l : List ℕ) → l ≡ later → (r : Result (List ℕ) Failure) → Lists words.now l r → Gives bytes r × Ruled bytes r
      given [] e (Ok text) h = (cc outcome_is, (read, cc p.others, cc p.first))
      given (w ∷ l) e (Ok text) h = cc
      given [] e (Err f) (inl h) = cc
      given (w ∷ l) e (Err f) (inl h) =
          let same : MoreLogs ≡ f = cc in
          (inl (cc outcome_is), subst (λ v. Ruled bytes (Err v)) same (read, λ n. cc p.others))
      given l e (Err f) (inr h) = (inr (h, p.small, p.fours), subst (λ v. Ruled bytes (Err v)) (sym h) tt)
