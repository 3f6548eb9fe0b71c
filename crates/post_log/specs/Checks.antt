-- SPDX-License-Identifier: MIT OR Apache-2.0
-- What the check of words comes to. Assumes nothing.
use Rattle.std.specs.Prelude.{◌≡◌, List, ℕ, Result, IfOk, OnOk}
use Rattle.std.specs.Borrow.{Bor}
use Rattle.std.specs.Result.{result_err}
use Rattle.post_log.specs.declared.checked.CheckedLog.{CheckedLog}
use Rattle.post_log.specs.declared.refusal.Refusal.{Refusal}
use Rattle.post_log.specs.Entries.{Told}
use Rattle.post_log.specs.Rules.{Decided}
use Rattle.post_log.specs.Verdict.{verdict}
use Rattle.post_log.specs.Words.{body}

-- The result r of the check is a log of these words, or the refusal of them.
pub record Checks (words : Bor (List ℕ)) (r : Result CheckedLog Refusal) : Type 0 where
  -- the refusal that the judgement from the left comes to, if any
  pub value : result_err r ≡ verdict words.now
  -- and the one that the rules give
  pub decided : Decided words.now (result_err r)
  -- what is accepted has entries that never fall, spelled by its words
  pub told : OnOk r (Told (body words.now))
  -- and is held
  pub held : IfOk r (λ log. log.words ≡ words)
