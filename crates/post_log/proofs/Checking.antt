-- SPDX-License-Identifier: MIT OR Apache-2.0
-- What a checked log is, and what the check of words comes to by the verdict on them.
use Rattle.std.proofs.Common.{◌≡◌, List, ℕ, Some, None, Ok, Err, Result, refl}
use Rattle.std.specs.Borrow.{Bor}
use Rattle.post_log.specs.declared.checked.CheckedLog.{CheckedLog}
use Rattle.post_log.specs.declared.refusal.Refusal.{Refusal}
use Rattle.post_log.specs.Checks.{Checks}
use Rattle.post_log.specs.Entries.{Told}
use Rattle.post_log.specs.Rules.{Lawful}
use Rattle.post_log.specs.Verdict.{verdict}
use Rattle.post_log.specs.Words.{body}
use Rattle.post_log.proofs.Whole.{decided_as, none_from_passes, lawful_from_passes, told_from_passes}

pub lawful_log : (log : CheckedLog) → Lawful log.words.now
lawful_log log = lawful_from_passes log.words.now log.lawful

pub told_log : (log : CheckedLog) → Told (body log.words.now)
told_log log = told_from_passes log.words.now log.narrow log.lawful

pub passing : (log : CheckedLog) → Checks log.words (Ok log)
passing log =
    let value = none_from_passes log.words.now log.lawful in
    record {
      value = value;
      decided = decided_as log.words.now None value;
      told = told_log log;
      held = refl;
    }

pub refusing : (words : Bor (List ℕ)) (e : Refusal) (r : Result CheckedLog Refusal) → r ≡ Err e → Some e ≡ verdict words.now → Checks words r
refusing words e r same value =
    rw same record {
      value = value;
      decided = decided_as words.now (Some e) value;
      told = tt;
      held = tt;
    }
