-- SPDX-License-Identifier: MIT OR Apache-2.0
use Rattle.std.proofs.Common.{◌≡◌, ◌+◌, ◌≤◌, map, length}
use Rattle.post_log.specs.Words.{word_of}
use Rattle.post_log.specs.Verdict.{body_verdict, start}
use Rattle.post_log.proofs.judge.judge_body.Given as goal

-- The words that are left have the verdict of the whole.
abbrev pub invariant-loop-rest : goal.invariant-loop-rest
invariant-loop-rest l =
    (body_verdict l.progress (map word_of l.rest) ≡ body_verdict start (map word_of l.words)) × (l.progress.place + length l.rest ≤ 16384)

abbrev pub decreases-loop-rest : goal.decreases-loop-rest
decreases-loop-rest l = length l.rest
