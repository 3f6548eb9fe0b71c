-- SPDX-License-Identifier: MIT OR Apache-2.0
-- What is said where there is no listing. Assumes nothing.
use Rattle.std.specs.Prelude.{ℕ, List, ◌++◌, codes}
use Rattle.post_log.specs.Refusals as refusals
use Rattle.feed.specs.declared.failure.Failure.{Failure}
use Rattle.feed.specs.declared.failure.Failure.TheVariants.{Refused, TooLong, NotWords, MoreLogs, NoMemory}

abbrev pub message : Failure → List ℕ
message (Refused e) = refusals.message e ++ codes " of log 0"
message TooLong = codes "input above 65536 bytes is not read yet"
message NotWords = codes "input that is not in fours of bytes is not read yet"
message MoreLogs = codes "more than one log is not read yet"
message NoMemory = codes "out of memory"
