-- SPDX-License-Identifier: MIT OR Apache-2.0
use Rattle.post_log.proofs.Checking.{passing}
use Rattle.post_log.proofs.checked.CheckedLogTryFromRefSliceU32.try_from.Goals as goal

pub returns : goal.returns
returns c = passing _
