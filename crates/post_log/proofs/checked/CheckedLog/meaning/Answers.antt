-- SPDX-License-Identifier: MIT OR Apache-2.0
use Rattle.post_log.proofs.Checking.{lawful_log, told_log}
use Rattle.post_log.proofs.checked.CheckedLog.meaning.Goals as goal

pub returns : goal.returns
returns c = record { lawful = lawful_log c.args.self.now; told = told_log c.args.self.now }
