-- SPDX-License-Identifier: MIT OR Apache-2.0
-- The number of the refusal, the value that is returned with it, and its text. Assumes nothing.
use Rattle.std.specs.Prelude.{◌≡◌, ℕ, List, ◌++◌, codes, decimal}
use Rattle.garage.specs.declared.limit.PastLimit.{PastLimit}

abbrev pub number : PastLimit → ℕ
number e = 6

abbrev pub value : PastLimit → ℕ
value e = 0

-- what every refusal of a value past a limit says
abbrev pub Refuses : PastLimit → Type 0
Refuses e = (number e ≡ 6) × (value e ≡ 0)

abbrev pub message : PastLimit → List ℕ
message e = codes "refused " ++ (decimal (number e) ++ (codes " at " ++ decimal (value e)))
