-- SPDX-License-Identifier: MIT OR Apache-2.0
-- The classes of records: their codes and their order. Assumes nothing.
use Rattle.std.specs.Prelude.{◌≡◌, ℕ, cond, List, ◌++◌, Some, None, Option, Result, MatchResult, ◌==◌, codes, decimal}
use Rattle.post_log.specs.declared.class.Class.{Class}
use Rattle.post_log.specs.declared.class.Class.TheVariants.{Tariff, Reading, PlugEvent}
use Rattle.post_log.specs.declared.class.UnknownClass.{UnknownClass}

-- the class that a code names, if any
abbrev pub class : ℕ → Option Class
class n = cond (n == 0) (Some Tariff) (cond (n == 1) (Some Reading) (cond (n == 2) (Some PlugEvent) None))

-- the result is the class that the code names, or an error with a code that names none
abbrev pub Decodes : ℕ → Result Class UnknownClass → Type 0
Decodes n r = MatchResult r (λ c. class n ≡ Some c) (λ e. (class n ≡ None) × (e.0 ≡ n))

-- what is said of a code that names none
abbrev pub unknown : UnknownClass → List ℕ
unknown e = codes "no class has code " ++ decimal e.0

-- the number that words and listings have for a class
abbrev pub code : Class → ℕ
code Tariff = 0
code Reading = 1
code PlugEvent = 2

-- where a class stands among the records of one instant, the lowest first
abbrev pub rank : Class → ℕ
rank c = code c

-- the class that comes first
abbrev pub first : Class
first = Tariff
