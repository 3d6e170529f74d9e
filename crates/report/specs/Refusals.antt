-- Which answer is a refusal. (Document 01, "Refusal numbers")
use Rattle.std.specs.Prelude.{ℕ, cond, Option, Some, None, eqb}
use Rattle.report.specs.declared.words.Refused.{Refused}

-- The number 0 is no refusal's.
abbrev pub refused_of : (number detail : ℕ) → Option Refused
refused_of n d = cond (eqb n 0) None (Some (record { number = n; detail = d }))
