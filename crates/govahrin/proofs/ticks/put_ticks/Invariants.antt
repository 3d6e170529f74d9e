-- At each turn the ticks so far are at the front as bytes, and the rest is as it was.
use Rattle.std.proofs.Common.{◌≡◌, take}
use Rattle.rules.specs.Refusals.{tick_bytes, lent}
use Rattle.govahrin.proofs.ticks.put_ticks.Given as goal

abbrev pub invariant-loop-place : goal.invariant-loop-place
invariant-loop-place l = l.to ≡ lent (tick_bytes (take l.place l.from)) l.initial.to
