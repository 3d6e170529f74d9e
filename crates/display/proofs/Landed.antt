-- The symbol that a display awaits, read from the job's bytes once a load that ends in this tick is in its slot.
use Prim.Native.Nat.{ℕ, ◌+◌, ◌*◌, ◌%◌, ◌<◌}
use native.Mathlib.Omega.{arith}
use mathlib.Core.Path.{◌≡◌, sym, ap, ◌∙◌}
use lib.ListN.{get_or, drop}
use lib.Seq.{get_or-drop}
use Rattle.rules.specs.declared.Unrolled.{Unrolled}
use Rattle.rules.specs.Basics.{number16}
use Rattle.rules.specs.Job.{Call, draws_of, draws_at}
use Rattle.laws.specs.Limits.{Limits}
use Rattle.laws.proofs.Jobs.{draw_read}
use Rattle.display.specs.declared.state.Display.{Display}
use Rattle.display.proofs.Keeps.{LandKeeps}

pub landed_awaits : {asked : Call} {shape : Unrolled} {d l : Display} (symbol : ℕ) → Limits asked shape → LandKeeps d l → d.next < shape.draws
    → symbol ≡ number16 asked.job (draws_at shape.slots + 2 * (l.next % shape.round))
    → get_or (drop d.next (draws_of asked)) 0 0 ≡ symbol
landed_awaits {asked} {shape} {d} {l} symbol limits kept within read =
    let there : d.next + 0 ≡ d.next = omega arith in
    rw (get_or-drop, there)
    (draw_read limits d.next within
    ∙ sym (read ∙ ap (λ (n : ℕ). number16 asked.job (draws_at shape.slots + 2 * (n % shape.round))) kept.next))
