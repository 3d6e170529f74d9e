-- The three steps are a tick by what the list asks for in the landed display: one that is refused, or one that goes on.
use Rattle.std.proofs.Common.{◌≡◌, ℕ, length, sym, ap, ◌∙◌}
use lib.Dec.{leb}
use Rattle.rules.specs.declared.Unrolled.{Unrolled}
use Rattle.rules.specs.Job.{job_of}
use Rattle.rules.specs.LoadList.{head_size}
use Rattle.rules.specs.Refusals.{follow}
use Rattle.laws.proofs.Events.{length-events_in}
use Rattle.display.proofs.Keeps.{land_keeps}
use Rattle.display.proofs.Landed.{landed_awaits}
use Rattle.display.proofs.Steps.{tick_so}
use Rattle.display.proofs.Views.{lands_so}
use Rattle.checker.specs.Follow.{call_of, events_along}
use Rattle.checker.proofs.follow.follow_tick.Goals as goal
use Rattle.std.proofs.Common.{drop}

pub returns : goal.returns
returns c =
    let a = c.args in
    let held₁ = c.land-landed.new.slots in
    let l = c.land-landed.result in
    let job = job_of (call_of a.job) in
    let limits = c.args.job.limits in
    let lands = lands_so a.held.now held₁ a.d l c.land-landed.ensures.display c.land-landed.ensures.slots in
    let size : job.slots ≡ length held₁ = sym (c.land-landed.auto.slots ∙ c.requires.all_slots ∙ ap (λ (s : Unrolled). s.slots) limits.shaped) in
    let symbol = c.draw_symbol-symbol.result in
    let on =
    tick_so job (follow (events_along a.list.count a.list.bytes.now)) a.held.now held₁ _ a.d l _ c.asked_of-asked.result symbol (leb a.list.count l.loads) _
    c.land-landed.ensures.display c.land-landed.ensures.slots (λ h remain. c.asked_of-asked.ensures)
    (λ h. ap (λ (n : ℕ). leb n l.loads) (length-events_in a.list.count (drop head_size a.list.bytes.now)))
    (landed_awaits symbol limits (land_keeps a.held.now held₁ a.d l lands) c.requires.remains c.draw_symbol-symbol.ensures) size
    (sym (ap (λ (s : Unrolled). s.load_time) limits.shaped)) limits.some_load_time c.rest_of_tick.ensures in
    record { ticks = on.ticks; recorded = on.recorded }
