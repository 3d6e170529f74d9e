-- The three steps are a tick by what the plan asks for in the landed display: one that is refused, or one that goes on.
use Rattle.std.proofs.Common.{◌≡◌, ℕ, List, length, get_or, drop, refl, sym, ap, ◌∙◌, true, arith}
use Rattle.rules.specs.declared.Unrolled.{Unrolled}
use Rattle.rules.specs.Job.{call, job_of}
use Rattle.rules.specs.Plans.{asking}
use Rattle.display.proofs.Keeps.{land_keeps, room_landed}
use Rattle.display.proofs.Landed.{landed_awaits}
use Rattle.display.proofs.Steps.{tick_so}
use Rattle.display.proofs.Views.{lands_so}
use Rattle.rules.specs.Plans.{plan_number}
use Rattle.choice.specs.Asks.{asks_by}
use Rattle.planner.proofs.Walks.{limits_of, asked_landed}
use Rattle.planner.proofs.run.plan_tick.Goals as goal

pub asked_by-asked-requires : goal.asked_by-asked-requires
asked_by-asked-requires c =
    let a = c.args in
    let held₁ = c.land-landed.new.slots in
    let l = c.land-landed.result in
    let limits = limits_of a.job in
    let lands = lands_so a.held.now held₁ a.d l c.land-landed.ensures.display c.land-landed.ensures.slots in
    let landed = land_keeps a.held.now held₁ a.d l lands in
    let next : l.next ≡ a.d.next = landed.next in
    let slots : length held₁ ≡ a.job.shape.slots = c.land-landed.auto.slots ∙ c.requires.size in
    let many : length a.job.row.now ≡ a.job.shape.draws = ap length (sym a.job.drawn) ∙ limits.many_draws in
    let some = limits.some_slot in
    let few = limits.few_slots in
    let most = limits.few_draws in
    let remains = c.requires.remains in
    let awaits = landed_awaits c.draw_symbol-symbol.result limits landed remains c.draw_symbol-symbol.ensures in
    record {
      can = record { limits = record { some_slot = omega arith; few_slots = omega arith; few_draws = omega arith }; within = omega arith };
      awaits =
          ap (λ (n : ℕ). get_or (drop n a.job.row.now) 0 0) next
          ∙ ap (λ (r : List ℕ). get_or (drop a.d.next r) 0 0) (sym a.job.drawn)
          ∙ awaits;
    }

pub returns : goal.returns
returns c =
    let a = c.args in
    let asked = call a.job.bytes.now a.job.shape.rounds in
    let job = job_of asked in
    let held₁ = c.land-landed.new.slots in
    let l = c.land-landed.result in
    let limits = limits_of a.job in
    let lands = lands_so a.held.now held₁ a.d l c.land-landed.ensures.display c.land-landed.ensures.slots in
    let landed = land_keeps a.held.now held₁ a.d l lands in
    let size : job.slots ≡ length held₁ =
    sym (c.land-landed.auto.slots ∙ c.requires.size ∙ ap (λ (s : Unrolled). s.slots) limits.shaped) in
    let symbol = c.draw_symbol-symbol.result in
    let asks =
    asked_landed (plan_number a.plan) a.order a.job.row.now held₁ a.d l symbol c.asked_by-asked.result limits landed c.requires.remains
    c.draw_symbol-symbol.ensures size a.job.drawn c.asked_by-asked.ensures in
    (tick_so job (asking (asks_by (plan_number a.plan) job a.order)) a.held.now held₁ _ a.d l _ c.asked_by-asked.result symbol true _
    c.land-landed.ensures.display c.land-landed.ensures.slots asks (λ h. refl)
    (landed_awaits symbol limits landed c.requires.remains c.draw_symbol-symbol.ensures) size
    (sym (ap (λ (s : Unrolled). s.load_time) limits.shaped)) limits.some_load_time c.rest_of_tick.ensures).ticks

pub rest_of_tick-requires : goal.rest_of_tick-requires
rest_of_tick-requires c =
    let a = c.args in
    let held₁ = c.land-landed.new.slots in
    let l = c.land-landed.result in
    let limits = limits_of a.job in
    let lands = lands_so a.held.now held₁ a.d l c.land-landed.ensures.display c.land-landed.ensures.slots in
    let landed = land_keeps a.held.now held₁ a.d l lands in
    let slots : length held₁ ≡ a.job.shape.slots = c.land-landed.auto.slots ∙ c.requires.size in
    let few = limits.few_slots in
    let loads : l.loads ≡ a.d.loads = landed.loads in
    let fewer = c.requires.few_loads in
    record {
      begins = record { some_time = limits.some_load_time; loads = omega arith };
      moves = record { few_slots = omega arith; room = room_landed landed c.requires.room };
    }
