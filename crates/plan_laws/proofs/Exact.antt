-- A load on demand costs F waits, no more and no less: so opt and lru take n + F · loads ticks, and conservative is never later than opt.
use Prim.Native.Nat.{ℕ, zero, suc, ◌+◌, ◌*◌, ◌<◌, ◌≤◌}
use native.Mathlib.Omega.{arith}
use mathlib.Core.Path.{◌≡◌, refl, sym, ap, ◌∙◌}
use mathlib.Core.Bool.{true, false}
use mathlib.Core.List.{List, [], map}
use lib.ListN.{length, get_or, drop, length-map}
use Rattle.rules.specs.declared.Loading.{Loading}
use Rattle.rules.specs.declared.Loading.TheVariants.{Idle, Under}
use Rattle.rules.specs.Basics.{stands}
use Rattle.rules.specs.Job.{Job}
use Rattle.rules.specs.LoadList.{last_tick}
use Rattle.rules.specs.Display.{State, going, start, landed_loading, run}
use Rattle.rules.specs.Plans.{on_demand, opt_slot, opt}
use Rattle.laws.proofs.Jobs.{Proper}
use Rattle.laws.proofs.Counts.{ahead as ticks_left}
use Rattle.laws.proofs.Sane.{Sane, SaneMoves, reached_sanely}
use Rattle.plan_laws.proofs.Clock.{tick_used, wait_used, one_more}
use Rattle.plan_laws.proofs.OnDemand.{demanded, opt_done}
use Rattle.plan_laws.proofs.Keeping.{Done}
use Rattle.plan_laws.proofs.Rising.{Rising}
use Rattle.plan_laws.proofs.OptLoads.{miss_of, misses_of, opt_loads}
use Rattle.plan_laws.proofs.Conservative.{conservative_done}

-- The load under way is for the next draw.
abbrev Awaits : Loading → List ℕ → Type 0
Awaits Idle rest = Unit {0}
Awaits (Under left q x) rest = (0 < length rest) × (x ≡ get_or rest 0 0)

awaits_lands : (loading : Loading) (rest : List ℕ) → Awaits loading rest → Awaits (landed_loading loading) rest
awaits_lands Idle rest h = tt
awaits_lands (Under zero q x) rest h = tt
awaits_lands (Under (suc left) q x) rest h = h

awaits_idle : (loading : Loading) (rest : List ℕ) → loading ≡ Idle → Awaits loading rest
awaits_idle Idle rest e = tt
awaits_idle (Under left q x) rest e = let impossible : ◌≡◌ {A = ℕ} 0 1 = cc in absurd (omega arith)

-- So nothing is drawn while it is under way, and none is under way at the end.
idle_at_draw : (job : Job) (next : ℕ) (rest slots : List ℕ) (loading : Loading) → Sane job next rest slots loading → Awaits loading rest
    → stands (get_or rest 0 0) slots ≡ true → loading ≡ Idle
idle_at_draw job next rest slots Idle g h held = refl
idle_at_draw job next rest slots (Under left q x) g h held =
    let nowhere : stands (get_or rest 0 0) slots ≡ false = rw h.1 at (g.under left q x refl).nowhere in
    let impossible : ◌≡◌ {A = ℕ} 0 1 = cc in
    absurd (omega arith)

idle_at_end : (loading : Loading) (rest : List ℕ) → rest ≡ [] → Awaits loading rest → ticks_left (landed_loading loading) ≡ 0
idle_at_end Idle rest over h = refl
idle_at_end (Under left q x) rest over h = absurd (omega (arith, ap length over))

module _ (job : Job) (proper : Proper job) (slot : State → ℕ) where
  record Exact (waits loads ticks : ℕ) (loading : Loading) (rest : List ℕ) : Type 0 where
    count : waits + ticks ≡ job.load_time * loads
    awaits : Awaits loading rest

  abbrev Between : State → Type 0
  Between s = Exact s.waits s.loads (ticks_left (landed_loading s.loading)) s.loading s.rest

  abbrev Within : State → Type 0
  Within s = Exact s.waits s.loads (ticks_left s.loading) s.loading s.rest

  exact_moves : SaneMoves job (on_demand slot) Between Within Within
  exact_moves =
      record {
        lands = λ s more g h. record { count = h.count; awaits = awaits_lands s.loading s.rest h.awaits };
        passes = λ s more a g h. h;
        begins = λ q x s b g h.
            let none : ticks_left s.loading ≡ 0 = ap ticks_left b.quiet in
            let some_load_time : 1 ≤ job.load_time = proper.some_load_time in
            let before : s.waits + ticks_left s.loading ≡ job.load_time * s.loads = h.count in
            record { count = rw (one_more job.load_time s.loads) (omega arith); awaits = (b.more, sym (demanded slot q x s b.asks).symbol) };
        draws = λ q s d g h.
            let quiet : s.loading ≡ Idle = idle_at_draw job s.next s.rest s.slots s.loading g h.awaits d.held in
            record {
              count = omega (arith, h.count, ap ticks_left quiet, tick_used s.loading);
              awaits = awaits_idle s.loading (drop 1 s.rest) quiet;
            };
        waits = λ s w g h. record { count = omega (arith, h.count, tick_used s.loading, wait_used s.loading w.hope); awaits = h.awaits };
      }

  -- Each load on demand costs F waits.
  pub demand_waits : (t : ℕ) (s : State) → run job (on_demand slot) t (start job) ≡ going s → s.rest ≡ [] → s.waits ≡ job.load_time * s.loads
  demand_waits t s e over =
      let h : Between s =
      reached_sanely job (on_demand slot) Between Within Within proper exact_moves (record { count = omega arith; awaits = tt }) t s e in
      omega (arith, h.count, idle_at_end s.loading s.rest over h.awaits)

-- Opt's run makes as many loads as it has misses, and waits F ticks for each.
module _ (job : Job) (proper : Proper job) where
  opt_count : (opt_done job proper).last.loads ≡ length (misses_of job)
  opt_count =
      let d : Done job (opt job) Rising = opt_done job proper in
      let begun : map miss_of d.last.begun ≡ misses_of job = rw d.ran at (opt_loads job proper) in
      sym d.listed ∙ sym (length-map d.last.begun miss_of) ∙ ap length begun

  opt_waits : (opt_done job proper).last.waits ≡ job.load_time * length (misses_of job)
  opt_waits =
      let d : Done job (opt job) Rising = opt_done job proper in
      demand_waits job proper (opt_slot job) last_tick d.last d.ran d.over
      ∙ ap (λ (n : ℕ). job.load_time * n) opt_count

  -- Conservative is never later than opt, with the same number of loads.
  pub conservative_no_later : ((conservative_done job proper).last.tick ≤ (opt_done job proper).last.tick)
      × ((conservative_done job proper).last.loads ≡ (opt_done job proper).last.loads)
  conservative_no_later =
      let c = conservative_done job proper in
      let o = opt_done job proper in
      let same : c.last.loads ≡ length (misses_of job) = c.kept.count in
      let brief : c.last.waits ≤ job.load_time * length (misses_of job) = rw same at c.brief in
      (omega (arith, c.whole, o.whole, opt_waits), same ∙ sym opt_count)
