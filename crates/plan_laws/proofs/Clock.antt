-- The loader's clock: a plan waits only while a load is under way, and each load is under way for F ticks; each load of any run that has
-- ended had F ticks of its own.
use Prim.Native.Nat.{ℕ, zero, suc, ◌+◌, ◌*◌, ◌-◌, ◌<◌, ◌≤◌}
use native.Mathlib.Omega.{arith}
use native.Mathlib.Nat.{mul-add, mul-one}
use mathlib.Core.Path.{◌≡◌, refl, ap, ◌∙◌}
use mathlib.Core.Bool.{true, false}
use Rattle.std.specs.Prelude.{Option}
use Rattle.rules.specs.declared.Load.{Load}
use Rattle.rules.specs.declared.Loading.{Loading}
use Rattle.rules.specs.declared.Loading.TheVariants.{Idle, Under}
use Rattle.rules.specs.Job.{Job}
use Rattle.rules.specs.Display.{State, Rule, going, start, landed_loading, run}
use Rattle.rules.specs.Plans.{asking}
use Rattle.laws.proofs.Moves.{Moves, reached}
use Rattle.laws.proofs.Jobs.{Proper}
use Rattle.laws.proofs.Counts.{ahead}
use Rattle.laws.proofs.Sane.{sane}

-- A tick takes one from those to the end of the load under way.
pub tick_used : (loading : Loading) → ahead (landed_loading loading) ≡ ahead loading - 1
tick_used Idle = refl
tick_used (Under zero q x) = refl
tick_used (Under (suc left) q x) = omega arith

-- Where a wait would be endless with no load under way, one is under way.
pub wait_used : (loading : Loading) → (loading ≡ Idle → true ≡ false) → 1 ≤ ahead loading
wait_used Idle h = let never : true ≡ false = h refl in let impossible : ◌≡◌ {A = ℕ} 0 1 = cc in absurd (omega arith)
wait_used (Under left q x) h = omega arith

-- One load more is F ticks more.
pub one_more : (f l : ℕ) → f * (l + 1) ≡ f * l + f
one_more f l = mul-add f l 1 ∙ ap (λ (n : ℕ). f * l + n) (mul-one f)

module _ (job : Job) (asks : State → Option Load) (some_load_time : 1 ≤ job.load_time) where
  abbrev Spent : State → Type 0
  Spent s = s.waits + ahead (landed_loading s.loading) ≤ job.load_time * s.loads

  abbrev Spending : State → Type 0
  Spending s = s.waits + ahead s.loading ≤ job.load_time * s.loads

  spent_moves : Moves job (asking asks) Spent Spending Spending
  spent_moves =
      record {
        lands = λ s more h. h;
        passes = λ s more a h. h;
        begins = λ q x s b h.
            let none : ahead s.loading ≡ 0 = ap ahead b.quiet in
            rw (one_more job.load_time s.loads) (omega arith);
        draws = λ q s d h. omega (arith, tick_used s.loading);
        waits = λ s w h. omega (arith, tick_used s.loading, wait_used s.loading w.hope);
      }

  -- A plan's waits are no more than F to each of its loads.
  pub waits_few : (t : ℕ) (s : State) → run job (asking asks) t (start job) ≡ going s → s.waits ≤ job.load_time * s.loads
  waits_few t s e =
      let spent : Spent s = reached job (asking asks) Spent Spending Spending spent_moves t (start job) s (omega arith) e in
      omega arith

-- A load under way takes up one of the loads begun.
abbrev pub under_of : Loading → ℕ
under_of Idle = 0
under_of (Under left q x) = 1

module _ (job : Job) (rule : Rule) (proper : Proper job) where
  abbrev Taken : State → Type 0
  Taken s = job.load_time * s.loads ≤ s.tick + ahead (landed_loading s.loading)

  abbrev Taking : State → Type 0
  Taking s = job.load_time * s.loads ≤ s.tick + ahead s.loading

  taken_moves : Moves job rule Taken Taking Taking
  taken_moves =
      let some_load_time : 1 ≤ job.load_time = proper.some_load_time in
      record {
        lands = λ s more h. h;
        passes = λ s more a h. h;
        begins = λ q x s b h.
            let none : ahead s.loading ≡ 0 = ap ahead b.quiet in
            rw (one_more job.load_time s.loads) (omega arith);
        draws = λ q s d h. omega (arith, tick_used s.loading);
        waits = λ s w h. omega (arith, tick_used s.loading);
      }

  ended_by : (loading : Loading) (tick loads ended : ℕ) → ((left q x : ℕ) → loading ≡ Under left q x → left < job.load_time)
      → job.load_time * loads ≤ tick + ahead (landed_loading loading) → ended + under_of loading ≡ loads → job.load_time * ended ≤ tick
  ended_by Idle tick loads ended soon h e =
      let same : loads ≡ ended = omega arith in omega (arith, rw same at h)
  ended_by (Under left q x) tick loads ended soon h e =
      let first : job.load_time * (ended + 1) ≤ tick + ahead (landed_loading (Under left q x)) = rw (← e) at h in
      omega (arith, tick_used (Under left q x), one_more job.load_time ended, soon left q x refl)

  -- Each load that has ended had F ticks of its own.
  pub ended_ticks : (t : ℕ) (s : State) → run job rule t (start job) ≡ going s → (ended : ℕ) → ended + under_of s.loading ≡ s.loads
      → job.load_time * ended ≤ s.tick
  ended_ticks t s e ended all =
      ended_by s.loading s.tick s.loads ended
      (λ left q x under. ((sane job rule proper t s e).under left q x under).soon)
      (reached job rule Taken Taking Taking taken_moves t (start job) s (omega arith) e)
      all
