-- The run of a plan, tick by tick: the rule it goes by, the waits passed over, and what the loop of the code keeps.
use Prim.Native.Nat.{ℕ, zero, suc, ◌+◌, ◌-◌, ◌<◌, ◌≤◌, ◌*◌, ◌%◌}
use native.Mathlib.Omega.{arith}
use mathlib.Core.Path.{◌≡◌, refl, sym, ap, ◌∙◌}
use mathlib.Core.Bool.{true, false}
use mathlib.Core.List.{List, [], ◌∷◌}
use lib.ListN.{length, get_or, drop}
use Rattle.std.specs.Prelude.{Option, None, Result, Ok, Err}
use Rattle.rules.specs.declared.refusal.Refusal.{Refusal}
use Rattle.rules.specs.declared.Load.{Load}
use Rattle.rules.specs.declared.Unrolled.{Unrolled}
use Rattle.rules.specs.Basics.{number16}
use Rattle.rules.specs.Job.{Job, Call, call, starting_symbols, draws_of, draws_at, job_of}
use Rattle.rules.specs.LoadList.{last_tick}
use Rattle.rules.specs.Display.{load, State, Rule, Loaded, loaded, going, refused, then, start, land, idle, beginning, happened, record_of, tick}
use Rattle.rules.specs.Plans.{asking, earliest, opt, run_plan, begun_in, rule_of}
use Rattle.rules.specs.Refusals.{in_time}
use Rattle.laws.proofs.Rows.{length-snoc}
use Rattle.laws.proofs.Moves.{tick_kept, is_more}
use Rattle.laws.specs.Limits.{Limits}
use Rattle.laws.proofs.Jobs.{limits}
use Rattle.planner.specs.declared.run.TakenJob.{TakenJob}
use Rattle.display.specs.declared.state.Display.{Display}
use Rattle.display.specs.declared.tick.Ticked.{Ticked}
use Rattle.display.specs.View.{History, at_first, view, onward}
use Rattle.display.specs.Moves.{started, nearer}
use Rattle.display.specs.Tick.{Ticks}
use Rattle.display.specs.Still.{passed, Rested}
use Rattle.display.proofs.Views.{starts_so, under_way}
use Rattle.display.proofs.Keeps.{LandKeeps}
use Rattle.display.proofs.Landed.{landed_awaits}
use Rattle.display.proofs.Stretches.{Quiet}
use Rattle.display.proofs.Going.{Going, going_start, going_done, going_over, going_late, going_more, going_refused, going_on}
use Rattle.choice.specs.declared.ask.Order.{Order}
use Rattle.choice.specs.Asks.{order_asks, asks_by, Asked}
use Rattle.planner.specs.Loads.{first_loads}
use Rattle.planner.specs.Runs.{LoadUnderWay}
use Rattle.planner.proofs.LoadRow.{RowKept}

-- ---- The rule

-- A tick goes by what the rule asks for in the landed state alone, so conservative may be told from its next load.
same_tick : (plan : ℕ) (job : Job) (order : Option Order) (s : State)
    → (plan ≡ 1 → order_asks order (land s) ≡ earliest (drop s.loads (begun_in (run_plan job (opt job)))) (land s))
    → tick job (asking (asks_by plan job order)) s ≡ tick job (rule_of job plan) s
unfolding tick
same_tick zero job order s e = refl
same_tick (suc zero) job order s e =
    ap (λ (x : Option Load). then (beginning job x (land s)) (λ b. happened (record_of x b).happening true b)) (e refl)
same_tick (suc (suc zero)) job order s e = refl
same_tick (suc (suc (suc plan))) job order s e = refl

pub ruled : (plan : ℕ) (job : Job) (order : Option Order) (held held' : List ℕ) (d : Display) (r : Result Ticked Refusal)
    → (plan ≡ 1 → (s : State) → order_asks order s ≡ earliest (drop d.loads (begun_in (run_plan job (opt job)))) s)
    → Ticks job (asking (asks_by plan job order)) held held' d r → Ticks job (rule_of job plan) held held' d r
ruled plan job order held held' d r ordered ticks =
    record {
      counts = ticks.counts;
      waits = ticks.waits;
      run = λ h e. ticks.run h e ∙ same_tick plan job order (view held h d) (λ one. ordered one (land (view held h d)));
    }

-- A job that was taken keeps to the limits.
pub limits_of : (job : TakenJob) → Limits (call job.bytes.now job.shape.rounds) job.shape
limits_of job = limits (call job.bytes.now job.shape.rounds) job.shape job.taken

-- What is asked for with the landed display at hand is what the plan asks for in its state.
pub asked_landed : {asked : Call} {shape : Unrolled} (plan : ℕ) (order : Option Order) (row held : List ℕ) (d l : Display)
    (symbol : ℕ) (load : Option Load)
    → Limits asked shape
    → LandKeeps d l
    → d.next < shape.draws
    → symbol ≡ number16 asked.job (draws_at shape.slots + 2 * (l.next % shape.round))
    → (job_of asked).slots ≡ length held
    → draws_of asked ≡ row
    → Asked plan held row l symbol order load
    → (h : History)
    → h.rest ≡ drop d.next (draws_of asked)
    → load ≡ asks_by plan (job_of asked) order (view held h l)
asked_landed {asked} plan order row held d l symbol load limits kept within read size draws asks h remain =
    asks h (job_of asked)
    record {
      many = size;
      draws = draws;
      rest = remain ∙ ap (λ (n : ℕ). drop n (draws_of asked)) (sym kept.next);
      awaits = ap (λ (rest : List ℕ). get_or rest 0 0) remain ∙ landed_awaits symbol limits kept within read;
    }

-- While a load is under way no plan asks for another.
earliest_busy : (l : List Loaded) (s : State) → idle s.loading ≡ false → earliest l s ≡ None
earliest_busy [] s busy = refl
earliest_busy (loaded t d q x ∷ later) s busy = rw busy

rule_busy : (plan : ℕ) (job : Job) (s : State) → idle s.loading ≡ false → (rule_of job plan).asks s ≡ None
rule_busy zero job s busy = rw busy
rule_busy (suc zero) job s busy = earliest_busy (drop s.loads (begun_in (run_plan job (opt job)))) s busy
rule_busy (suc (suc zero)) job s busy = rw busy
rule_busy (suc (suc (suc plan))) job s busy = rw busy

-- ---- The waits after a tick

pub waits_none : (d : Display) → LoadUnderWay d 0
waits_none d = record { before_end = λ ends. omega arith; under_way = λ some. absurd (omega arith) }

-- Each tick of the stretch is a wait and no more, whatever the slots hold.
pub calm : (plan : ℕ) (job : Job) (slots : List ℕ) (h : History) (d : Display) (m : ℕ) → LoadUnderWay d m → (j : ℕ) → j < m
    → Quiet job (rule_of job plan) slots h (passed j d)
calm plan job slots h d m w j less =
    let some : 0 < d.remaining = w.under_way (omega arith) in
    let beyond : d.remaining - m ≡ 0 → d.remaining ≡ 0 = w.before_end in
    let far : (d.remaining - j - 1 ≡ 0 → ⊥) = λ none. let idle' : d.remaining ≡ 0 = beyond (omega arith) in omega arith in
    record {
      asks =
          rule_busy plan job (view slots h (nearer (passed j d)))
          (ap idle (under_way (d.remaining - j - 1) d.target d.incoming far));
      far = λ last. far (omega arith);
      goes_on = λ none. absurd (far (omega arith));
    }

-- ---- The run

-- The run is on its way at this display with this history, and each load that was begun is counted.
pub record Walking (job : Job) (rule : Rule) (held : List ℕ) (d : Display) (h : History) : Type 0 where
  pub along : Going job rule last_tick held d h
  pub listed : length h.begun ≡ d.loads

-- What the loop of the code keeps: as many slots as there were, a run on its way, and its loads in the row.
pub record MidRun (plan : ℕ) (asked : Call) (size orders : ℕ) (held loads : List ℕ) (d : Display) : Type 0 where
  pub same_size : length held ≡ size
  pub history : History
  pub walking : Walking (job_of asked) (rule_of (job_of asked) plan) held d history
  pub row : RowKept plan asked orders history.begun d.loads loads

-- A tick by what the order and the plan ask for is a tick by the plan: the row has the orders that are still to come.
pub by_plan : (plan : ℕ) (asked : Call) (orders : ℕ) (loads : List ℕ) (held held' : List ℕ) (d : Display)
    (order : Option Order) (r : Result Ticked Refusal)
    {begun : List Loaded} → RowKept plan asked orders begun d.loads loads
    → ((s : State) → order_asks order s ≡ earliest (drop d.loads (first_loads orders loads)) s)
    → Ticks (job_of asked) (asking (asks_by plan (job_of asked) order)) held held' d r
    → Ticks (job_of asked) (rule_of (job_of asked) plan) held held' d r
by_plan plan asked orders loads held held' d order r {begun} kept ordered ticks =
    ruled plan (job_of asked) order held held' d r (λ one s. ordered s ∙ ap (λ (o : List Loaded). earliest o s) (kept.to_come one)) ticks

-- The loop begins at the start of the rules.
pub walking_first : (asked : Call) (rule : Rule) (held : List ℕ) (d : Display)
    → held ≡ starting_symbols asked.job
    → d ≡ started
    → Walking (job_of asked) rule held d (at_first (job_of asked))
walking_first asked rule held d starts fresh =
    let job = job_of asked in
    let begins : view held (at_first job) d ≡ start job = starts_so job held d starts fresh in
    record {
      along = going_start job rule last_tick held d (at_first job) begins;
      listed = sym (ap (λ (s : State). s.loads) begins);
    }

module _ (job : Job) (rule : Rule) where
  -- Each load that is begun is counted.
  listed_kept : (s s' : State) → 0 < length s.rest → length s.begun ≡ s.loads → tick job rule s ≡ going s'
      → length s'.begun ≡ s'.loads
  listed_kept s s' more e ticked =
      tick_kept job rule _ _ (λ z. length z.begun ≡ z.loads) (λ z. length z.begun ≡ z.loads)
      (record {
        lands = λ z m p. p;
        passes = λ z m a p. p;
        begins = λ q x z f p. length-snoc z.begun (loaded z.tick z.next q x) ∙ ap (λ (n : ℕ). n + 1) p;
        draws = λ q z f p. p;
        waits = λ z f p. p;
      }) s s' more e ticked

  module _ (held : List ℕ) (d : Display) (h : History) (w : Walking job rule held d h) where
    -- The loop ends where no draw remains, where no tick is left, or where a tick is refused.
    pub ends_over : length job.draws ≤ d.next → in_time (run_plan job rule) ≡ going (view held h d)
    ends_over over =
        ap in_time (going_over job rule last_tick held d h w.along over) ∙ rw (going_done job rule last_tick held d h w.along over)

    module _ (within : d.next < length job.draws) where
      pub ends_late : last_tick ≤ d.tick → in_time (run_plan job rule) ≡ refused 15 0
      ends_late late =
          ap in_time (going_late job rule last_tick held d h w.along late) ∙ rw (going_more job rule last_tick held d h w.along within)

      module _ (early : d.tick < last_tick) (held' : List ℕ) where
        pub ends_refused : (e : Refusal) → Ticks job rule held held' d (Err e) → in_time (run_plan job rule) ≡ refused 15 0
        ends_refused e ticks = ap in_time (going_refused job rule last_tick held d h w.along within early held' e ticks)

        -- Otherwise it goes on, after the waits that follow the tick.
        module _ (r : Ticked) (ticks : Ticks job rule held held' d (Ok r)) (later : Display)
            (rested : Rested (LoadUnderWay r.display) last_tick r.on_record.happening r.display later)
            (still : (m : ℕ) → LoadUnderWay r.display m → (j : ℕ) → j < m
            → Quiet job rule held' (onward d r.on_record h) (passed j r.display)) where
          pub walking_on : Walking job rule held' later (onward d r.on_record h)
          walking_on =
              record {
                along = going_on job rule last_tick held d h w.along within early held' r ticks (LoadUnderWay r.display) later rested still;
                listed =
                    listed_kept (view held h d) (view held' (onward d r.on_record h) r.display)
                    (is_more h.rest (going_more job rule last_tick held d h w.along within)) w.listed (sym (ticks.run h w.along.rest))
                    ∙ sym (ap (λ (e : Display). e.loads) rested.passes);
              }
