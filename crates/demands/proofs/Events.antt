-- The events of a list against the loads that a run along it has begun, and that each event of an accepted list may begin.
use Prim.Native.Nat.{ℕ, zero, suc, ◌+◌, ◌-◌, ◌<◌, ◌≤◌, min}
use native.Mathlib.Omega.{arith}
use mathlib.Core.Path.{◌≡◌, refl, sym, ap, ◌∙◌}
use mathlib.Core.List.{List, [], ◌∷◌, map}
use lib.ListN.{length, get_or, take, drop, length-map, length-take, length-drop}
use lib.Seq.{get_or-take, get_or-drop}
use lib.Dec.{ltb}
use borrow.Author.Tests.{ltb-true, ltb-false}
use Rattle.std.specs.Prelude.{Some}
use Rattle.rules.specs.declared.Loading.{Loading}
use Rattle.rules.specs.Job.{Job}
use Rattle.rules.specs.declared.Event.{Event}
use Rattle.rules.specs.LoadList.{event}
use Rattle.rules.specs.Display.{load, State, Loaded, loaded, going, start, run}
use Rattle.rules.specs.Refusals.{follow, due, event_of}
use Rattle.laws.proofs.Cases.{by_test}
use Rattle.laws.proofs.Search.{absent_at}
use Rattle.laws.proofs.Moves.{Begins, Upon, upon, reached}
use Rattle.laws.proofs.Jobs.{Proper}
use Rattle.laws.proofs.Counts.{load_tick, ahead, BusyLanded}
use Rattle.laws.proofs.Along.{Ruly, Along, AlongLanded, due_load}
use Rattle.demands.specs.Held.{held}
use Rattle.demands.specs.Fair.{event_tick, nth_event, MayBegin}
use Rattle.demands.proofs.Holding.{HoldingBetween, HoldingLanded, HoldingBegun, holding_moves, holding_start}

begun_tick : (begun : List Loaded) (j : ℕ) → event_tick (nth_event (map event_of begun) j) ≡ get_or (map load_tick begun) j 0
begun_tick [] j = refl
begun_tick (loaded t d q x ∷ begun) zero = refl
begun_tick (loaded t d q x ∷ begun) (suc j) = begun_tick begun j

module _ {time least tick next loads : ℕ} {events : List Event} {loading : Loading} {begun : List Loaded}
    (a : Along time least tick next loads events loading begun) where
  -- As many loads were begun as are counted, each at the tick of its event.
  pub as_many : length begun ≡ loads
  as_many =
      let sizes : length (map event_of begun) ≡ min loads (length events) = ap length a.so_far ∙ length-take loads events in
      let size : length (map event_of begun) ≡ length begun = length-map begun event_of in
      omega arith

  pub tick_begun : (j : ℕ) → j < loads → event_tick (nth_event events j) ≡ get_or (map load_tick begun) j 0
  tick_begun j h =
      ap event_tick (sym (get_or-take loads events j (event 0 0 0) h))
      ∙ ap (λ (l : List Event). event_tick (nth_event l j)) (sym a.so_far)
      ∙ begun_tick begun j

-- The event that is due is the first that was not begun.
pub event_due : (events : List Event) (loads tick q x : ℕ) → due (drop loads events) tick ≡ Some (load q x) → nth_event events loads ≡ event tick q x
event_due events loads tick q x asks =
    let (later, first) = due_load (drop loads events) tick q x asks in
    let e : loads + 0 ≡ loads = omega arith in
    ap (nth_event events) (sym e) ∙ sym (get_or-drop loads events 0 (event 0 0 0)) ∙ ap (λ (l : List Event). get_or l 0 (event 0 0 0)) first

pub due_left : (events : List Event) (loads tick q x : ℕ) → due (drop loads events) tick ≡ Some (load q x) → loads < length events
due_left events loads tick q x asks =
    let (later, first) = due_load (drop loads events) tick q x asks in
    let left : length events - loads ≡ suc (length later) = sym (length-drop loads events) ∙ ap length first in
    omega arith

-- ---- Each event of an accepted list may begin

abbrev MayHaveBegun : Job → List Event → ℕ → ℕ → Type 0
MayHaveBegun job events loads end = (i : ℕ) → i < loads → MayBegin job events i end

later_end : (job : Job) (events : List Event) (loads end : ℕ) → MayHaveBegun job events loads end → MayHaveBegun job events loads (end + 1)
later_end job events loads end h i m =
    let b : MayBegin job events i end = h i m in
    record { idle = b.idle; slot = b.slot; symbol = b.symbol; unheld = b.unheld; in_its_time = omega arith }

begins_now : (job : Job) (events : List Event) (q x : ℕ) (s : State) → Begins job (follow events) q x s → HoldingLanded job events s
    → MayBegin job events s.loads (s.tick + 1)
begins_now job events q x s b g =
    let is : nth_event events s.loads ≡ event s.tick q x = event_due events s.loads s.tick q x b.asks in
    let quiet : ahead s.loading ≡ 0 = ap ahead b.quiet in
    let a : AlongLanded job events s = g.0.1 in
    let busy : BusyLanded job s = g.0.0.1 in
    let row : length s.slots ≡ job.slots = g.0.0.0.row in
    let many : length s.begun ≡ s.loads = as_many a in
    let size : length (map load_tick s.begun) ≡ length s.begun = length-map s.begun load_tick in
    record {
      idle = λ j h.
          let e : get_or (map load_tick s.begun) j 0 + job.load_time ≤ s.tick + ahead s.loading = busy.ends j (omega arith) in
          rw (is, tick_begun a j h) (omega arith);
      slot = rw is b.slot;
      symbol = rw is b.symbol;
      unheld = λ r m e.
          let there : held job (take s.loads events) s.tick r ≡ x = rw is at e in
          absent_at x s.slots b.nowhere r (rw row m) (g.1 r m ∙ rw a.so_far there);
      in_its_time = rw is (omega arith);
    }

begins_too : (job : Job) (events : List Event) (loads end : ℕ) → MayHaveBegun job events loads end → MayBegin job events loads (end + 1)
    → MayHaveBegun job events (loads + 1) (end + 1)
begins_too job events loads end all new i m =
    by_test (ltb i loads)
    (λ e. later_end job events loads end all i (ltb-true i loads e))
    (λ e. let last : i ≡ loads = let far : loads ≤ i = ltb-false i loads e in omega arith in rw last new)

fair_moves : (job : Job) (events : List Event)
    → Upon job (follow events) (HoldingBetween job events) (HoldingLanded job events) (HoldingBegun job events)
    (λ s. MayHaveBegun job events s.loads s.tick)
    (λ s. MayHaveBegun job events s.loads s.tick)
    (λ s. MayHaveBegun job events s.loads (s.tick + 1))
fair_moves job events =
    record {
      lands = λ s more g h. h;
      passes = λ s more a g h. later_end job events s.loads s.tick h;
      begins = λ q x s b g h. begins_too job events s.loads s.tick h (begins_now job events q x s b g);
      draws = λ q s d g h. h;
      waits = λ s w g h. h;
    }

-- Each event that a run along a list has begun may begin at its place in the list, on a sheet that is over at the run's tick.
pub fair : (job : Job) (events : List Event) → Proper job → Ruly 0 events → (t : ℕ) (s : State)
    → run job (follow events) t (start job) ≡ going s → (i : ℕ) → i < s.loads → MayBegin job events i s.tick
fair job events p ordered t s e =
    (reached job (follow events) _ _ _
    (upon job (follow events) _ _ _ _ _ _ (holding_moves job events p.some_load_time) (fair_moves job events))
    t (start job) s (holding_start job events p ordered, λ i h. absurd (omega arith)) e).1
