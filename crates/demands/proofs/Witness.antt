-- An accepted check reports, for each draw, the first tick after the draw before it at which some slot holds its symbol, and the lowest
-- such slot, where what a slot holds is said from the list alone.
use Prim.Native.Nat.{ℕ, zero, suc, ◌+◌, ◌<◌, ◌≤◌}
use native.Mathlib.Omega.{arith}
use mathlib.Core.Path.{◌≡◌, refl, sym, ap, ◌∙◌}
use mathlib.Core.Bool.{false}
use mathlib.Core.List.{List, [], ◌∷◌, ◌++◌, map}
use lib.ListN.{length, get_or, get_or-append}
use lib.Seq.{get_or_at}
use lib.Dec.{ltb}
use borrow.Author.Tests.{ltb-true, ltb-false}
use Rattle.rules.specs.Basics.{place, stands}
use Rattle.rules.specs.Job.{Call, Job, draws_of, job_of}
use Rattle.rules.specs.declared.Event.{Event}
use Rattle.rules.specs.LoadList.{events_of}
use Rattle.rules.specs.Display.{State, drawn, going, start, awaited, run}
use Rattle.rules.specs.Refusals.{follow, tick_of, slot_of, ticks_of, slots_of, answer_of, most_ticks, checked}
use Rattle.laws.proofs.Cases.{by_test}
use Rattle.laws.proofs.Rows.{map_snoc, length-snoc}
use Rattle.laws.proofs.Search.{place_holds, place_first, absent_at}
use Rattle.laws.proofs.Moves.{Moves, Upon, upon, Draws, reached}
use Rattle.laws.proofs.Jobs.{Proper, proper}
use Rattle.laws.proofs.Sane.{SaneState, sane, remaining, awaited_is}
use Rattle.laws.proofs.Counts.{CountedState, counted}
use Rattle.laws.proofs.Along.{Ruly}
use Rattle.laws.proofs.Checks.{Accepted, accepted}
use Rattle.demands.specs.Held.{held, DrawnAt, from, Sheet}
use Rattle.demands.proofs.Pauses.{longest_is}
use Rattle.demands.proofs.Holding.{HoldingBetween, HoldingLanded, HoldingBegun, holding_moves, holding_start, shown}

-- The first tick at which a draw is looked for does not change when a later draw is made.
pub from_snoc : (ticks : List ℕ) (t i : ℕ) → i ≤ length ticks → from (ticks ++ (t ∷ [])) i ≡ from ticks i
from_snoc ticks t zero h = refl
from_snoc ticks t (suc i) h = ap (λ (n : ℕ). n + 1) (get_or-append ticks (t ∷ []) 0 i h)

-- The draws made so far are as they must be, and the one awaited could not have been made since.
pub record Witnessed (job : Job) (events : List Event) (tick next : ℕ) (ticks slots : List ℕ) : Type 0 where
  pub made : (i : ℕ) → i < next → DrawnAt job events (from ticks i) (get_or ticks i 0) (get_or slots i 0) (get_or job.draws i 0)
  pub since : from ticks next ≤ tick
  pub waited : (u r : ℕ) → from ticks next ≤ u → u < tick → r < job.slots → held job events u r ≡ get_or job.draws next 0 → ⊥
  pub over : next ≡ length job.draws → tick ≡ from ticks next
  pub all_ticks : length ticks ≡ next
  pub all_slots : length slots ≡ next

module _ (job : Job) (events : List Event) (tick next : ℕ) (ticks slots : List ℕ) (w : Witnessed job events tick next ticks slots) where
  drawn_next : (q : ℕ) → DrawnAt job events (from ticks next) tick q (get_or job.draws next 0)
      → Witnessed job events (tick + 1) (next + 1) (ticks ++ (tick ∷ [])) (slots ++ (q ∷ []))
  drawn_next q d =
      let at_tick : get_or (ticks ++ (tick ∷ [])) next 0 ≡ tick = get_or_at ticks tick [] 0 next w.all_ticks in
      let at_slot : get_or (slots ++ (q ∷ [])) next 0 ≡ q = get_or_at slots q [] 0 next w.all_slots in
      let after : from (ticks ++ (tick ∷ [])) (next + 1) ≡ tick + 1 = let e : next + 1 ≡ suc next = omega arith in rw (e, at_tick) in
      record {
        made = λ i h.
            by_test (ltb i next)
            (λ t.
            let before : i < next = ltb-true i next t in
            let in_ticks : i < length ticks = omega arith in
            let in_slots : i < length slots = omega arith in
            rw (
              from_snoc ticks tick i (omega arith),
              get_or-append ticks (tick ∷ []) 0 i in_ticks,
              get_or-append slots (q ∷ []) 0 i in_slots,
            ) (w.made i before))
            (λ t.
            let last : i ≡ next = let far : next ≤ i = ltb-false i next t in omega arith in
            rw (last, from_snoc ticks tick next (omega arith), at_tick, at_slot) d);
        since = omega arith;
        waited = λ u r low high inside e. absurd (omega arith);
        over = λ e. sym after;
        all_ticks = length-snoc ticks tick ∙ ap (λ (n : ℕ). n + 1) w.all_ticks;
        all_slots = length-snoc slots q ∙ ap (λ (n : ℕ). n + 1) w.all_slots;
      }

  waited_on : next < length job.draws → ((r : ℕ) → r < job.slots → held job events tick r ≡ get_or job.draws next 0 → ⊥)
      → Witnessed job events (tick + 1) next ticks slots
  waited_on more unheld =
      record {
        made = w.made;
        since = omega arith;
        waited = λ u r low high inside e.
            by_test (ltb u tick)
            (λ t. w.waited u r low (ltb-true u tick t) inside e)
            (λ t. let now : u ≡ tick = let far : tick ≤ u = ltb-false u tick t in omega arith in unheld r inside (rw now at e));
        over = λ e. absurd (omega arith);
        all_ticks = w.all_ticks;
        all_slots = w.all_slots;
      }

-- What the display draws in a tick, said by the list alone.
module _ (job : Job) (events : List Event) (s : State) (g : HoldingBegun job events s) where
  awaits : awaited s ≡ get_or job.draws s.next 0
  awaits = awaited_is job s.next s.rest s.slots s.loading g.0.0.0

  drawn_now_lem : (q : ℕ) → Draws q s → Witnessed job events s.tick s.next (map tick_of s.made) (map slot_of s.made)
      → DrawnAt job events (from (map tick_of s.made) s.next) s.tick q (get_or job.draws s.next 0)
  drawn_now_lem q d w =
      let row : length s.slots ≡ job.slots = g.0.0.0.row in
      let found : place (awaited s) s.slots < length s.slots = ltb-true _ _ d.held in
      let inside : q < job.slots = rw (d.first, ← row) found in
      record {
        slot = inside;
        looked = w.since;
        holds = sym (shown job events s g q inside) ∙ rw d.first (place_holds (awaited s) s.slots found) ∙ awaits;
        lowest = λ r below e.
            let lower : r < job.slots = omega arith in
            let here : get_or s.slots r 0 ≡ awaited s = shown job events s g r lower ∙ e ∙ sym awaits in
            let least : place (awaited s) s.slots ≤ r = place_first (awaited s) s.slots r (rw row lower) here in
            let first : q ≡ place (awaited s) s.slots = d.first in
            omega arith;
        soonest = w.waited;
      }

  -- A symbol that is in no slot is held by none.
  pub unheld_now : stands (awaited s) s.slots ≡ false → (r : ℕ) → r < job.slots
      → held job events s.tick r ≡ get_or job.draws s.next 0 → ⊥
  unheld_now unheld r inside e =
      let row : length s.slots ≡ job.slots = g.0.0.0.row in
      absent_at (awaited s) s.slots unheld r (rw row inside) (shown job events s g r inside ∙ e ∙ sym awaits)

abbrev pub WitnessedState : Job → List Event → State → Type 0
WitnessedState job events s = Witnessed job events s.tick s.next (map tick_of s.made) (map slot_of s.made)

witness_moves : (job : Job) (events : List Event)
    → Upon job (follow events) (HoldingBetween job events) (HoldingLanded job events) (HoldingBegun job events)
    (WitnessedState job events) (WitnessedState job events) (WitnessedState job events)
witness_moves job events =
    record {
      lands = λ s more g w. w;
      passes = λ s more a g w. w;
      begins = λ q x s b g w. w;
      draws = λ q s d g w.
          rw (map_snoc tick_of s.made (drawn s.tick q), map_snoc slot_of s.made (drawn s.tick q))
          (drawn_next job events s.tick s.next (map tick_of s.made) (map slot_of s.made) w q (drawn_now_lem job events s g q d w));
      waits = λ s h g w.
          let left : s.next + length s.rest ≡ length job.draws = remaining job s.next s.rest s.slots s.loading g.0.0.0 in
          let more : 0 < length s.rest = h.more in
          waited_on job events s.tick s.next (map tick_of s.made) (map slot_of s.made) w (omega arith)
          (unheld_now job events s g h.unheld);
    }

witness_start : (job : Job) (events : List Event) → WitnessedState job events (start job)
witness_start job events =
    record {
      made = λ i h. absurd (omega arith);
      since = omega arith;
      waited = λ u r low high inside e. absurd (omega arith);
      over = λ e. refl;
      all_ticks = refl;
      all_slots = refl;
    }

-- All that is known of a run along a list is kept by its moves.
pub witnessing_moves : (job : Job) (events : List Event) → 1 ≤ job.load_time
    → Moves job (follow events)
    (λ s. HoldingBetween job events s × WitnessedState job events s)
    (λ s. HoldingLanded job events s × WitnessedState job events s)
    (λ s. HoldingBegun job events s × WitnessedState job events s)
witnessing_moves job events some_load_time = upon job (follow events) _ _ _ _ _ _ (holding_moves job events some_load_time) (witness_moves job events)

pub witnessing_start : (job : Job) (events : List Event) → Proper job → Ruly 0 events
    → HoldingBetween job events (start job) × WitnessedState job events (start job)
witnessing_start job events p ordered = (holding_start job events p ordered, witness_start job events)

pub witnessed : (job : Job) (events : List Event) → Proper job → Ruly 0 events → (t : ℕ) (s : State)
    → run job (follow events) t (start job) ≡ going s → WitnessedState job events s
witnessed job events p ordered t s e =
    (reached job (follow events) _ _ _ (witnessing_moves job events p.some_load_time)
    t (start job) s (witnessing_start job events p ordered) e).1

-- The sheet that an accepted check reports is right by the list alone: for each draw the slot reported holds its symbol at the tick
-- reported, no lower slot does, and no slot did at any tick since the draw before.
pub sheet_right : (asked : Call) (list : List ℕ) (ticks slots : ℕ) (s : State) → checked asked list ticks slots ≡ going s
    → Sheet (job_of asked) (events_of list) (ticks_of (checked asked list ticks slots)) (slots_of (checked asked list ticks slots))
    (answer_of (checked asked list ticks slots))
sheet_right asked list ticks slots s e =
    let a : Accepted asked list ticks slots s = accepted asked list ticks slots s e in
    let p : Proper (job_of asked) = proper asked _ a.job_taken in
    let fuel : ℕ = most_ticks (job_of asked) in
    let w : WitnessedState (job_of asked) (events_of list) s = witnessed (job_of asked) (events_of list) p a.ordered fuel s a.ran in
    let g : SaneState (job_of asked) s = sane (job_of asked) (follow (events_of list)) p fuel s a.ran in
    let c : CountedState (job_of asked) s = counted (job_of asked) (follow (events_of list)) p fuel s a.ran in
    let none : length s.rest ≡ 0 = ap length a.over in
    let left : s.next + length s.rest ≡ length (draws_of asked) = remaining (job_of asked) s.next s.rest s.slots s.loading g in
    let all : s.next ≡ length (draws_of asked) = omega arith in
    rw e
    (record {
      a_tick_each = w.all_ticks ∙ all;
      a_slot_each = w.all_slots ∙ all;
      drawn = λ i h. w.made i (omega arith);
      elapsed = rw (← all) (w.over all);
      waits = omega arith;
      loads = a.all_begun;
      longest = longest_is (job_of asked) (follow (events_of list)) fuel s a.ran;
    })
