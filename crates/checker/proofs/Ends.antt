-- Where a run along a list begins and how it ends: the first display, and the answer with its draws.
use Prim.Native.Nat.{ℕ, suc, ◌+◌, ◌-◌, ◌≤◌, ◌<◌}
use native.Mathlib.Omega.{arith}
use mathlib.Core.Path.{◌≡◌, sym, ap, ◌∙◌}
use mathlib.Core.List.{List, map}
use lib.ListN.{length, take, drop}
use mathlib.Core.Bool.{true, false}
use lib.Dec.{ltb}
use borrow.Author.Tests.{lt-ltb, le-ltb}
use Rattle.std.specs.Prelude.{Result, Ok, Err}
use Rattle.rules.specs.declared.refusal.Refusal.{Refusal}
use Rattle.rules.specs.declared.refusal.Refusal.TheVariants.{EndlessWait, EventLeft}
use Rattle.rules.specs.declared.Answer.{Answer}
use Rattle.rules.specs.declared.Unrolled.{Unrolled}
use Rattle.rules.specs.Refusing.{refusal_number, refusal_detail}
use Rattle.rules.specs.Job.{Job, Call, shape_of, starting_symbols, job_of, most_load_time, most_draws}
use Rattle.rules.specs.declared.Event.{Event}
use Rattle.rules.specs.Display.{State, Run, going, refused, then, finished, tick, run}
use Rattle.rules.specs.Refusals.{answer_of, tick_of, slot_of, closing, follow, follows, most_ticks}
use Rattle.laws.proofs.Cases.{by_test}
use Rattle.laws.proofs.Numbers.{some_number}
use Rattle.laws.proofs.Symbols.{length_symbols}
use Rattle.laws.proofs.Runs.{run_finished, run_unfinished}
use Rattle.display.specs.declared.state.Display.{Display}
use Rattle.display.specs.View.{History, at_first, view}
use Rattle.display.specs.Moves.{started}
use Rattle.display.specs.Tick.{Room, Ticks}
use Rattle.display.proofs.Views.{starts_so}
use Rattle.display.proofs.Going.{rest_done, rest_more, going_room}
use Rattle.checker.specs.declared.job.TakenJob.{TakenJob}
use Rattle.checker.specs.Follow.{answer_in, call_of, Ended}
use Rattle.checker.specs.Turn.{Concludes, Closes, EndsAt}
use Rattle.checker.proofs.Walks.{Walking, walking_start}

-- The loop begins at the start of the rules.
pub walking_first : (asked : Call) (events : List Event) (held : List ℕ) (d : Display) (ticks slots : List ℕ)
    → held ≡ starting_symbols asked.job
    → d ≡ started
    → Walking (job_of asked) events held d ticks slots (at_first (job_of asked))
walking_first asked events held d ticks slots starts fresh =
    walking_start (job_of asked) events held d ticks slots (at_first (job_of asked)) (starts_so (job_of asked) held d starts fresh)

-- The numbers of a job that was taken, as the code has them in its shape.
module _ (job : TakenJob) where
  pub starting_size : (held : List ℕ) → held ≡ starting_symbols job.bytes.now → length held ≡ job.shape.slots
  starting_size held starts =
      ap length starts ∙ length_symbols (shape_of job.bytes.now).slots _ ∙ sym (ap (λ (s : Unrolled). s.slots) job.limits.shaped)

  -- The ticks that a run may take.
  pub limit_read : 8388607 + 1 + job.shape.load_time + job.shape.draws ≡ most_ticks (job_of (call_of job))
  limit_read =
      let time : job.shape.load_time ≡ (shape_of job.bytes.now).load_time = ap (λ (s : Unrolled). s.load_time) job.limits.shaped in
      let many = job.limits.many_draws in omega arith

-- An event is left: refusal 14, and nothing counts as noted.
pub ended_early : (count : ℕ) (d : Display) → d.loads < count → Ended count d (Err (EventLeft d.loads))
ended_early count d left =
    record {
      shows = λ k n h events ticks slots size over few at from.
          let more : ltb d.loads (length events) ≡ true = lt-ltb d.loads (length events) (omega arith) in
          record { answers = rw (over, more); few = omega arith; at = rw (over, more); from = rw (over, more) };
    }

-- None is left: the counts, and every draw noted.
pub ended_whole : (count : ℕ) (d : Display) → count ≤ d.loads → Ended count d (Ok d)
ended_whole count d all =
    record {
      shows = λ k n h events ticks slots size over few at from.
          let none : ltb d.loads (length events) ≡ false = le-ltb d.loads (length events) (omega arith) in
          record { answers = rw (over, none); few = few; at = rw (over, none) (sym at); from = rw (over, none) (sym from) };
    }

-- A refused run has nothing noted.
refused_closes : (n : ℕ) (run : Run) (h : History) (ticks slots : List ℕ) (e : Refusal) → run ≡ refused (refusal_number e) (refusal_detail e)
    → Closes n run h (Err e) ticks slots
refused_closes n run h ticks slots e ends =
    record {
      notes = record { answers = rw ends; few = omega arith; at = rw ends; from = rw ends };
      concludes = ends;
    }

-- What the answer at the end of a run says of the run: it was accepted, or refused for an event that is left.
closing_concludes : (events : List Event) (s : State) (h : History) (r : Result Display Refusal) → finished s.rest ≡ true → finished h.rest ≡ true
    → answer_in r ≡ answer_of (closing events s) → Concludes (closing events s) h r
closing_concludes events s h (Ok d) over done is =
    by_test (ltb s.loads (length events))
    (λ left.
    let given : answer_in (Ok d) ≡ answer_of (refused 14 s.loads) = rw (over, left) at is in
    let number : ◌≡◌ {A = ℕ} 0 14 = ap (λ (a : Answer). a.number) given in
    absurd (omega arith))
    (λ none. ((s, rw (over, none)), done))
closing_concludes events s h (Err e) over done is =
    by_test (ltb s.loads (length events))
    (λ left.
    let given : answer_in (Err e) ≡ answer_of (refused 14 s.loads) = rw (over, left) at is in
    let number : refusal_number e ≡ 14 = ap (λ (a : Answer). a.number) given in
    let detail : refusal_detail e ≡ s.loads = ap (λ (a : Answer). a.detail) given in
    rw (over, left, number, detail))
    (λ none.
    let given : answer_in (Err e) ≡ answer_of (going s) = rw (over, none) at is in
    absurd (some_number e (ap (λ (a : Answer). a.number) given)))

-- The ways in which a run ends at a display, each with its answer.
module _ (job : Job) (events : List Event) (held : List ℕ) (d : Display) (h : History) (ticks slots : List ℕ)
    (remain : h.rest ≡ drop d.next job.draws) where
  abbrev onward : Run
  onward = then (run job (follow events) (most_ticks job - d.tick) (view held h d)) (closing events)

  -- No draw remains.
  pub ends_done : (count : ℕ) (r : Result Display Refusal) → length job.draws ≤ d.next → length events ≡ count → Ended count d r
      → d.next ≤ length job.draws
      → map tick_of h.made ≡ take d.next ticks → map slot_of h.made ≡ take d.next slots → Closes (length job.draws) onward h r ticks slots
  ends_done count r over size finish few at from =
      let done : finished h.rest ≡ true = rest_done job.draws h.rest d.next remain over in
      let noted = finish.shows held (length job.draws) h events ticks slots size done few at from in
      rw (run_finished job (follow events) (most_ticks job - d.tick) (view held h d) done)
      (record { notes = noted; concludes = closing_concludes events (view held h d) h r done done noted.answers })

  -- No tick is left: refusal 13.
  pub ends_late : d.next < length job.draws → most_ticks job ≤ d.tick → Closes (length job.draws) onward h (Err (EndlessWait d.next)) ticks slots
  unfolding run
  ends_late within late =
      let none : most_ticks job - d.tick ≡ 0 = omega arith in
      refused_closes (length job.draws) onward h ticks slots (EndlessWait d.next)
      (rw (none, rest_more job.draws h.rest d.next remain within))

  -- The tick is refused.
  pub ends_refused : d.next < length job.draws → d.tick < most_ticks job → (held' : List ℕ) (e : Refusal)
      → Ticks job (follow events) held held' d (Err e) → Closes (length job.draws) onward h (Err e) ticks slots
  ends_refused within early held' e ticked =
      let left : most_ticks job - d.tick ≡ suc (most_ticks job - d.tick - 1) = omega arith in
      let halts : tick job (follow events) (view held h d) ≡ refused (refusal_number e) (refusal_detail e) = sym (ticked.run h remain) in
      refused_closes (length job.draws) onward h ticks slots e
      (ap (λ (n : ℕ). then (run job (follow events) n (view held h d)) (closing events)) left
      ∙ rw (run_unfinished job (follow events) (most_ticks job - d.tick - 1) (view held h d) (rest_more job.draws h.rest d.next remain within), halts))

-- What a turn that ends the run says of the whole run along the list.
pub closed : (job : Job) (events : List Event) (held : List ℕ) (d : Display) (ticks slots : List ℕ) (h : History)
    → Walking job events held d ticks slots h → (r : Result Display Refusal) → EndsAt job events held d r
    → Closes (length job.draws) (follows job events) h r ticks slots
closed job events held d ticks slots h w r ends =
    rw (ap (λ (x : Run). then x (closing events)) w.along.whole) at (ends h ticks slots w.along.rest w.along.few w.at w.from)

module _ (job : Job) (events : List Event) (held : List ℕ) (d : Display) (ticks slots : List ℕ) (h : History)
    (w : Walking job events held d ticks slots h) where
  -- The counters have room for a tick more.
  pub walking_room : job.load_time ≤ most_load_time → length job.draws ≤ most_draws → d.tick < most_ticks job
      → Room d × (d.loads < 4294967295)
  walking_room short few early = going_room job (follow events) (most_ticks job) held d h w.along early (omega arith) (omega arith)
