-- A run of the code on its way, by any rule: what holds between two ticks, where it leads, and what a tick and the waits after it keep.
use Prim.Native.Nat.{ℕ, suc, ◌+◌, ◌-◌, ◌≤◌, ◌<◌}
use native.Mathlib.Omega.{arith}
use mathlib.Core.Path.{◌≡◌, refl, sym, ap, ◌∙◌}
use mathlib.Core.Bool.{true, false}
use mathlib.Core.List.{List}
use lib.ListN.{length, get_or, drop, drop_of_length-le}
use lib.Seq.{drop-cons, drop-drop}
use Rattle.std.specs.Prelude.{Result, Ok, Err}
use Rattle.rules.specs.declared.refusal.Refusal.{Refusal}
use Rattle.rules.specs.Refusing.{refusal_number, refusal_detail}
use Rattle.rules.specs.declared.Happening.{Happening}
use Rattle.rules.specs.declared.Happening.TheVariants.{Draw, Wait}
use Rattle.rules.specs.Basics.{stands}
use Rattle.rules.specs.Job.{Job}
use Rattle.rules.specs.Display.{State, Run, Rule, going, refused, then, start, finished, run}
use Rattle.laws.proofs.Runs.{run_finished, run_unfinished}
use Rattle.display.specs.declared.state.Display.{Display}
use Rattle.display.specs.declared.tick.Ticked.{Ticked}
use Rattle.display.specs.View.{History, view, history_begun, history_made, onward}
use Rattle.display.specs.Tick.{Room, Ticks, Counted, next_after, leads, Missed}
use Rattle.display.specs.Still.{passed, waiting, MayRest, Rested}
use Rattle.display.proofs.Steps.{begun_rest}
use Rattle.display.proofs.Stretches.{Quiet, stretch_run}

-- What a tick does to the draws that remain.
made_rest : (d : Display) (hp : Happening) (h : History) (next : ℕ) (draws : List ℕ)
    → h.rest ≡ drop next draws → (history_made d hp h).rest ≡ drop (next_after hp next) draws
made_rest d (Draw q) h next draws e = ap (λ (l : List ℕ). drop 1 l) e ∙ drop-drop 1 next draws
made_rest d (Wait cause) h next draws e = e

next_within : (hp : Happening) (next n : ℕ) → next < n → next_after hp next ≤ n
next_within (Draw q) next n h = omega arith
next_within (Wait cause) next n h = omega arith

waits_there : (hp : Happening) (next : ℕ) → waiting hp ≡ true → next_after hp next ≡ next
waits_there (Draw q) next e = let z : ◌≡◌ {A = ℕ} 0 1 = cc in absurd (omega arith)
waits_there (Wait cause) next e = refl

waits_missed : (hp : Happening) (x : ℕ) (slots : List ℕ) → waiting hp ≡ true → Missed hp x slots → stands x slots ≡ false
waits_missed (Draw q) x slots e m = let z : ◌≡◌ {A = ℕ} 0 1 = cc in absurd (omega arith)
waits_missed (Wait cause) x slots e m = m

-- A run is over where its next draw number is past the last draw.
pub rest_done : (draws rest : List ℕ) (next : ℕ) → rest ≡ drop next draws → length draws ≤ next → finished rest ≡ true
rest_done draws rest next remain over = ap finished (remain ∙ drop_of_length-le draws over)

pub rest_more : (draws rest : List ℕ) (next : ℕ) → rest ≡ drop next draws → next < length draws → finished rest ≡ false
rest_more draws rest next remain within = ap finished (remain ∙ drop-cons draws next 0 within)

-- Where no more was counted than ticks have passed, and the limit is small enough, the counters have room for a tick more.
pub rest_room : (limit : ℕ) (d : Display) → MayRest limit d → d.loads ≤ d.tick → d.tick < limit → limit ≤ 4294967295 → d.next < 65535
    → Room d × (d.loads < 4294967295)
rest_room limit d may few_loads early ticks draws =
    let few_waits : d.waits ≤ d.tick = may.waits in
    let short_pause : d.pause ≤ d.tick = may.pause in
    (record { tick = omega arith; next = omega arith; waits = omega arith; pause = omega arith }, omega arith)

-- After a tick that is in time a stretch of waits may start as it may before the tick.
pub tick_rests : (limit : ℕ) (d later : Display) (hp : Happening) → MayRest limit d → d.tick < limit → Counted 1 hp d later → MayRest limit later
tick_rests limit d later hp may early counts =
    let one_more : later.tick ≡ d.tick + 1 = counts.tick in
    let more_waits_lem : later.waits ≤ d.waits + 1 = counts.waits in
    let more_pause : later.pause ≤ d.pause + 1 = counts.pause in
    let few_waits : d.waits ≤ d.tick = may.waits in
    let short_pause : d.pause ≤ d.tick = may.pause in
    record { in_its_time = omega arith; waits = omega arith; pause = omega arith }

module _ (job : Job) (rule : Rule) (limit : ℕ) where
  -- Between two ticks of the code's run, with h beside the display.
  pub record Going (slots : List ℕ) (d : Display) (h : History) : Type 0 where
    pub whole : run job rule (limit - d.tick) (view slots h d) ≡ run job rule limit (start job)
    pub rest : h.rest ≡ drop d.next job.draws
    pub in_its_time : d.tick ≤ limit
    pub waits : d.waits ≤ d.tick
    pub pause : d.pause ≤ d.tick
    pub loads : d.loads ≤ d.tick
    pub few : d.next ≤ length job.draws

  pub going_start : (slots : List ℕ) (d : Display) (h : History) → view slots h d ≡ start job → Going slots d h
  going_start slots d h e =
      let tick' : d.tick ≡ 0 = ap (λ (s : State). s.tick) e in
      let next' : d.next ≡ 0 = ap (λ (s : State). s.next) e in
      let waits' : d.waits ≡ 0 = ap (λ (s : State). s.waits) e in
      let pause' : d.pause ≡ 0 = ap (λ (s : State). s.pause) e in
      let loads' : d.loads ≡ 0 = ap (λ (s : State). s.loads) e in
      let all : limit - d.tick ≡ limit = omega arith in
      record {
        whole = ap (λ (t : ℕ). run job rule t (view slots h d)) all ∙ ap (run job rule limit) e;
        rest = ap (λ (s : State). s.rest) e ∙ rw next';
        in_its_time = omega arith;
        waits = omega arith;
        pause = omega arith;
        loads = omega arith;
        few = omega arith;
      }

  module _ (slots : List ℕ) (d : Display) (h : History) (g : Going slots d h) where
    -- It ends where no draw remains, or where no tick is left.
    pub going_done : length job.draws ≤ d.next → finished h.rest ≡ true
    going_done over = rest_done job.draws h.rest d.next g.rest over

    pub going_over : length job.draws ≤ d.next → run job rule limit (start job) ≡ going (view slots h d)
    going_over over = sym g.whole ∙ run_finished job rule (limit - d.tick) (view slots h d) (going_done over)

    pub going_late : limit ≤ d.tick → run job rule limit (start job) ≡ going (view slots h d)
    unfolding run
    going_late late = let none : limit - d.tick ≡ 0 = omega arith in sym g.whole ∙ rw none

    -- A stretch of waits may start there.
    pub going_may : MayRest limit d
    going_may = record { in_its_time = g.in_its_time; waits = g.waits; pause = g.pause }

    -- Where the limits are small enough, the counters have room for a tick more.
    pub going_room : d.tick < limit → limit ≤ 4294967295 → length job.draws < 65535 → Room d × (d.loads < 4294967295)
    going_room early ticks draws =
        let few_draws : d.next ≤ length job.draws = g.few in
        rest_room limit d going_may g.loads early ticks (omega arith)

    module _ (within : d.next < length job.draws) where
      pub going_more : finished h.rest ≡ false
      going_more = rest_more job.draws h.rest d.next g.rest within

      module _ (early : d.tick < limit) (slots' : List ℕ) where
        ticks_on : (r : Result Ticked Refusal) → Ticks job rule slots slots' d r
            → run job rule limit (start job) ≡ then (leads slots' (λ t. onward d t h) r) (run job rule (limit - d.tick - 1))
        ticks_on r ticks =
            let one_less : limit - d.tick ≡ suc (limit - d.tick - 1) = omega arith in
            sym g.whole
            ∙ ap (λ (t : ℕ). run job rule t (view slots h d)) one_less
            ∙ run_unfinished job rule (limit - d.tick - 1) (view slots h d) going_more
            ∙ ap (λ (x : Run). then x (run job rule (limit - d.tick - 1))) (sym (ticks.run h g.rest))

        pub going_refused : (e : Refusal) → Ticks job rule slots slots' d (Err e)
            → run job rule limit (start job) ≡ refused (refusal_number e) (refusal_detail e)
        going_refused e ticks = ticks_on (Err e) ticks

        -- A tick that was not refused may be followed by a stretch of waits.
        pub going_rests : (r : Ticked) → Ticks job rule slots slots' d (Ok r) → MayRest limit r.display
        going_rests r ticks = tick_rests limit d r.display r.on_record.happening going_may early ticks.counts

        module _ (r : Ticked) (ticks : Ticks job rule slots slots' d (Ok r)) (quiet : ℕ → Type 0) (e : Display)
            (rested : Rested quiet limit r.on_record.happening r.display e)
            (calm : (m : ℕ) → quiet m → (j : ℕ) → j < m → Quiet job rule slots' (onward d r.on_record h) (passed j r.display)) where
          abbrev h' : History
          h' = onward d r.on_record h

          counts : Counted 1 r.on_record.happening d r.display
          counts = ticks.counts

          rest' : h'.rest ≡ drop r.display.next job.draws
          rest' =
              made_rest d r.on_record.happening (history_begun d r.on_record.begun h) d.next job.draws
              (begun_rest d r.on_record.begun h ∙ g.rest)
              ∙ ap (λ (n : ℕ). drop n job.draws) (sym counts.next)

          -- After a wait the draw that is awaited is the same as before it.
          pub same_rest : 0 < rested.many → h'.rest ≡ h.rest
          same_rest some =
              rest'
              ∙ ap (λ (n : ℕ). drop n job.draws) (counts.next ∙ waits_there r.on_record.happening d.next (rested.after_a_wait some))
              ∙ sym g.rest

          pub absent : 0 < rested.many → stands (get_or h'.rest 0 0) slots' ≡ false
          absent some =
              rw (same_rest some, g.rest)
              (waits_missed r.on_record.happening (get_or (drop d.next job.draws) 0 0) slots' (rested.after_a_wait some) ticks.waits)

          whole' : run job rule (limit - (r.display.tick + rested.many)) (view slots' h' (passed rested.many r.display))
              ≡ run job rule limit (start job)
          whole' =
              let later : r.display.tick ≡ d.tick + 1 = counts.tick in
              let fits : r.display.tick + rested.many ≤ limit = rested.in_its_time in
              let left : limit - d.tick - 1 ≡ rested.many + (limit - (r.display.tick + rested.many)) = omega arith in
              sym
              (ticks_on (Ok r) ticks
              ∙ ap (λ (t : ℕ). run job rule t (view slots' h' r.display)) left
              ∙ stretch_run job rule slots' h' rested.many (limit - (r.display.tick + rested.many)) r.display
              (λ some. ap finished (same_rest some) ∙ going_more) absent (calm rested.many rested.still))

          pub going_on : Going slots' e h'
          going_on =
              let m : ℕ = rested.many in
              let may : MayRest limit r.display = going_rests r ticks in
              let few_waits : r.display.waits ≤ r.display.tick = may.waits in
              let short_pause : r.display.pause ≤ r.display.tick = may.pause in
              let later : r.display.tick ≡ d.tick + 1 = counts.tick in
              let more_loads : r.display.loads ≤ d.loads + 1 = counts.loads in
              let fits : r.display.tick + m ≤ limit = rested.in_its_time in
              let few_loads : d.loads ≤ d.tick = g.loads in
              rw rested.passes
              (record {
                whole = whole';
                rest = rest';
                in_its_time = fits;
                waits = omega arith;
                pause = omega arith;
                loads = omega arith;
                few = rw counts.next (next_within r.on_record.happening d.next (length job.draws) within);
              })
