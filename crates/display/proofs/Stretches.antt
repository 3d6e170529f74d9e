-- A stretch of waits at once: ticks of a run in which nothing lands, begins or is drawn lead to the display that many ticks later.
use Prim.Native.Nat.{ℕ, zero, suc, ◌+◌, ◌-◌, ◌≤◌, ◌<◌}
use native.Mathlib.Omega.{arith}
use mathlib.Core.Path.{◌≡◌, refl, sym, ap, ◌∙◌}
use mathlib.Core.Bool.{Bool, false}
use mathlib.Core.List.{List}
use lib.ListN.{get_or}
use lib.Dec.{eqb}
use Rattle.std.specs.Prelude.{None}
use Rattle.rules.specs.declared.Happening.{Happening}
use Rattle.rules.specs.declared.Happening.TheVariants.{Wait}
use Rattle.rules.specs.Basics.{stands}
use Rattle.rules.specs.Job.{Job}
use Rattle.rules.specs.Display.{State, Run, Rule, going, then, land, wait, awaited, cause_of, stuck, beginning, happened, record_of, tick, finished, run}
use Rattle.laws.proofs.Cases.{by_test}
use Rattle.laws.proofs.Runs.{run_unfinished}
use Rattle.display.specs.declared.state.Display.{Display}
use Rattle.display.specs.View.{History, loading_of, view}
use Rattle.display.specs.Moves.{nearer}
use Rattle.display.specs.Still.{passed, Rested}
use Rattle.display.proofs.Views.{nearer_lands}

-- A wait is not stuck while a load is under way, nor while the rule is not done.
not_stuck : (until q y x : ℕ) (done : Bool) → (until ≡ 0 → done ≡ false) → stuck (Wait (cause_of (loading_of until q y) x)) done ≡ false
not_stuck zero q y x done goes_on = goes_on refl
not_stuck (suc left) q y x done goes_on = by_test (eqb x y) (λ same. rw same) (λ other. rw other)

-- No waits leave the display as it is.
pub passed_none : (d : Display) → passed 0 d ≡ d
passed_none d =
    let ticks : d.tick + 0 ≡ d.tick = omega arith in
    let waits : d.waits + 0 ≡ d.waits = omega arith in
    let pause : d.pause + 0 ≡ d.pause = omega arith in
    let until : d.remaining - 0 ≡ d.remaining = omega arith in
    rw (ticks, waits, pause, until)

-- No stretch at all, whatever happened.
pub rested_none : (quiet : ℕ → Type 0) (limit : ℕ) (happening : Happening) (d : Display) → d.tick ≤ limit → quiet 0
    → Rested quiet limit happening d d
rested_none quiet limit happening d early still =
    record {
      many = 0;
      passes = sym (passed_none d);
      in_its_time = omega arith;
      after_a_wait = λ some. absurd (omega arith);
      still = still;
    }

module _ (job : Job) (rule : Rule) where
  tick_waits : (s l : State) → l ≡ land s → rule.asks l ≡ None → stands (awaited l) l.slots ≡ false
      → stuck (Wait (cause_of l.loading (awaited l))) (rule.done l) ≡ false → tick job rule s ≡ going (wait l)
  unfolding tick beginning happened
  tick_waits s l lands asks absent goes_on =
      ap (λ (x : State). then (beginning job (rule.asks x) x) (λ b. happened (record_of (rule.asks x) b).happening (rule.done b) b)) (sym lands)
      ∙ rw (asks, absent, goes_on)

  module _ (slots : List ℕ) (h : History) where
    -- The next tick of this display brings nothing but a wait, where the awaited symbol is in no slot.
    pub record Quiet (d : Display) : Type 0 where
      pub asks : rule.asks (view slots h (nearer d)) ≡ None
      pub far : d.remaining ≡ 1 → ⊥
      pub goes_on : d.remaining ≡ 0 → rule.done (view slots h (nearer d)) ≡ false

    -- No ticks at all lead nowhere, whatever is awaited.
    no_stretch : (t : ℕ) (d : Display) → run job rule (0 + t) (view slots h d) ≡ run job rule t (view slots h (passed 0 d))
    no_stretch t d =
        let all : 0 + t ≡ t = omega arith in
        ap (λ (n : ℕ). run job rule n (view slots h d)) all ∙ ap (λ (e : Display). run job rule t (view slots h e)) (sym (passed_none d))

    module _ (more : finished h.rest ≡ false) (absent : stands (get_or h.rest 0 0) slots ≡ false) where
      pub quiet_tick : (d : Display) → Quiet d → tick job rule (view slots h d) ≡ going (view slots h (passed 1 d))
      quiet_tick d quiet =
          tick_waits (view slots h d) (view slots h (nearer d)) (nearer_lands slots h d quiet.far) quiet.asks absent
          (not_stuck (d.remaining - 1) d.target d.incoming (get_or h.rest 0 0) (rule.done (view slots h (nearer d)))
          (λ none. let far : d.remaining ≡ 1 → ⊥ = quiet.far in quiet.goes_on (omega arith)))

      pub one_further : (m : ℕ) (d : Display) → view slots h (passed 1 (passed m d)) ≡ view slots h (passed (suc m) d)
      one_further m d =
          let ticks : d.tick + m + 1 ≡ d.tick + suc m = omega arith in
          let waits : d.waits + m + 1 ≡ d.waits + suc m = omega arith in
          let pause : d.pause + m + 1 ≡ d.pause + suc m = omega arith in
          let until : d.remaining - m - 1 ≡ d.remaining - suc m = omega arith in
          rw (ticks, waits, pause, until)

      still_run : (m t : ℕ) (d : Display) → ((j : ℕ) → j < m → Quiet (passed j d))
          → run job rule (m + t) (view slots h d) ≡ run job rule t (view slots h (passed m d))
      still_run zero t d quiet = no_stretch t d
      still_run (suc m) t d quiet =
          let shifted : suc m + t ≡ m + suc t = omega arith in
          ap (λ (n : ℕ). run job rule n (view slots h d)) shifted
          ∙ still_run m (suc t) d (λ j less. quiet j (omega arith))
          ∙ run_unfinished job rule t (view slots h (passed m d)) more
          ∙ ap (λ (x : Run). then x (run job rule t)) (quiet_tick (passed m d) (quiet m (omega arith)))
          ∙ ap (run job rule t) (one_further m d)

    pub stretch_run : (m t : ℕ) (d : Display) → (0 < m → finished h.rest ≡ false) → (0 < m → stands (get_or h.rest 0 0) slots ≡ false)
        → ((j : ℕ) → j < m → Quiet (passed j d))
        → run job rule (m + t) (view slots h d) ≡ run job rule t (view slots h (passed m d))
    stretch_run zero t d more absent quiet = no_stretch t d
    stretch_run (suc m) t d more absent quiet = still_run (more (omega arith)) (absent (omega arith)) (suc m) t d quiet
