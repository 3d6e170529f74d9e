-- Runs put together and taken apart: the states on the way of a run, and a finished run, which does not move any more.
use Prim.Native.Nat.{ℕ, zero, suc, ◌+◌, ◌-◌, ◌<◌, ◌≤◌}
use native.Mathlib.Omega.{arith}
use mathlib.Core.Path.{◌≡◌, refl, sym, ap, ◌∙◌}
use mathlib.Core.Bool.{true, false}
use lib.ListN.{length}
use Rattle.rules.specs.Job.{Job}
use Rattle.rules.specs.Display.{State, Run, Rule, going, refused, then, tick, finished, run}
use Rattle.laws.proofs.Cases.{by_test}
use Rattle.laws.proofs.Moves.{then_going, tick_kept, is_more, is_over}

then_then : (r : Run) (f g : State → Run) → then (then r f) g ≡ then r (λ s. then (f s) g)
then_then (going s) f g = refl
then_then (refused number detail) f g = refl

then_same : (r : Run) (f g : State → Run) → ((s : State) → f s ≡ g s) → then r f ≡ then r g
then_same (going s) f g h = h s
then_same (refused number detail) f g h = refl

module _ (job : Job) (rule : Rule) where
  -- A finished display does not move any more.
  pub run_finished : (t : ℕ) (s : State) → finished s.rest ≡ true → run job rule t s ≡ going s
  unfolding run
  run_finished zero s f = refl
  run_finished (suc t) s f = rw f

  -- While draws remain a run begins with a tick.
  pub run_unfinished : (t : ℕ) (s : State) → finished s.rest ≡ false → run job rule (suc t) s ≡ then (tick job rule s) (run job rule t)
  unfolding run
  run_unfinished t s f = rw f

  -- Some ticks and then some more are one run.
  pub run_then : (m n : ℕ) (s : State) → run job rule (m + n) s ≡ then (run job rule m s) (run job rule n)
  unfolding run
  run_then zero n s = let e : 0 + n ≡ n = omega arith in ap (λ (t : ℕ). run job rule t s) e
  run_then (suc m) n s =
      let e : suc m + n ≡ suc (m + n) = omega arith in
      rw e
      (by_test (finished s.rest)
      (λ f. rw (run_finished (suc (m + n)) s f, run_finished (suc m) s f) (sym (run_finished n s f)))
      (λ f.
      run_unfinished (m + n) s f
      ∙ then_same (tick job rule s) (run job rule (m + n)) (λ z. then (run job rule m z) (run job rule n)) (λ z. run_then m n z)
      ∙ sym (then_then (tick job rule s) (run job rule m) (run job rule n))
      ∙ ap (λ (r : Run). then r (run job rule n)) (sym (run_unfinished m s f))))

  -- A run that was not refused has a state on the way after each of its ticks.
  pub on_the_way : (m n : ℕ) (s s' : State) → run job rule (m + n) s ≡ going s'
      → (between : State) × (run job rule m s ≡ going between) × (run job rule n between ≡ going s')
  on_the_way m n s s' e = then_going (run job rule m s) (run job rule n) s' (sym (run_then m n s) ∙ e)

  -- Once all draws are made, more ticks change nothing.
  pub run_longer : (t u : ℕ) (s s' : State) → t ≤ u → run job rule t s ≡ going s' → finished s'.rest ≡ true
      → run job rule u s ≡ going s'
  run_longer t u s s' h e f =
      let split : t + (u - t) ≡ u = omega arith in
      rw (← split, run_then t (u - t) s, e) (run_finished (u - t) s' f)

  -- A tick takes one tick.
  pub tick_ticks : (s s' : State) → 0 < length s.rest → tick job rule s ≡ going s' → s'.tick ≡ s.tick + 1
  tick_ticks s s' more e =
      tick_kept job rule _ _ (λ z. z.tick ≡ s.tick) (λ z. z.tick ≡ s.tick + 1)
      (record {
        lands = λ z m p. p;
        passes = λ z m a l. l;
        begins = λ q x z f l. l;
        draws = λ q z f b. ap (λ (n : ℕ). n + 1) b;
        waits = λ z f b. ap (λ (n : ℕ). n + 1) b;
      }) s s' more refl e

  -- A run that is not finished has used up its ticks.
  pub run_ticks : (t : ℕ) (s s' : State) → run job rule t s ≡ going s' → 0 < length s'.rest → s'.tick ≡ s.tick + t
  unfolding run
  run_ticks zero s s' e more = let same : s ≡ s' = cc in rw (← same) (omega arith)
  run_ticks (suc t) s s' e more =
      by_test (finished s.rest)
      (λ f.
      let same : s ≡ s' = let g : going s ≡ going s' = rw f at e in cc in
      let none : length s.rest ≡ 0 = ap length (is_over s.rest f) in
      let some : 0 < length s.rest = rw (← same) at more in
      absurd (omega arith))
      (λ f.
      let (s₁, first, later) = then_going (tick job rule s) (run job rule t) s' (sym (run_unfinished t s f) ∙ e) in
      let one : s₁.tick ≡ s.tick + 1 = tick_ticks s s₁ (is_more s.rest f) first in
      let others : s'.tick ≡ s₁.tick + t = run_ticks t s₁ s' later more in
      omega arith)
