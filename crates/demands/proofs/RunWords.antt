-- From ticks to runs: a rule that keeps to words runs by them, and where at most one thing fits the words at each tick only one run is by them.
use Prim.Native.Nat.{ℕ, zero, suc, ◌+◌, ◌<◌}
use native.Mathlib.Omega.{arith}
use mathlib.Core.Path.{◌≡◌, refl, sym, ap, subst, ◌∙◌}
use mathlib.Core.Bool.{false}
use mathlib.Core.List.{[]}
use lib.ListN.{length}
use Rattle.std.specs.Prelude.{Option}
use Rattle.rules.specs.declared.Load.{Load}
use Rattle.rules.specs.Basics.{place, stands}
use Rattle.rules.specs.Job.{Job}
use Rattle.rules.specs.Display.{State, Rule, going, start, land, beginning, awaited, happening_of, moved, asked, tick, finished, run}
use Rattle.laws.proofs.Cases.{by_test}
use Rattle.laws.proofs.Jobs.{Proper}
use Rattle.laws.proofs.Moves.{then_going, happened_going, begun_kept, is_more, is_over}
use Rattle.laws.proofs.Runs.{run_then, run_finished, run_unfinished}
use Rattle.laws.proofs.Sane.{SaneState, sane, sane_moves}
use Rattle.demands.specs.InWords.{ByWords, at_end, in_tick, KeepsTo}
use Rattle.demands.proofs.TickWords.{Agrees, begins_asked, begins_only}

-- ---- A tick taken apart

-- A tick that was not refused: what began, and where the display moved.
pub record Ticked (job : Job) (rule : Rule) (s s' : State) : Type 0 where
  pub after : State
  pub began : beginning job (asked rule s) (land s) ≡ going after
  pub to : moved (happening_of after) after ≡ s'

module _ (job : Job) (rule : Rule) where
  pub ticked : (s s' : State) → tick job rule s ≡ going s' → Ticked job rule s s'
  unfolding tick
  ticked s s' e =
      let (after, began, ended) = then_going (beginning job (asked rule s) (land s)) _ s' e in
      record { after = after; began = began; to = (happened_going (happening_of after) (rule.done after) after s' ended).1 }

  -- A run of one tick from a state with draws left is that tick.
  pub one_tick : (s s' : State) → finished s.rest ≡ false → run job rule 1 s ≡ going s' → tick job rule s ≡ going s'
  unfolding run
  one_tick s s' f e =
      let (z, first, later) = then_going (tick job rule s) (run job rule 0) s' (sym (run_unfinished job rule 0 s f) ∙ e) in first ∙ later

  -- A tick further on.
  pub one_further : (t : ℕ) (s s' : State) → finished s.rest ≡ false → run job rule t (start job) ≡ going s → tick job rule s ≡ going s'
      → run job rule (t + 1) (start job) ≡ going s'
  unfolding run
  one_further t s s' f e first = run_then job rule t 1 (start job) ∙ rw e (run_unfinished job rule 0 s f ∙ rw first)

-- ---- By words

module _ (job : Job) (rule : Rule) (words : State → ℕ → ℕ → Type 0) (keeps : KeepsTo job words rule) where
  -- A run that keeps to words at every tick is by the words.
  pub keeps_by_words : (m t : ℕ) (s last : State) → run job rule m (start job) ≡ going s → run job rule t s ≡ going last → last.rest ≡ []
      → ByWords job words s last
  unfolding run
  keeps_by_words m zero s last here e none =
      let same : s ≡ last = cc in at_end (ap (λ (z : State). z.rest) same ∙ none) same
  keeps_by_words m (suc t) s last here e none =
      by_test (finished s.rest)
      (λ f. let same : going s ≡ going last = sym (run_finished job rule (suc t) s f) ∙ e in at_end (is_over s.rest f) (cc))
      (λ f.
      let (s', first, later) = then_going (tick job rule s) (run job rule t) last (sym (run_unfinished job rule t s f) ∙ e) in
      let k : Ticked job rule s s' = ticked job rule s s' first in
      let on : ByWords job words s' last = keeps_by_words (m + 1) t s' last (one_further job rule m s s' f here first) later none in
      let more : 0 < length s.rest = is_more s.rest f in
      in_tick more (keeps m s here more) k.began (subst (λ (z : State). ByWords job words z last) (sym k.to) on))

module _ (job : Job) (proper : Proper job) (rule : Rule) (words : State → ℕ → ℕ → Type 0)
    (agrees : (s : State) → SaneState job s → 0 < length s.rest → Agrees (words s) (rule.asks s)) where
  -- So it is once a load that ends is in its slot.
  landed_sane : (s : State) → SaneState job s → 0 < length s.rest → SaneState job (land s)
  landed_sane s g more = (sane_moves job rule proper.some_load_time).lands s more g

  pub landed_agrees : (s : State) → SaneState job s → 0 < length s.rest → Agrees (words (land s)) (asked rule s)
  landed_agrees s g more = agrees (land s) (landed_sane s g more) more

  -- A rule that agrees with words in every sane state keeps to them.
  pub agrees_keeps : KeepsTo job words rule
  agrees_keeps t s e more = begins_asked (words (land s)) (asked rule s) (landed_agrees s (sane job rule proper t s e) more)

  -- A draw and a wait keep a state sane.
  moved_sane : (s : State) → 0 < length s.rest → SaneState job s → SaneState job (moved (happening_of s) s)
  moved_sane s more g =
      by_test (stands (awaited s) s.slots)
      (λ t.
      rw t
      ((sane_moves job rule proper.some_load_time).draws (place (awaited s) s.slots) s (record { more = more; held = t; first = refl }) g))
      (λ t. rw t g)

  -- Two runs by the words from a sane state come to the same last state.
  pub by_words_one : (s last last' : State) → SaneState job s → ByWords job words s last → ByWords job words s last' → last ≡ last'
  by_words_one s last last' g (at_end none e) (at_end none' e') = sym e ∙ e'
  by_words_one s last last' g (at_end none e) (in_tick more fit began on) = absurd (omega (arith, ap length none))
  by_words_one s last last' g (in_tick more fit began on) (at_end none e) = absurd (omega (arith, ap length none))
  by_words_one s last last' g (in_tick {after = after} {b = b} more fit began on) (in_tick {after = after'} {b = b'} more' fit' began' on') =
      let a : Agrees (words (land s)) (asked rule s) = landed_agrees s g more in
      let asks : b ≡ asked rule s = begins_only (words (land s)) (asked rule s) b a fit in
      let asks' : b' ≡ asked rule s = begins_only (words (land s)) (asked rule s) b' a fit' in
      let same_run : going after' ≡ going after = sym began' ∙ ap (λ (c : Option Load). beginning job c (land s)) (asks' ∙ sym asks) ∙ began in
      let same : after' ≡ after = cc in
      let (more_now, after_sane) =
      begun_kept job rule (SaneState job) (SaneState job) (SaneState job) (SaneState job) (sane_moves job rule proper.some_load_time)
      b (land s) after (sym asks) more (landed_sane s g more) began in
      by_words_one (moved (happening_of after) after) last last' (moved_sane after more_now after_sane) on
      (subst (λ (z : State). ByWords job words (moved (happening_of z) z) last') same on')
