-- Two conservative runs side by side, over the loads of two plans on demand that miss the same draws. Where what goes out in the first could
-- go out no later, taken over all so far, each of its loads begins no later and it is done no later.
use Prim.Native.Nat.{ℕ, zero, suc, ◌+◌, ◌-◌, ◌<◌, ◌≤◌, min}
use native.Mathlib.Omega.{arith}
use mathlib.Core.Path.{◌≡◌, refl, sym, ap, ◌∙◌}
use mathlib.Core.List.{List, [], ◌∷◌, map}
use lib.ListN.{length, get_or, length-map, length-append, get_or-append}
use lib.Seq.{get_or_at}
use lib.Dec.{ltb}
use borrow.Author.Tests.{ltb-true, ltb-false}
use Rattle.rules.specs.declared.Loading.{Loading}
use Rattle.rules.specs.declared.Loading.TheVariants.{Idle, Under}
use Rattle.rules.specs.Job.{Job}
use Rattle.rules.specs.LoadList.{last_tick}
use Rattle.rules.specs.Display.{State, Rule, Loaded, going, start, tick, finished, run}
use Rattle.rules.specs.Plans.{conservative}
use Rattle.laws.proofs.Cases.{by_test}
use Rattle.laws.proofs.Rows.{Each}
use Rattle.laws.proofs.Jobs.{Proper}
use Rattle.laws.proofs.Moves.{then_going, is_more, is_over}
use Rattle.laws.proofs.Runs.{run_then, run_finished, run_unfinished}
use Rattle.laws.proofs.Counts.{load_tick, ahead, counted, busy}
use Rattle.laws.proofs.Sane.{Sane, SaneState, sane, remaining}
use Rattle.plan_laws.proofs.Misses.{Choosing, Below}
use Rattle.plan_laws.proofs.OptLoads.{miss_of, all_by}
use Rattle.plan_laws.proofs.Conservative.{early_all, early_made}
use Rattle.plan_laws.proofs.Top.{top, top_least}
use Rattle.plan_laws.proofs.Pace.{Beginning, begins, passes, Drawing, draws, waits, Pace, missed, may_begin}
use Rattle.plan_laws.proofs.Pace.{PacedState, pace_tick, paced, paced_run, missed_size, miss_order}

-- ---- In numbers

-- Of two runs one is as far with its loads: it has begun more of them, or as many and the last of them ends no later.
pub data Further (c u c' u' : ℕ) : Type 0 where
  more : c' < c → Further c u c' u'
  even : c' ≡ c → u ≤ u' → Further c u c' u'

-- Then it has ended as many.
ended_more : (c u c' u' : ℕ) → Further c u c' u' → c' - min 1 u' ≤ c - min 1 u
ended_more c u c' u' (more h) = omega arith
ended_more c u c' u' (even e h) = omega arith

begun_more : (c u c' u' : ℕ) → Further c u c' u' → c' ≤ c
begun_more c u c' u' (more h) = omega arith
begun_more c u c' u' (even e h) = omega arith

module _ (bounds bounds' : List ℕ) (count time : ℕ) (sooner : (j : ℕ) → top 0 j bounds ≤ top 0 j bounds')
    (d c u t : ℕ) (l : List ℕ) (c₁ u₁ : ℕ) (l₁ : List ℕ)
    (d' c' u' t' : ℕ) (l' : List ℕ) (c₁' u₁' : ℕ) (l₁' : List ℕ) where
  more_now : c₁' < c₁ → Further c₁ u₁ c₁' u₁'
  more_now less = more less

  even_now : c₁' ≡ c₁ → u₁ ≤ u₁' → Further c₁ u₁ c₁' u₁'
  even_now same upto = even same upto

  -- It stays so in a tick: where the other begins its next load and this one has not begun it, this one may begin it too.
  further_kept : d' ≤ d → u ≤ time → Beginning bounds count time d c u t l c₁ u₁ l₁
      → Beginning bounds' count time d' c' u' t' l' c₁' u₁' l₁'
      → Further c u c' u' → Further c₁ u₁ c₁' u₁'
  further_kept before brief (begins a b e f g h) (begins a' b' e' f' g' h') (more m) = more_now (omega arith)
  further_kept before brief (begins a b e f g h) (begins a' b' e' f' g' h') (even m n) = even_now (omega arith) (omega arith)
  further_kept before brief (begins a b e f g h) (passes a' f' g' h') m = more_now (omega (arith, begun_more c u c' u' m))
  further_kept before brief (passes a f g h) (begins a' b' e' f' g' h') (more m) =
      by_test (ltb c₁' c₁) (λ t. more (ltb-true c₁' c₁ t)) (λ t. even_now (omega (arith, ltb-false c₁' c₁ t)) (omega arith))
  further_kept before brief (passes a f g h) (begins a' b' e' f' g' h') (even m n) =
      let late : d < get_or bounds c 0 = a (omega arith) (omega arith) in
      let bound : top 0 (c + 1) bounds' ≤ d' = rw (← m) e' in
      absurd (omega (arith, top_least 0 c bounds, sooner (c + 1)))
  further_kept before brief (passes a f g h) (passes a' f' g' h') (more m) = more_now (omega arith)
  further_kept before brief (passes a f g h) (passes a' f' g' h') (even m n) = even_now (omega arith) (omega arith)

-- And it is as far with its draws.
module _ (missed : List ℕ) (n : ℕ) (order : (i j : ℕ) → i ≤ j → get_or missed i n ≤ get_or missed j n) (d d' c u c' u' d₁ d₁' : ℕ) where
  drawn_kept : d' ≤ d → Further c u c' u' → Drawing missed n d c u d₁ → Drawing missed n d' c' u' d₁' → d₁' ≤ d₁
  drawn_kept before f (draws h e) (draws h' e') = omega arith
  drawn_kept before f (draws h e) (waits h' e') = omega arith
  drawn_kept before f (waits h e) (draws h' e') = omega (arith, order (c' - min 1 u') (c - min 1 u) (ended_more c u c' u' f))
  drawn_kept before f (waits h e) (waits h' e') = omega arith

module _ (bounds : List ℕ) (count time d c u t : ℕ) (l : List ℕ) (c₁ u₁ : ℕ) (l₁ : List ℕ) where
  -- A tick adds to the ticks at which loads began, or leaves them.
  ticks_kept : Beginning bounds count time d c u t l c₁ u₁ l₁ → (i : ℕ) → i < length l → get_or l₁ i 0 ≡ get_or l i 0
  ticks_kept (begins a b e f g h) i inside = rw h (get_or-append l (t ∷ []) 0 i inside)
  ticks_kept (passes a f g h) i inside = rw h

  -- One that it adds is its own.
  ticks_new : Beginning bounds count time d c u t l c₁ u₁ l₁ → (i : ℕ) → length l ≤ i → i < length l₁ → get_or l₁ i 0 ≡ t
  ticks_new (begins a b e f g h) i past inside =
      let here : length l ≡ i = omega (arith, ap length h, length-append l (t ∷ [])) in rw h (get_or_at l t [] 0 i here)
  ticks_new (passes a f g h) i past inside = absurd (omega (arith, ap length h))

-- ---- Of two runs

-- The first run is as far as the second: with its draws, with its loads and with its ticks, and each load that the second has begun it began
-- no later.
pub record AsFar (s o : State) : Type 0 where
  pub next : o.next ≤ s.next
  pub further : Further s.loads (ahead s.loading) o.loads (ahead o.loading)
  pub tick : s.tick ≤ o.tick
  pub sooner : (i : ℕ) → i < o.loads → get_or (map load_tick s.begun) i 0 ≤ get_or (map load_tick o.begun) i 0

-- What is known of a state of either run: its loads by their ticks, and how long the load under way may last.
record Timed (job : Job) (s : State) : Type 0 where
  size : length (map load_tick s.begun) ≡ s.loads
  past : Each (λ u. u < s.tick) (map load_tick s.begun)
  brief : ahead s.loading ≤ job.load_time
  left : s.next + length s.rest ≡ length job.draws

brief_ahead : (job : Job) (next : ℕ) (rest slots : List ℕ) (loading : Loading) → Sane job next rest slots loading → ahead loading ≤ job.load_time
brief_ahead job next rest slots Idle g = omega arith
brief_ahead job next rest slots (Under left q x) g = omega (arith, (g.under left q x refl).soon)

module _ (job : Job) (proper : Proper job) where
  timed : (rule : Rule) (t : ℕ) (s : State) → run job rule t (start job) ≡ going s → Timed job s
  timed rule t s e =
      let g : SaneState job s = sane job rule proper t s e in
      record {
        size = length-map s.begun load_tick ∙ (counted job rule proper t s e).begun_all;
        past = (busy job rule proper t s e).past;
        brief = brief_ahead job s.next s.rest s.slots s.loading g;
        left = remaining job s.next s.rest s.slots s.loading g;
      }

  -- One tick more of a run: the display rests, or the tick is made.
  data Step (rule : Rule) (s s' : State) : Type 0 where
    rests : s.rest ≡ [] → s ≡ s' → Step rule s s'
    moves : 0 < length s.rest → tick job rule s ≡ going s' → Step rule s s'

  step : (rule : Rule) (t : ℕ) (s s' : State) → run job rule t (start job) ≡ going s → run job rule (t + 1) (start job) ≡ going s'
      → Step rule s s'
  unfolding run
  step rule t s s' e e' =
      let on : run job rule 1 s ≡ going s' = rw (run_then job rule t 1 (start job), e) at e' in
      by_test (finished s.rest)
      (λ f.
      let same : going s ≡ going s' = sym (run_finished job rule 1 s f) ∙ on in
      rests (is_over s.rest f) (cc))
      (λ f.
      let (z, first, last) = then_going (tick job rule s) (run job rule 0) s' (sym (run_unfinished job rule 0 s f) ∙ on) in
      let same : z ≡ s' = cc in
      moves (is_more s.rest f) (rw (← same) first))

  module _ (pick : Choosing) (below : Below pick) (loads : List Loaded) (all : map miss_of loads ≡ all_by pick job)
      (pick' : Choosing) (below' : Below pick') (loads' : List Loaded) (all' : map miss_of loads' ≡ all_by pick' job)
      (same_draws : missed job proper pick below loads all ≡ missed job proper pick' below' loads' all')
      (no_later : (j : ℕ) → top 0 j (may_begin job proper pick below loads all) ≤ top 0 j (may_begin job proper pick' below' loads' all')) where
    -- Both make a tick.
    both_move : (s o s₁ o₁ : State) → Timed job s → Timed job o → Timed job s₁ → Timed job o₁
        → Pace job proper pick below loads all s s₁ → Pace job proper pick' below' loads' all' o o₁ → AsFar s o → AsFar s₁ o₁
    both_move s o s₁ o₁ ts to ts₁ to₁ p p' f =
        let further =
        further_kept _ _ _ job.load_time no_later _ _ _ _ _ _ _ _ _ _ _ _ _ _ _ _ f.next ts.brief p.beginning
        (rw (← same_draws) at p'.beginning) f.further in
        record {
          next = drawn_kept _ (length job.draws) (miss_order job proper pick below loads all) _ _ _ _ _ _ _ _ f.next further p.drawing
              (rw (← same_draws) at p'.drawing);
          further = further;
          tick = omega (arith, f.tick, p.tick, p'.tick);
          sooner = λ i inside.
              by_test (ltb i o.loads)
              (λ t.
              let before : i < o.loads = ltb-true i o.loads t in
              let as_many : o.loads ≤ s.loads = begun_more _ _ _ _ f.further in
              omega (
                arith,
                f.sooner i before,
                ticks_kept _ _ _ _ _ _ _ _ _ _ _ p.beginning i (omega (arith, ts.size)),
                ticks_kept _ _ _ _ _ _ _ _ _ _ _ p'.beginning i (omega (arith, to.size)),
              ))
              (λ t.
              let past : o.loads ≤ i = ltb-false i o.loads t in
              let as_many : o₁.loads ≤ s₁.loads = begun_more _ _ _ _ further in
              omega (
                arith,
                ts₁.past i (omega (arith, ts₁.size)),
                ticks_new _ _ _ _ _ _ _ _ _ _ _ p'.beginning i (omega (arith, to.size)) (omega (arith, to₁.size)),
                f.tick,
                p.tick,
              ));
        }

    -- The first rests, since it is done, and the second makes a tick.
    first_rests : (s o o₁ : State) → s.rest ≡ [] → s.loads ≡ length (missed job proper pick below loads all) → ahead s.loading ≡ 0
        → o₁.loads ≤ length (missed job proper pick' below' loads' all') → Timed job s → Timed job o → Timed job o₁
        → Pace job proper pick' below' loads' all' o o₁ → AsFar s o → AsFar s o₁
    first_rests s o o₁ over made quiet few ts to to₁ p' f =
        let as_many : o₁.loads ≤ s.loads = omega (arith, ap length same_draws) in
        record {
          next = omega (arith, ts.left, to₁.left, ap length over);
          further =
              by_test (ltb o₁.loads s.loads) (λ t. more (ltb-true o₁.loads s.loads t))
              (λ t.
              let same : o₁.loads ≡ s.loads = omega (arith, ltb-false o₁.loads s.loads t) in
              let none : ahead s.loading ≤ ahead o₁.loading = omega arith in
              even same none);
          tick = omega (arith, f.tick, p'.tick);
          sooner = λ i inside.
              by_test (ltb i o.loads)
              (λ t.
              let before : i < o.loads = ltb-true i o.loads t in
              omega (arith, f.sooner i before, ticks_kept _ _ _ _ _ _ _ _ _ _ _ p'.beginning i (omega (arith, to.size))))
              (λ t.
              let past : o.loads ≤ i = ltb-false i o.loads t in
              omega (
                arith,
                ts.past i (omega (arith, ts.size)),
                ticks_new _ _ _ _ _ _ _ _ _ _ _ p'.beginning i (omega (arith, to.size)) (omega (arith, to₁.size)),
                f.tick,
              ));
        }

    -- With no draw left no load is under way.
    quiet_at_end : (s : State) → PacedState job proper pick below loads all s → s.rest ≡ [] → (loading : Loading) → s.loading ≡ loading
        → ahead loading ≡ 0
    quiet_at_end s p over Idle e = refl
    quiet_at_end s p over (Under left q x) e = absurd (omega (arith, (p.coming left q x e).2, ap length over))

    one_step : (t : ℕ) (s o s₁ o₁ : State)
        → run job (conservative loads) t (start job) ≡ going s → run job (conservative loads') t (start job) ≡ going o
        → run job (conservative loads) (t + 1) (start job) ≡ going s₁ → run job (conservative loads') (t + 1) (start job) ≡ going o₁
        → AsFar s o → AsFar s₁ o₁
    one_step t s o s₁ o₁ e e' e₁ e₁' f =
        let ts = timed (conservative loads) t s e in
        let to = timed (conservative loads') t o e' in
        by_steps (step (conservative loads) t s s₁ e e₁) (step (conservative loads') t o o₁ e' e₁')
      where
        by_steps : Step (conservative loads) s s₁ → Step (conservative loads') o o₁ → AsFar s₁ o₁
        by_steps (rests over same) (rests over' same') = rw (← same, ← same') f
        by_steps (moves some h) (rests over' same') =
            absurd (omega (
              arith,
              (timed (conservative loads) t s e).left,
              (timed (conservative loads') t o e').left,
              ap length over',
              f.next,
            ))
        by_steps (rests over same) (moves some' h') =
            let (k, p) = paced job proper pick below loads all t s e in
            rw (← same)
            (first_rests s o o₁ over
            (early_all job proper pick below loads all s over k.1 ∙ sym (missed_size job proper pick below loads all))
            (quiet_at_end s p over s.loading refl)
            (omega (
              arith,
              (paced job proper pick' below' loads' all' (t + 1) o₁ e₁').0.1.upto,
              missed_size job proper pick' below' loads' all',
            ))
            (timed (conservative loads) t s e) (timed (conservative loads') t o e') (timed (conservative loads') (t + 1) o₁ e₁')
            (pace_tick job proper pick' below' loads' all' o o₁ some' (paced job proper pick' below' loads' all' t o e') h') f)
        by_steps (moves some h) (moves some' h') =
            both_move s o s₁ o₁
            (timed (conservative loads) t s e) (timed (conservative loads') t o e') (timed (conservative loads) (t + 1) s₁ e₁)
            (timed (conservative loads') (t + 1) o₁ e₁')
            (pace_tick job proper pick below loads all s s₁ some (paced job proper pick below loads all t s e) h)
            (pace_tick job proper pick' below' loads' all' o o₁ some' (paced job proper pick' below' loads' all' t o e') h') f

    -- After every number of ticks the first is as far.
    as_far : (t : ℕ) (s o : State) → run job (conservative loads) t (start job) ≡ going s
        → run job (conservative loads') t (start job) ≡ going o → AsFar s o
    unfolding run
    as_far zero s o e e' =
        let at_start : start job ≡ s = cc in
        let at_start' : start job ≡ o = cc in
        let none : 0 ≤ 0 = omega arith in
        rw (← at_start, ← at_start')
        (record { next = omega arith; further = even refl none; tick = omega arith; sooner = λ i inside. absurd (omega arith) })
    as_far (suc t) s o e e' =
        let (s₀, ran) = paced_run job proper pick below loads all t in
        let (o₀, ran') = paced_run job proper pick' below' loads' all' t in
        let later : t + 1 ≡ suc t = omega arith in
        one_step t s₀ o₀ s o ran ran' (rw later e) (rw later e') (as_far t s₀ o₀ ran ran')

    -- So each of its loads begins no later, and it is done no later.
    pub conservative_sooner : AsFar (early_made job proper pick below loads all).last (early_made job proper pick' below' loads' all').last
    conservative_sooner =
        as_far last_tick _ _ (early_made job proper pick below loads all).ran (early_made job proper pick' below' loads' all').ran
