-- The loads that a run began, under any rule, checked as a list take the display through the same states tick for tick. So what a plan
-- answers is what a check of its list answers.
use Prim.Native.Nat.{ℕ, zero, suc, ◌+◌, ◌<◌, ◌≤◌}
use native.Mathlib.Omega.{arith}
use mathlib.Core.Path.{◌≡◌, refl, sym, ap, subst, ◌∙◌}
use mathlib.Core.Bool.{true, false}
use mathlib.Core.List.{List, [], ◌∷◌, ◌++◌, map, append_assoc, append-nil, map-append}
use lib.ListN.{length, get_or, drop, length-map, length-append}
use lib.Seq.{drop_at}
use lib.Dec.{leb}
use borrow.Author.Tests.{eq-eqb, ne_eqb, le-ltb, lt-leb}
use Rattle.std.specs.Prelude.{Option, Some, None}
use Rattle.rules.specs.declared.Load.{Load}
use Rattle.rules.specs.declared.Loading.{Loading}
use Rattle.rules.specs.declared.Loading.TheVariants.{Idle, Under}
use Rattle.rules.specs.Basics.{stands}
use Rattle.rules.specs.Job.{Job}
use Rattle.rules.specs.declared.Event.{Event}
use Rattle.rules.specs.LoadList.{event, last_tick}
use Rattle.rules.specs.Display.{State, Run, Rule, going, refused, start, landed_slots, landed_loading, land, beginning, awaited, happening_of, wait}
use Rattle.rules.specs.Display.{moved, happened, then, tick, finished, run}
use Rattle.rules.specs.Refusals.{first_bad_tick, due, follow, most_ticks, follows, event_of}
use Rattle.laws.proofs.Cases.{by_test}
use Rattle.laws.proofs.Moves.{Moves, reached, then_going, beginning_going, happened_going, tick_kept, is_more}
use Rattle.laws.proofs.Runs.{run_finished, run_unfinished, run_longer, tick_ticks}
use Rattle.laws.proofs.Along.{Ruly}
use Rattle.laws.proofs.Goes.{unstuck}

-- Events whose ticks rise strictly, from a tick on and before another.
pub data Ordered : ℕ → ℕ → List Event → Type 0 where
  none : {u v : ℕ} → Ordered u v []
  one : {u v t q x : ℕ} {l : List Event} → u ≤ t → t < v → Ordered (t + 1) v l → Ordered u v (event t q x ∷ l)

-- Such a list has no event that refusal 9 meets.
pub ordered_ruly : {u v : ℕ} {l : List Event} → v ≤ last_tick + 1 → Ordered u v l → Ruly u l
unfolding first_bad_tick
ordered_ruly few none = refl
ordered_ruly {u} {v} few (one {t = t} least most later) =
    rw (le-ltb last_tick t (omega arith), le-ltb t u (omega arith), ordered_ruly few later)

-- What begins in a tick, as an event of it.
abbrev begun_at : ℕ → Option Load → List Event
begun_at t None = []
begun_at t (Some this) = event t this.slot this.symbol ∷ []

-- A list whose next event is what begins in this tick, all others being later, asks for just that.
due_now : (t v : ℕ) (a : Option Load) (later : List Event) → Ordered (t + 1) v later → due (begun_at t a ++ later) t ≡ a
unfolding due
due_now t v None later none = refl
due_now t v None later (one {t = u} least most r) = rw (ne_eqb u t (λ e. omega arith))
due_now t v (Some this) later r = rw (eq-eqb t t refl)

ordered_now : (t v : ℕ) (a : Option Load) (later : List Event) → t < v → Ordered (t + 1) v later → Ordered t v (begun_at t a ++ later)
ordered_now t v None later h none = none
ordered_now t v None later h (one {t = u} least most r) = one {u = t} {t = u} (omega arith) most r
ordered_now t v (Some this) later h r = one {u = t} {t = t} (omega arith) h r

-- A run that waits with no load under way, until it begins one.
data Hoping (n : ℕ) (rest slots : List ℕ) (loading : Loading) (loads : ℕ) : Type 0 where
  still : 0 < length rest → loading ≡ Idle → stands (get_or rest 0 0) slots ≡ false → n ≤ loads → Hoping n rest slots loading loads
  began : n < loads → Hoping n rest slots loading loads

hoping_lands : (n : ℕ) (rest slots : List ℕ) (loading : Loading) (loads : ℕ) → Hoping n rest slots loading loads
    → Hoping n rest (landed_slots loading slots) (landed_loading loading) loads
hoping_lands n rest slots Idle loads h = h
hoping_lands n rest slots (Under left q x) loads (still more quiet unheld upto) =
    let impossible : ◌≡◌ {A = ℕ} 0 1 = cc in absurd (omega arith)
hoping_lands n rest slots (Under left q x) loads (began h) = began h

hoping_begins : (n : ℕ) (rest slots slots' : List ℕ) (loading loading' : Loading) (loads : ℕ) → Hoping n rest slots loading loads
    → Hoping n rest slots' loading' (loads + 1)
hoping_begins n rest slots slots' loading loading' loads (still more quiet unheld upto) = began (omega arith)
hoping_begins n rest slots slots' loading loading' loads (began h) = began (omega arith)

hoping_draws : (n : ℕ) (rest slots : List ℕ) (loading : Loading) (loads : ℕ) → stands (get_or rest 0 0) slots ≡ true
    → Hoping n rest slots loading loads → Hoping n (drop 1 rest) slots loading loads
hoping_draws n rest slots loading loads held (still more quiet unheld upto) =
    let impossible : ◌≡◌ {A = ℕ} 0 1 = cc in absurd (omega arith)
hoping_draws n rest slots loading loads held (began h) = began h

hoping_over : (n : ℕ) (rest slots : List ℕ) (loading : Loading) (loads : ℕ) → rest ≡ [] → Hoping n rest slots loading loads → n < loads
hoping_over n rest slots loading loads over (still more quiet unheld upto) = absurd (omega (arith, ap length over))
hoping_over n rest slots loading loads over (began h) = h

then_also : (r : Run) (f g : State → Run) (s' : State) → then r f ≡ going s'
    → ((z : State) → r ≡ going z → f z ≡ going s' → g z ≡ going s')
    → then r g ≡ going s'
then_also (going s) f g s' e h = h s refl e
then_also (refused number detail) f g s' e h = e

-- What begins leaves the draws as they are.
begins_rest : (job : Job) (b : Option Load) (s z : State) → beginning job b s ≡ going z → s.rest ≡ z.rest
unfolding beginning
begins_rest job None s z e = ap (λ (s : State). s.rest) (let same : s ≡ z = cc in same)
begins_rest job (Some this) s z e = ap (λ (s : State). s.rest) (beginning_going job this.slot this.symbol s z e).1

module _ (job : Job) (rule : Rule) where
  abbrev HopingState : ℕ → State → Type 0
  HopingState n s = Hoping n s.rest s.slots s.loading s.loads

  hoping_moves : (n : ℕ) → Moves job rule (HopingState n) (HopingState n) (HopingState n)
  hoping_moves n =
      record {
        lands = λ s more h. hoping_lands n s.rest s.slots s.loading s.loads h;
        passes = λ s more none h. h;
        begins = λ q x s b h. hoping_begins n s.rest s.slots _ s.loading _ s.loads h;
        draws = λ q s d h. hoping_draws n s.rest s.slots s.loading s.loads d.held h;
        waits = λ s w h. h;
      }

  -- A run to the last draw that waits with no load under way begins one later.
  load_to_come : (t : ℕ) (z s' last : State) → 0 < length z.rest → z.loading ≡ Idle → stands (awaited z) z.slots ≡ false
      → moved (happening_of z) z ≡ s' → run job rule t s' ≡ going last → last.rest ≡ [] → z.loads < last.loads
  load_to_come t z s' last more quiet unheld to later over =
      let waited : wait z ≡ s' = rw unheld at to in
      let hoping : HopingState z.loads s' = subst (HopingState z.loads) waited (still more quiet unheld (omega arith)) in
      hoping_over z.loads last.rest last.slots last.loading last.loads over
      (reached job rule (HopingState z.loads) (HopingState z.loads) (HopingState z.loads) (hoping_moves z.loads) t s' last hoping later)

  -- A tick of a list that asks for the same load is the same tick, where the list has an event for every load that the run begins.
  same_tick : (events : List Event) (t : ℕ) (s s' last : State) → 0 < length s.rest → length events ≡ last.loads
      → due (drop s.loads events) s.tick ≡ rule.asks (land s) → tick job rule s ≡ going s'
      → run job rule t s' ≡ going last → last.rest ≡ [] → tick job (follow events) s ≡ going s'
  unfolding tick happened
  same_tick events t s s' last more all same e later over =
      rw same
      (then_also (beginning job (rule.asks (land s)) (land s)) _ _ s' e
      (λ z began h.
      let (free, to) = happened_going (happening_of z) (rule.done z) z s' h in
      let more_now : 0 < length z.rest = rw (begins_rest job (rule.asks (land s)) (land s) z began) at more in
      rw (unstuck z.loading (awaited z) z.slots (leb (length events) z.loads)
      (λ quiet unheld. lt-leb (length events) z.loads (rw all (load_to_come t z s' last more_now quiet unheld to later over))))
      (ap going to)))

  -- What a tick adds to the loads begun.
  begun_in_tick : (s s' : State) → 0 < length s.rest → tick job rule s ≡ going s'
      → map event_of s'.begun ≡ map event_of s.begun ++ begun_at s.tick (rule.asks (land s))
  begun_in_tick s s' more e =
      tick_kept job rule Before Landed After After
      (record {
        lands = λ z m h. h;
        passes = λ z m none h. rw (sym h.1 ∙ none) (rw h.0 (sym (append-nil _)));
        begins = λ q x z b h. rw (sym h.1 ∙ b.asks, map-append, h.0, h.2);
        draws = λ q z d h. h;
        waits = λ z w h. h;
      }) s s' more (refl, refl, refl) e
    where
      Before : State → Type 0
      Before z = (z.begun ≡ s.begun) × (rule.asks (land z) ≡ rule.asks (land s)) × (z.tick ≡ s.tick)

      Landed : State → Type 0
      Landed z = (z.begun ≡ s.begun) × (rule.asks z ≡ rule.asks (land s)) × (z.tick ≡ s.tick)

      After : State → Type 0
      After z = map event_of z.begun ≡ map event_of s.begun ++ begun_at s.tick (rule.asks (land s))

  -- A run from here to the last draw, and the events that it begins from here on.
  record Replayed (t : ℕ) (s last : State) : Type 0 where
    later : List Event
    all : map event_of last.begun ≡ map event_of s.begun ++ later
    ordered : Ordered s.tick last.tick later
    onward : s.tick ≤ last.tick
    count : length last.begun ≡ last.loads
    same : run job (follow (map event_of last.begun)) t s ≡ going last

  replayed_over : (t : ℕ) (s last : State) → length s.begun ≡ s.loads → s ≡ last → finished s.rest ≡ true → Replayed t s last
  replayed_over t s last count e over =
      let now : s.tick ≡ last.tick = ap (λ (z : State). z.tick) e in
      record {
        later = [];
        all = ap (λ (z : State). map event_of z.begun) (sym e) ∙ sym (append-nil (map event_of s.begun));
        ordered = none;
        onward = omega arith;
        count = subst (λ (z : State). length z.begun ≡ z.loads) e count;
        same = run_finished job (follow (map event_of last.begun)) t s over ∙ ap going e;
      }

  replayed_tick : (t : ℕ) (s s' last : State) → length s.begun ≡ s.loads → finished s.rest ≡ false
      → tick job rule s ≡ going s' → run job rule t s' ≡ going last → last.rest ≡ [] → Replayed t s' last → Replayed (suc t) s last
  replayed_tick t s s' last count unfinished first on over r =
      let more : 0 < length s.rest = is_more s.rest unfinished in
      let next : s'.tick ≡ s.tick + 1 = tick_ticks job rule s s' more first in
      let ordered : Ordered (s.tick + 1) last.tick r.later = rw (← next) r.ordered in
      let before : List Event = map event_of s.begun in
      let now : List Event = begun_at s.tick (rule.asks (land s)) in
      let events : List Event = map event_of last.begun in
      let all : events ≡ before ++ (now ++ r.later) =
      r.all ∙ ap (λ (l : List Event). l ++ r.later) (begun_in_tick s s' more first) ∙ append_assoc before now r.later in
      let left : drop s.loads events ≡ now ++ r.later =
      rw all (drop_at before (now ++ r.later) s.loads (length-map s.begun event_of ∙ count)) in
      let asked : due (drop s.loads events) s.tick ≡ rule.asks (land s) =
      rw left (due_now s.tick last.tick (rule.asks (land s)) r.later ordered) in
      record {
        later = now ++ r.later;
        all = all;
        ordered = ordered_now s.tick last.tick (rule.asks (land s)) r.later (omega arith) ordered;
        onward = omega arith;
        count = r.count;
        same =
            run_unfinished job (follow events) t s unfinished
            ∙ rw (same_tick events t s s' last more (length-map last.begun event_of ∙ r.count) asked first on over) r.same;
      }

  abbrev Count : State → Type 0
  Count s = length s.begun ≡ s.loads

  count_moves : Moves job rule Count Count Count
  count_moves =
      record {
        lands = λ s more h. h;
        passes = λ s more none h. h;
        begins = λ q x s b h. length-append s.begun _ ∙ ap (λ (n : ℕ). n + 1) h;
        draws = λ q s d h. h;
        waits = λ s w h. h;
      }

  replayed : (t : ℕ) (s last : State) → length s.begun ≡ s.loads → run job rule t s ≡ going last → last.rest ≡ []
      → Replayed t s last
  unfolding run
  replayed zero s last count e over =
      let same : s ≡ last = cc in
      replayed_over zero s last count same (ap (λ (z : State). finished z.rest) same ∙ ap finished over)
  replayed (suc t) s last count e over =
      by_test (finished s.rest)
      (λ f. let same : going s ≡ going last = rw f at e in replayed_over (suc t) s last count (cc) f)
      (λ f.
      let (s', first, later) = then_going (tick job rule s) (run job rule t) last (rw f at e) in
      let counted : length s'.begun ≡ s'.loads = tick_kept job rule Count Count Count Count count_moves s s' (is_more s.rest f) count first in
      replayed_tick t s s' last count f first later over (replayed t s' last counted later over))

  module _ (t : ℕ) (last : State) (ran : run job rule t (start job) ≡ going last) (over : last.rest ≡ []) where
    abbrev Events : List Event
    Events = map event_of last.begun

    -- The list of what was begun, followed, comes to the same last state, and no event is left.
    pub replay : t ≤ most_ticks job → follows job Events ≡ going last
    replay enough =
        let r : Replayed t (start job) last = replayed t (start job) last refl ran over in
        let count : length last.begun ≡ last.loads = r.count in
        let all : length Events ≡ length last.begun = length-map last.begun event_of in
        let longer : run job (follow Events) (most_ticks job) (start job) ≡ going last =
        run_longer job (follow Events) t (most_ticks job) (start job) last enough r.same (ap finished over) in
        let done : finished last.rest ≡ true = ap finished over in
        rw (longer, done, le-ltb last.loads (length Events) (omega arith))

    -- Its ticks rise strictly, so where the run was over in time it is in order.
    pub in_order : last.tick ≤ last_tick + 1 → Ruly 0 Events
    in_order soon =
        let r : Replayed t (start job) last = replayed t (start job) last refl ran over in
        rw r.all (ordered_ruly soon r.ordered)
