-- What events have brought and taken out by a tick, said from the list alone, at a tick of a run along it and at the next.
use Prim.Native.Nat.{ℕ, zero, suc, ◌+◌, ◌-◌, ◌<◌, ◌≤◌}
use native.Mathlib.Omega.{arith}
use mathlib.Core.Path.{◌≡◌, refl, sym, ap, ◌∙◌}
use mathlib.Core.Bool.{Bool, true, false, cond, ◌&&◌}
use mathlib.Core.List.{List, [], ◌∷◌, map}
use lib.ListN.{length, get_or, drop, length-map, length-drop}
use lib.Seq.{get_or_at, get_or-take, get_or-drop}
use lib.Dec.{eqb, ltb, leb}
use borrow.Author.Tests.{ltb-true, ltb-false, leb-true, leb-false, le-leb, lt-leb}
use Rattle.std.specs.Prelude.{Option, Some, None}
use Rattle.rules.specs.declared.Loading.{Loading}
use Rattle.rules.specs.declared.Loading.TheVariants.{Idle, Under}
use Rattle.rules.specs.Job.{Job}
use Rattle.rules.specs.declared.Event.{Event}
use Rattle.rules.specs.LoadList.{event}
use Rattle.rules.specs.Display.{Loaded}
use Rattle.rules.specs.Refusals.{event_of}
use Rattle.rules.specs.Why.{brought_in}
use Rattle.laws.proofs.Cases.{by_test}
use Rattle.laws.proofs.Rows.{map_snoc}
use Rattle.laws.proofs.Sane.{Sane, Underway}
use Rattle.laws.proofs.Counts.{load_tick, Last, Busy}
use Rattle.laws.proofs.Along.{Ruly, ruly_first, Along}
use Rattle.demands.specs.Fair.{event_tick, event_symbol, nth_event}
use Rattle.demands.specs.Reasons.{last_of, brings, takes}
use Rattle.demands.proofs.Events.{as_many, tick_begun}
use Rattle.demands.proofs.Exactly.{last_tick_begun}
use Rattle.demands.proofs.LastOf.{same_tests, none_further, one_further}

-- ---- Events at a tick and at the next

-- A test for what has come by a tick says the same at the next tick, but of what comes in it.
leb_on : (n t : ℕ) → (n ≡ t + 1 → ⊥) → leb n t ≡ leb n (t + 1)
leb_on n t other =
    by_test (leb n t)
    (λ e. let past : n ≤ t = leb-true n t e in rw (e, le-leb n (t + 1) (omega arith)))
    (λ e.
    let ahead : t < n = leb-false n t e in
    by_test (leb n (t + 1))
    (λ f. let soon : n ≤ t + 1 = leb-true n (t + 1) f in absurd (other (omega arith)))
    (λ f. rw (e, f)))

-- A test of two parts whose second part fails, and one whose second part holds.
pub false_too : (a b : Bool) → b ≡ false → (a && b) ≡ false
false_too true b e = e
false_too false b e = refl

true_too : (a b : Bool) → b ≡ true → (a && b) ≡ a
true_too true b e = e
true_too false b e = refl

-- The events of a list in order come no sooner than its lowest tick.
ruly_at : (least : ℕ) (l : List Event) → Ruly least l → (j : ℕ) → j < length l → least ≤ event_tick (nth_event l j)
ruly_at least [] h j m = absurd (omega arith)
ruly_at least (this ∷ l) h zero m = (ruly_first least this.tick this.slot this.symbol l h).0
ruly_at least (this ∷ l) h (suc j) m =
    let (low, high, more) = ruly_first least this.tick this.slot this.symbol l h in
    let later : this.tick + 1 ≤ event_tick (nth_event l j) = ruly_at (this.tick + 1) l more j (omega arith) in
    omega arith

module _ {time least tick next loads : ℕ} {events : List Event} {loading : Loading} {begun : List Loaded}
    (a : Along time least tick next loads events loading begun) where
  -- The events still to come.
  to_come_at : (k : ℕ) → k < length events - loads → least ≤ event_tick (nth_event events (loads + k))
  to_come_at k h = rw get_or-drop at (ruly_at least (drop loads events) a.to_come k (rw length-drop h))

  -- The events begun.
  event_begun : (j : ℕ) → j < loads → nth_event events j ≡ nth_event (map event_of begun) j
  event_begun j h = sym (get_or-take loads events j (event 0 0 0) h) ∙ ap (λ (l : List Event). nth_event l j) (sym a.so_far)

-- While a load is under way it is the last event begun, and all events before that have ended.
record Ending (job : Job) (events : List Event) (tick left q y loads : ℕ) : Type 0 where
  number : ℕ
  count : loads ≡ number + 1
  began : ℕ
  is : nth_event events number ≡ event began q y
  ends : began + job.load_time ≡ tick + left + 1
  ended : (j : ℕ) → j < number → event_tick (nth_event events j) + job.load_time ≤ tick

module _ (job : Job) (events : List Event) (tick next loads : ℕ) (rest slots : List ℕ) (begun : List Loaded) where
  -- The load under way, in the list.
  ending : (left q y : ℕ) → Sane job next rest slots (Under left q y)
      → Busy job.load_time (tick + 1) tick (Under left q y) begun
      → Along job.load_time (tick + 1) tick next loads events (Under left q y) begun
      → Ending job events tick left q y loads
  ending left q y g busy a =
      let l : Last job.load_time (tick + left + 1) q y begun = busy.last left q y refl in
      let u : Underway job slots left q y = g.under left q y refl in
      let (at, size) = last_tick_begun _ _ _ _ _ l in
      let many : length begun ≡ loads = as_many a in
      let row : length (map load_tick begun) ≡ length begun = length-map begun load_tick in
      let earlier : length (map event_of l.earlier) ≡ length l.earlier = length-map l.earlier event_of in
      record {
        number = length l.earlier;
        count = omega arith;
        began = l.tick;
        is = event_begun a (length l.earlier) (omega arith)
            ∙ rw (l.is_last, map_snoc) (get_or_at (map event_of l.earlier) (event l.tick q y) [] (event 0 0 0) (length l.earlier) earlier);
        ends = l.ends;
        ended = λ j h.
            let when : event_tick (nth_event events j) ≡ get_or (map load_tick begun) j 0 = tick_begun a j (omega arith) in
            let spaced : get_or (map load_tick begun) j 0 + job.load_time ≤ get_or (map load_tick begun) (length l.earlier) 0 =
            busy.spaced j (length l.earlier) h (omega arith) in
            omega arith;
      }

-- ---- What has brought and what has taken a symbol, a tick later

module _ (job : Job) (events : List Event) (x : ℕ) where
  -- A load that does not end in the next tick has brought then what it has brought now.
  brings_on : (t j : ℕ) → (event_tick (nth_event events j) + job.load_time ≡ t + 1 → ⊥)
      → brings job events t x j ≡ brings job events (t + 1) x j
  brings_on t j other =
      ap (λ (b : Bool). eqb (event_symbol (nth_event events j)) x && b) (leb_on (event_tick (nth_event events j) + job.load_time) t other)

  -- A load that ends in the next tick brings its symbol in that tick.
  brings_then : (t loads m u q y : ℕ) (before : Option ℕ) → loads ≡ m + 1 → nth_event events m ≡ event u q y → u + job.load_time ≡ t + 1
      → ((j : ℕ) → j < m → event_tick (nth_event events j) + job.load_time ≤ t)
      → before ≡ last_of (brings job events t x) Some None loads
      → cond (eqb y x) (Some (loads - 1)) before ≡ last_of (brings job events (t + 1) x) Some None loads
  brings_then t loads m u q y before count is ends ended so_far =
      let last : loads - 1 ≡ m = omega arith in
      let now : brings job events t x m ≡ false =
      rw is (false_too (eqb y x) (leb (u + job.load_time) t) (lt-leb (u + job.load_time) t (omega arith))) in
      let then : brings job events (t + 1) x m ≡ eqb y x =
      rw is (true_too (eqb y x) (leb (u + job.load_time) (t + 1)) (le-leb (u + job.load_time) (t + 1) (omega arith))) in
      let same : before ≡ last_of (brings job events (t + 1) x) Some None m =
      (rw count at so_far)
      ∙ one_further Some None (brings job events t x) m
      ∙ ap (λ (b : Bool). cond b (Some m) (last_of (brings job events t x) Some None m)) now
      ∙ same_tests Some None (brings job events t x) (brings job events (t + 1) x) m
      (λ j h. brings_on t j (λ e. let past : event_tick (nth_event events j) + job.load_time ≤ t = ended j h in omega arith)) in
      rw (last, count)
      (ap (cond (eqb y x) (Some m)) same
      ∙ sym (one_further Some None (brings job events (t + 1) x) m
      ∙ ap (λ (b : Bool). cond b (Some m) (last_of (brings job events (t + 1) x) Some None m)) then))

  -- So what the next tick lands makes of what was brought so far what will have been brought by then.
  pub brought_on : (tick next loads : ℕ) (rest slots : List ℕ) (loading : Loading) (begun : List Loaded) (before : Option ℕ)
      → Sane job next rest slots loading
      → Busy job.load_time (tick + 1) tick loading begun
      → Along job.load_time (tick + 1) tick next loads events loading begun
      → before ≡ last_of (brings job events tick x) Some None loads
      → brought_in x loading loads before ≡ last_of (brings job events (tick + 1) x) Some None loads
  brought_on tick next loads rest slots Idle begun before g busy a so_far =
      let many : length begun ≡ loads = as_many a in
      let row : length (map load_tick begun) ≡ length begun = length-map begun load_tick in
      so_far
      ∙ same_tests Some None (brings job events tick x) (brings job events (tick + 1) x) loads
      (λ j h.
      brings_on tick j
      (λ e.
      let past : get_or (map load_tick begun) j 0 + job.load_time ≤ tick + 0 = busy.ends j (omega arith) in
      let when : event_tick (nth_event events j) ≡ get_or (map load_tick begun) j 0 = tick_begun a j h in
      omega arith))
  brought_on tick next loads rest slots (Under zero q y) begun before g busy a so_far =
      let n : Ending job events tick 0 q y loads = ending job events tick next loads rest slots begun 0 q y g busy a in
      brings_then tick loads n.number n.began q y before n.count n.is (omega arith) n.ended so_far
  brought_on tick next loads rest slots (Under (suc left) q y) begun before g busy a so_far =
      let n : Ending job events tick (suc left) q y loads = ending job events tick next loads rest slots begun (suc left) q y g busy a in
      so_far
      ∙ same_tests Some None (brings job events tick x) (brings job events (tick + 1) x) loads
      (λ j h.
      brings_on tick j
      (λ e.
      by_test (ltb j n.number)
      (λ t. let past : event_tick (nth_event events j) + job.load_time ≤ tick = n.ended j (ltb-true _ _ t) in omega arith)
      (λ t.
      let last : j ≡ n.number = let far : n.number ≤ j = ltb-false _ _ t in omega arith in
      let late : n.began + job.load_time ≡ tick + 1 = rw (last, n.is) at e in
      omega arith)))

  -- An event that has begun has taken out then what it has taken out now.
  pub taken_on : (tick next loads : ℕ) (loading : Loading) (begun : List Loaded)
      → Busy job.load_time (tick + 1) tick loading begun
      → Along job.load_time (tick + 1) tick next loads events loading begun
      → last_of (takes job events tick x) Some None loads ≡ last_of (takes job events (tick + 1) x) Some None loads
  taken_on tick next loads loading begun busy a =
      let many : length begun ≡ loads = as_many a in
      let row : length (map load_tick begun) ≡ length begun = length-map begun load_tick in
      same_tests Some None (takes job events tick x) (takes job events (tick + 1) x) loads
      (λ j h.
      let past : get_or (map load_tick begun) j 0 < tick + 1 = busy.past j (omega arith) in
      let when : event_tick (nth_event events j) ≡ get_or (map load_tick begun) j 0 = tick_begun a j h in
      rw (le-leb (event_tick (nth_event events j)) tick (omega arith), le-leb (event_tick (nth_event events j)) (tick + 1) (omega arith)))

  -- The events still to come have neither brought nor taken anything.
  module _ (tick next loads : ℕ) (loading : Loading) (begun : List Loaded)
      (a : Along job.load_time (tick + 1) tick next loads events loading begun) where
    pub all_brought : last_of (brings job events tick x) Some None (length events)
        ≡ last_of (brings job events tick x) Some None loads
    all_brought =
        let some : loads ≤ length events = a.some in
        let split : length events ≡ loads + (length events - loads) = omega arith in
        rw split
        (none_further Some None (brings job events tick x) loads (length events - loads)
        (λ k h.
        let later : tick + 1 ≤ event_tick (nth_event events (loads + k)) = to_come_at a k h in
        false_too (eqb (event_symbol (nth_event events (loads + k))) x) _
        (lt-leb (event_tick (nth_event events (loads + k)) + job.load_time) tick (omega arith))))

    pub all_taken : last_of (takes job events tick x) Some None (length events)
        ≡ last_of (takes job events tick x) Some None loads
    all_taken =
        let some : loads ≤ length events = a.some in
        let split : length events ≡ loads + (length events - loads) = omega arith in
        rw split
        (none_further Some None (takes job events tick x) loads (length events - loads)
        (λ k h.
        let later : tick + 1 ≤ event_tick (nth_event events (loads + k)) = to_come_at a k h in
        rw (lt-leb (event_tick (nth_event events (loads + k))) tick (omega arith))))
