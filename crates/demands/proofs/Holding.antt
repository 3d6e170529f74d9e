-- A run along a list has in its slots what the list alone says that they hold.
use Prim.Native.Nat.{ℕ, zero, suc, ◌+◌, ◌<◌, ◌≤◌}
use native.Mathlib.Omega.{arith}
use mathlib.Core.Path.{◌≡◌, refl, sym, ap, ◌∙◌}
use mathlib.Core.Bool.{cond, ◌&&◌}
use mathlib.Core.List.{List, [], ◌∷◌, ◌++◌, map}
use lib.ListN.{length, get_or, take, drop, set, take-append-drop}
use lib.Seq.{get_or-set_same, get_or-set_other}
use lib.Dec.{eqb, leb}
use borrow.Author.Tests.{le-leb, lt-leb, eqb-true, eqb-false, eq-eqb, ne_eqb}
use Rattle.rules.specs.declared.Loading.{Loading}
use Rattle.rules.specs.declared.Loading.TheVariants.{Idle, Under}
use Rattle.rules.specs.Job.{Job, free}
use Rattle.rules.specs.declared.Event.{Event}
use Rattle.rules.specs.LoadList.{event}
use Rattle.rules.specs.Display.{State, Loaded, loaded, start, landed_slots}
use Rattle.rules.specs.Refusals.{follow, event_of}
use Rattle.laws.proofs.Cases.{by_test}
use Rattle.laws.proofs.Rows.{Each, map_snoc}
use Rattle.laws.proofs.Counts.{load_tick, Last, Busy, BusyBetween, BusyLanded, BusyBegun, busy_moves, busy_start}
use Rattle.laws.proofs.Sane.{Sane, SaneState, Underway, sane_moves, sane_start}
use Rattle.laws.proofs.Along.{Ruly, ruly_first, AlongBetween, AlongLanded, AlongBegun, along_moves, along_start}
use Rattle.laws.proofs.Moves.{Moves, upon, both}
use Rattle.laws.proofs.Jobs.{Proper}
use Rattle.demands.specs.Held.{LastLoad, none, last, or_else, last_load, leaves, held}

-- ---- The last load of a list

-- Events that come after a tick say nothing about it.
later_none : (q t least : ℕ) (l : List Event) → Ruly least l → t < least → last_load q t l ≡ none
unfolding last_load
later_none q t least [] h after = refl
later_none q t least (this ∷ l) h after =
    let (low, high, more) = ruly_first least this.tick this.slot this.symbol l h in
    rw (later_none q t (this.tick + 1) l more (omega arith), lt-leb this.tick t (omega arith)) (by_test (eqb this.slot q) (λ e. rw e) (λ e. rw e))

front_decides : (q t : ℕ) (front later : List Event) → last_load q t later ≡ none → last_load q t (front ++ later) ≡ last_load q t front
unfolding last_load
front_decides q t [] later h = h
front_decides q t (this ∷ front) later h = rw (front_decides q t front later h)

-- One more event at the end of a list is the last on its own slot, and says nothing about another.
last_here : (q t u x : ℕ) (front : List Event) → u ≤ t → last_load q t (front ++ (event u q x ∷ [])) ≡ last u x
unfolding last_load
last_here q t u x [] h = rw (eq-eqb q q refl, le-leb u t h)
last_here q t u x (this ∷ front) h = rw (last_here q t u x front h)

last_elsewhere : (q t u r x : ℕ) (front : List Event) → (r ≡ q → ⊥) → last_load q t (front ++ (event u r x ∷ [])) ≡ last_load q t front
last_elsewhere q t u r x front h = front_decides q t front (event u r x ∷ []) (unfold last_load in rw (ne_eqb r q h))

-- ---- A tick later

-- A load that has ended leaves the same a tick later.
data Ended (time t : ℕ) : LastLoad → Type 0 where
  none_ended : Ended time t none
  load_ended : {u x : ℕ} → u + time ≤ t → Ended time t (last u x)

or_ended : (time t : ℕ) (a b : LastLoad) → Ended time t a → Ended time t b → Ended time t (or_else a b)
or_ended time t none b ha hb = hb
or_ended time t (last u x) b ha hb = ha

all_ended : (time t q : ℕ) (begun : List Loaded) → Each (λ u. u + time ≤ t) (map load_tick begun)
    → Ended time t (last_load q t (map event_of begun))
unfolding last_load
all_ended time t q [] h = none_ended
all_ended time t q (loaded u d r x ∷ begun) h =
    or_ended time t (last_load q t (map event_of begun)) (cond (eqb r q && leb u t) (last u x) none)
    (all_ended time t q begun (λ i m. h (suc i) (omega arith)))
    (by_test (eqb r q && leb u t) (λ e. rw e (load_ended (h 0 (omega arith)))) (λ e. rw e none_ended))

ended_leaves : (starting time t : ℕ) (l : LastLoad) → Ended time t l → leaves starting time (t + 1) l ≡ leaves starting time t l
ended_leaves starting time t none none_ended = refl
ended_leaves starting time t (last u x) (load_ended h) = rw (le-leb (u + time) t h, le-leb (u + time) (t + 1) (omega arith))

-- A list whose events have all begun has the same last loads a tick later.
same_last : (q t : ℕ) (begun : List Loaded) → Each (λ u. u ≤ t) (map load_tick begun)
    → last_load q (t + 1) (map event_of begun) ≡ last_load q t (map event_of begun)
unfolding last_load
same_last q t [] h = refl
same_last q t (loaded u d r x ∷ begun) h =
    let now : u ≤ t = h 0 (omega arith) in
    rw (same_last q t begun (λ i m. h (suc i) (omega arith)), le-leb u t now, le-leb u (t + 1) (omega arith))

-- So a slot into which all loads have ended holds the same a tick later.
pub stays : (starting time t q : ℕ) (begun : List Loaded) → Each (λ u. u + time ≤ t) (map load_tick begun)
    → leaves starting time (t + 1) (last_load q (t + 1) (map event_of begun)) ≡ leaves starting time t (last_load q t (map event_of begun))
stays starting time t q begun h =
    rw (same_last q t begun (λ i m. let b : get_or (map load_tick begun) i 0 + time ≤ t = h i m in omega arith))
    (ended_leaves starting time t (last_load q t (map event_of begun)) (all_ended time t q begun h))

-- ---- The slots of a run

-- Each slot holds what the loads begun so far say.
abbrev pub Holds : Job → ℕ → List ℕ → List Loaded → Type 0
Holds job tick slots begun = (q : ℕ) → q < job.slots → get_or slots q 0 ≡ held job (map event_of begun) tick q

holds_begins : (job : Job) (tick next q x : ℕ) (slots : List ℕ) (begun : List Loaded) → 1 ≤ job.load_time → length slots ≡ job.slots
    → Holds job tick slots begun → Holds job tick (set slots q free) (begun ++ (loaded tick next q x ∷ []))
holds_begins job tick next q x slots begun some_load_time row h r inside =
    by_test (eqb q r)
    (λ e.
    let same : q ≡ r = eqb-true q r e in
    let within : r < length slots = omega arith in
    rw (
      same,
      map_snoc,
      get_or-set_same slots r free 0 within,
      last_here r tick tick x (map event_of begun) (omega arith),
      lt-leb (tick + job.load_time) tick (omega arith),
    ))
    (λ e.
    let other : q ≡ r → ⊥ = eqb-false q r e in
    let apart : r ≡ q → ⊥ = λ f. other (sym f) in
    rw (map_snoc, get_or-set_other slots q r free 0 apart, last_elsewhere r tick tick q x (map event_of begun) other) (h r inside))

-- What the last load begun says about its own slot and about another.
module _ (time end q x : ℕ) (begun : List Loaded) (l : Last time end q x begun) where
  here : (t : ℕ) → l.tick ≤ t → last_load q t (map event_of begun) ≡ last l.tick x
  here t h = rw (l.is_last, map_snoc) (last_here q t l.tick x (map event_of l.earlier) h)

  elsewhere : (t r : ℕ) → (q ≡ r → ⊥) → last_load r t (map event_of begun) ≡ last_load r t (map event_of l.earlier)
  elsewhere t r h = rw (l.is_last, map_snoc) (last_elsewhere r t l.tick q x (map event_of l.earlier) h)

  elsewhere_stays : (starting t r : ℕ) → (q ≡ r → ⊥) → l.tick ≤ t
      → leaves starting time (t + 1) (last_load r (t + 1) (map event_of begun)) ≡ leaves starting time t (last_load r t (map event_of begun))
  elsewhere_stays starting t r h began =
      rw (elsewhere (t + 1) r h, elsewhere t r h)
      (stays starting time t r l.earlier
      (λ i m. let b : get_or (map load_tick l.earlier) i 0 + time ≤ l.tick = l.ended i m in omega arith))

holds_passes : (job : Job) (tick next : ℕ) (rest slots : List ℕ) (loading : Loading) (begun : List Loaded)
    → Sane job next rest slots loading
    → Busy job.load_time (tick + 1) tick loading begun → Holds job tick slots begun → Holds job (tick + 1) (landed_slots loading slots) begun
holds_passes job tick next rest slots Idle begun g b h r inside =
    h r inside
    ∙ sym (stays (get_or job.starting r 0) job.load_time tick r begun
    (λ i m. let e : get_or (map load_tick begun) i 0 + job.load_time ≤ tick + 0 = b.ends i m in omega arith))
holds_passes job tick next rest slots (Under zero q x) begun g b h r inside =
    let l : Last job.load_time (tick + 0 + 1) q x begun = b.last 0 q x refl in
    let u : Underway job slots 0 q x = g.under 0 q x refl in
    let began : l.tick ≤ tick = omega arith in
    by_test (eqb q r)
    (λ e.
    let same : q ≡ r = eqb-true q r e in
    let within : q < length slots = rw g.row u.slot in
    rw (
      ← same,
      get_or-set_same slots q x 0 within,
      here job.load_time (tick + 0 + 1) q x begun l (tick + 1) (omega arith),
      le-leb (l.tick + job.load_time) (tick + 1) (omega arith),
    ))
    (λ e.
    let other : q ≡ r → ⊥ = eqb-false q r e in
    let apart : r ≡ q → ⊥ = λ f. other (sym f) in
    get_or-set_other slots q r x 0 apart
    ∙ h r inside
    ∙ sym (elsewhere_stays job.load_time (tick + 0 + 1) q x begun l (get_or job.starting r 0) tick r other began))
holds_passes job tick next rest slots (Under (suc left) q x) begun g b h r inside =
    let l : Last job.load_time (tick + suc left + 1) q x begun = b.last (suc left) q x refl in
    let u : Underway job slots (suc left) q x = g.under (suc left) q x refl in
    let began : l.tick ≤ tick = omega arith in
    by_test (eqb q r)
    (λ e.
    let same : q ≡ r = eqb-true q r e in
    rw (
      ← same,
      u.empty,
      here job.load_time (tick + suc left + 1) q x begun l (tick + 1) (omega arith),
      lt-leb (l.tick + job.load_time) (tick + 1) (omega arith),
    ))
    (λ e.
    h r inside
    ∙ sym (elsewhere_stays job.load_time (tick + suc left + 1) q x begun l (get_or job.starting r 0) tick r (eqb-false q r e) began))

-- ---- A run along a list

-- What is known of it, between ticks and within one.
abbrev pub HoldingBetween : Job → List Event → State → Type 0
HoldingBetween job events s =
    ((SaneState job s × BusyBetween job s) × AlongBetween job events s)
    × Holds job s.tick (landed_slots s.loading s.slots) s.begun

abbrev pub HoldingLanded : Job → List Event → State → Type 0
HoldingLanded job events s = ((SaneState job s × BusyLanded job s) × AlongLanded job events s) × Holds job s.tick s.slots s.begun

abbrev pub HoldingBegun : Job → List Event → State → Type 0
HoldingBegun job events s = ((SaneState job s × BusyBegun job s) × AlongBegun job events s) × Holds job s.tick s.slots s.begun

-- Every move keeps the slots as the loads begun so far say.
pub holding_moves : (job : Job) (events : List Event) → 1 ≤ job.load_time
    → Moves job (follow events) (HoldingBetween job events) (HoldingLanded job events) (HoldingBegun job events)
holding_moves job events some_load_time =
    upon job (follow events) _ _ _ _ _ _
    (both job (follow events) _ _ _ _ _ _
    (both job (follow events) _ _ _ _ _ _ (sane_moves job (follow events) some_load_time) (busy_moves job (follow events) some_load_time))
    (along_moves job events some_load_time))
    (record {
      lands = λ s more g h. h;
      passes = λ s more a g h. h;
      begins = λ q x s b g h. holds_begins job s.tick s.next q x s.slots s.begun some_load_time g.0.0.row h;
      draws = λ q s d g h.
          holds_passes job s.tick s.next s.rest s.slots s.loading s.begun g.0.0 g.0.1 h;
      waits = λ s w g h.
          holds_passes job s.tick s.next s.rest s.slots s.loading s.begun g.0.0 g.0.1 h;
    })

pub holding_start : (job : Job) (events : List Event) → Proper job → Ruly 0 events → HoldingBetween job events (start job)
unfolding last_load
holding_start job events p ordered = (((sane_start job p, busy_start job), along_start job events p ordered), λ q h. refl)

-- Once what begins in a tick has begun, each slot holds what the whole list says: the events still to come are later.
pub shown : (job : Job) (events : List Event) (s : State) → HoldingBegun job events s
    → (q : ℕ) → q < job.slots → get_or s.slots q 0 ≡ held job events s.tick q
shown job events s g q inside =
    let a : AlongBegun job events s = g.0.1 in
    let later : last_load q s.tick (drop s.loads events) ≡ none =
    later_none q s.tick (s.tick + 1) (drop s.loads events) a.to_come (omega arith) in
    let same : last_load q s.tick (map event_of s.begun) ≡ last_load q s.tick events =
    ap (last_load q s.tick) a.so_far
    ∙ sym (front_decides q s.tick (take s.loads events) (drop s.loads events) later)
    ∙ ap (last_load q s.tick) (take-append-drop s.loads events) in
    g.1 q inside ∙ ap (leaves (get_or job.starting q 0) job.load_time s.tick) same
