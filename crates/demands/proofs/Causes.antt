-- The cause that a tick's record has for a wait is the one that the list alone says.
use Prim.Native.Nat.{ℕ, suc, ◌+◌, ◌<◌, ◌≤◌}
use native.Mathlib.Omega.{arith}
use mathlib.Core.Path.{◌≡◌, refl, sym, ap, ◌∙◌}
use mathlib.Core.Bool.{Bool, true, false, cond}
use mathlib.Core.List.{List, [], ◌∷◌, ◌++◌, map}
use lib.ListN.{get_or, take, drop, take-append-drop}
use lib.Dec.{leb}
use borrow.Author.Tests.{le-leb, lt-leb}
use Rattle.rules.specs.declared.Loading.{Loading}
use Rattle.rules.specs.declared.Loading.TheVariants.{Idle, Under}
use Rattle.rules.specs.declared.Cause.{Cause}
use Rattle.rules.specs.declared.Cause.TheVariants.{Nothing}
use Rattle.rules.specs.declared.Happening.TheVariants.{Draw, Wait}
use Rattle.rules.specs.Basics.{place, stands}
use Rattle.rules.specs.Job.{Job}
use Rattle.rules.specs.declared.Event.{Event}
use Rattle.rules.specs.LoadList.{event}
use Rattle.rules.specs.Display.{State, Loaded, loaded, going, start, land, beginning, awaited, cause_of, happening_of, asked, finished, run}
use Rattle.rules.specs.Refusals.{follow, event_of}
use Rattle.laws.proofs.Cases.{by_test}
use Rattle.laws.proofs.Rows.{Each, map_snoc}
use Rattle.laws.proofs.Counts.{load_tick, Last, Busy}
use Rattle.laws.proofs.Sane.{Sane, Underway}
use Rattle.laws.proofs.Along.{Ruly, ruly_first, AlongBegun}
use Rattle.laws.proofs.Moves.{reached, begun_kept, is_more}
use Rattle.laws.proofs.Jobs.{Proper}
use Rattle.demands.specs.Held.{LastLoad, none, last, or_else}
use Rattle.demands.specs.Causes.{last_begun, cause_by, cause_at}
use Rattle.demands.proofs.Holding.{HoldingBetween, HoldingLanded, HoldingBegun, holding_moves, holding_start}

-- ---- The last event begun

-- Events that come after a tick say nothing about it.
later_none : (t least : ℕ) (l : List Event) → Ruly least l → t < least → last_begun t l ≡ none
unfolding last_begun
later_none t least [] h after = refl
later_none t least (this ∷ l) h after =
    let (low, high, more) = ruly_first least this.tick this.slot this.symbol l h in
    rw (later_none t (this.tick + 1) l more (omega arith), lt-leb this.tick t (omega arith))

front_decides : (t : ℕ) (front later : List Event) → last_begun t later ≡ none → last_begun t (front ++ later) ≡ last_begun t front
unfolding last_begun
front_decides t [] later h = h
front_decides t (this ∷ front) later h = rw (front_decides t front later h)

-- One more event at the end of a list is the last.
last_here : (t u q x : ℕ) (front : List Event) → u ≤ t → last_begun t (front ++ (event u q x ∷ [])) ≡ last u x
unfolding last_begun
last_here t u q x [] h = rw (le-leb u t h)
last_here t u q x (this ∷ front) h = rw (last_here t u q x front h)

-- ---- What the loader says

-- Where all loads have ended, nothing is loading.
ended_nothing : (time t x : ℕ) (a b : LastLoad) → cause_by time t x a ≡ Nothing → cause_by time t x b ≡ Nothing
    → cause_by time t x (or_else a b) ≡ Nothing
ended_nothing time t x none b ha hb = hb
ended_nothing time t x (last u y) b ha hb = ha

all_nothing : (time t x : ℕ) (begun : List Loaded) → Each (λ u. u + time ≤ t) (map load_tick begun)
    → cause_by time t x (last_begun t (map event_of begun)) ≡ Nothing
unfolding last_begun
all_nothing time t x [] h = refl
all_nothing time t x (loaded u d r y ∷ begun) h =
    ended_nothing time t x (last_begun t (map event_of begun)) (cond (leb u t) (last u y) none)
    (all_nothing time t x begun (λ i m. h (suc i) (omega arith)))
    (by_test (leb u t) (λ e. rw (e, le-leb (u + time) t (h 0 (omega arith)))) (λ e. rw e))

-- Once what begins in a tick has begun, the loader says of a wait what the loads begun so far say.
loader_says : (job : Job) (tick next x : ℕ) (rest slots : List ℕ) (loading : Loading) (begun : List Loaded)
    → Sane job next rest slots loading
    → Busy job.load_time (tick + 1) tick loading begun
    → cause_of loading x ≡ cause_by job.load_time tick x (last_begun tick (map event_of begun))
loader_says job tick next x rest slots Idle begun g b =
    sym (all_nothing job.load_time tick x begun
    (λ i m. let e : get_or (map load_tick begun) i 0 + job.load_time ≤ tick + 0 = b.ends i m in omega arith))
loader_says job tick next x rest slots (Under left q y) begun g b =
    let l : Last job.load_time (tick + left + 1) q y begun = b.last left q y refl in
    let u : Underway job slots left q y = g.under left q y refl in
    let began : l.tick ≤ tick = omega arith in
    let is : last_begun tick (map event_of begun) ≡ last l.tick y =
    rw (l.is_last, map_snoc) (last_here tick l.tick q y (map event_of l.earlier) began) in
    rw (is, lt-leb (l.tick + job.load_time) tick (omega arith))

-- ---- A run along a list

-- Once what begins in a tick has begun, the loader says of a wait what the whole list says: the events still to come are later.
pub list_says : (job : Job) (events : List Event) (s : State) → HoldingBegun job events s
    → (x : ℕ) → cause_of s.loading x ≡ cause_at job events s.tick x
list_says job events s g x =
    let a : AlongBegun job events s = g.0.1 in
    let later : last_begun s.tick (drop s.loads events) ≡ none =
    later_none s.tick (s.tick + 1) (drop s.loads events) a.to_come (omega arith) in
    let same : last_begun s.tick (map event_of s.begun) ≡ last_begun s.tick events =
    ap (last_begun s.tick) a.so_far
    ∙ sym (front_decides s.tick (take s.loads events) (drop s.loads events) later)
    ∙ ap (last_begun s.tick) (take-append-drop s.loads events) in
    loader_says job s.tick s.next x s.rest s.slots s.loading s.begun g.0.0.0 g.0.0.1
    ∙ ap (cause_by job.load_time s.tick x) same

-- At every tick of a run along a list that is a wait, its cause is the one that the list says: the load under way at that tick brings
-- the awaited symbol, or another, or there is none.
pub waits_for : (job : Job) (events : List Event) → Proper job → Ruly 0 events → (t : ℕ) (s after : State) (c : Cause)
    → run job (follow events) t (start job) ≡ going s
    → finished s.rest ≡ false
    → beginning job (asked (follow events) s) (land s) ≡ going after
    → happening_of after ≡ Wait c
    → c ≡ cause_at job events after.tick (awaited after)
waits_for job events p ordered t s after c ran more began waits =
    let between : HoldingBetween job events s =
    reached job (follow events) _ _ _ (holding_moves job events p.some_load_time) t (start job) s (holding_start job events p ordered) ran in
    let moves = holding_moves job events p.some_load_time in
    let (still, g) = begun_kept job (follow events) (HoldingBetween job events) (HoldingLanded job events) (HoldingBegun job events)
    (HoldingBetween job events) moves ((follow events).asks (land s)) (land s) after refl (is_more s.rest more)
    (moves.lands s (is_more s.rest more) between) began in
    cause_of_wait (stands (awaited after) after.slots) waits ∙ list_says job events after g (awaited after)
  where
    cause_of_wait : (b : Bool) → cond b (Draw (place (awaited after) after.slots)) (Wait (cause_of after.loading (awaited after))) ≡ Wait c
        → c ≡ cause_of after.loading (awaited after)
    cause_of_wait true e = let z : ◌≡◌ {A = ℕ} 0 1 = cc in absurd (omega arith)
    cause_of_wait false e = cc
