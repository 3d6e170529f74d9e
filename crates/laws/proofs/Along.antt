-- A run along a load list: what it has begun is the front of the list, what is left of the list is still to come, and the run is over
-- by the ticks that a check allows it.
use Prim.Native.Nat.{ℕ, zero, suc, ◌+◌, ◌-◌, ◌<◌, ◌≤◌}
use native.Mathlib.Omega.{arith}
use mathlib.Core.Path.{◌≡◌, refl, sym, ap, ◌∙◌}
use mathlib.Core.Bool.{false, ◌||◌}
use mathlib.Core.List.{List, [], ◌∷◌, ◌++◌, map}
use lib.ListN.{length, take, drop, length-drop}
use lib.Seq.{drop-drop, take-add}
use lib.Dec.{eqb, ltb, leb}
use borrow.Author.Tests.{ltb-false, leb-false, eqb-true, eqb-false, le-ltb}
use Rattle.std.specs.Prelude.{Some, None}
use Rattle.rules.specs.declared.Loading.{Loading}
use Rattle.rules.specs.declared.Loading.TheVariants.{Idle, Under}
use Rattle.rules.specs.Job.{Job}
use Rattle.rules.specs.declared.Event.{Event}
use Rattle.rules.specs.LoadList.{event, last_tick}
use Rattle.rules.specs.Display.{load, State, Loaded, loaded, going, start, landed_loading, finished, run}
use Rattle.rules.specs.Refusals.{first_bad_tick, due, follow, most_ticks, event_of}
use Rattle.laws.proofs.Cases.{by_test, neither}
use Rattle.laws.proofs.Loads.{same_load}
use Rattle.laws.proofs.Rows.{map_snoc}
use Rattle.laws.proofs.Moves.{Moves, reached, is_more, is_over}
use Rattle.laws.proofs.Runs.{run_ticks}
use Rattle.laws.proofs.Jobs.{Proper}
use Rattle.laws.proofs.Sane.{SaneState, sane, remaining}
use Rattle.laws.proofs.Counts.{ahead}

-- ---- Events in order, from a lowest tick on

-- No event is out of order: each tick is above the one before it, and none is over the limit.
abbrev pub Ruly : ℕ → List Event → Type 0
Ruly least l = first_bad_tick least l ≡ length l

-- The search for the first that is stops at the list's end.
pub bad_tick_within : (least : ℕ) (l : List Event) → first_bad_tick least l ≤ length l
unfolding first_bad_tick
bad_tick_within least [] = omega arith
bad_tick_within least (this ∷ l) =
    let more : first_bad_tick (this.tick + 1) l ≤ length l = bad_tick_within (this.tick + 1) l in
    by_test (ltb last_tick this.tick || ltb this.tick least) (λ e. rw e (omega arith)) (λ e. rw e (omega arith))

-- The first event of such a list, and the rest of the list.
pub ruly_first : (least t q x : ℕ) (l : List Event) → Ruly least (event t q x ∷ l) → (least ≤ t) × (t ≤ last_tick) × Ruly (t + 1) l
unfolding first_bad_tick
ruly_first least t q x l h =
    by_test (ltb last_tick t || ltb t least)
    (λ e. let z : 0 ≡ suc (length l) = rw e at h in absurd (omega arith))
    (λ e.
    let (high, low) = neither (ltb last_tick t) (ltb t least) e in
    let more : suc (first_bad_tick (t + 1) l) ≡ suc (length l) = rw e at h in
    (ltb-false t least low, ltb-false last_tick t high, omega arith))

ruly_more : (least : ℕ) (l : List Event) → Ruly least l → 0 < length l → least ≤ last_tick
ruly_more least [] h more = absurd (omega arith)
ruly_more least (this ∷ l) h more =
    let f : (least ≤ this.tick) × (this.tick ≤ last_tick) × Ruly (this.tick + 1) l = ruly_first least this.tick this.slot this.symbol l h in omega arith

ruly_later : (least t q x : ℕ) (l : List Event) → Ruly least (event t q x ∷ l) → least < t → Ruly (least + 1) (event t q x ∷ l)
unfolding first_bad_tick
ruly_later least t q x l h later =
    let f : (least ≤ t) × (t ≤ last_tick) × Ruly (t + 1) l = ruly_first least t q x l h in
    rw (le-ltb last_tick t f.1, le-ltb t (least + 1) (omega arith)) (ap suc f.2)

-- ---- What is due in a tick

no_load : {A : Type 0} (q x : ℕ) → None ≡ Some (load q x) → A
no_load q x e = let z : ◌≡◌ {A = ℕ} 0 1 = cc in absurd (omega arith)

-- What begins is the first event of the list, and its tick is now.
pub due_load : (l : List Event) (now q x : ℕ) → due l now ≡ Some (load q x) → (later : List Event) × (l ≡ event now q x ∷ later)
unfolding due
due_load [] now q x e = no_load q x e
due_load (this ∷ later) now q x e =
    by_test (eqb this.tick now)
    (λ f.
    let g : Some (load this.slot this.symbol) ≡ Some (load q x) = rw f at e in
    let (slots, symbols) = same_load this.slot this.symbol q x g in
    let first : this ≡ event now q x = rw (eqb-true this.tick now f, slots, symbols) in
    (later, ap (λ (e : Event). e ∷ later) first))
    (λ f. no_load q x (rw f at e))

-- Where nothing is due now, all that is left comes later.
due_none : (l : List Event) (now : ℕ) → due l now ≡ None → Ruly now l → Ruly (now + 1) l
unfolding due first_bad_tick
due_none [] now e h = h
due_none (this ∷ l) now e h =
    by_test (eqb this.tick now)
    (λ f. let g : Some (load this.slot this.symbol) ≡ None = rw f at e in no_load this.slot this.symbol (sym g))
    (λ f.
    let g : (now ≤ this.tick) × (this.tick ≤ last_tick) × Ruly (this.tick + 1) l = ruly_first now this.tick this.slot this.symbol l h in
    let other : this.tick ≡ now → ⊥ = eqb-false this.tick now f in
    ruly_later now this.tick this.slot this.symbol l h (omega arith))

-- ---- The run

-- `least` is the lowest tick at which what is left of the list may begin.
pub record Along (time least tick next loads : ℕ) (events : List Event) (loading : Loading) (begun : List Loaded) : Type 0 where
  pub so_far : map event_of begun ≡ take loads events
  pub some : loads ≤ length events
  pub to_come : Ruly least (drop loads events)
  pub in_its_time : tick + ahead loading ≤ last_tick + time + next + 1

module _ (time : ℕ) (events : List Event) where
  along_begins : (tick next loads q x : ℕ) (loading : Loading) (begun : List Loaded) → 1 ≤ time → due (drop loads events) tick ≡ Some (load q x)
      → Along time tick tick next loads events loading begun
      → Along time (tick + 1) tick next (loads + 1) events (Under (time - 1) q x) (begun ++ (loaded tick next q x ∷ []))
  along_begins tick next loads q x loading begun some_load_time asks h =
      let (later, first) = due_load (drop loads events) tick q x asks in
      let left : length events - loads ≡ suc (length later) = sym (length-drop loads events) ∙ ap length first in
      let behind : drop (loads + 1) events ≡ later = sym (drop-drop 1 loads events) ∙ ap (drop 1) first in
      let f : (tick ≤ tick) × (tick ≤ last_tick) × Ruly (tick + 1) later = ruly_first tick tick q x later (rw first at h.to_come) in
      record {
        so_far = rw (map_snoc, h.so_far, take-add loads 1 events, first);
        some = omega arith;
        to_come = rw behind f.2;
        in_its_time = omega arith;
      }

  along_passes : (tick next next' loads : ℕ) (loading : Loading) (begun : List Loaded)
      → tick + 1 + ahead (landed_loading loading) ≤ last_tick + time + next' + 1
      → Along time (tick + 1) tick next loads events loading begun
      → Along time (tick + 1) (tick + 1) next' loads events (landed_loading loading) begun
  along_passes tick next next' loads loading begun in_its_time h =
      record { so_far = h.so_far; some = h.some; to_come = h.to_come; in_its_time = in_its_time }

  -- A draw takes a tick and is one of the ticks allowed; a wait takes one from the load under way, or waits for an event to come.
  draw_in_time : (tick next loads : ℕ) (loading : Loading) (begun : List Loaded)
      → Along time (tick + 1) tick next loads events loading begun
      → tick + 1 + ahead (landed_loading loading) ≤ last_tick + time + (next + 1) + 1
  draw_in_time tick next loads Idle begun h = omega arith
  draw_in_time tick next loads (Under zero q x) begun h = omega arith
  draw_in_time tick next loads (Under (suc left) q x) begun h = omega arith

  wait_in_time : (tick next loads : ℕ) (loading : Loading) (begun : List Loaded) → (loading ≡ Idle → leb (length events) loads ≡ false)
      → Along time (tick + 1) tick next loads events loading begun
      → tick + 1 + ahead (landed_loading loading) ≤ last_tick + time + next + 1
  wait_in_time tick next loads Idle begun hope h =
      let left : loads < length events = leb-false (length events) loads (hope refl) in
      let behind : length (drop loads events) ≡ length events - loads = length-drop loads events in
      let soon : tick + 1 ≤ last_tick = ruly_more (tick + 1) (drop loads events) h.to_come (omega arith) in
      omega arith
  wait_in_time tick next loads (Under zero q x) begun hope h = omega arith
  wait_in_time tick next loads (Under (suc left) q x) begun hope h = omega arith

-- The same of a state: between ticks as it will be once the coming tick has landed what ends in it, then within the tick.
abbrev pub AlongBetween : Job → List Event → State → Type 0
AlongBetween job events s = Along job.load_time s.tick s.tick s.next s.loads events (landed_loading s.loading) s.begun

abbrev pub AlongLanded : Job → List Event → State → Type 0
AlongLanded job events s = Along job.load_time s.tick s.tick s.next s.loads events s.loading s.begun

abbrev pub AlongBegun : Job → List Event → State → Type 0
AlongBegun job events s = Along job.load_time (s.tick + 1) s.tick s.next s.loads events s.loading s.begun

-- Every move of a run along a list keeps it so, and it is so at the start.
pub along_moves : (job : Job) (events : List Event) → 1 ≤ job.load_time
    → Moves job (follow events) (AlongBetween job events) (AlongLanded job events) (AlongBegun job events)
along_moves job events some_load_time =
    record {
      lands = λ s more h. h;
      passes = λ s more a h.
          record {
            so_far = h.so_far;
            some = h.some;
            to_come = due_none (drop s.loads events) s.tick a h.to_come;
            in_its_time = h.in_its_time;
          };
      begins = λ q x s b h.
          along_begins job.load_time events s.tick s.next s.loads q x s.loading s.begun some_load_time b.asks h;
      draws = λ q s d h.
          along_passes job.load_time events s.tick s.next (s.next + 1) s.loads s.loading s.begun
          (draw_in_time job.load_time events s.tick s.next s.loads s.loading s.begun h) h;
      waits = λ s w h.
          along_passes job.load_time events s.tick s.next s.next s.loads s.loading s.begun
          (wait_in_time job.load_time events s.tick s.next s.loads s.loading s.begun w.hope h) h;
    }

module _ (job : Job) (events : List Event) (p : Proper job) (ordered : Ruly 0 events) where
  pub along_start : AlongBetween job events (start job)
  along_start = record { so_far = refl; some = omega arith; to_come = ordered; in_its_time = omega arith }

  -- A run along a list has begun the events at the front of the list, in their order, and nothing else.
  pub along : (t : ℕ) (s : State) → run job (follow events) t (start job) ≡ going s → AlongBetween job events s
  along t s e = reached job (follow events) _ _ _ (along_moves job events p.some_load_time) t (start job) s along_start e

  -- It is refused, or over, by the ticks that a check allows it.
  pub over_in_time : (s : State) → run job (follow events) (most_ticks job) (start job) ≡ going s → s.rest ≡ []
  over_in_time s e =
      by_test (finished s.rest) (is_over s.rest)
      (λ f.
      let more : 0 < length s.rest = is_more s.rest f in
      let a : AlongBetween job events s = along (most_ticks job) s e in
      let g : SaneState job s = sane job (follow events) p (most_ticks job) s e in
      let left : s.next + length s.rest ≡ length job.draws = remaining job s.next s.rest s.slots s.loading g in
      let used : s.tick ≡ 0 + most_ticks job = run_ticks job (follow events) (most_ticks job) (start job) s e more in
      absurd (omega arith))
