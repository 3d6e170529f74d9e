-- A list is accepted exactly when a sheet is right by the list alone, and then that sheet is what the check reports.
use Prim.Native.Nat.{ℕ, zero, suc, ◌+◌, ◌-◌, ◌<◌, ◌≤◌}
use native.Mathlib.Omega.{arith}
use mathlib.Core.Path.{◌≡◌, sym, ap, ◌∙◌}
use mathlib.Core.Bool.{false}
use mathlib.Core.List.{List, [], ◌∷◌, map}
use lib.ListN.{length, get_or, take, drop, length-map, length-drop}
use lib.Seq.{get_or_at, get_or-drop, take_all}
use lib.Dec.{ltb, leb}
use borrow.Author.Tests.{ltb-true, ltb-false, leb-true}
use Rattle.std.specs.Prelude.{Some, None}
use Rattle.rules.specs.declared.Answer.{Answer}
use Rattle.rules.specs.declared.Loading.TheVariants.{Idle}
use Rattle.rules.specs.Basics.{stands}
use Rattle.rules.specs.Job.{Call, Job, job_of}
use Rattle.rules.specs.declared.Event.{Event}
use Rattle.rules.specs.LoadList.{event, count_of, events_of}
use Rattle.rules.specs.Order.{clear, first_of}
use Rattle.rules.specs.Display.{load, State, Loaded, going, start, idle, awaited, load_tests, finished, run}
use Rattle.rules.specs.Refusals.{follow, due, event_of, tick_of, slot_of, ticks_of, slots_of, answer_of, most_ticks, follows, read_list, bad_list, checked}
use Rattle.laws.proofs.Cases.{by_test}
use Rattle.laws.proofs.Rows.{Each, map_snoc, length-snoc}
use Rattle.laws.proofs.Search.{absent}
use Rattle.laws.proofs.Moves.{load_free}
use Rattle.laws.proofs.Goes.{run_goes}
use Rattle.laws.proofs.Jobs.{Proper, proper}
use Rattle.laws.proofs.Sane.{SaneState, sane, idle_if_none, remaining}
use Rattle.laws.proofs.Counts.{load_tick, ahead, Last, BusyBegun}
use Rattle.laws.proofs.Along.{Ruly, ruly_first, AlongLanded, AlongBegun, AlongBetween, along, over_in_time}
use Rattle.laws.proofs.Checks.{Accepted, accepted, checked_follows}
use Rattle.demands.specs.Held.{held, last_load, leaves, DrawnAt, from, Sheet}
use Rattle.demands.specs.Fair.{event_tick, nth_event, MayBegin, Right}
use Rattle.demands.proofs.Holding.{HoldingLanded, HoldingBegun, stays}
use Rattle.demands.proofs.Witness.{WitnessedState, witnessing_moves, witnessing_start, witnessed, unheld_now, sheet_right}
use Rattle.demands.proofs.Only.{looked_alike, only_sheet}
use Rattle.demands.proofs.Events.{as_many, tick_begun, event_due, due_left, fair}

-- The load begun last, counted in the list.
pub last_tick_begun : (time end q x : ℕ) (begun : List Loaded) (l : Last time end q x begun)
    → (get_or (map load_tick begun) (length l.earlier) 0 ≡ l.tick) × (length begun ≡ length l.earlier + 1)
last_tick_begun time end q x begun l =
    let size : length (map load_tick l.earlier) ≡ length l.earlier = length-map l.earlier load_tick in (
      rw (l.is_last, map_snoc) (get_or_at (map load_tick l.earlier) l.tick [] 0 (length l.earlier) size),
      rw l.is_last (length-snoc l.earlier _),
    )

-- A list whose events may all begin has none of them refused.
module _ (job : Job) (events : List Event) (end : ℕ) (may : (i : ℕ) → i < length events → MayBegin job events i end) where
  quiet_then : (q x : ℕ) (s : State) → due (drop s.loads events) s.tick ≡ Some (load q x) → HoldingLanded job events s → s.loading ≡ Idle
  quiet_then q x s asks g =
      let left : s.loads < length events = due_left events s.loads s.tick q x asks in
      idle_if_none s.loading
      (λ rest r y e.
      let a : AlongLanded job events s = g.0.1 in
      let l : Last job.load_time (s.tick + rest + 1) r y s.begun = g.0.0.1.last rest r y e in
      let (at, size) = last_tick_begun _ _ _ _ _ l in
      let many : length s.begun ≡ s.loads = as_many a in
      let inside : length l.earlier < s.loads = omega arith in
      let when : event_tick (nth_event events (length l.earlier)) ≡ l.tick = tick_begun a (length l.earlier) inside ∙ at in
      let now : event_tick (nth_event events s.loads) ≡ s.tick = ap event_tick (event_due events s.loads s.tick q x asks) in
      let ended : event_tick (nth_event events (length l.earlier)) + job.load_time ≤ event_tick (nth_event events s.loads) =
      (may s.loads left).idle (length l.earlier) inside in
      omega arith)

  load_goes : (q x : ℕ) (s : State) → due (drop s.loads events) s.tick ≡ Some (load q x) → HoldingLanded job events s
      → first_of (load_tests job q x s) ≡ clear
  load_goes q x s asks g =
      let left : s.loads < length events = due_left events s.loads s.tick q x asks in
      let m : MayBegin job events s.loads end = may s.loads left in
      let is : nth_event events s.loads ≡ event s.tick q x = event_due events s.loads s.tick q x asks in
      let a : AlongLanded job events s = g.0.1 in
      let row : length s.slots ≡ job.slots = g.0.0.0.row in
      load_free job q x s (ap idle (quiet_then q x s asks g)) (rw is at m.slot) (rw is at m.symbol)
      (absent x s.slots
      (λ r h e.
      let inside : r < job.slots = rw row at h in
      let there : held job (take s.loads events) s.tick r ≡ x = rw (← a.so_far) (sym (g.1 r inside) ∙ e) in
      m.unheld r inside (rw is there)))

-- Where all loads have ended, a slot holds the same from then on.
stays_long : (starting time t q : ℕ) (begun : List Loaded) (n : ℕ) → Each (λ u. u + time ≤ t) (map load_tick begun)
    → leaves starting time (t + n) (last_load q (t + n) (map event_of begun)) ≡ leaves starting time t (last_load q t (map event_of begun))
stays_long starting time t q begun zero h = let e : t + 0 ≡ t = omega arith in rw e
stays_long starting time t q begun (suc n) h =
    let e : t + suc n ≡ t + n + 1 = omega arith in
    rw e
    (stays starting time (t + n) q begun (λ i m. let b : get_or (map load_tick begun) i 0 + time ≤ t = h i m in omega arith)
    ∙ stays_long starting time t q begun n h)

-- So it is with a run that has begun the whole list and has no load under way.
all_stay : (job : Job) (events : List Event) (s : State) → s.loading ≡ Idle → length events ≤ s.loads → HoldingBegun job events s
    → (t q : ℕ) → s.tick ≤ t → held job events t q ≡ held job events s.tick q
all_stay job events s quiet done g t q later =
    let a : AlongBegun job events s = g.0.1 in
    let busy : BusyBegun job s = g.0.0.1 in
    let none : ahead s.loading ≡ 0 = ap ahead quiet in
    let all : map event_of s.begun ≡ events = a.so_far ∙ take_all s.loads events done in
    let split : s.tick + (t - s.tick) ≡ t = omega arith in
    let stay : held job (map event_of s.begun) (s.tick + (t - s.tick)) q ≡ held job (map event_of s.begun) s.tick q =
    stays_long (get_or job.starting q 0) job.load_time s.tick q s.begun (t - s.tick)
    (λ i m. let b : get_or (map load_tick s.begun) i 0 + job.load_time ≤ s.tick + ahead s.loading = busy.ends i m in omega arith) in
    rw (all, split) at stay

-- A list on whose sheet every draw is made lets no draw wait for nothing: with all events begun and no load under way the slots stay as
-- they are, and the sheet has the draw in one of them.
module _ (job : Job) (events : List Event) (ticks slots : List ℕ) (answer : Answer) (sheet : Sheet job events ticks slots answer) where
  same_look : (s : State) → s.next ≤ length job.draws → WitnessedState job events s
      → from ticks s.next ≡ from (map tick_of s.made) s.next
  same_look s within w =
      looked_alike job events s.next ticks slots (map tick_of s.made) (map slot_of s.made)
      (λ i h. sheet.drawn i (omega arith)) w.made s.next (omega arith)

  wait_goes : (s : State) → 0 < length s.rest → stands (awaited s) s.slots ≡ false → s.loading ≡ Idle
      → HoldingBegun job events s × WitnessedState job events s → leb (length events) s.loads ≡ false
  wait_goes s more unheld quiet (g, w) =
      by_test (leb (length events) s.loads)
      (λ e.
      let left : s.next + length s.rest ≡ length job.draws = remaining job s.next s.rest s.slots s.loading g.0.0.0 in
      let look : from ticks s.next ≡ from (map tick_of s.made) s.next = same_look s (omega arith) w in
      let t : ℕ = get_or ticks s.next 0 in
      let q : ℕ = get_or slots s.next 0 in
      let d : DrawnAt job events (from ticks s.next) t q (get_or job.draws s.next 0) = sheet.drawn s.next (omega arith) in
      absurd
      (by_test (ltb t s.tick)
      (λ before. w.waited t q (omega arith) (ltb-true t s.tick before) d.slot d.holds)
      (λ after.
      let stay : held job events t q ≡ held job events s.tick q =
      all_stay job events s quiet (leb-true _ _ e) g t q (ltb-false t s.tick after) in
      unheld_now job events s g unheld q d.slot (sym stay ∙ d.holds))))
      (λ e. e)

-- What is left of a list begins no sooner than its lowest tick.
ruly_least : (least : ℕ) (l : List Event) → Ruly least l → 0 < length l → least ≤ event_tick (nth_event l 0)
ruly_least least [] h more = absurd (omega arith)
ruly_least least (this ∷ l) h more = (ruly_first least this.tick this.slot this.symbol l h).0

-- So a run along a list with a sheet that is right comes to its end, with no event left.
module _ (job : Job) (events : List Event) (p : Proper job) (ordered : Ruly 0 events) (ticks slots : List ℕ) (answer : Answer)
    (sheet : Sheet job events ticks slots answer)
    (may : (i : ℕ) → i < length events → MayBegin job events i answer.elapsed) where
  runs : (t : ℕ) → (s : State) × (run job (follow events) t (start job) ≡ going s)
  runs t =
      run_goes job (follow events) _ _ _ (witnessing_moves job events p.some_load_time)
      (record {
        loads = λ q x s more asks h. load_goes job events answer.elapsed may q x s asks h.0;
        waits = λ s more unheld quiet h. wait_goes job events ticks slots answer sheet s more unheld quiet h;
      })
      t (start job) (witnessing_start job events p ordered)

  none_left : (t : ℕ) (s : State) → run job (follow events) t (start job) ≡ going s → s.rest ≡ [] → ltb s.loads (length events) ≡ false
  none_left t s ran over =
      by_test (ltb s.loads (length events))
      (λ e.
      let left : s.loads < length events = ltb-true _ _ e in
      let a : AlongBetween job events s = along job events p ordered t s ran in
      let w : WitnessedState job events s = witnessed job events p ordered t s ran in
      let g : SaneState job s = sane job (follow events) p t s ran in
      let all : s.next + length s.rest ≡ length job.draws = remaining job s.next s.rest s.slots s.loading g in
      let none : length s.rest ≡ 0 = ap length over in
      let last : s.next ≡ length job.draws = omega arith in
      let look : from ticks s.next ≡ from (map tick_of s.made) s.next =
      same_look job events ticks slots answer sheet s (omega arith) w in
      let ends : answer.elapsed ≡ from ticks s.next = rw last sheet.elapsed in
      let stands_at : s.tick ≡ from (map tick_of s.made) s.next = w.over last in
      let same : s.loads + 0 ≡ s.loads = omega arith in
      let some : 0 < length (drop s.loads events) = rw length-drop (omega arith) in
      let late : s.tick ≤ event_tick (nth_event events s.loads) =
      rw (get_or-drop, same) at (ruly_least s.tick (drop s.loads events) a.to_come some) in
      let soon : event_tick (nth_event events s.loads) < answer.elapsed = (may s.loads left).in_its_time in
      absurd (omega arith))
      (λ e. e)

  follows_goes : (s : State) × (follows job events ≡ going s)
  follows_goes =
      let (s, ran) = runs (most_ticks job) in
      let over : s.rest ≡ [] = over_in_time job events p ordered s ran in
      (s, rw (ran, ap finished over, none_left (most_ticks job) s ran over))

-- What an accepted check reports is right by the list alone.
pub accepted_is_right : (asked : Call) (list : List ℕ) (tick_places slot_places : ℕ) (s : State) → checked asked list tick_places slot_places ≡ going s
    → Right asked list tick_places slot_places
    (ticks_of (checked asked list tick_places slot_places))
    (slots_of (checked asked list tick_places slot_places))
    (answer_of (checked asked list tick_places slot_places))
accepted_is_right asked list tick_places slot_places s e =
    let a : Accepted asked list tick_places slot_places s = accepted asked list tick_places slot_places s e in
    let p : Proper (job_of asked) = proper asked _ a.job_taken in
    let sheet = sheet_right asked list tick_places slot_places s e in
    record {
      job_taken = a.job_taken;
      list_read = rw a.list_read;
      tick_room = a.tick_room;
      slot_room = a.slot_room;
      in_order = a.ordered;
      may_begin = λ i h. rw e (fair (job_of asked) (events_of list) p a.ordered (most_ticks (job_of asked)) s a.ran i (rw a.all_begun h));
      sheet = sheet;
      number = rw e;
      detail = rw e;
    }

-- A list that is read passed its test.
readable : (list : List ℕ) → read_list list ≡ Some (count_of list) → bad_list list ≡ false
readable list e =
    by_test (bad_list list)
    (λ t. let g : None ≡ Some (count_of list) = rw t at e in let z : ◌≡◌ {A = ℕ} 0 1 = cc in absurd (omega arith))
    (λ t. t)

-- Where a sheet is right by the list alone, the check accepts the list.
pub right_is_accepted : (asked : Call) (list : List ℕ) (tick_places slot_places : ℕ) (ticks slots : List ℕ) (answer : Answer)
    → Right asked list tick_places slot_places ticks slots answer → (s : State) × (checked asked list tick_places slot_places ≡ going s)
right_is_accepted asked list tick_places slot_places ticks slots answer r =
    let p : Proper (job_of asked) = proper asked _ r.job_taken in
    let (s, e) = follows_goes (job_of asked) (events_of list) p r.in_order ticks slots answer r.sheet r.may_begin in (
      s,
      checked_follows asked list tick_places slot_places _ r.job_taken (readable list r.list_read) r.tick_room r.slot_room r.in_order ∙ e,
    )

-- And it reports that sheet.
pub right_is_reported : (asked : Call) (list : List ℕ) (tick_places slot_places : ℕ) (ticks slots : List ℕ) (answer : Answer)
    → Right asked list tick_places slot_places ticks slots answer
    → (ticks_of (checked asked list tick_places slot_places) ≡ ticks)
    × (slots_of (checked asked list tick_places slot_places) ≡ slots)
    × (answer_of (checked asked list tick_places slot_places) ≡ answer)
right_is_reported asked list tick_places slot_places ticks slots answer r =
    let (s, e) = right_is_accepted asked list tick_places slot_places ticks slots answer r in
    let given = accepted_is_right asked list tick_places slot_places s e in
    let (same_ticks, same_slots, elapsed, waits, loads, longest) =
    only_sheet (job_of asked) (events_of list) _ _ ticks slots _ answer given.sheet r.sheet in
    let number = given.number ∙ sym r.number in
    let detail = given.detail ∙ sym r.detail in (
      same_ticks,
      same_slots,
      λ i. record { number = number i; detail = detail i; elapsed = elapsed i; waits = waits i; loads = loads i; longest = longest i },
    )
