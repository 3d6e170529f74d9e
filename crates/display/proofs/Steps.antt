-- The three steps of a tick of the code, one after the other, are a tick of the rules, by any rule.
use Prim.Native.Nat.{ℕ, ◌≤◌}
use mathlib.Core.Path.{◌≡◌, refl, sym, ap, ◌∙◌}
use mathlib.Core.Bool.{Bool, false}
use mathlib.Core.List.{List, [], ◌∷◌, ◌++◌}
use lib.ListN.{length, get_or, drop}
use lib.Dec.{eqb}
use Rattle.std.specs.Prelude.{Result, Ok, Err, IfOk}
use native.Mathlib.Omega.{arith}
use Rattle.rules.specs.declared.refusal.Refusal.{Refusal}
use Rattle.rules.specs.Refusing.{refusal_number, refusal_detail}
use Rattle.std.specs.Prelude.{Option, Some, None}
use Rattle.rules.specs.declared.Load.{Load}
use Rattle.rules.specs.declared.Happening.{Happening}
use Rattle.rules.specs.declared.Happening.TheVariants.{Draw, Wait}
use Rattle.rules.specs.declared.TickRecord.{TickRecord}
use Rattle.rules.specs.Basics.{stands}
use Rattle.rules.specs.Job.{Job}
use Rattle.rules.specs.Order.{Verdict, clear, met, first_of}
use Rattle.rules.specs.Display.{State, Run, Rule, drawn, going, refused, unless}
use Rattle.rules.specs.Display.{then, begin, begun_by, beginning, load_tests, happening_of, happened, record_of}
use Rattle.rules.specs.Display.{record_at, stuck, tick}
use Rattle.laws.proofs.Cases.{by_test}
use Rattle.laws.proofs.Verdicts.{Each, met_by}
use Rattle.display.specs.declared.state.Display.{Display}
use Rattle.display.specs.declared.tick.Ticked.{Ticked}
use Rattle.display.specs.View.{History, view, awaiting, history_begun, history_made, onward, Lands}
use Rattle.display.specs.Tick.{Counted, Ticks, Recorded, OnRecord, refusal_of_load}
use Rattle.display.specs.Tick.{refused_by, asked_refusal, gone_on, held_on, WentOn, leads, Missed}
use Rattle.display.specs.Moves.{nearer, landed_in, begun_with, drawn_or_waited}
use Rattle.display.proofs.Views.{lands_so, begins_so}
use Rattle.display.proofs.Ticks.{same_happening, steps_so}
use Rattle.display.proofs.Keeps.{LandKeeps, BeginKeeps, land_keeps, begin_keeps, tick_counts}

-- ---- Step 2

-- What the code's refusal of a load tells of the order of its tests.
not_refused : (v : Verdict) → refused_by v ≡ Ok tt → v ≡ clear
not_refused clear e = refl
not_refused (met n d) e = let z : ◌≡◌ {A = ℕ} 0 1 = cc in absurd (omega arith)

beginning_goes : (job : Job) (asked : Option Load) (s : State) → asked_refusal job asked s ≡ Ok tt
    → beginning job asked s ≡ going (begun_by job asked s)
unfolding beginning
beginning_goes job None s none = refl
beginning_goes job (Some l) s none =
    ap (λ (v : Verdict). unless v (going (begin job l.slot l.symbol s))) (not_refused (first_of (load_tests job l.slot l.symbol s)) none)

-- A test of a load gives its own number, and its event as the detail.
load_given : (job : Job) (q x : ℕ) (s : State) (n d : ℕ) → first_of (load_tests job q x s) ≡ met n d
    → (refusal_number (refusal_of_load n d) ≡ n) × (refusal_detail (refusal_of_load n d) ≡ d)
load_given job q x s n d is =
    met_by (λ m c. (refusal_number (refusal_of_load m c) ≡ m) × (refusal_detail (refusal_of_load m c) ≡ c)) (load_tests job q x s) n d
    (unfold Each in search) is

halts_by : (job : Job) (q x : ℕ) (s : State) (e : Refusal) (v : Verdict) → first_of (load_tests job q x s) ≡ v → refused_by v ≡ Err e
    → (r : Run) → unless v r ≡ refused (refusal_number e) (refusal_detail e)
halts_by job q x s e clear is some r = let z : ◌≡◌ {A = ℕ} 0 1 = cc in absurd (omega arith)
halts_by job q x s e (met n d) is some r =
    let (number, detail) = load_given job q x s n d is in
    let same : refusal_of_load n d ≡ e = cc in
    rw (← same, number, detail)

beginning_halts : (job : Job) (asked : Option Load) (s : State) (e : Refusal) → asked_refusal job asked s ≡ Err e
    → beginning job asked s ≡ refused (refusal_number e) (refusal_detail e)
unfolding beginning
beginning_halts job None s e some = let z : ◌≡◌ {A = ℕ} 0 1 = cc in absurd (omega arith)
beginning_halts job (Some l) s e some =
    halts_by job l.slot l.symbol s e (first_of (load_tests job l.slot l.symbol s)) refl some (going (begin job l.slot l.symbol s))

-- In a tick in which a load begins no wait is stuck, so it does not matter when the rule is asked whether it is done.
never_stuck : (job : Job) (q x : ℕ) (s : State) (done : Bool) → stuck (happening_of (begin job q x s)) done ≡ false
never_stuck job q x s done =
    by_test (stands (get_or s.rest 0 0) (begin job q x s).slots)
    (λ e. rw e)
    (λ e. rw e (by_test (eqb (get_or s.rest 0 0) x) (λ same. rw same) (λ other. rw other)))

late_done : (job : Job) (asked : Option Load) (s : State) (done : Bool) (ends : State → Bool) → ends s ≡ done
    → happened (happening_of (begun_by job asked s)) done (begun_by job asked s)
    ≡ happened (happening_of (begun_by job asked s)) (ends (begun_by job asked s)) (begun_by job asked s)
unfolding happened
late_done job None s done ends e = rw e
late_done job (Some l) s done ends e =
    rw (never_stuck job l.slot l.symbol s done, never_stuck job l.slot l.symbol s (ends (begin job l.slot l.symbol s)))

-- ---- What is beside the display

same_begun : (d l : Display) (asked : Option Load) (h : History) → l.tick ≡ d.tick → l.next ≡ d.next
    → history_begun d asked h ≡ history_begun l asked h
same_begun d l None h t n = refl
same_begun d l (Some this) h t n = rw (t, n)

same_made : (d d' : Display) (hp : Happening) (h : History) → d'.tick ≡ d.tick → history_made d hp h ≡ history_made d' hp h
same_made d d' (Draw q) h e =
    sym (ap (λ (t : ℕ). record { rest = drop 1 h.rest; made = h.made ++ (drawn t q ∷ []); begun = h.begun }) e)
same_made d d' (Wait cause) h e = refl

pub begun_rest : (d : Display) (asked : Option Load) (h : History) → (history_begun d asked h).rest ≡ h.rest
begun_rest d None h = refl
begun_rest d (Some this) h = refl

same_leads : (slots : List ℕ) (f g : TickRecord → History) (r : Result Ticked Refusal) → IfOk r (λ t. f t.on_record ≡ g t.on_record)
    → leads slots f r ≡ leads slots g r
same_leads slots f g (Ok r) e = ap (λ (h : History). going (view slots h r.display)) e
same_leads slots f g (Err refusal) e = refl

-- A wait on record says that the awaited symbol is in no slot.
missed_of : (asked : Option Load) (x : ℕ) (slots : List ℕ) (d : Display) → Missed (happening_of (view slots (awaiting x) d)) x slots
missed_of asked x slots d = by_test (stands x slots) (λ held. rw held tt) (λ absent. rw absent absent)

-- ---- The tick

module _ (job : Job) (rule : Rule) (slots slots₁ : List ℕ) (d l : Display)
    (lands : Lands slots d slots₁ l) (asked : Option Load)
    (asks : (h : History) → h.rest ≡ drop d.next job.draws → asked ≡ rule.asks (view slots₁ h l)) where
  -- The tick of the rules, from the landed display on.
  from_landed : (h : History) → h.rest ≡ drop d.next job.draws
      → tick job rule (view slots h d)
      ≡ then (beginning job asked (view slots₁ h l)) (λ b. happened (record_of asked b).happening (rule.done b) b)
  unfolding tick
  from_landed h remain =
      ap (λ (s : State). then (beginning job (rule.asks s) s) (λ b. happened (record_of (rule.asks s) b).happening (rule.done b) b))
      (sym (lands h))
      ∙ ap
      (λ (x : Option Load). then (beginning job x (view slots₁ h l)) (λ b. happened (record_of x b).happening (rule.done b) b))
      (sym (asks h remain))

  -- Where the load is refused.
  pub ticks_refused : (e : Refusal) → ((h : History) → asked_refusal job asked (view slots₁ h l) ≡ Err e) → Ticks job rule slots slots₁ d (Err e)
  ticks_refused e halts =
      record {
        counts = tt;
        waits = tt;
        run = λ h remain.
            sym
            (from_landed h remain
            ∙ ap (λ (x : Run). then x (λ b. happened (record_of asked b).happening (rule.done b) b))
            (beginning_halts job asked (view slots₁ h l) e (halts h)));
      }

  -- Where it is not, or none is asked for.
  module _ (none : (h : History) → asked_refusal job asked (view slots₁ h l) ≡ Ok tt) (slots₂ : List ℕ) (b : Display)
      (begins : (h : History) → view slots₂ (history_begun l asked h) b ≡ begun_by job asked (view slots₁ h l)) where
    landed : LandKeeps d l
    landed = land_keeps slots slots₁ d l lands

    begun : BeginKeeps l b
    begun = begin_keeps job asked slots₁ slots₂ l b begins

    module _ (symbol : ℕ) (awaits : get_or (drop d.next job.draws) 0 0 ≡ symbol) (done : Bool)
        (ends : (h : History) → rule.done (view slots₁ h l) ≡ done) where
      same_onward : (h : History) (t : TickRecord) → t.begun ≡ asked
          → onward d t h ≡ history_made b t.happening (history_begun l asked h)
      same_onward h t same_asked =
          ap (λ (x : Option Load). history_made d t.happening (history_begun d x h)) same_asked
          ∙ ap (history_made d t.happening) (same_begun d l asked h landed.tick landed.next)
          ∙ same_made d b t.happening (history_begun l asked h) (begun.tick ∙ landed.tick)

      -- What the code has on record is what the rules have.
      same_record : (t : TickRecord) → t ≡ record_of asked (view slots₂ (awaiting symbol) b)
          → (h : History) → h.rest ≡ drop d.next job.draws → t ≡ record_at job rule (view slots h d)
      same_record t recorded h remain =
          let next_symbol : get_or (history_begun l asked h).rest 0 0 ≡ symbol =
          ap (λ (x : List ℕ). get_or x 0 0) (begun_rest l asked h ∙ remain) ∙ awaits in
          recorded
          ∙ ap (λ (x : Happening). record { begun = asked; happening = x }) (sym (same_happening slots₂ b (history_begun l asked h) symbol next_symbol))
          ∙ ap (record_of asked) (begins h)
          ∙ ap (λ (x : Option Load). record_of x (begun_by job x (view slots₁ h l))) (asks h remain)
          ∙ ap (λ (s : State). record_of (rule.asks s) (begun_by job (rule.asks s) s)) (lands h)

      -- Of step 3 these need what is on record, what the counters say and where it leads, and not the record of a wait that would never end.
      module _ (r : Result Ticked Refusal) (recorded : IfOk r (λ t. t.on_record ≡ record_of asked (view slots₂ (awaiting symbol) b)))
          (counts : IfOk r (λ t. Counted 0 t.on_record.happening b t.display))
          (run : (h : History) → get_or h.rest 0 0 ≡ symbol
          → leads slots₂ (λ t. history_made b t.happening h) r ≡ happened (happening_of (view slots₂ h b)) done (view slots₂ h b)) where
        went_onward : (r' : Result Ticked Refusal) → IfOk r' (λ t. t.on_record ≡ record_of asked (view slots₂ (awaiting symbol) b)) → (h : History)
            → IfOk r' (λ t. onward d t.on_record h ≡ history_made b t.on_record.happening (history_begun l asked h))
        went_onward (Ok t) recorded h = same_onward h t.on_record (ap (λ (x : TickRecord). x.begun) recorded)
        went_onward (Err e) recorded h = tt

        went_counts : (r' : Result Ticked Refusal) → IfOk r' (λ t. Counted 0 t.on_record.happening b t.display)
            → IfOk r' (λ t. Counted 1 t.on_record.happening d t.display)
        went_counts (Ok t) counts = tick_counts landed begun counts
        went_counts (Err e) counts = tt

        went_missed : (r' : Result Ticked Refusal) → IfOk r' (λ t. t.on_record ≡ record_of asked (view slots₂ (awaiting symbol) b))
            → IfOk r' (λ t. Missed t.on_record.happening (get_or (drop d.next job.draws) 0 0) slots₂)
        went_missed (Ok t) recorded = rw (awaits, recorded) (missed_of asked symbol slots₂ b)
        went_missed (Err e) recorded = tt

        went_recorded : (r' : Result Ticked Refusal) → IfOk r' (λ t. t.on_record ≡ record_of asked (view slots₂ (awaiting symbol) b))
            → Recorded job rule slots d r'
        went_recorded (Ok t) recorded = same_record t.on_record recorded
        went_recorded (Err e) recorded = tt

        pub ticks_went : Ticks job rule slots slots₂ d r
        ticks_went =
            record {
              counts = went_counts r counts;
              waits = went_missed r recorded;
              run = λ h remain.
                  let here : State = view slots₁ h l in
                  same_leads slots₂ (λ t. onward d t h) (λ t. history_made b t.happening (history_begun l asked h)) r
                  (went_onward r recorded h)
                  ∙ run (history_begun l asked h) (ap (λ (x : List ℕ). get_or x 0 0) (begun_rest l asked h ∙ remain) ∙ awaits)
                  ∙ ap (λ (s : State). happened (happening_of s) done s) (begins h)
                  ∙ late_done job asked here done rule.done (ends h)
                  ∙ sym
                  (from_landed h remain
                  ∙ ap (λ (x : Run). then x (λ s. happened (record_of asked s).happening (rule.done s) s))
                  (beginning_goes job asked here (none h)));
            }

        pub ticks_recorded : OnRecord job rule slots slots₂ d r
        ticks_recorded = record { ticks = ticks_went; recorded = went_recorded r recorded }

-- ---- By what the code asks for

-- What is beside the display has no part in the refusal of a load.
same_refusal : (job : Job) (asked : Option Load) (slots : List ℕ) (d : Display) (h h' : History)
    → asked_refusal job asked (view slots h d) ≡ asked_refusal job asked (view slots h' d)
same_refusal job None slots d h h' = refl
same_refusal job (Some l) slots d h h' = refl

-- A tick of the code is a tick of the rules by the rule that asks for the same, and the record of it is that of the rules.
pub tick_so : (job : Job) (rule : Rule) (slots slots₁ slots₂ : List ℕ) (d l : Display) (time : ℕ) (asked : Option Load) (symbol : ℕ) (done : Bool)
    (r : Result Ticked Refusal)
    → l ≡ nearer d → slots₁ ≡ landed_in d slots
    → ((h : History) → h.rest ≡ drop d.next job.draws → asked ≡ rule.asks (view slots₁ h l))
    → ((h : History) → rule.done (view slots₁ h l) ≡ done)
    → get_or (drop d.next job.draws) 0 0 ≡ symbol
    → job.slots ≡ length slots₁ → job.load_time ≡ time → 1 ≤ time
    → WentOn time slots₁ slots₂ l asked symbol done r
    → OnRecord job rule slots slots₂ d r
tick_so job rule slots slots₁ slots₂ d l time asked symbol done r is landed asks ends awaits size timed some went =
    by_refusal (asked_refusal job asked (view slots₁ (awaiting symbol) l)) (λ h. same_refusal job asked slots₁ l h (awaiting symbol))
    (went.result (awaiting symbol) job size) (went.slots_after (awaiting symbol) job size)
  where
    lands : Lands slots d slots₁ l
    lands = lands_so slots slots₁ d l is landed

    b : Display
    b = begun_with time asked l

    by_refusal : (v : Result (Unit {0}) Refusal) → ((h : History) → asked_refusal job asked (view slots₁ h l) ≡ v)
        → r ≡ gone_on v time slots₁ l asked symbol done → slots₂ ≡ held_on v asked slots₁ → OnRecord job rule slots slots₂ d r
    by_refusal (Ok none) meets same held =
        let settled = steps_so slots₂ b asked symbol done r (same ∙ ap (λ (k : List ℕ). drawn_or_waited k b asked symbol done) (sym held)) in
        ticks_recorded job rule slots slots₁ d l lands asked asks meets slots₂ b
        (λ h. begins_so time asked slots₁ slots₂ l b some refl held h job timed) symbol awaits done ends r
        settled.recorded settled.counts settled.run
    by_refusal (Err e) meets same held =
        rw (same, held) (record { ticks = ticks_refused job rule slots slots₁ d l lands asked asks e meets; recorded = tt })
