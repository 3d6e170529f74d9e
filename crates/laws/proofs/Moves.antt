-- What a tick of the display does, move by move, and so what every run keeps: what holds at the start and is kept by each move
-- holds of every state that a run comes to. The moves are the same for every rule.
use Prim.Native.Nat.{ℕ, zero, suc, ◌<◌}
use native.Mathlib.Omega.{arith}
use mathlib.Core.Path.{◌≡◌, refl, ap, subst}
use mathlib.Core.Bool.{Bool, true, false}
use mathlib.Core.List.{List, [], ◌∷◌}
use lib.ListN.{length}
use lib.Dec.{eqb}
use borrow.Author.Tests.{ltb-true, lt-ltb, eqb-false, ne_eqb, not-false}
use Rattle.std.specs.Prelude.{Option, Some, None}
use Rattle.rules.specs.declared.Load.{Load}
use Rattle.rules.specs.declared.Loading.{Loading}
use Rattle.rules.specs.declared.Loading.TheVariants.{Idle, Under}
use Rattle.rules.specs.declared.Happening.{Happening}
use Rattle.rules.specs.declared.Happening.TheVariants.{Wait}
use Rattle.rules.specs.Basics.{place, stands}
use Rattle.rules.specs.Job.{Job, free}
use Rattle.rules.specs.Order.{Verdict, clear, met, first_of, number_in}
use Rattle.rules.specs.Display.{load, State, Run, Rule, going, refused, land, begin, idle, load_tests, load_refusal, beginning, awaited, cause_of, happening_of}
use Rattle.rules.specs.Display.{draw, wait, stuck, moved, happened, then, tick, finished, run}
use Rattle.laws.proofs.Cases.{by_test, neither}
use Rattle.laws.proofs.Verdicts.{clear_of, Each, met_by, unless_going, unless_refused, step, end, gives}

-- What is known when a load begins, when a symbol is drawn, and when a tick is a wait.
pub record Begins (job : Job) (rule : Rule) (q x : ℕ) (s : State) : Type 0 where
  pub asks : rule.asks s ≡ Some (load q x)
  pub more : 0 < length s.rest
  pub quiet : s.loading ≡ Idle
  pub slot : q < job.slots
  pub symbol : x ≡ free → ⊥
  pub nowhere : stands x s.slots ≡ false

pub record Draws (q : ℕ) (s : State) : Type 0 where
  pub more : 0 < length s.rest
  pub held : stands (awaited s) s.slots ≡ true
  pub first : q ≡ place (awaited s) s.slots

pub record Waits (rule : Rule) (s : State) : Type 0 where
  pub more : 0 < length s.rest
  pub unheld : stands (awaited s) s.slots ≡ false
  pub hope : s.loading ≡ Idle → rule.done s ≡ false

-- A run that goes on after another was going before it.
pub then_going : (r : Run) (f : State → Run) (s' : State) → then r f ≡ going s' → (s : State) × (r ≡ going s) × (f s ≡ going s')
then_going (going s) f s' e = (s, refl, e)
then_going (refused number detail) f s' e = let z : ◌≡◌ {A = ℕ} 0 1 = cc in absurd (omega arith)

-- A load that is not refused begins.
pub beginning_going : (job : Job) (q x : ℕ) (s s' : State) → beginning job (Some (load q x)) s ≡ going s'
    → (first_of (load_tests job q x s) ≡ clear) × (begin job q x s ≡ s')
unfolding beginning
beginning_going job q x s s' e =
    let (none, same) = unless_going (first_of (load_tests job q x s)) (going (begin job q x s)) s' e in (none, cc)

-- One that is refused meets a test.
pub beginning_refused : (job : Job) (q x n d : ℕ) (s : State) → beginning job (Some (load q x)) s ≡ refused n d → first_of (load_tests job q x s) ≡ met n d
unfolding beginning
beginning_refused job q x n d s e = unless_refused (first_of (load_tests job q x s)) (begin job q x s) n d e

-- What happens in a tick that is not refused is no endless wait.
pub happened_going : (h : Happening) (d : Bool) (s s' : State) → happened h d s ≡ going s' → (stuck h d ≡ false) × (moved h s ≡ s')
unfolding happened
happened_going h d s s' e =
    by_test (stuck h d)
    (λ t. let g : refused 13 s.next ≡ going s' = rw t at e in let z : ◌≡◌ {A = ℕ} 0 1 = cc in absurd (omega arith))
    (λ t. let g : going (moved h s) ≡ going s' = rw t at e in (t, cc))

hopeful : (loading : Loading) (x : ℕ) (d : Bool) → stuck (Wait (cause_of loading x)) d ≡ false → loading ≡ Idle → d ≡ false
hopeful Idle x d e i = e
hopeful (Under left q y) x d e i = let z : ◌≡◌ {A = ℕ} 0 1 = cc in absurd (omega arith)

-- A load that is not refused: none is under way, the slot is one of the job's, and the symbol is one that no slot holds.
pub load_taken : (job : Job) (q x : ℕ) (s : State) → first_of (load_tests job q x s) ≡ clear
    → (idle s.loading ≡ true) × (q < job.slots) × (x ≡ free → ⊥) × (stands x s.slots ≡ false)
load_taken job q x s e =
    let fails = clear_of (load_tests job q x s) e in
    let (symbol, nowhere) = neither (eqb x free) (stands x s.slots) (fails 12) in
    (not-false _ (fails 10), ltb-true _ _ (not-false _ (fails 11)), eqb-false _ _ symbol, nowhere)

-- The other way round, such a load is not refused.
pub load_free : (job : Job) (q x : ℕ) (s : State) → idle s.loading ≡ true → q < job.slots → (x ≡ free → ⊥) → stands x s.slots ≡ false
    → first_of (load_tests job q x s) ≡ clear
load_free job q x s quiet slot symbol nowhere =
    gives (load_tests job q x s) clear
    (step false (rw quiet) refl (step false (rw (lt-ltb q job.slots slot)) refl (step false (rw (ne_eqb x free symbol, nowhere)) refl end)))

-- The number of a load tells what it meets: with 0 no test, with any other the test of that number, and the detail is the event.
pub load_clear : (job : Job) (q x : ℕ) (s : State) → load_refusal job q x s ≡ 0 → first_of (load_tests job q x s) ≡ clear
load_clear job q x s e = by_verdict (first_of (load_tests job q x s)) refl e
  where
    by_verdict : (v : Verdict) → first_of (load_tests job q x s) ≡ v → number_in v ≡ 0 → v ≡ clear
    by_verdict clear is none = refl
    by_verdict (met n d) is none = absurd (met_by (λ m c. m ≡ 0 → ⊥) (load_tests job q x s) n d (unfold Each in search arith) is none)

pub load_met : (job : Job) (q x : ℕ) (s : State) → (load_refusal job q x s ≡ 0 → ⊥)
    → first_of (load_tests job q x s) ≡ met (load_refusal job q x s) s.loads
load_met job q x s some = by_verdict (first_of (load_tests job q x s)) refl some
  where
    by_verdict : (v : Verdict) → first_of (load_tests job q x s) ≡ v → (number_in v ≡ 0 → ⊥) → v ≡ met (number_in v) s.loads
    by_verdict clear is some = absurd (some refl)
    by_verdict (met n d) is some = ap (met n) (met_by (λ m c. c ≡ s.loads) (load_tests job q x s) n d (unfold Each in search) is)

is_idle : (loading : Loading) → idle loading ≡ true → loading ≡ Idle
is_idle Idle e = refl
is_idle (Under left q x) e = let z : ◌≡◌ {A = ℕ} 0 1 = cc in absurd (omega arith)

-- A run is over exactly when no draw remains.
pub is_more : (rest : List ℕ) → finished rest ≡ false → 0 < length rest
is_more [] e = let z : ◌≡◌ {A = ℕ} 0 1 = cc in absurd (omega arith)
is_more (x ∷ rest) e = omega arith

pub is_over : (rest : List ℕ) → finished rest ≡ true → rest ≡ []
is_over [] e = refl
is_over (x ∷ rest) e = let z : ◌≡◌ {A = ℕ} 0 1 = cc in absurd (omega arith)

-- What the moves of a tick keep, step by step: P holds before the tick, L once a load that ends in it is in its slot, B once a load
-- that is to begin in it has begun, A after it.
pub record Steps (job : Job) (rule : Rule) (P L B A : State → Type 0) : Type 0 where
  pub lands : (s : State) → 0 < length s.rest → P s → L (land s)
  pub passes : (s : State) → 0 < length s.rest → rule.asks s ≡ None → L s → B s
  pub begins : (q x : ℕ) (s : State) → Begins job rule q x s → L s → B (begin job q x s)
  pub draws : (q : ℕ) (s : State) → Draws q s → B s → A (draw q s)
  pub waits : (s : State) → Waits rule s → B s → A (wait s)

-- What holds between ticks is kept by a whole tick where the same holds after it.
abbrev pub Moves : Job → Rule → (State → Type 0) → (State → Type 0) → (State → Type 0) → Type 0
Moves job rule P L B = Steps job rule P L B P

module _ (job : Job) (rule : Rule) (P L B A : State → Type 0) (keeps : Steps job rule P L B A) where
  pub begun_kept : (b : Option Load) (s s' : State) → rule.asks s ≡ b → 0 < length s.rest → L s → beginning job b s ≡ going s'
      → (0 < length s'.rest) × B s'
  unfolding beginning
  begun_kept None s s' a more h e =
      let same : s ≡ s' = cc in subst (λ (z : State). (0 < length z.rest) × B z) same (more, keeps.passes s more a h)
  begun_kept (Some this) s s' a more h e =
      let (none, same) = beginning_going job this.slot this.symbol s s' e in
      let (i, l, f, n) = load_taken job this.slot this.symbol s none in
      let facts : Begins job rule this.slot this.symbol s =
      record { asks = a; more = more; quiet = is_idle s.loading i; slot = l; symbol = f; nowhere = n } in
      subst (λ (z : State). (0 < length z.rest) × B z) same (more, keeps.begins this.slot this.symbol s facts h)

  happened_kept : (s s' : State) → 0 < length s.rest → B s → happened (happening_of s) (rule.done s) s ≡ going s' → A s'
  happened_kept s s' more b e =
      let (hope, same) = happened_going (happening_of s) (rule.done s) s s' e in
      by_test (stands (awaited s) s.slots)
      (λ t.
      let to : draw (place (awaited s) s.slots) s ≡ s' = rw t at same in
      subst A to (keeps.draws (place (awaited s) s.slots) s (record { more = more; held = t; first = refl }) b))
      (λ t.
      let to : wait s ≡ s' = rw t at same in
      let open_end : stuck (Wait (cause_of s.loading (awaited s))) (rule.done s) ≡ false = rw t at hope in
      subst A to
      (keeps.waits s (record { more = more; unheld = t; hope = hopeful s.loading (awaited s) (rule.done s) open_end }) b))

  -- What holds before a tick holds, as its steps keep it, after the tick.
  pub tick_kept : (s s' : State) → 0 < length s.rest → P s → tick job rule s ≡ going s' → A s'
  unfolding tick
  tick_kept s s' more p e =
      let (b, began, ended) = then_going _ _ s' e in
      let (more', h) = begun_kept (rule.asks (land s)) (land s) b refl more (keeps.lands s more p) began in
      happened_kept b s' more' h ended

-- What holds at the first state of a run and is kept by each move holds of every state that the run comes to.
pub reached : (job : Job) (rule : Rule) (P L B : State → Type 0) → Moves job rule P L B
    → (t : ℕ) (s s' : State) → P s → run job rule t s ≡ going s' → P s'
unfolding run
reached job rule P L B keeps zero s s' p e = subst P (cc) p
reached job rule P L B keeps (suc t) s s' p e =
    by_test (finished s.rest)
    (λ f. let same : going s ≡ going s' = rw f at e in subst P (cc) p)
    (λ f.
    let on : then (tick job rule s) (run job rule t) ≡ going s' = rw f at e in
    let (s₁, first, later) = then_going (tick job rule s) (run job rule t) s' on in
    reached job rule P L B keeps t s₁ s' (tick_kept job rule P L B P keeps s s₁ (is_more s.rest f) p first) later)

-- The same upon what is known already: Q, R and S are kept by the moves, and so at each move they may be used for P, L and B.
pub record Upon (job : Job) (rule : Rule) (Q R S P L B : State → Type 0) : Type 0 where
  pub lands : (s : State) → 0 < length s.rest → Q s → P s → L (land s)
  pub passes : (s : State) → 0 < length s.rest → rule.asks s ≡ None → R s → L s → B s
  pub begins : (q x : ℕ) (s : State) → Begins job rule q x s → R s → L s → B (begin job q x s)
  pub draws : (q : ℕ) (s : State) → Draws q s → S s → B s → P (draw q s)
  pub waits : (s : State) → Waits rule s → S s → B s → P (wait s)

pub upon : (job : Job) (rule : Rule) (Q R S P L B : State → Type 0) → Moves job rule Q R S → Upon job rule Q R S P L B
    → Moves job rule (λ s. Q s × P s) (λ s. R s × L s) (λ s. S s × B s)
upon job rule Q R S P L B known new =
    record {
      lands = λ s more h. (known.lands s more h.0, new.lands s more h.0 h.1);
      passes = λ s more a h. (known.passes s more a h.0, new.passes s more a h.0 h.1);
      begins = λ q x s b h. (known.begins q x s b h.0, new.begins q x s b h.0 h.1);
      draws = λ q s d h. (known.draws q s d h.0, new.draws q s d h.0 h.1);
      waits = λ s w h. (known.waits s w h.0, new.waits s w h.0 h.1);
    }

-- Two things that the moves keep are kept together.
pub both : (job : Job) (rule : Rule) (Q R S P L B : State → Type 0) → Moves job rule Q R S → Moves job rule P L B
    → Moves job rule (λ s. Q s × P s) (λ s. R s × L s) (λ s. S s × B s)
both job rule Q R S P L B one other =
    upon job rule Q R S P L B one
    (record {
      lands = λ s more g h. other.lands s more h;
      passes = λ s more a g h. other.passes s more a h;
      begins = λ q x s b g h. other.begins q x s b h;
      draws = λ q s d g h. other.draws q s d h;
      waits = λ s w g h. other.waits s w h;
    })
