-- Conservative works opt's loads off, each as early as it may. At every tick the loads still to make are the misses that opt would have from
-- here on, with the load under way counted as landed; so conservative never misses with nothing to load, and makes exactly opt's loads. It
-- would be so with the loads of any plan on demand.
use Prim.Native.Nat.{ℕ, suc, ◌+◌, ◌-◌, ◌<◌, ◌≤◌}
use native.Mathlib.Omega.{arith}
use mathlib.Core.Path.{◌≡◌, refl, sym, ap, ◌∙◌}
use mathlib.Core.Bool.{true, false, ◌&&◌}
use mathlib.Core.List.{List, [], ◌∷◌, ◌++◌, map}
use lib.ListN.{length, get_or, take, drop, length-drop, length-map}
use lib.Seq.{set-set, drop-drop, take-add, take_all}
use lib.Dec.{leb}
use borrow.Author.Tests.{leb-true, le-leb}
use Rattle.std.specs.Prelude.{Option, Some, None}
use Rattle.rules.specs.declared.Load.{Load}
use Rattle.rules.specs.declared.Loading.{Loading}
use Rattle.rules.specs.declared.Loading.TheVariants.{Idle, Under}
use Rattle.rules.specs.Basics.{place, stands}
use Rattle.rules.specs.Job.{Job, free}
use Rattle.rules.specs.Display.{load, State, Loaded, loaded, start, idle, awaited}
use Rattle.rules.specs.Plans.{earliest, conservative, opt, run_plan, begun_in, rule_of}
use Rattle.laws.proofs.Cases.{by_test}
use Rattle.laws.proofs.Rows.{map_snoc}
use Rattle.laws.proofs.Jobs.{Proper}
use Rattle.laws.proofs.Moves.{load_free}
use Rattle.laws.proofs.Sane.{SaneState, SaneMoves, settled, awaited_symbol}
use Rattle.plan_laws.proofs.Choice.{choice, choice_below, drawn_symbol}
use Rattle.plan_laws.proofs.Misses.{Miss, miss, Choosing, Below, misses_by, by_over, by_most, by_drawn, by_now, First, first}
use Rattle.plan_laws.proofs.States.{rest_drawable, settled_landed, settled_holds}
use Rattle.plan_laws.proofs.Asking.{asked_load, asked_none, both_true}
use Rattle.plan_laws.proofs.Going.{Ready}
use Rattle.plan_laws.proofs.Keeping.{Done, done, done_with}
use Rattle.plan_laws.proofs.OptLoads.{miss_of, all_by, misses_of, opt_loads}

-- One more of a list is taken.
one_further : (n : ℕ) (l : List Loaded) (a : Loaded) (later : List Loaded) → drop n l ≡ a ∷ later
    → (take (n + 1) l ≡ take n l ++ (a ∷ [])) × (drop (n + 1) l ≡ later) × (n + 1 ≤ length l)
one_further n l a later e =
    let left : length l - n ≡ suc (length later) = sym (length-drop n l) ∙ ap length e in (
      take-add n 1 l ∙ ap (λ (r : List Loaded). take n l ++ take 1 r) e,
      sym (drop-drop 1 n l) ∙ ap (drop 1) e,
      omega arith,
    )

settled_idle : (loading : Loading) (slots : List ℕ) → idle loading ≡ true → settled loading slots ≡ slots
settled_idle Idle slots e = refl
settled_idle (Under left q x) slots e = let impossible : ◌≡◌ {A = ℕ} 0 1 = cc in absurd (omega arith)

-- A load as what the display is asked for: its slot and its symbol.
abbrev pub load_of : Loaded → Option Load
load_of (loaded t d q x) = Some (load q x)

-- The load asked for is the first of those still to make, and what goes out is not drawn before its miss.
pub record Asked (left : List Loaded) (s : State) (q x : ℕ) : Type 0 where
  pub t : ℕ
  pub miss : ℕ
  pub later : List Loaded
  pub head : left ≡ loaded t miss q x ∷ later
  pub quiet : idle s.loading ≡ true
  pub enough : miss ≤ s.next + place (get_or s.slots q 0) s.rest

pub asked : (left : List Loaded) (s : State) (q x : ℕ) → earliest left s ≡ Some (load q x) → Asked left s q x
asked [] s q x e = let impossible : ◌≡◌ {A = ℕ} 0 1 = cc in absurd (omega arith)
asked (loaded t m r y ∷ left) s q x e =
    let (test, to, symbol) = asked_load (idle s.loading && leb m (s.next + place (get_or s.slots r 0) s.rest)) r y q x e in
    let (quiet, far) = both_true (idle s.loading) _ test in
    let enough : m ≤ s.next + place (get_or s.slots r 0) s.rest = leb-true _ _ far in
    record { t = t; miss = m; later = left; head = rw (to, symbol); quiet = quiet; enough = rw to at enough }

-- A load whose miss is the next draw is asked for at once.
asked_now : (left : List Loaded) (s : State) (q x : ℕ) (later : List Miss) → map miss_of left ≡ miss s.next q x ∷ later → s.loading ≡ Idle
    → earliest left s ≡ None → ⊥
asked_now [] s q x later e quiet none = let impossible : ◌≡◌ {A = ℕ} 0 1 = cc in omega arith
asked_now (loaded t m r y ∷ left) s q x later e quiet none =
    let now : m ≡ s.next = cc in
    let far : ℕ = place (get_or s.slots r 0) s.rest in
    let held : leb m (s.next + far) ≡ true = le-leb m (s.next + far) (omega arith) in
    let failed : (idle s.loading && leb m (s.next + far)) ≡ false = asked_none (idle s.loading && leb m (s.next + far)) r y none in
    let impossible : true ≡ false = rw (ap idle quiet, held) at failed in
    let z : ◌≡◌ {A = ℕ} 0 1 = cc in
    omega arith

-- All of these loads are made, slot for slot and symbol for symbol in their order, as many as there are misses.
pub record LoadsMade (misses : List Miss) (loads : List Loaded) (s : State) : Type 0 where
  pub count : s.loads ≡ length misses
  pub same : map load_of s.begun ≡ map load_of loads

module _ (job : Job) (proper : Proper job) (pick : Choosing) (below : Below pick) (loads : List Loaded)
    (all : map miss_of loads ≡ all_by pick job) where
  pub record Early (next : ℕ) (rest slots : List ℕ) (loading : Loading) (count : ℕ) (begun : List Loaded) : Type 0 where
    pub to_come : misses_by pick next (settled loading slots) rest ≡ map miss_of (drop count loads)
    pub upto : count ≤ length loads
    pub so_far : map load_of begun ≡ map load_of (take count loads)

  abbrev pub EarlyState : State → Type 0
  EarlyState s = Early s.next s.rest s.slots s.loading s.loads s.begun

  -- The load asked for, seen as opt's next miss.
  first_asked : (s : State) → SaneState job s → EarlyState s → (q x : ℕ) (a : Asked (drop s.loads loads) s q x)
      → First pick s.next s.slots s.rest a.miss q x (map miss_of a.later)
  first_asked s g h q x a =
      let still : settled s.loading s.slots ≡ s.slots = settled_idle s.loading s.slots a.quiet in
      let coming : misses_by pick s.next s.slots s.rest ≡ map miss_of (drop s.loads loads) = rw still at h.to_come in
      let some : 0 < length s.slots = omega (arith, proper.some_slot, g.row) in
      first pick below s.next s.slots s.rest a.miss q x (map miss_of a.later) some (coming ∙ ap (map miss_of) a.head)

  pub early_ready : (s : State) → 0 < length s.rest → SaneState job s → EarlyState s → Ready job (conservative loads).asks s
  early_ready s more g h =
      record {
        permitted = λ q x e.
            let a : Asked (drop s.loads loads) s q x = asked (drop s.loads loads) s q x e in
            let f : First pick s.next s.slots s.rest a.miss q x (map miss_of a.later) = first_asked s g h q x a in
            let drawable : stands free s.rest ≡ false = rest_drawable job s.next s.rest s.slots s.loading proper g in
            load_free job q x s a.quiet (rw g.row at f.below) (drawn_symbol s.rest x drawable f.drawn) f.absent;
        served = λ e quiet.
            by_test (stands (awaited s) s.slots) (λ t. t)
            (λ t.
            let still : settled s.loading s.slots ≡ s.slots = settled_idle s.loading s.slots (ap idle quiet) in
            let coming : misses_by pick s.next s.slots s.rest ≡ map miss_of (drop s.loads loads) = rw still at h.to_come in
            let now = by_now pick below s.next s.slots s.rest (omega (arith, proper.some_slot, g.row)) more t in
            absurd (asked_now (drop s.loads loads) s _ _ _ (sym coming ∙ now) quiet e));
      }

  pub early_moves : SaneMoves job (conservative loads) EarlyState EarlyState EarlyState
  early_moves =
      record {
        lands = λ s more g h. record { to_come = rw (settled_landed s.loading s.slots) h.to_come; upto = h.upto; so_far = h.so_far };
        passes = λ s more a g h. h;
        begins = λ q x s b g h.
            let a : Asked (drop s.loads loads) s q x = asked (drop s.loads loads) s q x b.asks in
            let f : First pick s.next s.slots s.rest a.miss q x (map miss_of a.later) = first_asked s g h q x a in
            let (front, behind, fewer) = one_further s.loads loads (loaded a.t a.miss q x) a.later a.head in
            record {
              to_come = rw (set-set, behind) (f.early a.enough);
              upto = omega arith;
              so_far =
                  map_snoc load_of s.begun (loaded s.tick s.next q x)
                  ∙ rw (front, map_snoc load_of (take s.loads loads) (loaded a.t a.miss q x), h.so_far);
            };
        draws = λ q s d g h.
            let symbol : awaited s ≡ free → ⊥ = awaited_symbol job s.next s.rest s.slots s.loading proper g d.more in
            let held : stands (awaited s) (settled s.loading s.slots) ≡ true =
            settled_holds job s.next s.rest s.slots s.loading (awaited s) g symbol d.held in
            record {
              to_come = rw (by_drawn pick s.next (settled s.loading s.slots) s.rest d.more held) at h.to_come;
              upto = h.upto;
              so_far = h.so_far;
            };
        waits = λ s w g h. h;
      }

  early_few : (s : State) → SaneState job s → EarlyState s → s.loads ≤ length job.draws
  early_few s g h =
      let size : length loads ≡ length (all_by pick job) = sym (length-map loads miss_of) ∙ ap length all in
      omega (arith, h.upto, by_most pick 0 job.starting job.draws)

  pub early_start : EarlyState (start job)
  early_start = record { to_come = sym all; upto = omega arith; so_far = refl }

  early_done : Done job (conservative loads) EarlyState
  early_done = done job proper (conservative loads).asks EarlyState early_moves early_start early_ready early_few

  -- At the last draw no miss is to come, so none of the loads is left.
  pub early_all : (s : State) → s.rest ≡ [] → EarlyState s → s.loads ≡ length loads
  early_all s over h =
      let none : map miss_of (drop s.loads loads) ≡ [] = sym h.to_come ∙ by_over pick _ _ s.rest over in
      let left : length (drop s.loads loads) ≡ 0 = sym (length-map (drop s.loads loads) miss_of) ∙ ap length none in
      omega (arith, length-drop s.loads loads, h.upto)

  pub early_made : Done job (conservative loads) (λ s. LoadsMade (all_by pick job) loads s)
  early_made =
      let d : Done job (conservative loads) EarlyState = early_done in
      let many : d.last.loads ≡ length loads = early_all d.last d.over d.kept in
      let every : take d.last.loads loads ≡ loads = take_all d.last.loads loads (omega arith) in
      done_with job (conservative loads) EarlyState d
      (record { count = many ∙ sym (length-map loads miss_of) ∙ ap length all; same = d.kept.so_far ∙ ap (map load_of) every })

-- Conservative is never refused, is done in time, and makes exactly opt's loads.
pub conservative_done : (job : Job) → Proper job → Done job (rule_of job 1) (λ s. LoadsMade (misses_of job) (begun_in (run_plan job (opt job))) s)
conservative_done job proper =
    early_made job proper (choice job) (choice_below job) (begun_in (run_plan job (opt job))) (opt_loads job proper)
