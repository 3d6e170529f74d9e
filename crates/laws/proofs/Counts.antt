-- What a run counts: elapsed is the draws and the waits, the loads are those begun, draws are made and loads begun at rising ticks,
-- and two loads begin at least the load time apart.
use Prim.Native.Nat.{ℕ, zero, suc, ◌+◌, ◌-◌, ◌<◌, ◌≤◌}
use native.Mathlib.Omega.{arith}
use mathlib.Core.Path.{◌≡◌, refl, ap, ◌∙◌}
use mathlib.Core.List.{List, [], ◌∷◌, ◌++◌, map}
use lib.ListN.{length, get_or}
use borrow.Author.Tests.{ltb-true}
use Rattle.rules.specs.declared.Loading.{Loading}
use Rattle.rules.specs.declared.Loading.TheVariants.{Idle, Under}
use Rattle.rules.specs.Basics.{place}
use Rattle.rules.specs.Job.{Job}
use Rattle.rules.specs.Display.{State, Rule, Drawn, drawn, Loaded, loaded, going, start, awaited, landed_loading, run}
use Rattle.rules.specs.Refusals.{tick_of, slot_of}
use Rattle.laws.proofs.Rows.{map_snoc, length-snoc, Each, each_snoc, Spaced, spaced_snoc}
use Rattle.laws.proofs.Moves.{Moves, reached}
use Rattle.laws.proofs.Jobs.{Proper}
use Rattle.laws.proofs.Sane.{none_under, one_under, SaneState, SaneMoves, sane, reached_sanely, remaining}

-- ---- Draws, waits and loads

-- The counts of a state, with the ticks and slots of its draws.
pub record Counted (k tick next waits loads : ℕ) (made : List Drawn) (begun : List Loaded) : Type 0 where
  pub ticks : tick ≡ next + waits
  pub drawn_all : length made ≡ next
  pub begun_all : length begun ≡ loads
  pub past : Each (λ t. t < tick) (map tick_of made)
  pub rising : Spaced 1 (map tick_of made)
  pub slots : Each (λ q. q < k) (map slot_of made)

-- The same of a state.
abbrev pub CountedState : Job → State → Type 0
CountedState job s = Counted job.slots s.tick s.next s.waits s.loads s.made s.begun

counted_begins : (k tick next waits loads : ℕ) (made : List Drawn) (begun : List Loaded) (l : Loaded)
    → Counted k tick next waits loads made begun → Counted k tick next waits (loads + 1) made (begun ++ (l ∷ []))
counted_begins k tick next waits loads made begun l h =
    record {
      ticks = h.ticks;
      drawn_all = h.drawn_all;
      begun_all = length-snoc begun l ∙ ap (λ (n : ℕ). n + 1) h.begun_all;
      past = h.past;
      rising = h.rising;
      slots = h.slots;
    }

counted_draws : (k tick next waits loads : ℕ) (made : List Drawn) (begun : List Loaded) (q : ℕ) → q < k
    → Counted k tick next waits loads made begun → Counted k (tick + 1) (next + 1) waits loads (made ++ (drawn tick q ∷ [])) begun
counted_draws k tick next waits loads made begun q slot h =
    let e : length made ≡ next = h.drawn_all in
    let g : tick ≡ next + waits = h.ticks in
    let sooner : Each (λ t. t < tick + 1) (map tick_of made) =
    λ i m. let b : get_or (map tick_of made) i 0 < tick = h.past i m in omega arith in
    let earlier : Each (λ t. t + 1 ≤ tick) (map tick_of made) =
    λ i m. let b : get_or (map tick_of made) i 0 < tick = h.past i m in omega arith in
    record {
      ticks = omega arith;
      drawn_all = length-snoc made (drawn tick q) ∙ ap (λ (n : ℕ). n + 1) e;
      begun_all = h.begun_all;
      past = rw map_snoc (each_snoc (λ t. t < tick + 1) (map tick_of made) tick sooner (omega arith));
      rising = rw map_snoc (spaced_snoc 1 (map tick_of made) tick h.rising earlier);
      slots = rw map_snoc (each_snoc (λ r. r < k) (map slot_of made) q h.slots slot);
    }

counted_waits : (k tick next waits loads : ℕ) (made : List Drawn) (begun : List Loaded)
    → Counted k tick next waits loads made begun → Counted k (tick + 1) next (waits + 1) loads made begun
counted_waits k tick next waits loads made begun h =
    let g : tick ≡ next + waits = h.ticks in
    record {
      ticks = omega arith;
      drawn_all = h.drawn_all;
      begun_all = h.begun_all;
      past = λ i m. let b : get_or (map tick_of made) i 0 < tick = h.past i m in omega arith;
      rising = h.rising;
      slots = h.slots;
    }

counted_moves : (job : Job) (rule : Rule) → SaneMoves job rule (CountedState job) (CountedState job) (CountedState job)
counted_moves job rule =
    record {
      lands = λ s more g h. h;
      passes = λ s more a g h. h;
      begins = λ q x s b g h. counted_begins _ _ _ _ _ _ _ _ h;
      draws = λ q s d g h.
          let inside : q < job.slots =
          let found : place (awaited s) s.slots < length s.slots = ltb-true _ _ d.held in
          rw (d.first, ← g.row) found in counted_draws _ _ _ _ _ _ _ q inside h;
      waits = λ s w g h. counted_waits _ _ _ _ _ _ _ h;
    }

counted_start : (job : Job) → CountedState job (start job)
counted_start job =
    record {
      ticks = omega arith;
      drawn_all = refl;
      begun_all = refl;
      past = λ i h. absurd (omega arith);
      rising = λ i j g h. absurd (omega arith);
      slots = λ i h. absurd (omega arith);
    }

-- Whatever the rule, a run from the start counts its draws, waits and loads so, and draws at rising ticks from slots of the job.
pub counted : (job : Job) (rule : Rule) → Proper job → (t : ℕ) (s : State) → run job rule t (start job) ≡ going s → CountedState job s
counted job rule p t s e = reached_sanely job rule _ _ _ p (counted_moves job rule) (counted_start job) t s e

-- A run that is over has taken a tick to each draw and to each wait.
pub elapsed : (job : Job) (rule : Rule) → Proper job → (t : ℕ) (s : State) → run job rule t (start job) ≡ going s → s.rest ≡ []
    → s.tick ≡ length job.draws + s.waits
elapsed job rule p t s e over =
    let c : CountedState job s = counted job rule p t s e in
    let g : SaneState job s = sane job rule p t s e in
    let left : s.next + length s.rest ≡ length job.draws = remaining job s.next s.rest s.slots s.loading g in
    let none : length s.rest ≡ 0 = ap length over in
    omega arith

-- ---- The loader

-- The tick at which a load was begun.
abbrev pub load_tick : Loaded → ℕ
load_tick (loaded t d q x) = t

-- The ticks from a tick, once its load has begun, to the end of the load under way.
abbrev pub ahead : Loading → ℕ
ahead Idle = 0
ahead (Under left q x) = left + 1

-- The load that was begun last, at tick u, all others having ended by then.
pub record Last (time end q x : ℕ) (begun : List Loaded) : Type 0 where
  pub earlier : List Loaded
  pub tick : ℕ
  pub draw : ℕ
  pub is_last : begun ≡ earlier ++ (loaded tick draw q x ∷ [])
  pub ends : tick + time ≡ end
  pub ended : Each (λ u. u + time ≤ tick) (map load_tick earlier)

-- Of the loads begun before a tick (`until`) each ends by the end of the one under way, which was begun last.
pub record Busy (time until tick : ℕ) (loading : Loading) (begun : List Loaded) : Type 0 where
  pub past : Each (λ u. u < until) (map load_tick begun)
  pub spaced : Spaced time (map load_tick begun)
  pub ends : Each (λ u. u + time ≤ tick + ahead loading) (map load_tick begun)
  pub last : (left q x : ℕ) → loading ≡ Under left q x → Last time (tick + left + 1) q x begun

-- Between ticks the loader is as it will be once the coming tick has landed what ends in it.
abbrev pub BusyBetween : Job → State → Type 0
BusyBetween job s = Busy job.load_time s.tick s.tick (landed_loading s.loading) s.begun

abbrev pub BusyLanded : Job → State → Type 0
BusyLanded job s = Busy job.load_time s.tick s.tick s.loading s.begun

abbrev pub BusyBegun : Job → State → Type 0
BusyBegun job s = Busy job.load_time (s.tick + 1) s.tick s.loading s.begun

busy_begins : (time tick d q x : ℕ) (loading : Loading) (begun : List Loaded) → 1 ≤ time → loading ≡ Idle
    → Busy time tick tick loading begun
    → Busy time (tick + 1) tick (Under (time - 1) q x) (begun ++ (loaded tick d q x ∷ []))
busy_begins time tick d q x loading begun some_load_time quiet h =
    let none : ahead loading ≡ 0 = ap ahead quiet in
    let ended : Each (λ u. u + time ≤ tick) (map load_tick begun) =
    λ i m. let b : get_or (map load_tick begun) i 0 + time ≤ tick + ahead loading = h.ends i m in omega arith in
    record {
      past = rw map_snoc
          (each_snoc (λ u. u < tick + 1) (map load_tick begun) tick
          (λ i m. let b : get_or (map load_tick begun) i 0 < tick = h.past i m in omega arith) (omega arith));
      spaced = rw map_snoc (spaced_snoc time (map load_tick begun) tick h.spaced ended);
      ends = rw map_snoc
          (each_snoc (λ u. u + time ≤ tick + (time - 1 + 1)) (map load_tick begun) tick
          (λ i m. let b : get_or (map load_tick begun) i 0 + time ≤ tick = ended i m in omega arith) (omega arith));
      last = λ left' q' x' e.
          one_under (λ l r y. Last time (tick + l + 1) r y (begun ++ (loaded tick d q x ∷ []))) (time - 1) q x left' q' x'
          (record { earlier = begun; tick = tick; draw = d; is_last = refl; ends = omega arith; ended = ended }) e;
    }

busy_passes : (time tick : ℕ) (loading : Loading) (begun : List Loaded) → Busy time (tick + 1) tick loading begun
    → Busy time (tick + 1) (tick + 1) (landed_loading loading) begun
busy_passes time tick Idle begun h =
    record {
      past = h.past;
      spaced = h.spaced;
      ends = λ i m. let b : get_or (map load_tick begun) i 0 + time ≤ tick + 0 = h.ends i m in omega arith;
      last = λ left q x e. none_under left q x e;
    }
busy_passes time tick (Under zero q x) begun h =
    record {
      past = h.past;
      spaced = h.spaced;
      ends = λ i m. let b : get_or (map load_tick begun) i 0 + time ≤ tick + (0 + 1) = h.ends i m in omega arith;
      last = λ left' q' x' e. none_under left' q' x' e;
    }
busy_passes time tick (Under (suc left) q x) begun h =
    let sooner : tick + suc left + 1 ≡ tick + 1 + left + 1 = omega arith in
    record {
      past = h.past;
      spaced = h.spaced;
      ends = λ i m. let b : get_or (map load_tick begun) i 0 + time ≤ tick + (suc left + 1) = h.ends i m in omega arith;
      last = λ left' q' x' e.
          one_under (λ l r y. Last time (tick + 1 + l + 1) r y begun) left q x left' q' x' (rw (← sooner) (h.last (suc left) q x refl)) e;
    }

-- Every move keeps the loader so, and it is so at the start.
pub busy_moves : (job : Job) (rule : Rule) → 1 ≤ job.load_time → Moves job rule (BusyBetween job) (BusyLanded job) (BusyBegun job)
busy_moves job rule some_load_time =
    record {
      lands = λ s more h. h;
      passes = λ s more a h.
          record {
            past = λ i m. let b : get_or (map load_tick s.begun) i 0 < s.tick = h.past i m in omega arith;
            spaced = h.spaced;
            ends = h.ends;
            last = h.last;
          };
      begins = λ q x s b h. busy_begins job.load_time s.tick s.next q x s.loading s.begun some_load_time b.quiet h;
      draws = λ q s d h. busy_passes job.load_time s.tick s.loading s.begun h;
      waits = λ s w h. busy_passes job.load_time s.tick s.loading s.begun h;
    }

pub busy_start : (job : Job) → BusyBetween job (start job)
busy_start job =
    record {
      past = λ i h. absurd (omega arith);
      spaced = λ i j g h. absurd (omega arith);
      ends = λ i h. absurd (omega arith);
      last = λ left q x e. none_under left q x e;
    }

-- Whatever the rule, a run from the start begins its loads at rising ticks, each at least the load time after the one before.
pub busy : (job : Job) (rule : Rule) → Proper job → (t : ℕ) (s : State) → run job rule t (start job) ≡ going s → BusyBetween job s
busy job rule p t s e = reached job rule _ _ _ (busy_moves job rule p.some_load_time) t (start job) s (busy_start job) e
