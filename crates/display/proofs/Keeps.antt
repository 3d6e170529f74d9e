-- What the first two moves of a tick leave as it was: for each move one record and one law.
use Prim.Native.Nat.{ℕ, ◌+◌, ◌≤◌}
use native.Mathlib.Omega.{arith}
use mathlib.Core.Path.{◌≡◌, ap, ◌∙◌}
use mathlib.Core.List.{List, []}
use Rattle.std.specs.Prelude.{Option, Some, None}
use Rattle.rules.specs.declared.Load.{Load}
use Rattle.rules.specs.declared.Happening.{Happening}
use Rattle.rules.specs.Job.{Job}
use Rattle.rules.specs.Display.{State, begun_by}
use Rattle.display.specs.declared.state.Display.{Display}
use Rattle.display.specs.View.{History, view, history_begun, Lands}
use Rattle.display.specs.Tick.{Room, Counted, next_after}

-- Landing changes the slots and the load under way alone.
pub record LandKeeps (d l : Display) : Type 0 where
  pub tick : l.tick ≡ d.tick
  pub next : l.next ≡ d.next
  pub waits : l.waits ≡ d.waits
  pub pause : l.pause ≡ d.pause
  pub loads : l.loads ≡ d.loads

-- Beginning what is asked for changes the slots, the load under way and the number of loads alone.
pub record BeginKeeps (l b : Display) : Type 0 where
  pub tick : b.tick ≡ l.tick
  pub next : b.next ≡ l.next
  pub waits : b.waits ≡ l.waits
  pub pause : b.pause ≡ l.pause
  pub loads : b.loads ≤ l.loads + 1

-- A move is the same whatever is beside the display, so it is looked at with nothing there.
nothing : History
nothing = record { rest = []; made = []; begun = [] }

pub land_keeps : (slots slots₁ : List ℕ) (d l : Display) → Lands slots d slots₁ l → LandKeeps d l
land_keeps slots slots₁ d l lands =
    let same = lands nothing in
    record {
      tick = ap (λ (s : State). s.tick) same;
      next = ap (λ (s : State). s.next) same;
      waits = ap (λ (s : State). s.waits) same;
      pause = ap (λ (s : State). s.pause) same;
      loads = ap (λ (s : State). s.loads) same;
    }

pub begin_keeps : (job : Job) (asked : Option Load) (slots₁ slots₂ : List ℕ) (l b : Display)
    → ((h : History) → view slots₂ (history_begun l asked h) b ≡ begun_by job asked (view slots₁ h l))
    → BeginKeeps l b
begin_keeps job None slots₁ slots₂ l b begins =
    let same = begins nothing in
    let loads' : b.loads ≡ l.loads = ap (λ (s : State). s.loads) same in
    record {
      tick = ap (λ (s : State). s.tick) same;
      next = ap (λ (s : State). s.next) same;
      waits = ap (λ (s : State). s.waits) same;
      pause = ap (λ (s : State). s.pause) same;
      loads = omega arith;
    }
begin_keeps job (Some this) slots₁ slots₂ l b begins =
    let same = begins nothing in
    let loads' : b.loads ≡ l.loads + 1 = ap (λ (s : State). s.loads) same in
    record {
      tick = ap (λ (s : State). s.tick) same;
      next = ap (λ (s : State). s.next) same;
      waits = ap (λ (s : State). s.waits) same;
      pause = ap (λ (s : State). s.pause) same;
      loads = omega arith;
    }

-- So the counters have as much room after these moves as before.
pub room_landed : {d l : Display} → LandKeeps d l → Room d → Room l
room_landed {d} {l} kept room = record { tick = omega arith; next = omega arith; waits = omega arith; pause = omega arith }

pub room_begun : {l b : Display} → BeginKeeps l b → Room l → Room b
room_begun {l} {b} kept room = record { tick = omega arith; next = omega arith; waits = omega arith; pause = omega arith }

-- The counters over a whole tick: landing, beginning, then the draw or the wait.
pub tick_counts : {happening : Happening} {d l b r : Display} → LandKeeps d l → BeginKeeps l b → Counted 0 happening b r → Counted 1 happening d r
tick_counts {happening} landed begun counts =
    record {
      tick = omega arith;
      next = counts.next ∙ ap (next_after happening) (begun.next ∙ landed.next);
      waits = omega arith;
      pause = omega arith;
      loads = omega arith;
    }
