-- The moves of the code's state are those of the rules' state, seen through `view`.
use Prim.Native.Nat.{ℕ, zero, suc, ◌-◌, ◌≤◌}
use native.Mathlib.Omega.{arith}
use mathlib.Core.Path.{◌≡◌, refl, ap, ◌∙◌}
use mathlib.Core.List.{List}
use lib.ListN.{set}
use lib.Dec.{eqb}
use borrow.Author.Tests.{eqb-true, eqb-false}
use Rattle.std.specs.Prelude.{Option, Some, None}
use Rattle.rules.specs.declared.Load.{Load}
use Rattle.rules.specs.declared.Loading.TheVariants.{Under}
use Rattle.rules.specs.Job.{Job}
use Rattle.rules.specs.Display.{start, land, landed_slots, landed_loading}
use Rattle.display.specs.declared.state.Display.{Display}
use Rattle.laws.proofs.Cases.{by_test}
use Rattle.display.specs.View.{History, at_first, loading_of, view, history_begun, Lands, Begins}
use Rattle.display.specs.Moves.{started, nearer, landed_in, begun_with, begun_in}

-- The code's start, with the starting symbols in the slots, is the start of the rules.
pub starts_so : (job : Job) (slots : List ℕ) (d : Display) → slots ≡ job.starting → d ≡ started → view slots (at_first job) d ≡ start job
starts_so job slots d starts is = rw (is, starts)

-- Where no load ends, one under way comes a tick nearer to its end and no slot changes.
nearer_loading : (until q x : ℕ) → (until ≡ 1 → ⊥) → loading_of (until - 1) q x ≡ landed_loading (loading_of until q x)
nearer_loading zero q x far = refl
nearer_loading (suc zero) q x far = absurd (far refl)
nearer_loading (suc (suc left)) q x far = let one_less : suc (suc left) - 1 ≡ suc left = omega arith in simp one_less

nearer_slots : (until q x : ℕ) (slots : List ℕ) → (until ≡ 1 → ⊥) → slots ≡ landed_slots (loading_of until q x) slots
nearer_slots zero q x slots far = refl
nearer_slots (suc zero) q x slots far = absurd (far refl)
nearer_slots (suc (suc left)) q x slots far = refl

-- A load is under way where there are ticks until it ends.
pub under_way : (until q x : ℕ) → (until ≡ 0 → ⊥) → loading_of until q x ≡ Under (until - 1) q x
under_way zero q x some = absurd (some refl)
under_way (suc left) q x some = let one_less : suc left - 1 ≡ left = omega arith in simp one_less

module _ (slots : List ℕ) (h : History) (d : Display) where
  ended_lands : d.remaining ≡ 1 → view (set slots d.target d.incoming) h (nearer d) ≡ land (view slots h d)
  ended_lands e = simp e

  pub nearer_lands : (d.remaining ≡ 1 → ⊥) → view slots h (nearer d) ≡ land (view slots h d)
  nearer_lands far =
      simp (nearer_loading d.remaining d.target d.incoming far, ← nearer_slots d.remaining d.target d.incoming slots far)

  landed_view : view (landed_in d slots) h (nearer d) ≡ land (view slots h d)
  landed_view =
      by_test (eqb d.remaining 1)
      (λ t. rw t (ended_lands (eqb-true d.remaining 1 t)))
      (λ t. rw t (nearer_lands (eqb-false d.remaining 1 t)))

-- What the code's first two moves leave, told by their equations, are these moves of the rules.
pub lands_so : (slots slots₁ : List ℕ) (d l : Display) → l ≡ nearer d → slots₁ ≡ landed_in d slots → Lands slots d slots₁ l
lands_so slots slots₁ d l is held h =
    ap (λ (k : List ℕ). view k h l) held ∙ ap (view (landed_in d slots) h) is ∙ landed_view slots h d

begun_view : (time : ℕ) (asked : Option Load) (slots : List ℕ) (d : Display) → 1 ≤ time
    → Begins time asked slots d (begun_in asked slots) (begun_with time asked d)
begun_view time None slots d some h job e = refl
begun_view time (Some this) slots d some h job e = simp (under_way time this.slot this.symbol (λ none. omega arith), e)

pub begins_so : (time : ℕ) (asked : Option Load) (slots slots₁ : List ℕ) (d b : Display) → 1 ≤ time → b ≡ begun_with time asked d
    → slots₁ ≡ begun_in asked slots → Begins time asked slots d slots₁ b
begins_so time asked slots slots₁ d b some is held h job e =
    ap (λ (k : List ℕ). view k (history_begun d asked h) b) held
    ∙ ap (view (begun_in asked slots) (history_begun d asked h)) is
    ∙ begun_view time asked slots d some h job e
