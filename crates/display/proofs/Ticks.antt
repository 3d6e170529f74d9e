-- Step 3 of a tick from what happens in it, and the counters after it.
use Prim.Native.Nat.{ℕ}
use native.Mathlib.Omega.{arith}
use mathlib.Core.Path.{◌≡◌, refl, ap}
use mathlib.Core.Bool.{Bool, true, false, cond}
use mathlib.Core.List.{List}
use lib.ListN.{get_or}
use Rattle.std.specs.Prelude.{Option}
use Rattle.rules.specs.declared.Load.{Load}
use Rattle.rules.specs.declared.Happening.{Happening}
use Rattle.rules.specs.declared.Cause.TheVariants.{Awaited, Another, Nothing}
use Rattle.rules.specs.declared.Happening.TheVariants.{Draw, Wait}
use Rattle.rules.specs.Basics.{place, stands}
use Rattle.rules.specs.Display.{going, cause_of, happening_of, record_of, happened, stuck, moved}
use Rattle.display.specs.declared.state.Display.{Display}
use Rattle.display.specs.View.{History, loading_of, view, awaiting, history_made}
use Rattle.rules.specs.declared.TickRecord.{TickRecord}
use Rattle.laws.proofs.Cases.{by_test}
use Rattle.display.specs.declared.tick.Ticked.{Ticked}
use Rattle.std.specs.Prelude.{Result, Ok, Err}
use Rattle.rules.specs.declared.refusal.Refusal.{Refusal}
use Rattle.rules.specs.declared.refusal.Refusal.TheVariants.{EndlessWait}
use Rattle.display.specs.Moves.{moved_on, drawn_or_waited}
use Rattle.display.specs.Tick.{DrawnOrWaited, Counted}

-- What happens goes by the awaited symbol alone, whatever else is beside the display.
pub same_happening : (slots : List ℕ) (d : Display) (h : History) (x : ℕ) → get_or h.rest 0 0 ≡ x
    → happening_of (view slots h d) ≡ happening_of (view slots (awaiting x) d)
same_happening slots d h x e =
    ap
    (λ (y : ℕ). cond (stands y slots) (Draw (place y slots)) (Wait (cause_of (loading_of d.remaining d.target d.incoming) y)))
    e

-- Moving on is the draw or the wait of the rules, and what it does to the counters.
moved_view : (slots : List ℕ) (d : Display) (hp : Happening) (h : History)
    → view slots (history_made d hp h) (moved_on hp d) ≡ moved hp (view slots h d)
moved_view slots d (Draw q) h = refl
moved_view slots d (Wait cause) h = refl

moved_counts : (d : Display) (hp : Happening) → Counted 0 hp d (moved_on hp d)
moved_counts d (Draw q) = record { tick = refl; next = refl; waits = omega arith; pause = omega arith; loads = omega arith }
moved_counts d (Wait cause) = record { tick = refl; next = refl; waits = omega arith; pause = omega arith; loads = omega arith }

-- What is stuck is a wait while nothing was loading.
still_waiting : (hp : Happening) (done : Bool) → stuck hp done ≡ true → hp ≡ Wait Nothing
still_waiting (Draw q) done e = let z : ◌≡◌ {A = ℕ} 0 1 = cc in absurd (omega arith)
still_waiting (Wait Awaited) done e = let z : ◌≡◌ {A = ℕ} 0 1 = cc in absurd (omega arith)
still_waiting (Wait Another) done e = let z : ◌≡◌ {A = ℕ} 0 1 = cc in absurd (omega arith)
still_waiting (Wait Nothing) done e = refl

module _ (slots : List ℕ) (d : Display) (asked : Option Load) (symbol : ℕ) (done : Bool) where
  abbrev here : Happening
  here = happening_of (view slots (awaiting symbol) d)

  abbrev on : TickRecord
  on = record_of asked (view slots (awaiting symbol) d)

  refused_step : stuck here done ≡ true → DrawnOrWaited slots d asked symbol done (Err (EndlessWait d.next))
  unfolding happened
  refused_step halts =
      record {
        recorded = tt;
        unrecorded = ap (λ (x : Happening). record { begun = asked; happening = x }) (still_waiting here done halts);
        counts = tt;
        run = λ h e. rw (same_happening slots d h symbol e, halts);
      }

  moved_step : stuck here done ≡ false
      → DrawnOrWaited slots d asked symbol done (Ok (record { on_record = on; display = moved_on here d }))
  unfolding happened
  moved_step goes =
      record {
        recorded = refl;
        unrecorded = tt;
        counts = moved_counts d here;
        run = λ h e. rw (same_happening slots d h symbol e, goes) (ap going (moved_view slots d here h));
      }

  -- Step 3 as its equation has it is step 3 of the rules.
  pub steps_so : (r : Result Ticked Refusal) → r ≡ drawn_or_waited slots d asked symbol done → DrawnOrWaited slots d asked symbol done r
  steps_so r is = rw is (by_test (stuck here done) (λ t. rw t (refused_step t)) (λ t. rw t (moved_step t)))
