-- Aggressive: in every sane state it is ready, and each of its loads is for the first missing draw.
use Prim.Native.Nat.{ℕ, ◌<◌, ◌≤◌}
use native.Mathlib.Omega.{arith}
use mathlib.Core.Path.{◌≡◌, ap}
use mathlib.Core.Bool.{Bool, true, false, ◌&&◌}
use lib.ListN.{length, get_or, set}
use lib.Dec.{ltb, leb}
use borrow.Author.Tests.{ltb-true, lt-ltb, leb-true, leb-false}
use Rattle.std.specs.Prelude.{Some, None}
use Rattle.rules.specs.declared.Loading.TheVariants.{Idle}
use Rattle.rules.specs.Basics.{place, stands}
use Rattle.rules.specs.Job.{Job, free}
use Rattle.rules.specs.Display.{load, State, idle, awaited}
use Rattle.rules.specs.Plans.{rank, missing, furthest, ahead, aggressive}
use Rattle.laws.proofs.Cases.{by_test}
use Rattle.laws.proofs.Moves.{Begins, load_free}
use Rattle.laws.proofs.Jobs.{Proper}
use Rattle.laws.proofs.Search.{absent_at}
use Rattle.laws.proofs.Sane.{SaneState}
use Rattle.plan_laws.proofs.Choice.{rank_place}
use Rattle.plan_laws.proofs.States.{rest_drawable, chosen_slot}
use Rattle.plan_laws.proofs.Asking.{asked_load, asked_none, both_true, other_false}
use Rattle.plan_laws.proofs.Going.{Ready}
use Rattle.plan_laws.proofs.Keeping.{Done, done}
use Rattle.plan_laws.proofs.Rising.{Rising, rising_moves, rising_few, missing_most, missing_absent, missing_now, missing_later}

module _ (job : Job) (proper : Proper job) where
  -- The place that it loads for, the slot that it would take, and its test.
  abbrev first : State → ℕ
  first s = missing s.slots s.rest

  abbrev chosen : State → ℕ
  chosen s = furthest job (ahead s) s.slots

  abbrev some_missing : State → Bool
  some_missing s = ltb (first s) (length s.rest)

  abbrev not_before : State → Bool
  not_before s = leb (first s) (rank (ahead s) (get_or s.slots (chosen s) 0))

  abbrev wanting : State → Bool
  wanting s = idle s.loading && some_missing s && not_before s

  -- What it asked for, and how its test came out.
  record Asked (s : State) (q x : ℕ) : Type 0 where
    to : chosen s ≡ q
    symbol : get_or s.rest (first s) 0 ≡ x
    quiet : idle s.loading ≡ true
    missed : first s < length s.rest
    far : first s ≤ rank (ahead s) (get_or s.slots (chosen s) 0)

  asked : (s : State) (q x : ℕ) → (aggressive job).asks s ≡ Some (load q x) → Asked s q x
  asked s q x e =
      let (test, to, symbol) = asked_load (wanting s) (chosen s) (get_or s.rest (first s) 0) q x e in
      let (early, far) = both_true (idle s.loading && some_missing s) (not_before s) test in
      let (quiet, missed) = both_true (idle s.loading) (some_missing s) early in
      record { to = to; symbol = symbol; quiet = quiet; missed = ltb-true _ _ missed; far = leb-true _ _ far }

  -- Where the draw itself is missing, what goes out cannot be drawn before it, so a load is asked for.
  asks_at_miss : (s : State) → 0 < length s.rest → s.loading ≡ Idle → stands (awaited s) s.slots ≡ false
      → (aggressive job).asks s ≡ None → ⊥
  asks_at_miss s more quiet missed e =
      let now : first s ≡ 0 = missing_now s.slots s.rest more missed in
      let test : wanting s ≡ false = asked_none (wanting s) (chosen s) (get_or s.rest (first s) 0) e in
      let early : (idle s.loading && some_missing s) ≡ true = rw (ap idle quiet) (lt-ltb (first s) (length s.rest) (omega arith)) in
      omega (arith, leb-false (first s) _ (other_false (idle s.loading && some_missing s) (not_before s) test early))

  aggressive_ready : (s : State) → 0 < length s.rest → SaneState job s → Ready job (aggressive job).asks s
  aggressive_ready s more g =
      record {
        permitted = λ q x e.
            let a : Asked s q x = asked s q x e in
            let drawable : stands free s.rest ≡ false = rest_drawable job s.next s.rest s.slots s.loading proper g in
            rw (← a.to, ← a.symbol)
            (load_free job (chosen s) (get_or s.rest (first s) 0) s a.quiet (chosen_slot job proper ahead s g)
            (absent_at free s.rest drawable (first s) a.missed)
            (missing_absent s.slots s.rest a.missed));
        served = λ e quiet. by_test (stands (awaited s) s.slots) (λ t. t) (λ t. absurd (asks_at_miss s more quiet t e));
      }

  aggressive_raises : (q x : ℕ) (s : State) → Begins job (aggressive job) q x s → SaneState job s
      → missing s.slots s.rest < missing (set s.slots q x) s.rest
  aggressive_raises q x s b g =
      let a : Asked s q x = asked s q x b.asks in
      let drawable : stands free s.rest ≡ false = rest_drawable job s.next s.rest s.slots s.loading proper g in
      let far : first s ≤ place (get_or s.slots (chosen s) 0) s.rest =
      rank_place s.rest _ (first s) drawable (missing_most s.slots s.rest) a.far in
      missing_later s.slots s.rest q x (rw g.row b.slot) a.missed (rw a.to at far) a.symbol

  -- It makes at most one load to each draw, and is done in time.
  pub aggressive_done : Done job (aggressive job) Rising
  aggressive_done =
      done job proper (aggressive job).asks Rising (rising_moves job (aggressive job) proper aggressive_raises) (omega arith)
      (λ s more g h. aggressive_ready s more g) (rising_few job)
