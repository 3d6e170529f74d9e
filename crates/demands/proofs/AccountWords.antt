-- What an account of a draw says, in words: its three parts are all the ticks that the draw waited, and a symbol that no event brought was
-- there at the start.
use Prim.Native.Nat.{ℕ, zero, suc, ◌+◌, ◌-◌, ◌<◌}
use native.Mathlib.Omega.{arith}
use mathlib.Core.Path.{◌≡◌, refl, sym, ap, ◌∙◌}
use mathlib.Core.Bool.{Bool, true, false, cond, ◌&&◌}
use mathlib.Core.List.{List, [], ◌∷◌}
use lib.ListN.{length, get_or}
use lib.Dec.{eqb, leb}
use borrow.Author.Tests.{eqb-true, eq-eqb}
use Rattle.std.specs.Prelude.{Option, Some, None}
use Rattle.rules.specs.declared.Cause.{Cause}
use Rattle.rules.specs.declared.Cause.TheVariants.{Awaited, Another, Nothing}
use Rattle.rules.specs.declared.Parts.{Parts}
use Rattle.rules.specs.declared.Account.{Account}
use Rattle.rules.specs.Job.{Call, Job, free, draws_of, job_of}
use Rattle.rules.specs.declared.Event.{Event}
use Rattle.rules.specs.LoadList.{event, events_of}
use Rattle.rules.specs.Why.{more_waits}
use Rattle.laws.proofs.Cases.{by_test}
use Rattle.laws.proofs.Search.{absent_at}
use Rattle.laws.proofs.Jobs.{Proper, proper}
use Rattle.demands.specs.Held.{LastLoad, none, last, or_else, last_load, leaves, DrawnAt, from}
use Rattle.demands.specs.Fair.{nth_event}
use Rattle.demands.specs.Causes.{cause_at}
use Rattle.demands.specs.Reasons.{last_of, brings, parts_from, Explains}
use Rattle.demands.proofs.LastOf.{LastSuch, such, no_such, last_such}

-- A wait of any cause is one wait more.
wait_adds : (cause : Cause) (p : Parts) (n : ℕ) → p.own + p.another + p.nothing ≡ n
    → (more_waits 1 cause p).own + (more_waits 1 cause p).another + (more_waits 1 cause p).nothing ≡ suc n
wait_adds Awaited p n h = omega arith
wait_adds Another p n h = omega arith
wait_adds Nothing p n h = omega arith

-- The three parts of n waits add to n.
pub parts_add : (job : Job) (events : List Event) (x first n : ℕ)
    → (parts_from job events x first n).own + (parts_from job events x first n).another + (parts_from job events x first n).nothing ≡ n
unfolding parts_from
parts_add job events x first zero = refl
parts_add job events x first (suc n) =
    wait_adds (cause_at job events (first + n) x) (parts_from job events x first n) n (parts_add job events x first n)

-- The three parts of an account are all the ticks before the draw since the draw before it, or since the start.
pub waits_add : (asked : Call) (list : List ℕ) (draw : ℕ) (account : Account) (r : Explains asked list draw account)
    → account.waits.own + account.waits.another + account.waits.nothing ≡ get_or r.ticks draw 0 - from r.ticks draw
waits_add asked list draw account r = rw r.accounts (parts_add (job_of asked) (events_of list) (get_or (draws_of asked) draw 0) _ _)

-- The last load into a slot is an event of the list.
last_in : (q t u y : ℕ) (l : List Event) → last_load q t l ≡ last u y → (j : ℕ) × (j < length l) × (nth_event l j ≡ event u q y)
unfolding last_load
last_in q t u y [] e = let z : ◌≡◌ {A = ℕ} 0 1 = cc in absurd (omega arith)
last_in q t u y (this ∷ l) e = by_load (last_load q t l) refl e (last_in q t u y l)
  where
    by_load : (later : LastLoad) → last_load q t l ≡ later
        → or_else later (cond (eqb this.slot q && leb this.tick t) (last this.tick this.symbol) none) ≡ last u y
        → (last_load q t l ≡ last u y → (j : ℕ) × (j < length l) × (nth_event l j ≡ event u q y))
        → (j : ℕ) × (j < suc (length l)) × (nth_event (this ∷ l) j ≡ event u q y)
    by_load none is same in_rest =
        by_test (eqb this.slot q)
        (λ f.
        by_test (leb this.tick t)
        (λ g.
        let here : last this.tick this.symbol ≡ last u y = rw (f, g) at same in
        let slot : this.slot ≡ q = eqb-true this.slot q f in
        let tick : this.tick ≡ u = cc in
        let symbol : this.symbol ≡ y = cc in
        let it : event this.tick this.slot this.symbol ≡ event u q y = rw (tick, slot, symbol) in
        (0, omega arith, it))
        (λ g. let other : none ≡ last u y = rw (f, g) at same in let impossible : ◌≡◌ {A = ℕ} 0 1 = cc in absurd (omega arith)))
        (λ f. let other : none ≡ last u y = rw f at same in let impossible : ◌≡◌ {A = ℕ} 0 1 = cc in absurd (omega arith))
    by_load (last u' y') is same in_rest = let (j, within, at) = in_rest (is ∙ same) in (suc j, omega arith, at)

-- A symbol of which no event has ended by a tick and that a slot holds at that tick was there at the start.
from_no_event : (job : Job) (events : List Event) (t q x : ℕ) → (x ≡ free → ⊥)
    → ((j : ℕ) → j < length events → brings job events t x j ≡ false) → (l : LastLoad) → last_load q t events ≡ l
    → leaves (get_or job.starting q 0) job.load_time t l ≡ x → get_or job.starting q 0 ≡ x
from_no_event job events t q x symbol never none is holds = holds
from_no_event job events t q x symbol never (last u y) is holds =
    by_test (leb (u + job.load_time) t)
    (λ e.
    let here : y ≡ x = rw e at holds in
    let (j, within, at) = last_in q t u y events is in
    let brought : brings job events t x j ≡ true = rw (at, eq-eqb y x here, e) in
    let z : ◌≡◌ {A = ℕ} 0 1 = let b : true ≡ false = sym brought ∙ never j within in cc in
    absurd (omega arith))
    (λ e. let unheld : free ≡ x = rw e at holds in absurd (symbol (sym unheld)))

-- A draw whose symbol no event has brought is of a symbol that was in a slot at the start.
pub from_the_start : (asked : Call) (list : List ℕ) (draw : ℕ) (account : Account) → Explains asked list draw account
    → account.brought ≡ None
    → (q : ℕ) × (q < (job_of asked).slots) × (get_or (job_of asked).starting q 0 ≡ get_or (draws_of asked) draw 0)
from_the_start asked list draw account r start_is =
    let job : Job = job_of asked in
    let events : List Event = events_of list in
    let x : ℕ = get_or (draws_of asked) draw 0 in
    let t : ℕ = get_or r.ticks draw 0 in
    let q : ℕ = get_or r.slots draw 0 in
    let p : Proper job = proper asked _ r.right.job_taken in
    let d : DrawnAt job events (from r.ticks draw) t q x = r.right.sheet.drawn draw r.within in
    let is : last_of (brings job events t x) Some None (length events) ≡ None =
    sym (ap (λ (a : Account). a.brought) r.accounts) ∙ start_is in (
      q,
      d.slot,
      from_no_event job events t q x (absent_at free (draws_of asked) p.drawable draw r.within)
          (none_of _ (last_such Some None (brings job events t x) (length events)) is) (last_load q t events) refl d.holds,
    )
  where
    none_of : {holds : ℕ → Bool} {m : ℕ} (it : Option ℕ) → LastSuch holds Some None m it → it ≡ None
        → (j : ℕ) → j < m → holds j ≡ false
    none_of it (such e within there none_later is) from_start = let z : ◌≡◌ {A = ℕ} 0 1 = cc in absurd (omega arith)
    none_of it (no_such none_holds is) from_start = none_holds
