-- When a run is not refused: every load that its rule asks for may begin, and no wait is an endless one.
use Prim.Native.Nat.{ℕ, zero, suc, ◌<◌}
use mathlib.Core.Path.{◌≡◌, refl, ap}
use mathlib.Core.Bool.{Bool, false, cond}
use mathlib.Core.List.{List}
use lib.ListN.{length}
use lib.Dec.{eqb}
use Rattle.std.specs.Prelude.{Option, Some, None}
use Rattle.rules.specs.declared.Load.{Load}
use Rattle.rules.specs.declared.Loading.{Loading}
use Rattle.rules.specs.declared.Loading.TheVariants.{Idle, Under}
use Rattle.rules.specs.declared.Happening.TheVariants.{Draw, Wait}
use Rattle.rules.specs.Basics.{place, stands}
use Rattle.rules.specs.Job.{Job}
use Rattle.rules.specs.Order.{Verdict, clear, first_of}
use Rattle.rules.specs.Display.{load, State, Rule, going, land, begin, load_tests, unless, beginning, awaited, cause_of, happening_of, moved, stuck, happened}
use Rattle.rules.specs.Display.{tick, finished, run}
use Rattle.laws.proofs.Cases.{by_test}
use Rattle.laws.proofs.Moves.{Moves, begun_kept, tick_kept, is_more}

-- A tick is an endless wait only with no load under way, the draw's symbol in no slot, and nothing to come.
pub unstuck : (loading : Loading) (x : ℕ) (slots : List ℕ) (d : Bool) → (loading ≡ Idle → stands x slots ≡ false → d ≡ false)
    → stuck (cond (stands x slots) (Draw (place x slots)) (Wait (cause_of loading x))) d ≡ false
unstuck Idle x slots d h = by_test (stands x slots) (λ e. rw e) (λ e. rw e (h refl e))
unstuck (Under left q y) x slots d h =
    by_test (stands x slots) (λ e. rw e) (λ e. rw e (by_test (eqb x y) (λ f. rw f) (λ f. rw f)))

-- What the rule must see to: a load that it asks for is not refused, and with no load under way it lets no draw wait for nothing.
pub record Goes (job : Job) (rule : Rule) (L B : State → Type 0) : Type 0 where
  pub loads : (q x : ℕ) (s : State) → 0 < length s.rest → rule.asks s ≡ Some (load q x) → L s → first_of (load_tests job q x s) ≡ clear
  pub waits : (s : State) → 0 < length s.rest → stands (awaited s) s.slots ≡ false → s.loading ≡ Idle → B s → rule.done s ≡ false

module _ (job : Job) (rule : Rule) (P L B : State → Type 0) (keeps : Moves job rule P L B)
    (goes : Goes job rule L B) where
  begins_at_all : (b : Option Load) (s : State) → rule.asks s ≡ b → 0 < length s.rest → L s → (s' : State) × (beginning job b s ≡ going s')
  unfolding beginning
  begins_at_all None s a more l = (s, refl)
  begins_at_all (Some this) s a more l =
      let begun : State = begin job this.slot this.symbol s in
      (begun, ap (λ (v : Verdict). unless v (going begun)) (goes.loads this.slot this.symbol s more a l))

  happens_at_all : (s : State) → 0 < length s.rest → B s → (s' : State) × (happened (happening_of s) (rule.done s) s ≡ going s')
  unfolding happened
  happens_at_all s more b =
      (moved (happening_of s) s, rw (unstuck s.loading (awaited s) s.slots (rule.done s) (λ i t. goes.waits s more t i b)))

  tick_goes : (s : State) → 0 < length s.rest → P s → (s' : State) × (tick job rule s ≡ going s')
  unfolding tick
  tick_goes s more p =
      let l : L (land s) = keeps.lands s more p in
      let (b, began) = begins_at_all (rule.asks (land s)) (land s) refl more l in
      let (more', h) = begun_kept job rule P L B P keeps (rule.asks (land s)) (land s) b refl more l began in
      let (s', ended) = happens_at_all b more' h in
      (s', rw began ended)

  -- Then a run comes to a state after every number of ticks.
  pub run_goes : (t : ℕ) (s : State) → P s → (s' : State) × (run job rule t s ≡ going s')
  unfolding run
  run_goes zero s p = (s, refl)
  run_goes (suc t) s p =
      by_test (finished s.rest) (λ f. (s, rw f))
      (λ f.
      let more : 0 < length s.rest = is_more s.rest f in
      let (s₁, first) = tick_goes s more p in
      let (s', later) = run_goes t s₁ (tick_kept job rule P L B P keeps s s₁ more p first) in
      (s', rw (f, first) later))
