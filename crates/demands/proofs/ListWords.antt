-- The list of the loads that a run began goes tick for tick through the run's own states, and asks at each tick for what the run asked for.
use Prim.Native.Nat.{ℕ, zero, suc, ◌+◌, ◌-◌, ◌<◌, ◌≤◌}
use native.Mathlib.Omega.{arith}
use mathlib.Core.Path.{◌≡◌, refl, sym, ap, subst, ◌∙◌}
use mathlib.Core.Bool.{true, false}
use mathlib.Core.List.{List, [], ◌∷◌, ◌++◌, map}
use lib.ListN.{length, drop, length-map, drop_of_length-le}
use lib.Seq.{drop-append-le, drop_at}
use lib.Dec.{leb}
use borrow.Author.Tests.{eq-eqb, ne_eqb, leb-true, leb-false}
use Rattle.std.specs.Prelude.{Option, Some, None}
use Rattle.rules.specs.declared.Load.{Load}
use Rattle.rules.specs.declared.Happening.{Happening}
use Rattle.rules.specs.declared.Happening.TheVariants.{Draw, Wait}
use Rattle.rules.specs.Job.{Job}
use Rattle.rules.specs.declared.Event.{Event}
use Rattle.rules.specs.LoadList.{event}
use Rattle.rules.specs.Display.{State, Rule, Loaded, going, start, land, beginning, happening_of, moved, asked, tick, finished, run}
use Rattle.rules.specs.Refusals.{due, follow, event_of}
use Rattle.laws.proofs.Cases.{by_test}
use Rattle.laws.proofs.Jobs.{Proper}
use Rattle.laws.proofs.Rows.{map_snoc, length-snoc}
use Rattle.laws.proofs.Moves.{Moves, reached, beginning_going}
use Rattle.laws.proofs.Runs.{run_finished, run_longer, on_the_way}
use Rattle.laws.proofs.Counts.{counted}
use Rattle.demands.proofs.RunWords.{Ticked, ticked, one_tick, one_further}

-- ---- What a run has begun tells what it asked for

-- An event that comes later changes nothing of what is due now.
due_snoc : (l : List Event) (now t q x : ℕ) → now < t → due (l ++ (event t q x ∷ [])) now ≡ due l now
unfolding due
due_snoc [] now t q x later = rw (ne_eqb t now (λ e. omega arith))
due_snoc (this ∷ l) now t q x later = refl

-- A draw and a wait begin nothing and take a tick.
moved_begun : (h : Happening) (s : State) → (moved h s).begun ≡ s.begun
moved_begun (Draw q) s = refl
moved_begun (Wait cause) s = refl

moved_tick : (h : Happening) (s : State) → (moved h s).tick ≡ s.tick + 1
moved_tick (Draw q) s = refl
moved_tick (Wait cause) s = refl

-- Of the loads begun by a later tick, those after the first n say what began at tick `now`.
record Told (n now : ℕ) (b : Option Load) (tick : ℕ) (begun : List Loaded) : Type 0 where
  says : due (drop n (map event_of begun)) now ≡ b
  some : n ≤ length begun
  later : now < tick

module _ (job : Job) (rule : Rule) where
  abbrev ToldState : ℕ → ℕ → Option Load → State → Type 0
  ToldState n now b s = Told n now b s.tick s.begun

  -- What begins later leaves it so.
  told_moves : (n now : ℕ) (b : Option Load) → Moves job rule (ToldState n now b) (ToldState n now b) (ToldState n now b)
  told_moves n now b =
      record {
        lands = λ s more h. h;
        passes = λ s more a h. h;
        begins = λ q x s f h.
            record {
              says =
                  let few : n ≤ length (map event_of s.begun) = rw (length-map s.begun event_of) h.some in
                  rw (map_snoc, drop-append-le n (map event_of s.begun) _ few)
                  (due_snoc (drop n (map event_of s.begun)) now s.tick q x h.later ∙ h.says);
              some = rw length-snoc (omega (arith, h.some));
              later = h.later;
            };
        draws = λ q s d h. record { says = h.says; some = h.some; later = omega (arith, h.later) };
        waits = λ s w h. record { says = h.says; some = h.some; later = omega (arith, h.later) };
      }

  -- It is so after the tick itself.
  told_begun : (s after : State) (b : Option Load) → length s.begun ≡ s.loads → beginning job b (land s) ≡ going after
      → Told s.loads s.tick b (after.tick + 1) after.begun
  unfolding beginning due
  told_begun s after None count e =
      let same : land s ≡ after = cc in
      subst (λ (z : State). Told s.loads s.tick None (z.tick + 1) z.begun) same
      (record {
        says =
            let all : length (map event_of s.begun) ≤ s.loads = omega (arith, length-map s.begun event_of) in
            rw (drop_of_length-le (map event_of s.begun) {i = s.loads} all);
        some = omega arith;
        later = omega arith;
      })
  told_begun s after (Some this) count e =
      subst (λ (z : State). Told s.loads s.tick (Some this) (z.tick + 1) z.begun) (beginning_going job this.slot this.symbol (land s) after e).1
      (record {
        says = rw (map_snoc, drop_at (map event_of s.begun) _ s.loads (length-map s.begun event_of ∙ count), eq-eqb s.tick s.tick refl);
        some = rw length-snoc (omega arith);
        later = omega arith;
      })

  -- So at each tick the list of all that the run begins asks for what the run asks for.
  told : (t : ℕ) (s s' last : State) → length s.begun ≡ s.loads → tick job rule s ≡ going s' → run job rule t s' ≡ going last
      → asked (follow (map event_of last.begun)) s ≡ asked rule s
  told t s s' last count first later =
      let k : Ticked job rule s s' = ticked job rule s s' first in
      let after : State = k.after in
      let now : ToldState s.loads s.tick (asked rule s) s' =
      subst (ToldState s.loads s.tick (asked rule s)) k.to
      (rw (moved_tick (happening_of after) after, moved_begun (happening_of after) after) (told_begun s after (asked rule s) count k.began)) in
      (reached job rule _ _ _ (told_moves s.loads s.tick (asked rule s)) t s' last now later).says

-- ---- The same states

-- Runs that are going and equal are in the same state.
pub same_going : (s s' : State) → going s ≡ going s' → s ≡ s'
same_going s s' e = cc

-- Two ticks from the same state that were not refused and that asked for the same come to the same state.
same_tick : (job : Job) (one other : Rule) (s s' s'' : State) → asked one s ≡ asked other s → tick job one s ≡ going s'
    → tick job other s ≡ going s'' → s' ≡ s''
same_tick job one other s s' s'' asks e f =
    let k : Ticked job one s s' = ticked job one s s' e in
    let l : Ticked job other s s'' = ticked job other s s'' f in
    let same : k.after ≡ l.after =
    same_going k.after l.after (sym k.began ∙ ap (λ (b : Option Load). beginning job b (land s)) asks ∙ l.began) in
    sym k.to ∙ ap (λ (z : State). moved (happening_of z) z) same ∙ l.to

module _ (job : Job) (proper : Proper job) (rule : Rule) (most : ℕ) (last : State) (ran : run job rule most (start job) ≡ going last)
    (done : finished last.rest ≡ true) where
  -- A state with draws left is reached before the run is over.
  before_end : (t : ℕ) (s : State) → run job rule t (start job) ≡ going s → finished s.rest ≡ false → t < most
  before_end t s e f =
      by_test (leb most t)
      (λ g.
      let same : last ≡ s = same_going last s (sym (run_longer job rule most t (start job) last (leb-true _ _ g) ran done) ∙ e) in
      let z : true ≡ false = sym done ∙ ap (λ (y : State). finished y.rest) same ∙ f in
      absurd (let w : ◌≡◌ {A = ℕ} 0 1 = cc in omega arith))
      (leb-false _ _)

  -- So the run has a next tick there, and comes from it to its last state.
  next_tick : (t : ℕ) (s : State) → run job rule t (start job) ≡ going s → finished s.rest ≡ false
      → (s' : State) × (tick job rule s ≡ going s') × ((u : ℕ) × (run job rule u s' ≡ going last))
  next_tick t s e f =
      let less : t < most = before_end t s e f in
      let left : ℕ = most - (t + 1) in
      let whole : t + (1 + left) ≡ most = omega arith in
      let (z, here, onward) = on_the_way job rule t (1 + left) (start job) last (ap (λ (n : ℕ). run job rule n (start job)) whole ∙ ran) in
      let same : z ≡ s = same_going z s (sym here ∙ e) in
      let (s', one, later) = on_the_way job rule 1 left s last (ap (run job rule (1 + left)) (sym same) ∙ onward) in
      (s', one_tick job rule s s' f one, (left, later))

  -- The list of what the run began.
  abbrev list : Rule
  list = follow (map event_of last.begun)

  -- It asks at each tick for what the run asks for.
  pub same_asked : (t : ℕ) (s : State) → run job rule t (start job) ≡ going s → finished s.rest ≡ false → asked list s ≡ asked rule s
  same_asked t s e f =
      let (s', first, (u, later)) = next_tick t s e f in
      told job rule u s s' last (counted job rule proper t s e).begun_all first later

  -- After each number of ticks the run along the list is in the run's own state.
  pub same_states : (t : ℕ) (s : State) → run job list t (start job) ≡ going s → run job rule t (start job) ≡ going s
  unfolding run
  same_states zero s e = e
  same_states (suc t) s e =
      let split : t + 1 ≡ suc t = omega arith in
      let (z, here, one) = on_the_way job list t 1 (start job) s (rw split e) in
      let also : run job rule t (start job) ≡ going z = same_states t z here in
      by_test (finished z.rest)
      (λ f.
      let same : z ≡ s = same_going z s (sym (run_finished job list 1 z f) ∙ one) in
      run_longer job rule t (suc t) (start job) z (omega arith) also f ∙ ap going same)
      (λ f.
      let (s', first, onward) = next_tick t z also f in
      let same : s ≡ s' = same_tick job list rule z s s' (same_asked t z also f) (one_tick job list z s f one) first in
      ap (λ (n : ℕ). run job rule n (start job)) (sym split) ∙ one_further job rule t z s' f also first ∙ ap going (sym same))
