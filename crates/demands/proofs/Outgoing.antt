-- What goes out with a load of conservative is what goes out with the same load of opt: with equally many loads begun and none under way, the
-- two have the same in their slots.
use Prim.Native.Nat.{ℕ, ◌+◌, ◌-◌, ◌<◌, ◌≤◌}
use native.Mathlib.Omega.{arith}
use mathlib.Core.Path.{◌≡◌, refl, sym, ap, ◌∙◌}
use mathlib.Core.Bool.{true, false}
use mathlib.Core.List.{List, [], ◌∷◌, ◌++◌, map, append-nil, append_assoc}
use lib.ListN.{length, take, drop, set}
use lib.Seq.{set-set, take_at, take-add}
use lib.Dec.{leb}
use borrow.Author.Tests.{leb-true, leb-false}
use Rattle.std.specs.Prelude.{Option, Some, None, Ok}
use Rattle.rules.specs.declared.Load.{Load}
use Rattle.rules.specs.declared.Loading.{Loading}
use Rattle.rules.specs.declared.Loading.TheVariants.{Idle, Under}
use Rattle.rules.specs.Job.{Job, Call, free, unrolled, job_of}
use Rattle.rules.specs.LoadList.{last_tick}
use Rattle.rules.specs.Display.{load, State, Rule, Loaded, loaded, going, start, land, idle, finished, run}
use Rattle.rules.specs.Plans.{opt, run_plan, begun_in, rule_of}
use Rattle.rules.specs.Refusals.{read_call}
use Rattle.laws.proofs.Cases.{by_test}
use Rattle.laws.proofs.Jobs.{Proper, proper}
use Rattle.laws.proofs.Rows.{map_snoc}
use Rattle.laws.proofs.Moves.{Moves, reached}
use Rattle.laws.proofs.Runs.{on_the_way, run_longer}
use Rattle.laws.proofs.Counts.{counted}
use Rattle.laws.proofs.Sane.{settled}
use Rattle.plan_laws.proofs.States.{settled_landed}
use Rattle.plan_laws.proofs.Keeping.{Done}
use Rattle.plan_laws.proofs.Rising.{Rising}
use Rattle.plan_laws.proofs.OnDemand.{opt_done}
use Rattle.plan_laws.proofs.Conservative.{load_of, Asked, asked}
use Rattle.demands.proofs.ListWords.{same_going}

-- What some loads leave in the slots, one after the other, once all have ended.
unfoldable leaves : List ℕ → List (Option Load) → List ℕ
leaves slots [] = slots
leaves slots (None ∷ later) = leaves slots later
leaves slots (Some this ∷ later) = leaves (set slots this.slot this.symbol) later

-- One load more.
leaves_snoc : (slots : List ℕ) (l : List (Option Load)) (q x : ℕ) → leaves slots (l ++ (Some (load q x) ∷ [])) ≡ set (leaves slots l) q x
unfolding leaves
leaves_snoc slots [] q x = refl
leaves_snoc slots (None ∷ l) q x = leaves_snoc slots l q x
leaves_snoc slots (Some this ∷ l) q x = leaves_snoc (set slots this.slot this.symbol) l q x

-- Whatever the rule, the slots, with the load under way counted as landed, are what the loads begun leave of the starting symbols.
module _ (job : Job) (rule : Rule) where
  abbrev Left : State → Type 0
  Left s = settled s.loading s.slots ≡ leaves job.starting (map load_of s.begun)

  left_moves : Moves job rule Left Left Left
  left_moves =
      record {
        lands = λ s more h. settled_landed s.loading s.slots ∙ h;
        passes = λ s more a h. h;
        begins = λ q x s b h.
            let still : settled s.loading s.slots ≡ s.slots = ap (λ (l : Loading). settled l s.slots) b.quiet in
            set-set s.slots q free x
            ∙ ap (λ (l : List ℕ). set l q x) (sym still ∙ h)
            ∙ sym (leaves_snoc job.starting (map load_of s.begun) q x)
            ∙ ap (leaves job.starting) (sym (map_snoc load_of s.begun (loaded s.tick s.next q x)));
        draws = λ q s d h. h;
        waits = λ s w h. h;
      }

  left : (t : ℕ) (s : State) → run job rule t (start job) ≡ going s → Left s
  left t s e = reached job rule Left Left Left left_moves t (start job) s (unfold leaves in refl) e

-- With no load under way there is nothing to count as landed.
settled_quiet : (loading : Loading) (slots : List ℕ) → idle loading ≡ true → settled loading slots ≡ slots
settled_quiet Idle slots e = refl
settled_quiet (Under t q x) slots e = let impossible : ◌≡◌ {A = ℕ} 0 1 = cc in absurd (omega arith)

-- In a tick in which none is under way they are what the loads begun leave.
slots_left : (job : Job) (rule : Rule) (t : ℕ) (s : State) → run job rule t (start job) ≡ going s → idle (land s).loading ≡ true
    → (land s).slots ≡ leaves job.starting (map load_of s.begun)
slots_left job rule t s e quiet =
    sym (settled_quiet (land s).loading (land s).slots quiet) ∙ settled_landed s.loading s.slots ∙ left job rule t s e

-- ---- Both begin opt's loads, in their order

-- What a run has begun later has what it had begun before at its front.
module _ (job : Job) (rule : Rule) (before : List Loaded) where
  abbrev Further : State → Type 0
  Further s = (later : List Loaded) × (s.begun ≡ before ++ later)

  further_moves : Moves job rule Further Further Further
  further_moves =
      record {
        lands = λ s more h. h;
        passes = λ s more a h. h;
        begins = λ q x s b h.
            let new : List Loaded = loaded s.tick s.next q x ∷ [] in
            (h.0 ++ new, ap (λ (l : List Loaded). l ++ new) h.1 ∙ append_assoc before h.0 new);
        draws = λ q s d h. h;
        waits = λ s w h. h;
      }

module _ (job : Job) (good : Proper job) where
  abbrev loads : List Loaded
  loads = begun_in (run_plan job (opt job))

  abbrev InOrder : State → Type 0
  InOrder s = map load_of s.begun ≡ map load_of (take s.loads loads)

  -- In opt's run the loads begun so far are the first of opt's, slot for slot and symbol for symbol.
  opt_in_order : (t : ℕ) (s : State) → run job (opt job) t (start job) ≡ going s → InOrder s
  opt_in_order t s e =
      let d : Done job (opt job) Rising = opt_done job good in
      let is : loads ≡ d.last.begun = ap begun_in d.ran in
      let count : length s.begun ≡ s.loads = (counted job (opt job) good t s e).begun_all in
      let (later, front) = by_test (leb t last_tick) (sooner d) (over d) in
      ap (map load_of) (sym (take_at s.begun later s.loads count)) ∙ ap (λ (l : List Loaded). map load_of (take s.loads l)) (sym front ∙ sym is)
    where
      sooner : (d : Done job (opt job) Rising) → leb t last_tick ≡ true → (later : List Loaded) × (d.last.begun ≡ s.begun ++ later)
      sooner d f =
          let few : t ≤ last_tick = leb-true t last_tick f in
          let whole : t + (last_tick - t) ≡ last_tick = omega arith in
          let (z, here, onward) =
          on_the_way job (opt job) t (last_tick - t) (start job) d.last (ap (λ (n : ℕ). run job (opt job) n (start job)) whole ∙ d.ran) in
          let same : z ≡ s = same_going z s (sym here ∙ e) in
          reached job (opt job) _ _ _ (further_moves job (opt job) s.begun) (last_tick - t) s d.last ([], sym (append-nil s.begun))
          (ap (run job (opt job) (last_tick - t)) (sym same) ∙ onward)

      over : (d : Done job (opt job) Rising) → leb t last_tick ≡ false → (later : List Loaded) × (d.last.begun ≡ s.begun ++ later)
      over d f =
          let many : last_tick < t = leb-false t last_tick f in
          let same : d.last ≡ s =
          same_going d.last s (sym (run_longer job (opt job) last_tick t (start job) d.last (omega arith) d.ran (ap finished d.over)) ∙ e) in
          ([], ap (λ (z : State). z.begun) same ∙ sym (append-nil s.begun))

  -- In conservative's run they are so too.
  conservative_moves : Moves job (rule_of job 1) InOrder InOrder InOrder
  conservative_moves =
      record {
        lands = λ s more h. h;
        passes = λ s more a h. h;
        begins = λ q x s b h.
            let a : Asked (drop s.loads loads) s q x = asked (drop s.loads loads) s q x b.asks in
            let one : take (s.loads + 1) loads ≡ take s.loads loads ++ (loaded a.t a.miss q x ∷ []) =
            take-add s.loads 1 loads ∙ ap (λ (l : List Loaded). take s.loads loads ++ take 1 l) a.head in
            map_snoc load_of s.begun (loaded s.tick s.next q x)
            ∙ ap (λ (l : List (Option Load)). l ++ (Some (load q x) ∷ [])) h
            ∙ sym (ap (map load_of) one ∙ map_snoc load_of (take s.loads loads) (loaded a.t a.miss q x));
        draws = λ q s d h. h;
        waits = λ s w h. h;
      }

-- With equally many loads begun and none under way, conservative and opt have the same in each slot. So the symbol that goes out with a load
-- of conservative is the one that goes out with that load of opt.
pub same_outgoing : (what : Call) → read_call what ≡ Ok (unrolled what) → (t u : ℕ) (s o : State)
    → run (job_of what) (rule_of (job_of what) 1) t (start (job_of what)) ≡ going s
    → run (job_of what) (rule_of (job_of what) 2) u (start (job_of what)) ≡ going o
    → s.loads ≡ o.loads
    → idle (land s).loading ≡ true
    → idle (land o).loading ≡ true
    → (land s).slots ≡ (land o).slots
same_outgoing what taken t u s o ran opt_ran count quiet opt_quiet =
    let job : Job = job_of what in
    let good : Proper job = proper what _ taken in
    let one : InOrder job good s =
    reached job (rule_of job 1) _ _ _ (conservative_moves job good) t (start job) s refl ran in
    let other : InOrder job good o = opt_in_order job good u o opt_ran in
    let same : map load_of s.begun ≡ map load_of o.begun = one ∙ ap (λ (n : ℕ). map load_of (take n (loads job good))) count ∙ sym other in
    slots_left job (rule_of job 1) t s ran quiet
    ∙ ap (leaves job.starting) same
    ∙ sym (slots_left job (rule_of job 2) u o opt_ran opt_quiet)
