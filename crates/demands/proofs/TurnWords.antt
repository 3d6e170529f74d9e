-- What conservative asks for in a sane state is what the words say, and the only thing that fits them: the next of opt's loads by opt's own words.
use Prim.Native.Nat.{ℕ, suc, ◌+◌, ◌-◌, ◌<◌, ◌≤◌}
use native.Mathlib.Omega.{arith}
use mathlib.Core.Path.{◌≡◌, refl, sym, ap, ◌∙◌}
use mathlib.Core.Bool.{true}
use mathlib.Core.List.{List, ◌∷◌, map}
use lib.ListN.{length, get_or, drop, length-map, length-drop, get_or-map}
use lib.Seq.{get_or-drop}
use borrow.Author.Tests.{le-leb}
use Rattle.std.specs.Prelude.{Some}
use Rattle.rules.specs.Basics.{place}
use Rattle.rules.specs.Job.{Job}
use Rattle.rules.specs.LoadList.{last_tick}
use Rattle.rules.specs.Display.{load, State, Rule, Loaded, loaded, going, start, idle, run}
use Rattle.rules.specs.Plans.{earliest, opt, run_plan, begun_in, rule_of}
use Rattle.laws.proofs.Jobs.{Proper}
use Rattle.laws.proofs.Rows.{map_snoc, Each, each_snoc}
use Rattle.laws.proofs.Sane.{SaneState, SaneMoves, sane_start, reached_sanely}
use Rattle.plan_laws.proofs.Keeping.{Done}
use Rattle.plan_laws.proofs.Rising.{Rising}
use Rattle.plan_laws.proofs.OnDemand.{opt_done}
use Rattle.plan_laws.proofs.Conservative.{Asked, asked}
use Rattle.demands.specs.InWords.{Opt, ByWords, Conservative}
use Rattle.demands.proofs.TickWords.{Agrees, opt_agrees, until_undrawn, undrawn_until}
use Rattle.demands.proofs.RunWords.{keeps_by_words, agrees_keeps, by_words_one}

-- ---- Every load of a run is begun for a draw of the job

-- The draw number at which a load was begun.
abbrev load_draw : Loaded → ℕ
load_draw (loaded t d q x) = d

module _ (job : Job) where
  abbrev ForDraws : List Loaded → Type 0
  ForDraws begun = Each (λ d. d ≤ length job.draws) (map load_draw begun)

  for_draws_moves : (rule : Rule) → SaneMoves job rule (λ s. ForDraws s.begun) (λ s. ForDraws s.begun) (λ s. ForDraws s.begun)
  for_draws_moves rule =
      record {
        lands = λ s more g h. h;
        passes = λ s more a g h. h;
        begins = λ q x s b g h. rw map_snoc (each_snoc (λ d. d ≤ length job.draws) (map load_draw s.begun) s.next h g.within);
        draws = λ q s d g h. h;
        waits = λ s w g h. h;
      }

  for_draws : (rule : Rule) → Proper job → (t : ℕ) (s : State) → run job rule t (start job) ≡ going s → ForDraws s.begun
  for_draws rule proper t s e = reached_sanely job rule _ _ _ proper (for_draws_moves rule) (λ i h. absurd (omega arith)) t s e

  -- So it is with the one that comes after some of them.
  one_for_draws : (n : ℕ) (begun : List Loaded) (t d q x : ℕ) (later : List Loaded) → drop n begun ≡ loaded t d q x ∷ later
      → ForDraws begun → d ≤ length job.draws
  one_for_draws n begun t d q x later e h =
      let many : length begun - n ≡ suc (length later) = sym (length-drop n begun) ∙ ap length e in
      let none : Loaded = loaded 0 0 0 0 in
      let same : n + 0 ≡ n = omega arith in
      let there : get_or begun n none ≡ loaded t d q x =
      ap (λ (i : ℕ). get_or begun i none) (sym same) ∙ sym (get_or-drop n begun 0 none) ∙ ap (λ (l : List Loaded). get_or l 0 none) e in
      let read : get_or (map load_draw begun) n 0 ≡ d = get_or-map load_draw begun n none ∙ ap load_draw there in
      rw read at (h n (omega (arith, length-map begun load_draw)))

-- ---- The next load in turn

-- The first of the loads still to make is asked for where what goes out is not drawn before its miss.
in_turn : (left : List Loaded) (s : State) (t m q x : ℕ) (later : List Loaded) → left ≡ loaded t m q x ∷ later → idle s.loading ≡ true
    → m ≤ s.next + place (get_or s.slots q 0) s.rest → earliest left s ≡ Some (load q x)
in_turn left s t m q x later e quiet far =
    ap (λ (l : List Loaded). earliest l s) e ∙ rw (quiet, le-leb m (s.next + place (get_or s.slots q 0) s.rest) far)

module _ (job : Job) (proper : Proper job) where
  abbrev done : Done job (opt job) Rising
  done = opt_done job proper

  -- Opt's run is by opt's words, and no other is.
  opt_by_words : ByWords job (Opt job) (start job) done.last
  unfolding run
  opt_by_words =
      keeps_by_words job (opt job) (Opt job) (agrees_keeps job proper (opt job) (Opt job) (opt_agrees job proper))
      0 last_tick (start job) done.last refl done.ran done.over

  opt_only : (last : State) → ByWords job (Opt job) (start job) last → last ≡ done.last
  opt_only last w =
      by_words_one job proper (opt job) (Opt job) (opt_agrees job proper) (start job) last done.last (sane_start job proper) w opt_by_words

  -- Its loads are those of the run.
  begun_is : begun_in (run_plan job (opt job)) ≡ done.last.begun
  begun_is = ap begun_in done.ran

  -- What conservative asks for fits the words.
  conservative_says : (s : State) → SaneState job s → (q x : ℕ) → (rule_of job 1).asks s ≡ Some (load q x) → Conservative job s q x
  conservative_says s g q x e =
      let a : Asked (drop s.loads (begun_in (run_plan job (opt job)))) s q x = asked (drop s.loads (begun_in (run_plan job (opt job)))) s q x e in
      record {
        quiet = a.quiet;
        last = done.last;
        opt = opt_by_words;
        t = a.t;
        miss = a.miss;
        later = a.later;
        in_turn = ap (drop s.loads) (sym begun_is) ∙ a.head;
        not_before = until_undrawn job s.next s.rest s.slots s.loading g (get_or s.slots q 0) a.miss a.enough;
      }

  -- What fits the words is what it asks for.
  conservative_only : (s : State) → SaneState job s → (q x : ℕ) → Conservative job s q x → (rule_of job 1).asks s ≡ Some (load q x)
  conservative_only s g q x f =
      let same : f.last ≡ done.last = opt_only f.last f.opt in
      let head : drop s.loads done.last.begun ≡ loaded f.t f.miss q x ∷ f.later =
      ap (λ (z : State). drop s.loads z.begun) (sym same) ∙ f.in_turn in
      let most : f.miss ≤ length job.draws =
      one_for_draws job s.loads done.last.begun f.t f.miss q x f.later head
      (for_draws job (opt job) proper last_tick done.last done.ran) in
      in_turn (drop s.loads (begun_in (run_plan job (opt job)))) s f.t f.miss q x f.later
      (ap (drop s.loads) begun_is ∙ head) f.quiet
      (undrawn_until job s.next s.rest s.slots s.loading g (get_or s.slots q 0) f.miss most f.not_before)

  pub conservative_agrees : (s : State) → SaneState job s → 0 < length s.rest → Agrees (Conservative job s) ((rule_of job 1).asks s)
  conservative_agrees s g more = record { says = conservative_says s g; only = conservative_only s g }
