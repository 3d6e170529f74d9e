-- What a run along a list tells of a draw, tick by tick, is at each tick what the list alone says so far, and at the draw it is the
-- whole account.
use Prim.Native.Nat.{ℕ, suc, ◌+◌, ◌-◌, ◌<◌, ◌≤◌}
use native.Mathlib.Omega.{arith}
use mathlib.Core.Path.{◌≡◌, refl, sym, ap, subst, ◌∙◌}
use mathlib.Core.Bool.{false, cond}
use mathlib.Core.List.{List, [], ◌∷◌, ◌++◌, map}
use lib.ListN.{length, get_or, take}
use lib.Seq.{get_or_at}
use lib.Dec.{eqb}
use borrow.Author.Tests.{eqb-true, eqb-false, le-leb, lt-leb, eq-eqb, ne_eqb}
use Rattle.std.specs.Prelude.{Option, Some, None}
use Rattle.rules.specs.declared.Load.{Load}
use Rattle.rules.specs.declared.Parts.{Parts}
use Rattle.rules.specs.declared.Account.{Account}
use Rattle.rules.specs.Basics.{place, stands}
use Rattle.rules.specs.Job.{Job}
use Rattle.rules.specs.declared.Event.{Event}
use Rattle.rules.specs.LoadList.{event}
use Rattle.rules.specs.Display.{State, drawn, going, land, begun_by, beginning, awaited, cause_of, happening_of, draw, wait, moved}
use Rattle.rules.specs.Display.{asked, record_at, tick}
use Rattle.rules.specs.Refusals.{follow, tick_of}
use Rattle.rules.specs.Why.{no_waits, brought_in, taken_in, more_waits, waits_in, tick_told}
use Rattle.laws.proofs.Cases.{by_test}
use Rattle.laws.proofs.Rows.{map_snoc}
use Rattle.laws.proofs.Sane.{awaited_is}
use Rattle.laws.proofs.Along.{AlongLanded}
use Rattle.laws.proofs.Moves.{then_going, beginning_going, load_taken, happened_going, begun_kept}
use Rattle.demands.specs.Held.{held, from}
use Rattle.demands.specs.Fair.{nth_event}
use Rattle.demands.specs.Causes.{cause_at}
use Rattle.demands.specs.Reasons.{last_of, brings, takes, parts_from, account_by}
use Rattle.demands.proofs.Holding.{HoldingBetween, HoldingLanded, HoldingBegun}
use Rattle.demands.proofs.Causes.{list_says}
use Rattle.demands.proofs.Witness.{WitnessedState, witnessing_moves, from_snoc}
use Rattle.demands.proofs.Events.{event_due}
use Rattle.demands.proofs.LastOf.{one_further}
use Rattle.demands.proofs.Accounts.{false_too, brought_on, taken_on, all_brought, all_taken}

-- What is told of draw i, of symbol x, before it is made.
--     brought-is    the last of the events begun that has brought the symbol
--     taken_is      the last of them that took it out
--     none_yet      while another draw is the next one no wait counts
--     since         while it is the next one each tick since the draw before it was a wait, counted by its cause
pub record Telling (job : Job) (events : List Event) (i x now next loads : ℕ) (ticks : List ℕ)
    (brought : Option ℕ) (taken : Option ℕ) (waits : Parts) : Type 0 where
  pub brought_is : brought ≡ last_of (brings job events now x) Some None loads
  pub taken_is : taken ≡ last_of (takes job events now x) Some None loads
  pub none_yet : next < i → waits ≡ no_waits
  pub since : next ≡ i → waits ≡ parts_from job events x (from ticks i) (now - from ticks i)

-- The same of a state: within a tick, and between ticks as it will be once the coming tick has landed what ends in it.
abbrev pub TellingWithin : Job → List Event → ℕ → ℕ → State → Account → Type 0
TellingWithin job events i x s a =
    Telling job events i x s.tick s.next s.loads (map tick_of s.made) a.brought a.taken a.waits

abbrev pub landed_account : ℕ → State → Account → Account
landed_account x s a = record { brought = brought_in x s.loading s.loads a.brought; taken = a.taken; waits = a.waits }

-- What a tick makes of an account in its third step.
abbrev settled_account : ℕ → State → Account → Account
settled_account i s a =
    record {
      brought = a.brought;
      taken = a.taken;
      waits = cond (eqb s.next i) (waits_in 1 (happening_of s) a.waits) a.waits;
    }

-- Before draw i is made all that is told is as said above; once it is made, it is the account that the list alone gives.
pub data Told (job : Job) (events : List Event) (i x : ℕ) (s : State) (a : Account) : Type 0 where
  still : s.next ≤ i → TellingWithin job events i x s (landed_account x s a) → Told job events i x s a
  done : i < s.next → a ≡ account_by job events x (from (map tick_of s.made) i) (get_or (map tick_of s.made) i 0)
      → Told job events i x s a

-- What begins where it is not refused.
begun_is : (job : Job) (m : Option Load) (s b : State) → beginning job m s ≡ going b → (begun_by job m s ≡ b) × (s.next ≡ b.next)
unfolding beginning
begun_is job None s b e = let same : s ≡ b = cc in (same, ap (λ (z : State). z.next) same)
begun_is job (Some this) s b e =
    let (none, same) = beginning_going job this.slot this.symbol s b e in (same, ap (λ (z : State). z.next) same)

-- The tick after a draw is the first at which the next one is looked for.
from_new : (ticks : List ℕ) (t n : ℕ) → length ticks ≡ n → from (ticks ++ (t ∷ [])) (n + 1) ≡ t + 1
from_new ticks t n size = let e : n + 1 ≡ suc n = omega arith in rw (e, get_or_at ticks t [] 0 n size)

-- One tick that was waited more, and none at all.
one_more : (job : Job) (events : List Event) (x first t : ℕ) → first ≤ t
    → parts_from job events x first (t + 1 - first) ≡ more_waits 1 (cause_at job events t x) (parts_from job events x first (t - first))
unfolding parts_from
one_more job events x first t h =
    let e : t + 1 - first ≡ suc (t - first) = omega arith in
    let back : first + (t - first) ≡ t = omega arith in
    rw (e, back)

pub no_more : (job : Job) (events : List Event) (x first n : ℕ) → n ≡ 0 → no_waits ≡ parts_from job events x first n
unfolding parts_from
no_more job events x first n e = rw e

module _ (job : Job) (events : List Event) (some_load_time : 1 ≤ job.load_time) (i x : ℕ) where
  -- An event that begins has brought nothing yet, and takes out what its slot holds.
  telling_begins : (m : Option Load) (s b : State) (a : Account) → (follow events).asks s ≡ m → beginning job m s ≡ going b
      → HoldingLanded job events s → TellingWithin job events i x s a
      → TellingWithin job events i x b
      (record { brought = a.brought; taken = taken_in x m s.slots s.loads a.taken; waits = a.waits })
  unfolding beginning
  telling_begins None s b a asks began g h =
      let same : s ≡ b = cc in subst (λ (z : State). TellingWithin job events i x z a) same h
  telling_begins (Some this) s b a asks began g h =
      let (none, same) = beginning_going job this.slot this.symbol s b began in
      let (quiet, slot, symbol, nowhere) = load_taken job this.slot this.symbol s none in
      let along : AlongLanded job events s = g.0.1 in
      let is : nth_event events s.loads ≡ event s.tick this.slot this.symbol = event_due events s.loads s.tick this.slot this.symbol asks in
      let not_yet : brings job events s.tick x s.loads ≡ false =
      rw is (false_too (eqb this.symbol x) _ (lt-leb (s.tick + job.load_time) s.tick (omega arith))) in
      let there : get_or s.slots this.slot 0 ≡ held job (take s.loads events) s.tick this.slot = rw (← along.so_far) (g.1 this.slot slot) in
      let out : takes job events s.tick x s.loads ≡ eqb (get_or s.slots this.slot 0) x =
      rw (is, le-leb s.tick s.tick (omega arith), there) in
      subst
      (λ (z : State).
      TellingWithin job events i x z
      (record {
        brought = a.brought;
        taken = cond (eqb (get_or s.slots this.slot 0) x) (Some s.loads) a.taken;
        waits = a.waits;
      }))
      same
      (record {
        brought_is = rw (one_further Some None (brings job events s.tick x) s.loads, not_yet) h.brought_is;
        taken_is = rw (one_further Some None (takes job events s.tick x) s.loads, out, h.taken_is);
        none_yet = h.none_yet;
        since = h.since;
      })

  module _ (is_drawn : x ≡ get_or job.draws i 0) where
    -- A draw: of another symbol before draw i, or draw i itself, and then the account is told.
    told_draws : (q : ℕ) (s : State) (a : Account) → s.next ≤ i → HoldingBegun job events s → WitnessedState job events s
        → TellingWithin job events i x s a → Told job events i x (draw q s) a
    told_draws q s a early g w h =
        let ticks : map tick_of (s.made ++ (drawn s.tick q ∷ [])) ≡ map tick_of s.made ++ (s.tick ∷ []) =
        map_snoc tick_of s.made (drawn s.tick q) in
        by_test (eqb s.next i)
        (λ e.
        let now : s.next ≡ i = eqb-true _ _ e in
        let size : length (map tick_of s.made) ≡ i = w.all_ticks ∙ now in
        let made : a ≡ account_by job events x (from (map tick_of s.made) i) s.tick =
        λ k.
        record {
          brought = (h.brought_is
              ∙ sym (all_brought job events x s.tick s.next s.loads s.loading s.begun g.0.1)) k;
          taken = (h.taken_is
              ∙ sym (all_taken job events x s.tick s.next s.loads s.loading s.begun g.0.1)) k;
          waits = h.since now k;
        } in
        done (omega arith)
        (rw (ticks, from_snoc (map tick_of s.made) s.tick i (omega arith), get_or_at (map tick_of s.made) s.tick [] 0 i size) made))
        (λ e.
        let other : s.next ≡ i → ⊥ = eqb-false _ _ e in
        let sooner : s.next < i = omega arith in
        still (omega arith)
        (record {
          brought_is = brought_on job events x s.tick s.next s.loads s.rest s.slots s.loading s.begun
              a.brought g.0.0.0 g.0.0.1 g.0.1 h.brought_is;
          taken_is = h.taken_is ∙ taken_on job events x s.tick s.next s.loads s.loading s.begun g.0.0.1 g.0.1;
          none_yet = λ before. h.none_yet sooner;
          since = λ next.
              let look : from (map tick_of s.made ++ (s.tick ∷ [])) i ≡ s.tick + 1 =
              rw (← next) (from_new (map tick_of s.made) s.tick s.next w.all_ticks) in
              h.none_yet sooner ∙ no_more job events x _ _ (rw (ticks, look) (omega arith));
        }))

    -- A wait: it counts where draw i is the next one.
    told_waits : (s : State) (a : Account) → s.next ≤ i → stands (awaited s) s.slots ≡ false
        → HoldingBegun job events s → WitnessedState job events s
        → TellingWithin job events i x s a → Told job events i x (wait s) (settled_account i s a)
    told_waits s a early unheld g w h =
        still early
        (record {
          brought_is = brought_on job events x s.tick s.next s.loads s.rest s.slots s.loading s.begun
              a.brought g.0.0.0 g.0.0.1 g.0.1 h.brought_is;
          taken_is = h.taken_is ∙ taken_on job events x s.tick s.next s.loads s.loading s.begun g.0.0.1 g.0.1;
          none_yet = λ before. rw (ne_eqb s.next i (λ e. omega arith)) (h.none_yet before);
          since = λ now.
              let looked : from (map tick_of s.made) i ≤ s.tick = rw now at w.since in
              let symbol : awaited s ≡ x =
              awaited_is job s.next s.rest s.slots s.loading g.0.0.0
              ∙ ap (λ (n : ℕ). get_or job.draws n 0) now
              ∙ sym is_drawn in
              let cause : cause_of s.loading (awaited s) ≡ cause_at job events s.tick x =
              ap (cause_of s.loading) symbol ∙ list_says job events s g x in
              rw (
                eq-eqb s.next i now,
                unheld,
                one_more job events x (from (map tick_of s.made) i) s.tick looked,
                cause,
                h.since now,
              );
        })

    -- So it is with whatever happens in a tick.
    told_happens : (s s' : State) (a : Account) → s.next ≤ i → HoldingBegun job events s → WitnessedState job events s
        → TellingWithin job events i x s a → moved (happening_of s) s ≡ s' → Told job events i x s' (settled_account i s a)
    told_happens s s' a early g w h same =
        by_test (stands (awaited s) s.slots)
        (λ t.
        let to : draw (place (awaited s) s.slots) s ≡ s' = rw t at same in
        let waits : cond (eqb s.next i) a.waits a.waits ≡ a.waits = by_test (eqb s.next i) (λ e. rw e) (λ e. rw e) in
        rw (t, waits) (subst (λ (z : State). Told job events i x z a) to (told_draws (place (awaited s) s.slots) s a early g w h)))
        (λ t.
        let to : wait s ≡ s' = rw t at same in
        subst (λ (z : State). Told job events i x z (settled_account i s a)) to (told_waits s a early t g w h))

    -- One tick: what the run tells in it is what the list says.
    pub told_tick : (s s' : State) (a : Account) → s.next ≤ i → 0 < length s.rest
        → HoldingBetween job events s × WitnessedState job events s → TellingWithin job events i x s (landed_account x s a)
        → tick job (follow events) s ≡ going s'
        → Told job events i x s' (tick_told i x (record_at job (follow events) s) s a)
    unfolding tick
    told_tick s s' a early more known h e =
        let moves = witnessing_moves job events some_load_time in
        let landed = moves.lands s more known in
        let (b, began, ended) = then_going _ _ s' e in
        let (still_more, (g, w)) = begun_kept job (follow events) _ _ _ _ moves (asked (follow events) s) (land s) b refl more landed began in
        let within = telling_begins (asked (follow events) s) (land s) b (landed_account x s a) refl began landed.0 h in
        let (is, next) = begun_is job (asked (follow events) s) (land s) b began in
        let (hope, same) = happened_going (happening_of b) ((follow events).done b) b s' ended in
        subst (Told job events i x s')
        (λ k.
        record {
          brought = brought_in x s.loading s.loads a.brought;
          taken = taken_in x (asked (follow events) s) (land s).slots s.loads a.taken;
          waits = cond (eqb (sym next k) i) (waits_in 1 (happening_of (sym is k)) a.waits) a.waits;
        })
        (told_happens b s' _ (omega arith) g w within same)
