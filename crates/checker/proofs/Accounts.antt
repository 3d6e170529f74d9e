-- The account of a draw, as the code makes it turn by turn, is the account of the rules, tick by tick.
use Prim.Native.Nat.{ℕ, zero, suc, ◌+◌, ◌-◌, ◌≤◌, ◌<◌}
use native.Mathlib.Omega.{arith}
use mathlib.Core.Path.{◌≡◌, refl, sym, ap, ◌∙◌}
use mathlib.Core.Bool.{Bool, true, false, cond}
use mathlib.Core.List.{List}
use lib.ListN.{get_or, drop}
use lib.Dec.{eqb, ltb}
use borrow.Author.Tests.{eqb-true, eqb-false, lt-ltb, le-ltb}
use Rattle.std.specs.Prelude.{Option, Some, None}
use Rattle.rules.specs.declared.Load.{Load}
use Rattle.rules.specs.declared.Cause.{Cause}
use Rattle.rules.specs.declared.Cause.TheVariants.{Awaited, Another, Nothing}
use Rattle.rules.specs.declared.Happening.{Happening}
use Rattle.rules.specs.declared.Happening.TheVariants.{Draw, Wait}
use Rattle.rules.specs.declared.TickRecord.{TickRecord}
use Rattle.rules.specs.declared.Parts.{Parts}
use Rattle.rules.specs.declared.Account.{Account}
use Rattle.rules.specs.Basics.{place, stands}
use Rattle.rules.specs.Job.{Job}
use Rattle.rules.specs.declared.Event.{Event}
use Rattle.rules.specs.Display.{State, Rule, going, land, begun_by, beginning, awaited, cause_of, happening_of, wait, moved, record_of, record_at}
use Rattle.rules.specs.Display.{finished, tick}
use Rattle.rules.specs.Refusals.{due, follow, most_ticks}
use Rattle.rules.specs.Why.{brought_in, taken_in, more_waits, waits_in, tick_told, told}
use Rattle.laws.proofs.Cases.{by_test}
use Rattle.laws.proofs.Moves.{then_going, beginning_going, happened_going}
use Rattle.display.specs.View.{History, loading_of, view, onward}
use Rattle.display.specs.Moves.{nearer, landed_in}
use Rattle.display.specs.Still.{passed, waiting}
use Rattle.display.specs.Tick.{next_after}
use Rattle.display.specs.declared.state.Display.{Display}
use Rattle.display.proofs.Views.{nearer_lands, lands_so}
use Rattle.display.proofs.Stretches.{Quiet, quiet_tick, passed_none, one_further}
use Rattle.display.proofs.Going.{Going, rest_more, same_rest, absent}
use Rattle.checker.specs.Follow.{NothingDue}
use Rattle.checker.specs.Turn.{GoesOn}
use Rattle.checker.specs.Accounts.{going_out, taken_of, turn_told}
use Rattle.checker.proofs.Walks.{calm}

-- ---- What a load that ends in this tick brings

module _ (d : Display) (x : ℕ) (earlier : Option ℕ) where
  none_ends : (until q y : ℕ) → (until ≡ 1 → ⊥) → earlier ≡ brought_in x (loading_of until q y) d.loads earlier
  none_ends zero q y far = refl
  none_ends (suc zero) q y far = absurd (far refl)
  none_ends (suc (suc left)) q y far = refl

  pub brings_none : (d.remaining ≡ 1 → ⊥)
      → earlier ≡ brought_in x (loading_of d.remaining d.target d.incoming) d.loads earlier
  brings_none far = none_ends d.remaining d.target d.incoming far

-- ---- The waits of a stretch are of one cause

-- The cause goes by whether a load is under way, not by how long it still takes.
same_cause : (u v q y x : ℕ) → (u ≡ 0 → v ≡ 0) → (v ≡ 0 → u ≡ 0) → cause_of (loading_of u q y) x ≡ cause_of (loading_of v q y) x
same_cause zero zero q y x there back = refl
same_cause zero (suc v) q y x there back = let z : suc v ≡ 0 = there refl in absurd (omega arith)
same_cause (suc u) zero q y x there back = let z : suc u ≡ 0 = back refl in absurd (omega arith)
same_cause (suc u) (suc v) q y x there back = refl

-- The cause on record of a tick that is a wait is that of the display after it.
cause_of_wait : (s : State) (c : Cause) → happening_of s ≡ Wait c → c ≡ cause_of s.loading (awaited s)
cause_of_wait s c e = by_held (stands (awaited s) s.slots) e
  where
    by_held : (b : Bool) → cond b (Draw (place (awaited s) s.slots)) (Wait (cause_of s.loading (awaited s))) ≡ Wait c
        → c ≡ cause_of s.loading (awaited s)
    by_held true f = let z : ◌≡◌ {A = ℕ} 0 1 = cc in absurd (omega arith)
    by_held false f = cc

begun_is : (job : Job) (asked : Option Load) (s b : State) → beginning job asked s ≡ going b → b ≡ begun_by job asked s
unfolding beginning
begun_is job None s b e = cc
begun_is job (Some this) s b e = sym (beginning_going job this.slot this.symbol s b e).1

pub wait_cause : (job : Job) (rule : Rule) (s s' : State) (c : Cause) → tick job rule s ≡ going s' → (record_at job rule s).happening ≡ Wait c
    → c ≡ cause_of s'.loading (awaited s')
unfolding tick
wait_cause job rule s s' c ticks waits =
    let (b, began, ended) = then_going _ _ s' ticks in
    let is : b ≡ begun_by job (rule.asks (land s)) (land s) = begun_is job (rule.asks (land s)) (land s) b began in
    let here : happening_of b ≡ Wait c = ap happening_of is ∙ waits in
    let (open_end, to) = happened_going (happening_of b) (rule.done b) b s' ended in
    let later : wait b ≡ s' = ap (λ (h : Happening). moved h b) (sym here) ∙ to in
    cause_of_wait b c here ∙ ap (λ (z : State). cause_of z.loading (awaited z)) later

-- ---- Waits added to an account

-- The account after n waits of a cause, where draw i is awaited or is not.
abbrev pub waited_for : ℕ → ℕ → ℕ → Cause → Account → Account
waited_for i next n c a =
    record { brought = a.brought; taken = a.taken; waits = cond (eqb next i) (more_waits n c a.waits) a.waits }

no_more : (c : Cause) (p : Parts) → more_waits 0 c p ≡ p
no_more Awaited p = let e : p.own + 0 ≡ p.own = omega arith in rw e
no_more Another p = let e : p.another + 0 ≡ p.another = omega arith in rw e
no_more Nothing p = let e : p.nothing + 0 ≡ p.nothing = omega arith in rw e

more_more : (m n : ℕ) (c : Cause) (p : Parts) → more_waits n c (more_waits m c p) ≡ more_waits (m + n) c p
more_more m n Awaited p = let e : p.own + m + n ≡ p.own + (m + n) = omega arith in rw e
more_more m n Another p = let e : p.another + m + n ≡ p.another + (m + n) = omega arith in rw e
more_more m n Nothing p = let e : p.nothing + m + n ≡ p.nothing + (m + n) = omega arith in rw e

waited_none : (i next : ℕ) (c : Cause) (a : Account) → waited_for i next 0 c a ≡ a
waited_none i next c a =
    by_test (eqb next i) (λ t. rw (t, no_more c a.waits)) (λ t. rw t)

waited_more : (i next m n : ℕ) (c : Cause) (a : Account) → waited_for i next n c (waited_for i next m c a) ≡ waited_for i next (m + n) c a
waited_more i next m n c a = by_test (eqb next i) (λ t. rw (t, more_more m n c a.waits)) (λ t. rw t)

-- What the load under way is after ticks in which none ends.
still_under : (remaining m : ℕ) → ((j : ℕ) → j < m → remaining - j ≡ 1 → ⊥) → remaining - m ≡ 0 → remaining ≡ 0
still_under zero m far none = refl
still_under (suc left) m far none = absurd (far left (omega arith) (omega arith))

-- ---- The account of the rules, tick by tick

module _ (job : Job) (rule : Rule) (i x : ℕ) where
  -- Once the draw is made nothing is added.
  pub told_over : (t : ℕ) (s : State) (a : Account) → ltb i s.next ≡ true → told job rule i x t s a ≡ a
  unfolding told
  told_over zero s a over = refl
  told_over (suc t) s a over = rw over

  -- Before that a tick adds what it has on record.
  pub told_tick : (t : ℕ) (s s' : State) (a : Account) → ltb i s.next ≡ false → tick job rule s ≡ going s'
      → told job rule i x (suc t) s a ≡ told job rule i x t s' (tick_told i x (record_at job rule s) s a)
  unfolding told
  told_tick t s s' a before ticks = rw (before, ticks)

  -- No ticks at all add nothing, whatever is awaited.
  told_none : (slots : List ℕ) (h : History) (t : ℕ) (d : Display) (a : Account) (c : Cause)
      → told job rule i x (0 + t) (view slots h d) a ≡ told job rule i x t (view slots h (passed 0 d)) (waited_for i d.next 0 c a)
  told_none slots h t d a c =
      let all : 0 + t ≡ t = omega arith in
      ap (λ (n : ℕ). told job rule i x n (view slots h d) a) all
      ∙ ap (λ (e : Display). told job rule i x t (view slots h e) a) (sym (passed_none d))
      ∙ ap (told job rule i x t (view slots h (passed 0 d))) (sym (waited_none i d.next c a))

  module _ (slots : List ℕ) (h : History) (absent : stands (get_or h.rest 0 0) slots ≡ false) where
    abbrev cause_now : Display → Cause
    cause_now d = cause_of (loading_of (d.remaining - 1) d.target d.incoming) (get_or h.rest 0 0)

    -- A tick in which nothing but a wait comes up has nothing but the wait on record.
    quiet_record : (d : Display) → Quiet job rule slots h d
        → record_at job rule (view slots h d)
        ≡ record { begun = None; happening = Wait (cause_now d) }
    quiet_record d quiet =
        ap (λ (s : State). record_of (rule.asks s) (begun_by job (rule.asks s) s)) (sym (nearer_lands slots h d quiet.far))
        ∙ rw (quiet.asks, absent)

    quiet_told : (d : Display) (a : Account) (c : Cause) → Quiet job rule slots h d
        → c ≡ cause_of (loading_of d.remaining d.target d.incoming) (get_or h.rest 0 0)
        → tick_told i x (record_at job rule (view slots h d)) (view slots h d) a ≡ waited_for i d.next 1 c a
    quiet_told d a c quiet is =
        let far : d.remaining ≡ 1 → ⊥ = quiet.far in
        let still : cause_now d ≡ c =
        same_cause (d.remaining - 1) d.remaining d.target d.incoming (get_or h.rest 0 0)
        (λ none. by_test (eqb d.remaining 1) (λ t. absurd (far (eqb-true _ _ t))) (λ t. omega (arith, far)))
        (λ none. omega arith)
        ∙ sym is in
        ap (λ (on : TickRecord). tick_told i x on (view slots h d) a) (quiet_record d quiet)
        ∙ ap
        (λ (b : Option ℕ). record { brought = b; taken = a.taken; waits = cond (eqb d.next i) (more_waits 1 (cause_now d) a.waits) a.waits })
        (sym (brings_none d x a.brought far))
        ∙ ap (λ (z : Cause). waited_for i d.next 1 z a) still

    -- A stretch of such ticks adds as many waits of one cause.
    told_still : finished h.rest ≡ false → (m t : ℕ) (d : Display) (a : Account) (c : Cause) → ltb i d.next ≡ false
        → c ≡ cause_of (loading_of d.remaining d.target d.incoming) (get_or h.rest 0 0)
        → ((j : ℕ) → j < m → Quiet job rule slots h (passed j d))
        → told job rule i x (m + t) (view slots h d) a ≡ told job rule i x t (view slots h (passed m d)) (waited_for i d.next m c a)
    told_still more zero t d a c ahead is quiet = told_none slots h t d a c
    told_still more (suc m) t d a c ahead is quiet =
        let shifted : suc m + t ≡ m + suc t = omega arith in
        let one_more : m + 1 ≡ suc m = omega arith in
        let d' : Display = passed m d in
        let a' : Account = waited_for i d.next m c a in
        let same : c ≡ cause_of (loading_of (d.remaining - m) d.target d.incoming) (get_or h.rest 0 0) =
        is
        ∙ same_cause d.remaining (d.remaining - m) d.target d.incoming (get_or h.rest 0 0) (λ none. omega arith)
        (still_under d.remaining m (λ j less. (quiet j (omega arith)).far)) in
        ap (λ (n : ℕ). told job rule i x n (view slots h d) a) shifted
        ∙ told_still more m (suc t) d a c ahead is (λ j less. quiet j (omega arith))
        ∙ told_tick t (view slots h d') (view slots h (passed 1 d')) a' ahead
        (quiet_tick job rule slots h more absent d' (quiet m (omega arith)))
        ∙ ap (told job rule i x t (view slots h (passed 1 d')))
        (quiet_told d' a' c (quiet m (omega arith)) same
        ∙ waited_more i d.next m 1 c a
        ∙ ap (λ (n : ℕ). waited_for i d.next n c a) one_more)
        ∙ ap (λ (s : State). told job rule i x t s (waited_for i d.next (suc m) c a)) (one_further job rule slots h more absent m d)

  told_stretch : (slots : List ℕ) (h : History) (m t : ℕ) (d : Display) (a : Account) (c : Cause)
      → (0 < m → stands (get_or h.rest 0 0) slots ≡ false) → (0 < m → finished h.rest ≡ false) → ltb i d.next ≡ false
      → c ≡ cause_of (loading_of d.remaining d.target d.incoming) (get_or h.rest 0 0)
      → ((j : ℕ) → j < m → Quiet job rule slots h (passed j d))
      → told job rule i x (m + t) (view slots h d) a ≡ told job rule i x t (view slots h (passed m d)) (waited_for i d.next m c a)
  told_stretch slots h zero t d a c absent more ahead is quiet = told_none slots h t d a c
  told_stretch slots h (suc m) t d a c absent more ahead is quiet =
      told_still slots h (absent (omega arith)) (more (omega arith)) (suc m) t d a c ahead is quiet

-- ---- A turn of the code

above_zero : (n : ℕ) → (n ≡ 0 → ⊥) → 0 < n
above_zero zero some = absurd (some refl)
above_zero (suc n) some = omega arith

-- A draw that is made stays made.
past_next : (hp : Happening) (i next : ℕ) → i < next → i < next_after hp next
past_next (Draw q) i next made = omega arith
past_next (Wait c) i next made = made

-- What an event takes out is what its slot holds.
taken_so : (x : ℕ) (begun : Option Load) (slots : List ℕ) (loads : ℕ) (k : Option ℕ)
    → taken_in x begun slots loads k ≡ taken_of x begun (going_out begun slots) loads k
taken_so x None slots loads k = refl
taken_so x (Some this) slots loads k = refl

-- The waits of a tick and of the stretch after it are of one cause.
waits_so : (i next m : ℕ) (c : Cause) (hp : Happening) (p : Parts) → hp ≡ Wait c
    → cond (eqb next i) (more_waits m c (cond (eqb next i) (waits_in 1 hp p) p)) (cond (eqb next i) (waits_in 1 hp p) p)
    ≡ cond (eqb next i) (waits_in (1 + m) hp p) p
waits_so i next m c hp p is = by_test (eqb next i) (λ t. rw (t, is) (more_more 1 m c p)) (λ t. rw t)

module _ (job : Job) (events : List Event) (i x : ℕ) (held : List ℕ) (d : Display) (h : History)
    (g : Going job (follow events) (most_ticks job) held d h) (held' : List ℕ) (on : TickRecord) (later : Display)
    (t : GoesOn job events held held' d on later) where
  abbrev rule : Rule
  rule = follow events

  abbrev h' : History
  h' = onward d on h

  recorded : on ≡ record_at job rule (view held h d)
  recorded = t.on_record.recorded h g.rest

  leads_to : tick job rule (view held h d) ≡ going (view held' h' t.ticked)
  leads_to = sym (t.on_record.ticks.run h g.rest)

  begins : on.begun ≡ due (drop d.loads events) d.tick
  begins = ap (λ (r : TickRecord). r.begun) recorded

  landed : landed_in d held ≡ (land (view held h d)).slots
  landed = ap (λ (s : State). s.slots) (lands_so held (landed_in d held) d (nearer d) refl refl h)

  -- The tick, as the code tells it with no waits after it.
  tick_so : (out : ℕ) (a : Account) → out ≡ going_out (due (drop d.loads events) d.tick) (landed_in d held)
      → tick_told i x (record_at job rule (view held h d)) (view held h d) a ≡ turn_told i x d out on 1 a
  tick_so out a is =
      let same_out : out ≡ going_out on.begun (land (view held h d)).slots =
      is ∙ ap (going_out (due (drop d.loads events) d.tick)) landed
      ∙ ap (λ (b : Option Load). going_out b (land (view held h d)).slots) (sym begins) in
      ap (λ (r : TickRecord). tick_told i x r (view held h d) a) (sym recorded)
      ∙ rw (same_out, ← taken_so x on.begun (land (view held h d)).slots d.loads a.taken)

  abbrev many : ℕ
  many = t.rested.many

  one_more : t.ticked.tick ≡ d.tick + 1
  one_more = t.on_record.ticks.counts.tick

  later_tick : later.tick ≡ t.ticked.tick + many
  later_tick = ap (λ (e : Display). e.tick) t.rested.passes

  later_next : later.next ≡ next_after on.happening d.next
  later_next = ap (λ (e : Display). e.next) t.rested.passes ∙ t.on_record.ticks.counts.next

  quiets : (j : ℕ) → j < many → Quiet job rule held' h' (passed j t.ticked)
  quiets = calm job events held' h' t.ticked many t.rested.still

  -- What the waits after the tick rest on.
  goes_more : 0 < many → finished h'.rest ≡ false
  goes_more some =
      ap finished
      (same_rest job rule (most_ticks job) held d h g t.within t.early held' _ t.on_record.ticks (NothingDue events t.ticked) later t.rested
      (calm job events held' h' t.ticked) some)
      ∙ rest_more job.draws h.rest d.next g.rest t.within

  none_held : 0 < many → stands (get_or h'.rest 0 0) held' ≡ false
  none_held =
      absent job rule (most_ticks job) held d h g t.within t.early held' _ t.on_record.ticks (NothingDue events t.ticked) later t.rested
      (calm job events held' h' t.ticked)

  -- Once the draw is made a turn adds nothing.
  pub told_no_more : (a : Account) → i < d.next
      → told job rule i x (most_ticks job - d.tick) (view held h d) a ≡ told job rule i x (most_ticks job - later.tick) (view held' h' later) a
  told_no_more a made =
      let past : ltb i later.next ≡ true = lt-ltb i later.next (rw later_next (past_next on.happening i d.next made)) in
      told_over job rule i x (most_ticks job - d.tick) (view held h d) a (lt-ltb i d.next made)
      ∙ sym (told_over job rule i x (most_ticks job - later.tick) (view held' h' later) a past)

  -- Before that it adds what its ticks add.
  module _ (out : ℕ) (a : Account) (is : out ≡ going_out (due (drop d.loads events) d.tick) (landed_in d held))
      (awaited_yet : d.next ≤ i) where
    abbrev Adds : Type 0
    Adds =
        told job rule i x (most_ticks job - d.tick - 1) (view held' h' t.ticked) (turn_told i x d out on 1 a)
        ≡ told job rule i x (most_ticks job - later.tick) (view held' h' later) (turn_told i x d out on (later.tick - d.tick) a)

    ahead : ltb i d.next ≡ false
    ahead = le-ltb i d.next awaited_yet

    -- After a draw no tick is passed over.
    drawn_so : (q : ℕ) → on.happening ≡ Draw q → Adds
    drawn_so q e =
        by_test (eqb many 0)
        (λ none.
        let no_waits : many ≡ 0 = eqb-true many 0 none in
        let same : t.ticked ≡ later =
        sym (passed_none t.ticked) ∙ ap (λ (m : ℕ). passed m t.ticked) (sym no_waits) ∙ sym t.rested.passes in
        let one = one_more in
        let ticks = later_tick in
        let left : most_ticks job - d.tick - 1 ≡ most_ticks job - later.tick = omega arith in
        let length-one : 1 ≡ later.tick - d.tick = omega arith in
        ap (λ (n : ℕ). told job rule i x n (view held' h' t.ticked) (turn_told i x d out on 1 a)) left
        ∙ ap (λ (z : Display). told job rule i x (most_ticks job - later.tick) (view held' h' z) (turn_told i x d out on 1 a)) same
        ∙ ap (λ (n : ℕ). told job rule i x (most_ticks job - later.tick) (view held' h' later) (turn_told i x d out on n a)) length-one)
        (λ some.
        let waits : false ≡ true = ap waiting (sym e) ∙ t.rested.after_a_wait (above_zero many (eqb-false many 0 some)) in
        let z : ◌≡◌ {A = ℕ} 0 1 = cc in
        absurd (omega arith))

    -- After a wait the stretch that is passed over counts whole.
    stretch_so : (c : Cause) → on.happening ≡ Wait c
        → waited_for i d.next many c (turn_told i x d out on 1 a) ≡ turn_told i x d out on (1 + many) a
    stretch_so c e = rw (waits_so i d.next many c on.happening a.waits e)

    waited_so : (c : Cause) → on.happening ≡ Wait c → Adds
    waited_so c e =
        let same_next : t.ticked.next ≡ d.next = t.on_record.ticks.counts.next ∙ ap (λ (hp : Happening). next_after hp d.next) e in
        let ahead' : ltb i t.ticked.next ≡ false = rw same_next ahead in
        let one = one_more in
        let ticks = later_tick in
        let fits : t.ticked.tick + many ≤ most_ticks job = t.rested.in_its_time in
        let split : most_ticks job - d.tick - 1 ≡ many + (most_ticks job - later.tick) = omega arith in
        let whole : 1 + many ≡ later.tick - d.tick = omega arith in
        let cause = wait_cause job rule (view held h d) (view held' h' t.ticked) c leads_to
        (ap (λ (r : TickRecord). r.happening) (sym recorded) ∙ e) in
        ap (λ (n : ℕ). told job rule i x n (view held' h' t.ticked) (turn_told i x d out on 1 a)) split
        ∙ told_stretch job rule i x held' h' many (most_ticks job - later.tick) t.ticked (turn_told i x d out on 1 a) c none_held goes_more ahead'
        cause quiets
        ∙ ap
        (λ (z : Display). told job rule i x (most_ticks job - later.tick) (view held' h' z)
        (waited_for i t.ticked.next many c (turn_told i x d out on 1 a)))
        (sym t.rested.passes)
        ∙ ap (told job rule i x (most_ticks job - later.tick) (view held' h' later))
        (ap (λ (n : ℕ). waited_for i n many c (turn_told i x d out on 1 a)) same_next
        ∙ stretch_so c e
        ∙ ap (λ (n : ℕ). turn_told i x d out on n a) whole)

    happens_so : (hp : Happening) → on.happening ≡ hp → Adds
    happens_so (Draw q) e = drawn_so q e
    happens_so (Wait c) e = waited_so c e

    pub told_turn : told job rule i x (most_ticks job - d.tick) (view held h d) a
        ≡ told job rule i x (most_ticks job - later.tick) (view held' h' later) (turn_told i x d out on (later.tick - d.tick) a)
    told_turn =
        let early : d.tick < most_ticks job = t.early in
        let left : most_ticks job - d.tick ≡ suc (most_ticks job - d.tick - 1) = omega arith in
        ap (λ (n : ℕ). told job rule i x n (view held h d) a) left
        ∙ told_tick job rule i x (most_ticks job - d.tick - 1) (view held h d) (view held' h' t.ticked) a ahead leads_to
        ∙ ap (told job rule i x (most_ticks job - d.tick - 1) (view held' h' t.ticked)) (tick_so out a is)
        ∙ happens_so on.happening refl
