-- What opt, lru and aggressive ask for in a sane state is what the words say, and the only thing that fits them.
use Prim.Native.Nat.{ℕ, zero, suc, ◌+◌, ◌-◌, ◌<◌, ◌≤◌}
use native.Mathlib.Omega.{arith}
use mathlib.Core.Path.{◌≡◌, refl, sym, ap, ◌∙◌}
use mathlib.Core.Bool.{true, false, ◌&&◌}
use mathlib.Core.List.{List, [], ◌∷◌}
use lib.ListN.{length, get_or, drop}
use lib.Seq.{get_or-drop}
use lib.Dec.{ltb, leb}
use borrow.Author.Tests.{ltb-true, lt-ltb, leb-true, le-leb}
use Rattle.std.specs.Prelude.{Option, Some, None}
use Rattle.rules.specs.declared.Load.{Load}
use Rattle.rules.specs.declared.Loading.{Loading}
use Rattle.rules.specs.Basics.{place, stands}
use Rattle.rules.specs.Job.{Job, free}
use Rattle.rules.specs.Display.{load, State, idle, awaited}
use Rattle.rules.specs.Plans.{rank, furthest, ahead, behind, missing, aggressive, on_demand, opt_slot, opt, lru}
use Rattle.laws.proofs.Cases.{by_test}
use Rattle.laws.proofs.Jobs.{Proper}
use Rattle.laws.proofs.Search.{absent, absent_at, place_holds}
use Rattle.laws.proofs.Sane.{Sane, SaneState, remaining, awaited_is}
use Rattle.plan_laws.proofs.Choice.{rank_place, place_rank}
use Rattle.plan_laws.proofs.States.{rest_drawable}
use Rattle.plan_laws.proofs.Asking.{asked_load, both_true}
use Rattle.plan_laws.proofs.OnDemand.{Demanded, demanded}
use Rattle.plan_laws.proofs.Rising.{missing_most, missing_absent}
use Rattle.demands.specs.InWords.{DrawOf, Undrawn, NeverAgain, Later, Open, Chosen, FurthestSlot, OldestSlot, FreeFirstSlot}
use Rattle.demands.specs.InWords.{Nowhere, Somewhere, Aggressive, OnDemand, Opt, Lru, Begins, begins, none}
use Rattle.demands.proofs.SlotWords.{chosen_one, furthest_fits}
use Rattle.demands.proofs.DrawWords.{later_one_way, older_one_way, free_first_one_way, far_undrawn, undrawn_far}
use Rattle.demands.proofs.DrawWords.{ahead_tells, behind_tells, both_tell}

-- What is asked for agrees with words: a load that is asked for fits them, and a load that fits them is asked for.
pub record Agrees (fits : ℕ → ℕ → Type 0) (b : Option Load) : Type 0 where
  pub says : (q x : ℕ) → b ≡ Some (load q x) → fits q x
  pub only : (q x : ℕ) → fits q x → b ≡ Some (load q x)

-- Then what is asked for is what begins by the words, and nothing else is.
pub begins_asked : (fits : ℕ → ℕ → Type 0) (b : Option Load) → Agrees fits b → Begins fits b
begins_asked fits None a = none (λ q x f. let e = a.only q x f in let z : ◌≡◌ {A = ℕ} 0 1 = cc in omega arith)
begins_asked fits (Some this) a = begins (a.says this.slot this.symbol refl)

pub begins_only : (fits : ℕ → ℕ → Type 0) (b c : Option Load) → Agrees fits b → Begins fits c → c ≡ b
begins_only fits b c a (begins {q} {x} f) = sym (a.only q x f)
begins_only fits None c a (none why) = refl
begins_only fits (Some this) c a (none why) = absurd (why this.slot this.symbol (a.says this.slot this.symbol refl))

-- ---- Which slot, in a sane state

module _ (job : Job) (proper : Proper job) where
  -- A load may go into some slot, and that is all that the choice needs.
  some_open : (next : ℕ) (rest slots : List ℕ) (loading : Loading) → Sane job next rest slots loading → Open job slots 0
  some_open next rest slots loading g = (omega (arith, proper.some_slot, g.row), lt-ltb 0 job.slots proper.some_slot)

  -- The slot found along the draws that remain is that of the furthest symbol, and no other is.
  furthest_slot : (next : ℕ) (rest slots : List ℕ) (loading : Loading) → Sane job next rest slots loading
      → Chosen job (NeverAgain job.draws next) (Later job.draws next) slots (furthest job rest slots)
  furthest_slot next rest slots loading g =
      rw g.ahead
      (furthest_fits job (drop next job.draws) slots _ _ (ahead_tells job.draws next g.within) g.apart 0 (some_open next rest slots loading g))

  furthest_one : (s : State) (q r : ℕ) → FurthestSlot job s q → FurthestSlot job s r → q ≡ r
  furthest_one s q r a b = chosen_one job _ _ (later_one_way job.draws s.next) s.slots q r a b

  -- The slot found along the draws made is the one whose symbol was drawn longest ago, and no other is.
  oldest_slot : (s : State) → SaneState job s → OldestSlot job s (furthest job (behind job s) s.slots)
  oldest_slot s g =
      furthest_fits job (behind job s) s.slots _ _ (behind_tells job.draws s.next g.within) g.apart 0
      (some_open s.next s.rest s.slots s.loading g)

  oldest_one : (s : State) (q r : ℕ) → OldestSlot job s q → OldestSlot job s r → q ≡ r
  oldest_one s q r a b = chosen_one job _ _ (older_one_way job.draws s.next) s.slots q r a b

  -- The slot found both ways is the one that came free first, and no other is.
  free_first_slot : (s : State) → SaneState job s → FreeFirstSlot job s (opt_slot job s)
  free_first_slot s g =
      rw g.ahead
      (furthest_fits job _ s.slots _ _ (both_tell job.draws s.next g.within) g.apart 0
      (some_open s.next s.rest s.slots s.loading g))

  free_first_one : (s : State) (q r : ℕ) → FreeFirstSlot job s q → FreeFirstSlot job s r → q ≡ r
  free_first_one s q r a b = chosen_one job _ _ (free_first_one_way job.draws s.next) s.slots q r a b

-- ---- On demand

module _ (job : Job) (Slot : Job → State → ℕ → Type 0) (slot : State → ℕ) (fits : (s : State) → SaneState job s → Slot job s (slot s))
    (one : (s : State) (q r : ℕ) → Slot job s q → Slot job s r → q ≡ r) where
  -- A load on demand, into whatever slot it is that one such slot at most fits.
  demand_agrees : (s : State) → SaneState job s → 0 < length s.rest → Agrees (OnDemand job Slot s) ((on_demand slot).asks s)
  demand_agrees s g more =
      let left : s.next + length s.rest ≡ length job.draws = remaining job s.next s.rest s.slots s.loading g in
      let now : awaited s ≡ get_or job.draws s.next 0 = awaited_is job s.next s.rest s.slots s.loading g in
      record {
        says = λ q x e.
            let d : Demanded slot q x s = demanded slot q x s e in
            record {
              quiet = d.quiet;
              awaited = (omega arith, sym now ∙ d.symbol);
              nowhere = absent_at x s.slots (ap (λ (y : ℕ). stands y s.slots) (sym d.symbol) ∙ d.missed);
              slot = rw (← d.to) (fits s g);
            };
        only = λ q x f.
            let is : awaited s ≡ x = now ∙ f.awaited.1 in
            let gone : stands (awaited s) s.slots ≡ false = ap (λ (y : ℕ). stands y s.slots) is ∙ absent x s.slots f.nowhere in
            rw (f.quiet, gone, one s (slot s) q (fits s g) f.slot, is);
      }

-- So it is with opt, and with lru.
pub opt_agrees : (job : Job) → Proper job → (s : State) → SaneState job s → 0 < length s.rest → Agrees (Opt job s) ((opt job).asks s)
opt_agrees job proper = demand_agrees job FreeFirstSlot (opt_slot job) (free_first_slot job proper) (free_first_one job proper)

pub lru_agrees : (job : Job) → Proper job → (s : State) → SaneState job s → 0 < length s.rest → Agrees (Lru job s) ((lru job).asks s)
lru_agrees job proper =
    demand_agrees job OldestSlot (λ s. furthest job (behind job s) s.slots) (oldest_slot job proper) (oldest_one job proper)

-- ---- Aggressive

-- Every draw before the first missing one is in a slot.
missing_held : (slots rest : List ℕ) (i : ℕ) → i < missing slots rest → stands (get_or rest i 0) slots ≡ true
unfolding missing
missing_held slots [] i h = absurd (omega arith)
missing_held slots (x ∷ rest) zero h = by_test (stands x slots) (λ t. t) (λ t. let z : 0 < 0 = rw t at h in absurd (omega arith))
missing_held slots (x ∷ rest) (suc i) h =
    by_test (stands x slots)
    (λ t. let less : suc i < suc (missing slots rest) = rw t at h in missing_held slots rest i (omega arith))
    (λ t. let z : suc i < 0 = rw t at h in absurd (omega arith))

-- A symbol that is found is in a slot.
somewhere : (slots : List ℕ) (x : ℕ) → stands x slots ≡ true → Somewhere slots x
somewhere slots x e = let found = ltb-true (place x slots) (length slots) e in (place x slots, found, place_holds x slots found)

module _ (job : Job) (next : ℕ) (rest slots : List ℕ) (loading : Loading) (g : Sane job next rest slots loading) where
  -- The draws that remain, by their places.
  drawn_there : (i : ℕ) → get_or job.draws (next + i) 0 ≡ get_or rest i 0
  drawn_there i = rw g.ahead (sym (get_or-drop next job.draws i 0))

  -- A symbol comes up along the draws that remain at a place or later exactly where it is undrawn before that place.
  pub until_undrawn : (x to : ℕ) → to ≤ next + place x rest → Undrawn job.draws next to x
  until_undrawn x to far = far_undrawn job.draws next g.within x to (rw g.ahead at far)

  pub undrawn_until : (x to : ℕ) → to ≤ length job.draws → Undrawn job.draws next to x → to ≤ next + place x rest
  undrawn_until x to most why = rw g.ahead (undrawn_far job.draws next g.within x to most why)

  -- The first missing draw in words is the one that is searched for.
  first_missing : (p x : ℕ) → next ≤ p → DrawOf job.draws p x → Nowhere slots x
      → ((i : ℕ) → next ≤ i → i < p → Somewhere slots (get_or job.draws i 0)) → next + missing slots rest ≡ p
  first_missing p x from (inside, here) nowhere before =
      let left : next + length rest ≡ length job.draws = remaining job next rest slots loading g in
      let back : next + (p - next) ≡ p = omega arith in
      let not_before : p < next + missing slots rest → ⊥ =
      λ less.
      let read : get_or rest (p - next) 0 ≡ x = sym (drawn_there (p - next)) ∙ rw back here in
      let held : stands (get_or rest (p - next) 0) slots ≡ true = missing_held slots rest (p - next) (omega arith) in
      let (r, within, there) = somewhere slots (get_or rest (p - next) 0) held in
      nowhere r within (there ∙ read) in
      let not_after : next + missing slots rest < p → ⊥ =
      λ less.
      let (r, within, there) = before (next + missing slots rest) (omega arith) less in
      absent_at _ slots (missing_absent slots rest (omega arith)) r within (there ∙ drawn_there (missing slots rest)) in
      omega arith

module _ (job : Job) (proper : Proper job) (s : State) (g : SaneState job s) (more : 0 < length s.rest) where
  -- The place that it loads for, counted from the next draw on, the slot that it would take, and what that slot holds.
  abbrev first : ℕ
  first = missing s.slots s.rest

  abbrev chosen : ℕ
  chosen = furthest job (ahead s) s.slots

  abbrev out : ℕ
  out = get_or s.slots chosen 0

  fits_chosen : FurthestSlot job s chosen
  fits_chosen = furthest_slot job proper s.next s.rest s.slots s.loading g

  left : s.next + length s.rest ≡ length job.draws
  left = remaining job s.next s.rest s.slots s.loading g

  there : (i : ℕ) → get_or job.draws (s.next + i) 0 ≡ get_or s.rest i 0
  there = drawn_there job s.next s.rest s.slots s.loading g

  -- What it asks for fits the words.
  aggressive_says : (q x : ℕ) → (aggressive job).asks s ≡ Some (load q x) → Aggressive job s q x
  aggressive_says q x e =
      let (test, to, symbol) =
      asked_load (idle s.loading && ltb first (length s.rest) && leb first (rank (ahead s) out)) chosen (get_or s.rest first 0) q x e in
      let (early, far) = both_true (idle s.loading && ltb first (length s.rest)) (leb first (rank (ahead s) out)) test in
      let (quiet, some) = both_true (idle s.loading) (ltb first (length s.rest)) early in
      let missed : first < length s.rest = ltb-true _ _ some in
      let drawable : stands free s.rest ≡ false = rest_drawable job s.next s.rest s.slots s.loading proper g in
      let upto : first ≤ place out s.rest = rank_place s.rest out first drawable (missing_most s.slots s.rest) (leb-true _ _ far) in
      record {
        quiet = quiet;
        p = s.next + first;
        remains = omega arith;
        missing = (omega (arith, left), there first ∙ symbol);
        nowhere = absent_at x s.slots (ap (λ (y : ℕ). stands y s.slots) (sym symbol) ∙ missing_absent s.slots s.rest missed);
        first = λ i from less.
            let back : s.next + (i - s.next) ≡ i = omega arith in
            let read : get_or s.rest (i - s.next) 0 ≡ get_or job.draws i 0 = sym (there (i - s.next)) ∙ ap (λ (j : ℕ). get_or job.draws j 0) back in
            rw (← read) (somewhere s.slots _ (missing_held s.slots s.rest (i - s.next) (omega arith)));
        slot = rw (← to) fits_chosen;
        not_before = rw (← to) (until_undrawn job s.next s.rest s.slots s.loading g out (s.next + first) (omega arith));
      }

  -- What fits the words is what it asks for.
  aggressive_only : (q x : ℕ) → Aggressive job s q x → (aggressive job).asks s ≡ Some (load q x)
  aggressive_only q x f =
      let same : s.next + first ≡ f.p =
      first_missing job s.next s.rest s.slots s.loading g f.p x f.remains f.missing f.nowhere f.first in
      let to : chosen ≡ q = furthest_one job proper s chosen q fits_chosen f.slot in
      let symbol : get_or s.rest first 0 ≡ x = sym (there first) ∙ ap (λ (i : ℕ). get_or job.draws i 0) same ∙ f.missing.1 in
      let far : f.p ≤ s.next + place (get_or s.slots q 0) s.rest =
      undrawn_until job s.next s.rest s.slots s.loading g (get_or s.slots q 0) f.p (omega (arith, f.missing.0)) f.not_before in
      let late : leb first (rank (ahead s) (get_or s.slots q 0)) ≡ true =
      le-leb first (rank (ahead s) (get_or s.slots q 0)) (omega (arith, place_rank s.rest (get_or s.slots q 0))) in
      let some : ltb first (length s.rest) ≡ true = lt-ltb first (length s.rest) (omega (arith, left, f.missing.0)) in
      rw (to, f.quiet, some, late, symbol)

  pub aggressive_agrees : Agrees (Aggressive job s) ((aggressive job).asks s)
  aggressive_agrees = record { says = aggressive_says; only = aggressive_only }
