-- Loads for rising places: each load of a plan is for the first draw that is in no slot, and afterwards that first draw is a later one. So a
-- plan makes at most one load to each draw.
use Prim.Native.Nat.{ℕ, suc, ◌+◌, ◌<◌, ◌≤◌}
use native.Mathlib.Omega.{arith}
use mathlib.Core.Path.{◌≡◌, ap}
use mathlib.Core.Bool.{true, false}
use mathlib.Core.List.{List, [], ◌∷◌}
use lib.ListN.{length, get_or, drop, set}
use lib.Seq.{set-set}
use Rattle.rules.specs.declared.Loading.{Loading}
use Rattle.rules.specs.Basics.{place, stands}
use Rattle.rules.specs.Job.{Job, free}
use Rattle.rules.specs.Display.{State, Rule, awaited}
use Rattle.rules.specs.Plans.{missing}
use Rattle.laws.proofs.Search.{place_cons_here, place_cons_further}
use Rattle.laws.proofs.Cases.{by_test}
use Rattle.laws.proofs.Moves.{Begins}
use Rattle.laws.proofs.Jobs.{Proper}
use Rattle.laws.proofs.Sane.{SaneState, SaneMoves, settled, awaited_symbol, remaining}
use Rattle.plan_laws.proofs.States.{settled_landed, settled_holds}
use Rattle.plan_laws.proofs.Search.{stands_new, stands_kept}

-- The first missing draw, a draw at a time.
missing_hit : (slots : List ℕ) (x : ℕ) (rest : List ℕ) → stands x slots ≡ true → missing slots (x ∷ rest) ≡ suc (missing slots rest)
unfolding missing
missing_hit slots x rest h = rw h

missing_miss : (slots : List ℕ) (x : ℕ) (rest : List ℕ) → stands x slots ≡ false → missing slots (x ∷ rest) ≡ 0
unfolding missing
missing_miss slots x rest h = rw h

-- The first missing draw is a remaining one, or their number.
pub missing_most : (slots rest : List ℕ) → missing slots rest ≤ length rest
missing_most slots [] = unfold missing in omega arith
missing_most slots (x ∷ rest) =
    by_test (stands x slots)
    (λ e. omega (arith, missing_hit slots x rest e, missing_most slots rest))
    (λ e. omega (arith, missing_miss slots x rest e))

-- Its symbol is in no slot.
pub missing_absent : (slots rest : List ℕ) → missing slots rest < length rest → stands (get_or rest (missing slots rest) 0) slots ≡ false
missing_absent slots [] h = absurd (omega arith)
missing_absent slots (x ∷ rest) h =
    by_test (stands x slots)
    (λ e.
    let further : missing slots (x ∷ rest) ≡ suc (missing slots rest) = missing_hit slots x rest e in
    rw further (missing_absent slots rest (omega arith)))
    (λ e. rw (missing_miss slots x rest e) e)

-- Where the next draw's symbol is in a slot it is not the first missing one.
pub missing_drawn : (slots rest : List ℕ) → 0 < length rest → stands (get_or rest 0 0) slots ≡ true
    → missing slots rest ≡ suc (missing slots (drop 1 rest))
missing_drawn slots [] h e = absurd (omega arith)
missing_drawn slots (x ∷ rest) h e = missing_hit slots x rest e

-- Where it is in none, it is the first missing one.
pub missing_now : (slots rest : List ℕ) → 0 < length rest → stands (get_or rest 0 0) slots ≡ false → missing slots rest ≡ 0
missing_now slots [] h e = absurd (omega arith)
missing_now slots (x ∷ rest) h e = missing_miss slots x rest e

-- With its symbol put into a slot whose content is not drawn before it, the first missing draw is a later one.
pub missing_later : (slots rest : List ℕ) (q x : ℕ) → q < length slots → missing slots rest < length rest
    → missing slots rest ≤ place (get_or slots q 0) rest → get_or rest (missing slots rest) 0 ≡ x
    → missing slots rest < missing (set slots q x) rest
missing_later slots [] q x h less far symbol = absurd (omega arith)
missing_later slots (y ∷ rest) q x h less far symbol =
    by_test (stands y slots)
    (λ e.
    let further : missing slots (y ∷ rest) ≡ suc (missing slots rest) = missing_hit slots y rest e in
    let other : get_or slots q 0 ≡ y → ⊥ = λ same. omega (arith, place_cons_here (get_or slots q 0) y rest same) in
    let later : missing slots rest < missing (set slots q x) rest =
    missing_later slots rest q x h (omega arith) (omega (arith, place_cons_further (get_or slots q 0) y rest other)) (rw further at symbol) in
    omega (arith, missing_hit (set slots q x) y rest (stands_kept slots q x y e other)))
    (λ e.
    let now : missing slots (y ∷ rest) ≡ 0 = missing_miss slots y rest e in
    let same : y ≡ x = rw now at symbol in
    omega (arith, missing_hit (set slots q x) y rest (rw same (stands_new slots q x h))))

-- This many loads, and the first missing draw is not before the draw of that number.
abbrev pub Rising : State → Type 0
Rising s = s.loads ≤ s.next + missing (settled s.loading s.slots) s.rest

-- A rule whose loads each raise the first missing draw keeps this.
pub rising_moves : (job : Job) (rule : Rule) → Proper job
    → ((q x : ℕ) (s : State) → Begins job rule q x s → SaneState job s → missing s.slots s.rest < missing (set s.slots q x) s.rest)
    → SaneMoves job rule Rising Rising Rising
rising_moves job rule proper raises =
    record {
      lands = λ s more g h. rw (settled_landed s.loading s.slots) h;
      passes = λ s more a g h. h;
      begins = λ q x s b g h.
          let quiet : settled s.loading s.slots ≡ s.slots = ap (λ (l : Loading). settled l s.slots) b.quiet in
          let before : s.loads ≤ s.next + missing s.slots s.rest = rw quiet at h in
          rw set-set (omega (arith, raises q x s b g));
      draws = λ q s d g h.
          let symbol : awaited s ≡ free → ⊥ = awaited_symbol job s.next s.rest s.slots s.loading proper g d.more in
          omega (
            arith,
            missing_drawn (settled s.loading s.slots) s.rest d.more
                (settled_holds job s.next s.rest s.slots s.loading (awaited s) g symbol d.held),
          );
      waits = λ s w g h. h;
    }

-- A load to each draw at most.
pub rising_few : (job : Job) (s : State) → SaneState job s → Rising s → s.loads ≤ length job.draws
rising_few job s g h =
    omega (arith, missing_most (settled s.loading s.slots) s.rest, remaining job s.next s.rest s.slots s.loading g)
