-- Every state that a run comes to is sane: the draws that remain are the job's from the next draw on, the slots are k, no symbol
-- is in two of them, and a load under way brings a symbol that no slot holds into a slot that holds nothing.
use Prim.Native.Nat.{ℕ, zero, suc, ◌+◌, ◌-◌, ◌<◌, ◌≤◌}
use native.Mathlib.Omega.{arith}
use mathlib.Core.Path.{◌≡◌, refl, sym, ap, ◌∙◌}
use mathlib.Core.Bool.{true, false, not, ◌&&◌}
use mathlib.Core.List.{List, [], ◌∷◌}
use lib.ListN.{length, get_or, drop, set, length-set, length-drop}
use lib.Seq.{get_or-set_same, get_or-set_other, get_or-drop, drop-drop}
use lib.Dec.{eqb}
use borrow.Author.Tests.{eqb-true, eqb-false, ne_eqb}
use Rattle.rules.specs.declared.Loading.{Loading}
use Rattle.rules.specs.declared.Loading.TheVariants.{Idle, Under}
use Rattle.rules.specs.Basics.{stands}
use Rattle.rules.specs.Job.{Job, free}
use Rattle.rules.specs.Display.{State, Rule, going, start, landed_slots, landed_loading, run}
use Rattle.rules.specs.Refusals.{doubled}
use Rattle.laws.proofs.Cases.{by_test, neither}
use Rattle.laws.proofs.Search.{absent_at, absent_set, present}
use Rattle.laws.proofs.Moves.{Moves, reached, Upon, upon}
use Rattle.laws.proofs.Jobs.{Proper}

-- No symbol is in two slots. Several may hold nothing.
abbrev pub Apart : List ℕ → Type 0
Apart slots =
    (i j : ℕ) → i < length slots → j < length slots → get_or slots i 0 ≡ get_or slots j 0 → (get_or slots i 0 ≡ free → ⊥) → i ≡ j

apart_start : (l : List ℕ) → doubled l ≡ false → Apart l
unfolding doubled
apart_start [] e i j hi hj same full = absurd (omega arith)
apart_start (x ∷ l) e zero zero hi hj same full = refl
apart_start (x ∷ l) e zero (suc j) hi hj same full =
    let (alone, later) = neither (not (eqb x free) && stands x l) (doubled l) e in
    let z : true ≡ false = rw (ne_eqb x free full, present x l j (omega arith) (sym same)) at alone in
    absurd (let w : ◌≡◌ {A = ℕ} 0 1 = cc in omega arith)
apart_start (x ∷ l) e (suc i) zero hi hj same full =
    let (alone, later) = neither (not (eqb x free) && stands x l) (doubled l) e in
    let z : true ≡ false = rw (ne_eqb x free (λ f. full (same ∙ f)), present x l i (omega arith) same) at alone in
    absurd (let w : ◌≡◌ {A = ℕ} 0 1 = cc in omega arith)
apart_start (x ∷ l) e (suc i) (suc j) hi hj same full =
    let (alone, later) = neither (not (eqb x free) && stands x l) (doubled l) e in
    ap suc (apart_start l later i j (omega arith) (omega arith) same full)

-- A slot that takes a symbol that was in none is the only one that holds it.
only_there : (l : List ℕ) (q x i : ℕ) → stands x l ≡ false → i < length l → get_or (set l q x) i 0 ≡ x → i ≡ q
only_there l q x i nowhere h e =
    by_test (eqb i q) (eqb-true i q)
    (λ t. absurd (absent_at x l nowhere i h (sym (get_or-set_other l q i x 0 (eqb-false i q t)) ∙ e)))

there_now : (l : List ℕ) (q x i : ℕ) → i < length l → i ≡ q → get_or (set l q x) i 0 ≡ x
there_now l q x i h e = let inside : q < length l = omega arith in rw e (get_or-set_same l q x 0 inside)

-- It stays so where a slot takes a symbol that was in none, and where it takes nothing.
pub apart_set : (l : List ℕ) (q x : ℕ) → Apart l → ((x ≡ free → ⊥) → stands x l ≡ false) → Apart (set l q x)
apart_set l q x apart new i j hi hj same full =
    let hi' : i < length l = rw length-set at hi in
    let hj' : j < length l = rw length-set at hj in
    by_test (eqb i q)
    (λ ti.
    let here : i ≡ q = eqb-true i q ti in
    let at : get_or (set l q x) i 0 ≡ x = there_now l q x i hi' here in
    here ∙ sym (only_there l q x j (new (λ f. full (at ∙ f))) hj' (sym same ∙ at)))
    (λ ti.
    by_test (eqb j q)
    (λ tj.
    let here : j ≡ q = eqb-true j q tj in
    let at : get_or (set l q x) i 0 ≡ x = same ∙ there_now l q x j hj' here in
    only_there l q x i (new (λ f. full (at ∙ f))) hi' at ∙ sym here)
    (λ tj.
    let at : get_or (set l q x) i 0 ≡ get_or l i 0 = get_or-set_other l q i x 0 (eqb-false i q ti) in
    let there : get_or (set l q x) j 0 ≡ get_or l j 0 = get_or-set_other l q j x 0 (eqb-false j q tj) in
    apart i j hi' hj' (sym at ∙ same ∙ there) (λ f. full (at ∙ f))))

-- A load under way.
--     slot       its slot is one of the job's
--     empty      that slot holds nothing
--     symbol     what it brings is a symbol
--     nowhere    no slot holds that symbol
--     soon       it ends within the load time
pub record Underway (job : Job) (slots : List ℕ) (left q x : ℕ) : Type 0 where
  pub slot : q < job.slots
  pub empty : get_or slots q 0 ≡ free
  pub symbol : x ≡ free → ⊥
  pub nowhere : stands x slots ≡ false
  pub soon : left < job.load_time

-- A sane state, over those of its fields that it speaks of.
--     ahead, within    the draws that remain are the job's from the next draw on
--     row, apart       there are k slots, and no symbol is in two of them
--     under            a load under way is as said above
pub record Sane (job : Job) (next : ℕ) (rest slots : List ℕ) (loading : Loading) : Type 0 where
  pub ahead : rest ≡ drop next job.draws
  pub within : next ≤ length job.draws
  pub row : length slots ≡ job.slots
  pub apart : Apart slots
  pub under : (left q x : ℕ) → loading ≡ Under left q x → Underway job slots left q x

-- The same of a state.
abbrev pub SaneState : Job → State → Type 0
SaneState job s = Sane job s.next s.rest s.slots s.loading

-- An idle loader has no load under way, and one at work has one.
pub none_under : {A : Type 0} (left q x : ℕ) → Idle ≡ Under left q x → A
none_under left q x e = let z : ◌≡◌ {A = ℕ} 0 1 = cc in absurd (omega arith)

pub idle_if_none : (loading : Loading) → ((left q x : ℕ) → loading ≡ Under left q x → ⊥) → loading ≡ Idle
idle_if_none Idle none = refl
idle_if_none (Under left q x) none = absurd (none left q x refl)

pub one_under : (P : ℕ → ℕ → ℕ → Type 0) (left q x left' q' x' : ℕ) → P left q x → Under left q x ≡ Under left' q' x'
    → P left' q' x'
one_under P left q x left' q' x' p e =
    let e₁ : left ≡ left' = cc in
    let e₂ : q ≡ q' = cc in
    let e₃ : x ≡ x' = cc in
    rw (← e₁, ← e₂, ← e₃) p

-- The draws made and those that remain are the job's.
pub remaining : (job : Job) (next : ℕ) (rest slots : List ℕ) (loading : Loading) → Sane job next rest slots loading
    → next + length rest ≡ length job.draws
remaining job next rest slots loading h =
    let left : length rest ≡ length job.draws - next = ap length h.ahead ∙ length-drop next job.draws in
    omega arith

module _ (job : Job) (next : ℕ) (rest slots : List ℕ) where
  sane_lands : (loading : Loading) → Sane job next rest slots loading
      → Sane job next rest (landed_slots loading slots) (landed_loading loading)
  sane_lands Idle h = h
  sane_lands (Under zero q x) h =
      let u : Underway job slots 0 q x = h.under 0 q x refl in
      record {
        ahead = h.ahead;
        within = h.within;
        row = length-set slots q x ∙ h.row;
        apart = apart_set slots q x h.apart (λ f. u.nowhere);
        under = λ left' q' x' e. none_under left' q' x' e;
      }
  sane_lands (Under (suc left) q x) h =
      let u : Underway job slots (suc left) q x = h.under (suc left) q x refl in
      let v : Underway job slots left q x =
      record { slot = u.slot; empty = u.empty; symbol = u.symbol; nowhere = u.nowhere; soon = omega arith } in
      record {
        ahead = h.ahead;
        within = h.within;
        row = h.row;
        apart = h.apart;
        under = λ left' q' x' e. one_under (Underway job slots) left q x left' q' x' v e;
      }

  sane_begins : (q x : ℕ) → 1 ≤ job.load_time → q < job.slots → (x ≡ free → ⊥) → stands x slots ≡ false → (loading : Loading)
      → Sane job next rest slots loading → Sane job next rest (set slots q free) (Under (job.load_time - 1) q x)
  sane_begins q x some_load_time slot symbol nowhere loading h =
      let inside : q < length slots = rw h.row slot in
      let u : Underway job (set slots q free) (job.load_time - 1) q x =
      record {
        slot = slot;
        empty = get_or-set_same slots q free 0 inside;
        symbol = symbol;
        nowhere = absent_set x slots q free nowhere symbol;
        soon = omega arith;
      } in
      record {
        ahead = h.ahead;
        within = h.within;
        row = length-set slots q free ∙ h.row;
        apart = apart_set slots q free h.apart (λ f. absurd (f refl));
        under = λ left' q' x' e. one_under (Underway job (set slots q free)) (job.load_time - 1) q x left' q' x' u e;
      }

  sane_draws : (loading : Loading) → 0 < length rest → Sane job next rest slots loading → Sane job (next + 1) (drop 1 rest) slots loading
  sane_draws loading more h =
      let left : next + length rest ≡ length job.draws = remaining job next rest slots loading h in
      record {
        ahead = rw h.ahead (drop-drop 1 next job.draws);
        within = omega arith;
        row = h.row;
        apart = h.apart;
        under = h.under;
      }

-- Every move keeps a state sane, and the start is.
pub sane_moves : (job : Job) (rule : Rule) → 1 ≤ job.load_time → Moves job rule (SaneState job) (SaneState job) (SaneState job)
sane_moves job rule some_load_time =
    record {
      lands = λ s more h. sane_lands job s.next s.rest s.slots s.loading h;
      passes = λ s more a h. h;
      begins = λ q x s b h. sane_begins job s.next s.rest s.slots q x some_load_time b.slot b.symbol b.nowhere s.loading h;
      draws = λ q s d h. sane_draws job s.next s.rest s.slots s.loading d.more h;
      waits = λ s w h. h;
    }

pub sane_start : (job : Job) → Proper job → SaneState job (start job)
sane_start job p =
    record {
      ahead = refl;
      within = omega arith;
      row = p.row;
      apart = apart_start job.starting p.single;
      under = λ left q x e. none_under left q x e;
    }

-- Whatever the rule, a run from the start comes to sane states only.
pub sane : (job : Job) (rule : Rule) → Proper job → (t : ℕ) (s : State) → run job rule t (start job) ≡ going s → SaneState job s
sane job rule p t s e =
    reached job rule _ _ _ (sane_moves job rule p.some_load_time) t (start job) s (sane_start job p) e

-- So what else a run keeps may be shown of sane states only.
abbrev pub SaneMoves : Job → Rule → (State → Type 0) → (State → Type 0) → (State → Type 0) → Type 0
SaneMoves job rule P L B = Upon job rule (SaneState job) (SaneState job) (SaneState job) P L B

pub reached_sanely : (job : Job) (rule : Rule) (P L B : State → Type 0) → Proper job → SaneMoves job rule P L B → P (start job)
    → (t : ℕ) (s : State) → run job rule t (start job) ≡ going s → P s
reached_sanely job rule P L B p keeps begins t s e =
    (reached job rule _ _ _
    (upon job rule (SaneState job) (SaneState job) (SaneState job) P L B (sane_moves job rule p.some_load_time) keeps)
    t (start job) s (sane_start job p, begins) e).1

-- The slots with the load under way counted as landed. No symbol is in two of them either.
abbrev pub settled : Loading → List ℕ → List ℕ
settled Idle slots = slots
settled (Under left q x) slots = set slots q x

pub settled_apart : (job : Job) (next : ℕ) (rest slots : List ℕ) (loading : Loading) → Sane job next rest slots loading
    → Apart (settled loading slots)
settled_apart job next rest slots Idle h = h.apart
settled_apart job next rest slots (Under left q x) h = apart_set slots q x h.apart (λ f. (h.under left q x refl).nowhere)

-- The symbol awaited is the job's at the next draw number, and it is a symbol.
pub awaited_is : (job : Job) (next : ℕ) (rest slots : List ℕ) (loading : Loading) → Sane job next rest slots loading
    → get_or rest 0 0 ≡ get_or job.draws next 0
awaited_is job next rest slots loading h =
    let e : next + 0 ≡ next = omega arith in
    rw (h.ahead, get_or-drop next job.draws 0 0, e)

pub awaited_symbol : (job : Job) (next : ℕ) (rest slots : List ℕ) (loading : Loading) → Proper job → Sane job next rest slots loading
    → 0 < length rest → get_or rest 0 0 ≡ free → ⊥
awaited_symbol job next rest slots loading p h more e =
    let left : next + length rest ≡ length job.draws = remaining job next rest slots loading h in
    absent_at free job.draws p.drawable next (omega arith) (sym (awaited_is job next rest slots loading h) ∙ e)
