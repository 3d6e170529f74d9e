-- The four plans as relations over what the slots hold and what is drawn where, with no rank and no search. (Document 01, "The four plans",
-- and document 02, Four; the quotations are from docs/RULES.md.) A reader who does not trust `rank`, `furthest` and `earliest_at` can trust
-- the plans by this file.
use Rattle.std.specs.Prelude.{ℕ, zero, suc, ◌+◌, ◌<◌, ◌≤◌, ◌≡◌, true, List, [], ◌∷◌, length, get_or, drop, Option, Some, None}
use Rattle.rules.specs.declared.Load.{Load}
use Rattle.rules.specs.Job.{Job, free}
use Rattle.rules.specs.Display.{load, State, Rule, Loaded, loaded, going, start, loadable, land, idle, beginning, happening_of, moved, asked, run}

-- ---- Draws by their places

-- The draw at place i is of symbol x.
abbrev pub DrawOf : List ℕ → ℕ → ℕ → Type 0
DrawOf draws i x = (i < length draws) × (get_or draws i 0 ≡ x)

-- Symbol x is drawn at no place in a stretch: from one place on and before another.
abbrev pub Undrawn : List ℕ → ℕ → ℕ → ℕ → Type 0
Undrawn draws from to x = (i : ℕ) → from ≤ i → i < to → DrawOf draws i x → ⊥

-- "The next draw of a symbol is the first place of it among the draws, from the next draw number on."
pub record NextDraw (draws : List ℕ) (next x i : ℕ) : Type 0 where
  pub from : next ≤ i
  pub here : DrawOf draws i x
  pub first : Undrawn draws next i x

-- "A symbol that is never drawn again": from the next draw number on it is not drawn.
abbrev pub NeverAgain : List ℕ → ℕ → ℕ → Type 0
NeverAgain draws next x = Undrawn draws next (length draws) x

-- "The one with the largest next draw": symbols x and y both have one, and that of x is larger.
pub record Later (draws : List ℕ) (next x y : ℕ) : Type 0 where
  pub i : ℕ
  pub j : ℕ
  pub one : NextDraw draws next x i
  pub other : NextDraw draws next y j
  pub larger : j < i

-- The last draw of a symbol: its last place before the next draw number.
pub record LastDraw (draws : List ℕ) (next x i : ℕ) : Type 0 where
  pub past : i < next
  pub here : DrawOf draws i x
  pub last : Undrawn draws (i + 1) next x

-- "A symbol not drawn since the start."
abbrev pub NotYet : List ℕ → ℕ → ℕ → Type 0
NotYet draws next x = Undrawn draws 0 next x

-- "Drawn longest ago": symbols x and y both were drawn, and x longer ago.
pub record Older (draws : List ℕ) (next x y : ℕ) : Type 0 where
  pub i : ℕ
  pub j : ℕ
  pub one : LastDraw draws next x i
  pub other : LastDraw draws next y j
  pub longer_ago : i < j

-- ---- Which slot

-- Slot r is one that a load may go into.
abbrev pub Open : Job → List ℕ → ℕ → Type 0
Open job slots r = (r < length slots) × (loadable job r ≡ true)

-- No such slot has a content of this kind.
abbrev pub NoSlot : Job → List ℕ → (ℕ → Type 0) → Type 0
NoSlot job slots Kind = (r : ℕ) → Open job slots r → Kind (get_or slots r 0) → ⊥

-- Slot q is the lowest of those that have.
pub record Lowest (job : Job) (slots : List ℕ) (Kind : ℕ → Type 0) (q : ℕ) : Type 0 where
  pub may : Open job slots q
  pub holds : Kind (get_or slots q 0)
  pub lowest : (r : ℕ) → Open job slots r → Kind (get_or slots r 0) → q ≤ r

-- "A free slot is taken before any slot that holds a symbol, and of several free slots the lowest." Else slot q is that of the symbol that goes
-- before those in all other slots. `Never` is what goes before every other symbol, in the lowest slot of several, and `Further x y` says
-- that x goes before y.
pub data Chosen (job : Job) (Never : ℕ → Type 0) (Further : ℕ → ℕ → Type 0) (slots : List ℕ) (q : ℕ) : Type 0 where
  free_slot : Lowest job slots (λ x. x ≡ free) q → Chosen job Never Further slots q
  never_slot : NoSlot job slots (λ x. x ≡ free) → Lowest job slots Never q → Chosen job Never Further slots q
  further_slot : NoSlot job slots (λ x. x ≡ free) → NoSlot job slots Never → Open job slots q
      → ((r : ℕ) → Open job slots r → (r ≡ q → ⊥) → Further (get_or slots q 0) (get_or slots r 0))
      → Chosen job Never Further slots q

-- "A free slot, else the slot of the furthest symbol", where "a symbol that is never drawn again is further than all that are"; of several
-- such symbols "aggressive takes the one in the lowest slot".
abbrev pub FurthestSlot : Job → State → ℕ → Type 0
FurthestSlot job s q = Chosen job (NeverAgain job.draws s.next) (Later job.draws s.next) s.slots q

-- "The slot whose symbol was drawn longest ago. A symbol not drawn since the start is older than every symbol that was drawn; of several
-- such symbols the one in the lowest slot goes." Here too a free slot is taken first.
abbrev pub OldestSlot : Job → State → ℕ → Type 0
OldestSlot job s q = Chosen job (NotYet job.draws s.next) (Older job.draws s.next) s.slots q

-- "Opt goes by what came free first." Of symbols x and y, x goes before y where x is never drawn again and y is; where neither is drawn again
-- and the last draw of x is earlier; and where both are drawn again and the next draw of x is larger.
pub data FreeFirst (draws : List ℕ) (next x y : ℕ) : Type 0 where
  done_for : (i : ℕ) → NeverAgain draws next x → NextDraw draws next y i → FreeFirst draws next x y
  done_first : NeverAgain draws next x → NeverAgain draws next y → Older draws next x y → FreeFirst draws next x y
  drawn_later : Later draws next x y → FreeFirst draws next x y

-- "A free slot; else, of the held symbols that are never drawn again, the one whose last draw so far is earliest, and one that is not yet
-- drawn before all, in the lowest slot of several; else the furthest."
abbrev pub FreeFirstSlot : Job → State → ℕ → Type 0
FreeFirstSlot job s q =
    Chosen job (λ x. NeverAgain job.draws s.next x × NotYet job.draws s.next x) (FreeFirst job.draws s.next) s.slots q

-- ---- What begins: a load of symbol x into slot q, in a state in which a load that ends in this tick is in its slot already

-- No slot holds symbol x.
abbrev pub Nowhere : List ℕ → ℕ → Type 0
Nowhere slots x = (r : ℕ) → r < length slots → get_or slots r 0 ≡ x → ⊥

-- Some slot does.
abbrev pub Somewhere : List ℕ → ℕ → Type 0
Somewhere slots x = (r : ℕ) × (r < length slots) × (get_or slots r 0 ≡ x)

-- 0, aggressive: "In a tick with no load under way, where some remaining draw's symbol is in no slot, it looks at the first such draw, at
-- place p. It chooses a free slot, else the slot of the furthest symbol. The load begins in this tick, unless the symbol in the chosen
-- slot has its next draw before p."
pub record Aggressive (job : Job) (s : State) (q x : ℕ) : Type 0 where
  pub quiet : idle s.loading ≡ true
  pub p : ℕ
  pub remains : s.next ≤ p
  pub missing : DrawOf job.draws p x
  pub nowhere : Nowhere s.slots x
  pub first : (i : ℕ) → s.next ≤ i → i < p → Somewhere s.slots (get_or job.draws i 0)
  pub slot : FurthestSlot job s q
  pub not_before : Undrawn job.draws s.next p (get_or s.slots q 0)

-- A load "in a tick whose draw would wait with no load under way", for that draw.
pub record OnDemand (job : Job) (Slot : Job → State → ℕ → Type 0) (s : State) (q x : ℕ) : Type 0 where
  pub quiet : idle s.loading ≡ true
  pub awaited : DrawOf job.draws s.next x
  pub nowhere : Nowhere s.slots x
  pub slot : Slot job s q

-- 2, opt: on demand, into a free slot, else the slot that came free first.
abbrev pub Opt : Job → State → ℕ → ℕ → Type 0
Opt job = OnDemand job FreeFirstSlot

-- 3, lru: "begins its loads as opt does, but chooses the slot whose symbol was drawn longest ago".
abbrev pub Lru : Job → State → ℕ → ℕ → Type 0
Lru job = OnDemand job OldestSlot

-- What begins in a tick: a load that fits the words, and none where none fits.
pub data Begins (fits : ℕ → ℕ → Type 0) : Option Load → Type 0 where
  begins : {q x : ℕ} → fits q x → Begins fits (Some (load q x))
  none : ((q x : ℕ) → fits q x → ⊥) → Begins fits None

-- The display by words, from a state to its last: in each tick, as long as draws remain, what begins is as the words say. The other steps of
-- a tick are the display's.
pub data ByWords (job : Job) (words : State → ℕ → ℕ → Type 0) : State → State → Type 0 where
  at_end : {s last : State} → s.rest ≡ [] → s ≡ last → ByWords job words s last
  in_tick : {s after last : State} {b : Option Load} → 0 < length s.rest → Begins (words (land s)) b → beginning job b (land s) ≡ going after
      → ByWords job words (moved (happening_of after) after) last → ByWords job words s last

-- 1, conservative: "the loads of opt, into opt's slots and in opt's order", being those that opt begins by its own words. "Each begins at the
-- first tick at which three things hold: no load is under way; all loads before it in the order are done; and the symbol that goes out is
-- not drawn again before the miss for which opt made this load."
pub record Conservative (job : Job) (s : State) (q x : ℕ) : Type 0 where
  pub quiet : idle s.loading ≡ true
  pub last : State
  pub opt : ByWords job (Opt job) (start job) last
  pub t : ℕ
  pub miss : ℕ
  pub later : List Loaded
  pub in_turn : drop s.loads last.begun ≡ loaded t miss q x ∷ later
  pub not_before : Undrawn job.draws s.next miss (get_or s.slots q 0)

-- The plans by their numbers.
abbrev pub PlanWords : Job → ℕ → State → ℕ → ℕ → Type 0
PlanWords job zero = Aggressive job
PlanWords job (suc zero) = Conservative job
PlanWords job (suc (suc zero)) = Opt job
PlanWords job (suc (suc (suc n))) = Lru job

-- At every tick of its run, what a rule asks for is as the words say. A load list is a rule, and so is a plan.
abbrev pub KeepsTo : Job → (State → ℕ → ℕ → Type 0) → Rule → Type 0
KeepsTo job words rule =
    (t : ℕ) (s : State) → run job rule t (start job) ≡ going s → 0 < length s.rest → Begins (words (land s)) (asked rule s)
