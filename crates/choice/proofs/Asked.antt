-- What each plan asks for in a state with no load under way, told from what the searches found.
use Prim.Native.Nat.{ℕ, zero, suc, ◌+◌, ◌-◌, ◌<◌, ◌≤◌}
use native.Mathlib.Omega.{arith}
use mathlib.Core.Path.{◌≡◌, refl, sym, ◌∙◌}
use mathlib.Core.Bool.{false, cond, ◌&&◌}
use mathlib.Core.List.{List}
use lib.ListN.{length, get_or, take, drop, length-drop}
use lib.Seq.{take_all}
use lib.Dec.{ltb, leb}
use borrow.Author.Tests.{lt-ltb, le-ltb, le-leb, lt-leb}
use Rattle.std.specs.Prelude.{Option, Some, None}
use Rattle.rules.specs.declared.Load.{Load}
use Rattle.rules.specs.declared.Loading.{Loading}
use Rattle.rules.specs.declared.Loading.TheVariants.{Idle}
use Rattle.rules.specs.Basics.{place}
use Rattle.rules.specs.Job.{Job}
use Rattle.rules.specs.Display.{load, State, idle}
use Rattle.rules.specs.Plans.{rank, furthest, missing, aggressive, earliest_at}
use Rattle.choice.specs.declared.ask.Order.{Order}
use Rattle.choice.specs.Ranks.{Ranks, Greatest}
use Rattle.choice.specs.Asks.{Quiet, asks_by}
use Rattle.choice.proofs.Ranking.{chosen_by, led}

-- The parts of a state that a plan looks at, put in one by one.
ap3 : {A B C D : Type 0} (f : A → B → C → D) {a a' : A} {b b' : B} {c c' : C} → a ≡ a' → b ≡ b' → c ≡ c'
    → f a b c ≡ f a' b' c'
ap3 f p q r = rw (p, q, r)

-- ---- Aggressive

aggressive_from : Job → Loading → List ℕ → List ℕ → Option Load
aggressive_from job loading slots rest =
    cond
    (idle loading
    && ltb (missing slots rest) (length rest)
    && leb (missing slots rest) (rank rest (get_or slots (furthest job rest slots) 0)))
    (Some (load (furthest job rest slots) (get_or rest (missing slots rest) 0)))
    None

module _ (job : Job) (s : State) (slots rest : List ℕ) (still : Quiet job s slots) (remain : s.rest ≡ rest) where
  aggressive_from_lem : (aggressive job).asks s ≡ aggressive_from job Idle slots rest
  unfolding aggressive_from
  aggressive_from_lem = ap3 (aggressive_from job) still.idle still.held remain

  module _ (p : ℕ) (first : p ≡ missing slots rest) where
    pub aggressive_none : length rest ≤ p → None ≡ (aggressive job).asks s
    unfolding aggressive_from
    aggressive_none over = sym (aggressive_from_lem ∙ rw (← first, le-ltb p (length rest) over))

    -- A slot is chosen by its rank, which is one more than the place at which its symbol comes up.
    module _ (within : p < length rest) (ranks : List ℕ) (ranked : Ranks slots rest ranks) (q : ℕ)
        (chosen : Greatest (take (length slots) ranks) q) where
      is_furthest : q ≡ furthest job rest slots
      is_furthest = (chosen_by slots rest ranks ranked q chosen).slot job still.many

      own_rank : get_or ranks q 0 ≡ suc (rank rest (get_or slots q 0))
      own_rank = (led slots rest ranks ranked q chosen).own

      pub aggressive_soon : get_or ranks q 0 ≤ p → None ≡ (aggressive job).asks s
      unfolding aggressive_from
      aggressive_soon before =
          sym
          (aggressive_from_lem
          ∙ rw (← first, ← is_furthest, lt-ltb p (length rest) within, lt-leb p (rank rest (get_or slots q 0)) (omega (arith, own_rank))))

      pub aggressive_far : p < get_or ranks q 0 → Some (load q (get_or rest p 0)) ≡ (aggressive job).asks s
      unfolding aggressive_from
      aggressive_far far =
          sym
          (aggressive_from_lem
          ∙ rw (← first, ← is_furthest, lt-ltb p (length rest) within, le-leb p (rank rest (get_or slots q 0)) (omega (arith, own_rank))))

-- ---- Conservative

module _ (job : Job) (s : State) (slots rest : List ℕ) (next miss q x : ℕ) (still : Quiet job s slots) (remain : s.rest ≡ rest)
    (at : s.next ≡ next) where
  earliest_from : Loading → List ℕ → List ℕ → Option Load
  earliest_from loading row left = cond (idle loading && leb miss (s.next + place (get_or row q 0) left)) (Some (load q x)) None

  earliest_from_lem : earliest_at miss q x s ≡ earliest_from Idle slots rest
  unfolding earliest_from
  earliest_from_lem = ap3 earliest_from still.idle still.held remain

  pub earliest_not : next + place (get_or slots q 0) rest < miss → None ≡ earliest_at miss q x s
  unfolding earliest_from
  earliest_not soon = sym (earliest_from_lem ∙ rw (at, lt-leb miss (next + place (get_or slots q 0) rest) soon))

  pub earliest_now : miss ≤ next + place (get_or slots q 0) rest → Some (load q x) ≡ earliest_at miss q x s
  unfolding earliest_from
  earliest_now late = sym (earliest_from_lem ∙ rw (at, le-leb miss (next + place (get_or slots q 0) rest) late))

-- ---- By the plan

-- Each number above 2 is that of lru.
pub above_is_lru : (plan : ℕ) (job : Job) (order : Option Order) (s : State) → 3 ≤ plan → asks_by 3 job order s ≡ asks_by plan job order s
above_is_lru zero job order s above = absurd (omega arith)
above_is_lru (suc zero) job order s above = absurd (omega arith)
above_is_lru (suc (suc zero)) job order s above = absurd (omega arith)
above_is_lru (suc (suc (suc plan))) job order s above = refl

-- While a load is under way no plan asks for another.
pub asks_busy : (plan : ℕ) (job : Job) (order : Option Order) (s : State) → idle s.loading ≡ false → None ≡ asks_by plan job order s
asks_busy zero job order s busy = rw busy
asks_busy (suc zero) job (Some o) s busy = rw busy
asks_busy (suc zero) job None s busy = refl
asks_busy (suc (suc zero)) job order s busy = rw busy
asks_busy (suc (suc (suc plan))) job order s busy = rw busy

-- A part of a row that goes on to its end, as a call is handed it.
pub part_to_end : (from : ℕ) (l : List ℕ) → take (length l - from) (drop from l) ≡ drop from l
part_to_end from l = take_all (length l - from) (drop from l) (simp length-drop (omega arith))
