-- The longest single wait, said without the run: whatever the rule, it is the greatest gap between a draw tick and the tick after the draw
-- before it, or tick 0.
use Prim.Native.Nat.{ℕ, ◌+◌, ◌-◌, max}
use native.Mathlib.Omega.{arith}
use mathlib.Core.Path.{◌≡◌, refl, ap, ◌∙◌}
use mathlib.Core.List.{List, [], ◌∷◌, ◌++◌, map}
use Rattle.rules.specs.Job.{Job}
use Rattle.rules.specs.Display.{State, Rule, drawn, going, start, run}
use Rattle.rules.specs.Plans.{greatest}
use Rattle.rules.specs.Refusals.{tick_of}
use Rattle.laws.proofs.Rows.{map_snoc}
use Rattle.laws.proofs.Moves.{Moves, reached}
use Rattle.demands.specs.Held.{gaps}

-- The tick after the last of a row of draw ticks, or where there is none the first tick.
unfoldable since : ℕ → List ℕ → ℕ
since first [] = first
since first (t ∷ later) = since (t + 1) later

-- One more draw: it has one gap more, and the next is looked for from the tick after it.
since_snoc : (first : ℕ) (ticks : List ℕ) (t : ℕ) → since first (ticks ++ (t ∷ [])) ≡ t + 1
unfolding since
since_snoc first [] t = refl
since_snoc first (u ∷ later) t = since_snoc (u + 1) later t

greatest_snoc : (first : ℕ) (ticks : List ℕ) (t : ℕ)
    → greatest (gaps first (ticks ++ (t ∷ []))) ≡ max (greatest (gaps first ticks)) (t - since first ticks)
unfolding greatest gaps since
greatest_snoc first [] t = omega arith
greatest_snoc first (u ∷ later) t =
    ap (max (u - first)) (greatest_snoc (u + 1) later t) ∙ omega arith

-- Between ticks the pause has lasted since the draw before, and no gap of a draw made was longer than the longest.
record Paused (tick pause longest : ℕ) (ticks : List ℕ) : Type 0 where
  lasting : since 0 ticks + pause ≡ tick
  greatest_is : longest ≡ greatest (gaps 0 ticks)

paused_draws : (tick pause longest : ℕ) (ticks : List ℕ) → Paused tick pause longest ticks
    → Paused (tick + 1) 0 (max longest pause) (ticks ++ (tick ∷ []))
paused_draws tick pause longest ticks h =
    let lasting : since 0 ticks + pause ≡ tick = h.lasting in
    let gap : tick - since 0 ticks ≡ pause = omega arith in
    record {
      lasting = rw since_snoc (omega arith);
      greatest_is = rw (greatest_snoc 0 ticks tick, gap, h.greatest_is);
    }

abbrev PausedState : State → Type 0
PausedState s = Paused s.tick s.pause s.longest (map tick_of s.made)

paused_moves : (job : Job) (rule : Rule) → Moves job rule PausedState PausedState PausedState
paused_moves job rule =
    record {
      lands = λ s more h. h;
      passes = λ s more a h. h;
      begins = λ q x s b h. h;
      draws = λ q s d h.
          rw (map_snoc tick_of s.made (drawn s.tick q)) (paused_draws s.tick s.pause s.longest (map tick_of s.made) h);
      waits = λ s w h.
          let lasting : since 0 (map tick_of s.made) + s.pause ≡ s.tick = h.lasting in
          record { lasting = omega arith; greatest_is = h.greatest_is };
    }

-- Of every run from the start, by any rule: a list's or a plan's.
pub longest_is : (job : Job) (rule : Rule) (t : ℕ) (s : State) → run job rule t (start job) ≡ going s
    → s.longest ≡ greatest (gaps 0 (map tick_of s.made))
unfolding since greatest gaps
longest_is job rule t s e =
    (reached job rule _ _ _ (paused_moves job rule) t (start job) s (record { lasting = refl; greatest_is = refl }) e).greatest_is
