-- The pace of conservative in numbers: in each tick, whether a load begins and whether a draw is made, told from the draws that miss and the
-- draws from which on what goes out for them may go out.
use Prim.Native.Nat.{ℕ, zero, suc, ◌+◌, ◌-◌, ◌<◌, ◌≤◌, min}
use native.Mathlib.Omega.{arith}
use mathlib.Core.Path.{◌≡◌, refl, sym, ap, ◌∙◌}
use mathlib.Core.Bool.{true, false, ◌&&◌}
use mathlib.Core.List.{List, [], ◌∷◌, ◌++◌, map, reverse}
use lib.ListN.{length, get_or, take, drop, set, length-drop, length-map, length-set}
use lib.Seq.{set-set, drop-drop, get_or-drop}
use lib.Dec.{eqb, ltb, leb}
use borrow.Author.Tests.{ltb-true, ltb-false, leb-false, eqb-true, eqb-false}
use Rattle.std.specs.Prelude.{None}
use Rattle.rules.specs.declared.Loading.{Loading}
use Rattle.rules.specs.declared.Loading.TheVariants.{Idle, Under}
use Rattle.rules.specs.Basics.{place, stands}
use Rattle.rules.specs.Job.{Job, free}
use Rattle.rules.specs.Display.{State, Loaded, loaded, going, start, idle, awaited, landed_slots, landed_loading, tick, run}
use Rattle.rules.specs.Plans.{conservative, earliest}
use Rattle.laws.proofs.Cases.{by_test}
use Rattle.laws.proofs.Search.{place_cons_here, place_cons_further, absent_set}
use Rattle.laws.proofs.Jobs.{Proper}
use Rattle.laws.proofs.Rows.{map_snoc}
use Rattle.laws.proofs.Moves.{Steps, Moves, tick_kept, reached, Upon, upon}
use Rattle.laws.proofs.Counts.{load_tick, ahead}
use Rattle.laws.proofs.Sane.{Sane, SaneState, sane_moves, sane_start, settled, none_under, one_under, remaining}
use Rattle.plan_laws.proofs.Misses.{Miss, miss, Choosing, Below, misses_by, by_drawn, by_now, First, first}
use Rattle.plan_laws.proofs.Clock.{tick_used}
use Rattle.plan_laws.proofs.Asking.{asked_none, other_false}
use Rattle.plan_laws.proofs.OptLoads.{miss_of, all_by}
use Rattle.plan_laws.proofs.Keeping.{never_refused}
use Rattle.plan_laws.proofs.Conservative.{Asked, asked, EarlyState, early_moves, early_start, early_ready}
use Rattle.plan_laws.proofs.Top.{top, top_more}
use Rattle.plan_laws.proofs.CameFree.{came_free, free_from, miss_draw, undrawn_free, free_undrawn, rises_least, rises_order, misses_rise}

-- ---- Rows

map_drop : {A B : Type 0} (f : A → B) (n : ℕ) (l : List A) → map f (drop n l) ≡ drop n (map f l)
map_drop f zero l = refl
map_drop f (suc n) [] = refl
map_drop f (suc n) (x ∷ l) = map_drop f n l

-- What comes after the first n of a row, by its places.
drop_at : (n : ℕ) (l : List ℕ) (e : ℕ) → get_or (drop n l) 0 e ≡ get_or l n e
drop_at n l e = let z : n + 0 ≡ n = omega arith in get_or-drop n l 0 e ∙ rw z

-- A symbol that is not the next draw comes up one place nearer after it.
nearer : (x : ℕ) (rest : List ℕ) → 0 < length rest → (x ≡ get_or rest 0 0 → ⊥) → place x rest ≡ suc (place x (drop 1 rest))
nearer x [] more other = absurd (omega arith)
nearer x (y ∷ rest) more other = place_cons_further x y rest other

-- The next draw comes up at once.
nearest : (x : ℕ) (rest : List ℕ) → 0 < length rest → x ≡ get_or rest 0 0 → place x rest ≡ 0
nearest x [] more e = absurd (omega arith)
nearest x (y ∷ rest) more e = place_cons_here x y rest e

-- Of a tick in numbers: the next draw number d, the loads begun c, the ticks u to the end of the load under way and the ticks at which loads
-- began, before it and after it. With no load under way once a load that ends is in its slot, the next load begins exactly where it may.
pub data Beginning (may_begin : List ℕ) (count time d c u t : ℕ) (ticks : List ℕ) (c' u' : ℕ) (ticks' : List ℕ) : Type 0 where
  begins : u ≤ 1 → c < count → top 0 (c + 1) may_begin ≤ d → c' ≡ c + 1 → u' ≡ time → ticks' ≡ ticks ++ (t ∷ [])
      → Beginning may_begin count time d c u t ticks c' u' ticks'
  passes : (u ≤ 1 → c < count → d < get_or may_begin c 0) → c' ≡ c → u' ≡ u - 1 → ticks' ≡ ticks
      → Beginning may_begin count time d c u t ticks c' u' ticks'

-- A draw is made exactly where it comes before the first miss whose load has not ended, of n draws.
pub data Drawing (missed : List ℕ) (n d c' u' d' : ℕ) : Type 0 where
  draws : d < get_or missed (c' - min 1 u') n → d' ≡ d + 1 → Drawing missed n d c' u' d'
  waits : get_or missed (c' - min 1 u') n ≤ d → d' ≡ d → Drawing missed n d c' u' d'

-- Where no tick is left, no load is under way.
idle_ahead : (loading : Loading) → ahead loading ≡ 0 → loading ≡ Idle
idle_ahead Idle e = refl
idle_ahead (Under left q x) e = absurd (omega arith)

module _ (job : Job) (proper : Proper job) (pick : Choosing) (below : Below pick) (loads : List Loaded)
    (all : map miss_of loads ≡ all_by pick job) where
  -- The draws that miss, the number of draws for what is past the last of them; and from which draw on each load may begin.
  abbrev pub missed : List ℕ
  missed = map miss_draw (map miss_of loads)

  abbrev pub miss_at : ℕ → ℕ
  miss_at i = get_or missed i (length job.draws)

  abbrev pub may_begin : List ℕ
  may_begin = free_from job.draws job.starting (map miss_of loads)

  pub missed_size : length missed ≡ length loads
  missed_size = length-map (map miss_of loads) miss_draw ∙ length-map loads miss_of

  pub miss_order : (i j : ℕ) → i ≤ j → miss_at i ≤ miss_at j
  miss_order i j h =
      rises_order 0 (length job.draws) missed i j h
      (rw all (misses_rise pick 0 (length job.draws) job.starting job.draws (omega arith)))

  -- What conservative keeps beside what is in Early.
  --     coming    a load under way is for the draw of its own miss, its symbol's next
  --     left      what goes out for the loads to come is told from the slots as they are
  --     bound     every load begun could begin at the next draw number
  pub record Paced (next : ℕ) (rest slots : List ℕ) (loading : Loading) (count : ℕ) : Type 0 where
    pub coming : (left q x : ℕ) → loading ≡ Under left q x
        → (0 < count) × (next + place x rest ≡ miss_at (count - 1)) × (place x rest < length rest)
    pub left : free_from job.draws (settled loading slots) (map miss_of (drop count loads)) ≡ drop count may_begin
    pub bound : top 0 count may_begin ≤ next

  abbrev pub PacedState : State → Type 0
  PacedState s = Paced s.next s.rest s.slots s.loading s.loads

  abbrev pub Kept : State → Type 0
  Kept s = SaneState job s × EarlyState job proper pick below loads all s

  kept_moves : Moves job (conservative loads) Kept Kept Kept
  kept_moves =
      upon job (conservative loads) (SaneState job) (SaneState job) (SaneState job) _ _ _
      (sane_moves job (conservative loads) proper.some_load_time) (early_moves job proper pick below loads all)

  paced_lands : (next : ℕ) (rest slots : List ℕ) (loading : Loading) (count : ℕ) → Paced next rest slots loading count
      → Paced next rest (landed_slots loading slots) (landed_loading loading) count
  paced_lands next rest slots Idle count h = h
  paced_lands next rest slots (Under zero q x) count h =
      record { coming = λ left' q' x' e. none_under left' q' x' e; left = h.left; bound = h.bound }
  paced_lands next rest slots (Under (suc l) q x) count h =
      record {
        coming = λ left' q' x' e.
            one_under (λ a b y. (0 < count) × (next + place y rest ≡ miss_at (count - 1)) × (place y rest < length rest)) l q x left' q' x'
            (h.coming (suc l) q x refl) e;
        left = h.left;
        bound = h.bound;
      }

  -- The first of the loads to come, with no load under way: its miss, and from which draw on it may begin.
  record Next (s : State) (m q x : ℕ) (later : List Loaded) : Type 0 where
    found : First pick s.next s.slots s.rest m q x (map miss_of later)
    is_miss : miss_at s.loads ≡ m
    to_begin : drop s.loads may_begin
        ≡ came_free (reverse (take m job.draws)) (get_or s.slots q 0) ∷ free_from job.draws (set s.slots q x) (map miss_of later)
    comes : s.next ≤ m
    within : m ≤ length job.draws

  next_load : (s : State) → Kept s → PacedState s → s.loading ≡ Idle → (t m q x : ℕ) (later : List Loaded)
      → drop s.loads loads ≡ loaded t m q x ∷ later → Next s m q x later
  unfolding free_from
  next_load s (g, h) p quiet t m q x later head =
      let still : settled s.loading s.slots ≡ s.slots = ap (λ (l : Loading). settled l s.slots) quiet in
      let come : misses_by pick s.next s.slots s.rest ≡ miss m q x ∷ map miss_of later =
      rw still at h.to_come ∙ ap (map miss_of) head in
      let f : First pick s.next s.slots s.rest m q x (map miss_of later) =
      first pick below s.next s.slots s.rest m q x (map miss_of later) (omega (arith, proper.some_slot, g.row)) come in
      let row : free_from job.draws s.slots (miss m q x ∷ map miss_of later) ≡ drop s.loads may_begin =
      ap (free_from job.draws s.slots) (sym (ap (map miss_of) head)) ∙ rw still at p.left in
      let left : s.next + length s.rest ≡ length job.draws = remaining job s.next s.rest s.slots s.loading g in
      let draws_left : drop s.loads missed ≡ m ∷ map miss_draw (map miss_of later) =
      sym (ap (map miss_draw) (map_drop miss_of s.loads loads) ∙ map_drop miss_draw s.loads (map miss_of loads))
      ∙ ap (λ (l : List Loaded). map miss_draw (map miss_of l)) head in
      record {
        found = f;
        is_miss = sym (drop_at s.loads missed (length job.draws)) ∙ ap (λ (l : List ℕ). get_or l 0 (length job.draws)) draws_left;
        to_begin = sym row;
        comes = omega (arith, f.at);
        within = omega (arith, f.at, f.drawn);
      }

  paced_begins : (q x : ℕ) (s : State) → Kept s → PacedState s → (a : Asked (drop s.loads loads) s q x) → s.loading ≡ Idle
      → Paced s.next s.rest (set s.slots q free) (Under (job.load_time - 1) q x) (s.loads + 1)
  paced_begins q x s k p a quiet =
      let n : Next s a.miss q x a.later = next_load s k p quiet a.t a.miss q x a.later a.head in
      let g : SaneState job s = k.0 in
      let one : s.loads + 1 - 1 ≡ s.loads = omega arith in
      let soon : came_free (reverse (take a.miss job.draws)) (get_or s.slots q 0) ≤ s.next =
      undrawn_free job.draws s.next a.miss s.rest g.ahead n.comes n.within (get_or s.slots q 0) a.enough in
      record {
        coming = λ left' q' x' e.
            one_under
            (λ l r y. (0 < s.loads + 1) × (s.next + place y s.rest ≡ miss_at (s.loads + 1 - 1)) × (place y s.rest < length s.rest))
            (job.load_time - 1) q x left' q' x' (omega arith, rw one (n.found.at ∙ sym n.is_miss), n.found.drawn) e;
        left =
            rw (set-set, ← drop-drop 1 s.loads loads, a.head)
            (sym (sym (drop-drop 1 s.loads may_begin) ∙ ap (drop 1) n.to_begin));
        bound = omega (arith, p.bound, top_more 0 s.loads _ may_begin _ n.to_begin);
      }

  -- A draw with a load under way is not of the symbol that it brings.
  not_coming : (next : ℕ) (rest slots : List ℕ) (loading : Loading) → Sane job next rest slots loading → stands (get_or rest 0 0) slots ≡ true
      → (left q x : ℕ) → loading ≡ Under left q x → x ≡ get_or rest 0 0 → ⊥
  not_coming next rest slots loading g held left q x e same =
      let nowhere : stands x slots ≡ false = (g.under left q x e).nowhere in
      let both : true ≡ false = sym held ∙ ap (λ (y : ℕ). stands y slots) (sym same) ∙ nowhere in
      let z : ◌≡◌ {A = ℕ} 0 1 = cc in
      omega arith

  paced_moves : Upon job (conservative loads) Kept Kept Kept PacedState PacedState PacedState
  paced_moves =
      record {
        lands = λ s more k p. paced_lands s.next s.rest s.slots s.loading s.loads p;
        passes = λ s more a k p. p;
        begins = λ q x s b k p. paced_begins q x s k p (asked (drop s.loads loads) s q x b.asks) b.quiet;
        draws = λ q s d k p.
            record {
              coming = λ left q x e.
                  let (some, at, within) = p.coming left q x e in
                  let one : place x s.rest ≡ suc (place x (drop 1 s.rest)) =
                  nearer x s.rest d.more (not_coming s.next s.rest s.slots s.loading k.0 d.held left q x e) in
                  (some, omega arith, omega (arith, length-drop 1 s.rest));
              left = p.left;
              bound = omega (arith, p.bound);
            };
        waits = λ s w k p. p;
      }

  pub paced_all : Moves job (conservative loads) (λ s. Kept s × PacedState s) (λ s. Kept s × PacedState s) (λ s. Kept s × PacedState s)
  paced_all = upon job (conservative loads) Kept Kept Kept PacedState PacedState PacedState kept_moves paced_moves

  -- ---- A tick in numbers

  abbrev pub ticks_of : State → List ℕ
  ticks_of s = map load_tick s.begun

  pub record Pace (s s' : State) : Type 0 where
    pub beginning : Beginning may_begin (length missed) job.load_time s.next s.loads (ahead s.loading) s.tick (ticks_of s)
        s'.loads (ahead s'.loading) (ticks_of s')
    pub drawing : Drawing missed (length job.draws) s.next s'.loads (ahead s'.loading) s'.next
    pub tick : s'.tick ≡ s.tick + 1

  -- With none under way, a load that is not asked for may not begin yet, or there is none.
  not_yet : (s : State) → Kept s → PacedState s → s.loading ≡ Idle → (conservative loads).asks s ≡ None → s.loads < length missed
      → s.next < get_or may_begin s.loads 0
  not_yet s k p quiet none more = by_next (drop s.loads loads) refl none
    where
      by_next : (coming : List Loaded) → drop s.loads loads ≡ coming → earliest coming s ≡ None → s.next < get_or may_begin s.loads 0
      by_next [] e none = absurd (omega (arith, ap length e, length-drop s.loads loads, missed_size))
      by_next (loaded t m q x ∷ later) e none =
          let n : Next s m q x later = next_load s k p quiet t m q x later e in
          let z : ℕ = get_or s.slots q 0 in
          let far : leb m (s.next + place z s.rest) ≡ false =
          other_false (idle s.loading) (leb m (s.next + place z s.rest))
          (asked_none (idle s.loading && leb m (s.next + place z s.rest)) q x none) (ap idle quiet) in
          let drawn : s.next + place z s.rest < m = leb-false m (s.next + place z s.rest) far in
          let is : get_or may_begin s.loads 0 ≡ came_free (reverse (take m job.draws)) z =
          sym (drop_at s.loads may_begin 0) ∙ ap (λ (l : List ℕ). get_or l 0 0) n.to_begin in
          by_test (ltb s.next (came_free (reverse (take m job.draws)) z))
          (λ t. omega (arith, ltb-true s.next (came_free (reverse (take m job.draws)) z) t))
          (λ t.
          absurd
          (omega (
            arith,
            free_undrawn job.draws s.next m s.rest k.0.ahead n.comes n.within z
                (ltb-false s.next (came_free (reverse (take m job.draws)) z) t),
          )))

  -- The misses to come, by their draws.
  missed_left : (s : State) → EarlyState job proper pick below loads all s
      → map miss_draw (misses_by pick s.next (settled s.loading s.slots) s.rest) ≡ drop s.loads missed
  missed_left s h =
      ap (map miss_draw) h.to_come ∙ ap (map miss_draw) (map_drop miss_of s.loads loads) ∙ map_drop miss_draw s.loads (map miss_of loads)

  settled_size : (loading : Loading) (slots : List ℕ) → length (settled loading slots) ≡ length slots
  settled_size Idle slots = refl
  settled_size (Under left q x) slots = length-set slots q x

  module _ (s : State) (g : SaneState job s) (h : EarlyState job proper pick below loads all s) (more : 0 < length s.rest) where
    abbrev n : ℕ
    n = length job.draws

    abbrev held_then : List ℕ
    held_then = settled s.loading s.slots

    next_miss : miss_at s.loads ≡ get_or (map miss_draw (misses_by pick s.next held_then s.rest)) 0 n
    next_miss = sym (drop_at s.loads missed n) ∙ ap (λ (l : List ℕ). get_or l 0 n) (sym (missed_left s h))

    -- Where the next draw is in no slot, with the load under way counted as landed, it is the next miss.
    is_next_miss : stands (awaited s) held_then ≡ false → miss_at s.loads ≡ s.next
    is_next_miss unheld =
        next_miss
        ∙ ap (λ (l : List Miss). get_or (map miss_draw l) 0 n)
        (by_now pick below s.next held_then s.rest (omega (arith, settled_size s.loading s.slots, proper.some_slot, g.row)) more unheld)

    -- Where it is in one, the next miss is a later draw.
    next_miss_later : stands (awaited s) held_then ≡ true → s.next < miss_at s.loads
    next_miss_later held =
        let left : s.next + length s.rest ≡ n = remaining job s.next s.rest s.slots s.loading g in
        let size : length (drop 1 s.rest) ≡ length s.rest - 1 = length-drop 1 s.rest in
        let later : s.next + 1 ≤ get_or (map miss_draw (misses_by pick (s.next + 1) held_then (drop 1 s.rest))) 0 n =
        rises_least (s.next + 1) n _ 0 (misses_rise pick (s.next + 1) n held_then (drop 1 s.rest) (omega arith)) in
        let same : miss_at s.loads ≡ get_or (map miss_draw (misses_by pick (s.next + 1) held_then (drop 1 s.rest))) 0 n =
        next_miss ∙ ap (λ (l : List Miss). get_or (map miss_draw l) 0 n) (by_drawn pick s.next held_then s.rest more held) in
        omega arith

    module _ (p : PacedState s) where
      -- A draw that is made comes before the first miss whose load has not ended.
      drawn_before : (loading : Loading) → s.loading ≡ loading → stands (awaited s) s.slots ≡ true
          → s.next < miss_at (s.loads - min 1 (ahead loading))
      drawn_before Idle e held =
          let none : s.loads - min 1 0 ≡ s.loads = omega arith in
          rw none (next_miss_later (rw e held))
      drawn_before (Under left q x) e held =
          let one : s.loads - min 1 (left + 1) ≡ s.loads - 1 = omega arith in
          let (some, at, within) = p.coming left q x e in
          let further = nearer x s.rest more (not_coming s.next s.rest s.slots s.loading g held left q x e) in
          rw one (omega arith)

      -- One that is not made does not.
      waits_for : (loading : Loading) → s.loading ≡ loading → stands (awaited s) s.slots ≡ false
          → miss_at (s.loads - min 1 (ahead loading)) ≤ s.next
      waits_for Idle e unheld =
          let none : s.loads - min 1 0 ≡ s.loads = omega arith in
          rw none (omega (arith, is_next_miss (rw e unheld)))
      waits_for (Under left q x) e unheld =
          let one : s.loads - min 1 (left + 1) ≡ s.loads - 1 = omega arith in
          let (some, at, within) = p.coming left q x e in
          rw one
          (by_test (eqb x (awaited s))
          (λ t. omega (arith, nearest x s.rest more (eqb-true x (awaited s) t)))
          (λ t.
          let other : awaited s ≡ x → ⊥ = λ same. eqb-false x (awaited s) t (sym same) in
          let now : miss_at s.loads ≡ s.next = is_next_miss (rw e (absent_set (awaited s) s.slots q x unheld other)) in
          omega (arith, miss_order (s.loads - 1) s.loads (omega arith))))

  -- So it is with every tick.
  module _ (s : State) where
    record Before (z : State) : Type 0 where
      kept : Kept z × PacedState z
      next : z.next ≡ s.next
      count : z.loads ≡ s.loads
      left : ahead z.loading ≡ ahead s.loading
      tick : z.tick ≡ s.tick
      ticks : ticks_of z ≡ ticks_of s

    record Landed (z : State) : Type 0 where
      kept : Kept z × PacedState z
      next : z.next ≡ s.next
      count : z.loads ≡ s.loads
      left : ahead z.loading ≡ ahead s.loading - 1
      tick : z.tick ≡ s.tick
      ticks : ticks_of z ≡ ticks_of s

    record Begun (z : State) : Type 0 where
      kept : Kept z × PacedState z
      next : z.next ≡ s.next
      tick : z.tick ≡ s.tick
      beginning : Beginning may_begin (length missed) job.load_time s.next s.loads (ahead s.loading) s.tick (ticks_of s)
          z.loads (ahead z.loading) (ticks_of z)

    pace_steps : Steps job (conservative loads) Before Landed Begun (Pace s)
    pace_steps =
        record {
          lands = λ z more h.
              record {
                kept = paced_all.lands z more h.kept;
                next = h.next;
                count = h.count;
                left = omega (arith, tick_used z.loading, h.left);
                tick = h.tick;
                ticks = h.ticks;
              };
          passes = λ z more a h.
              record {
                kept = paced_all.passes z more a h.kept;
                next = h.next;
                tick = h.tick;
                beginning = passes
                    (λ soon some.
                    let quiet : z.loading ≡ Idle = idle_ahead z.loading (omega (arith, h.left)) in
                    rw (← h.next, ← h.count) (not_yet z h.kept.0 h.kept.1 quiet a (omega (arith, h.count))))
                    h.count h.left h.ticks;
              };
          begins = λ q x z b h.
              let k = paced_all.begins q x z b h.kept in
              record {
                kept = k;
                next = h.next;
                tick = h.tick;
                beginning = begins
                    (omega (arith, ap ahead b.quiet, h.left))
                    (omega (arith, k.0.1.upto, missed_size, h.count))
                    (rw (← h.next, ← h.count) k.1.bound)
                    (omega (arith, h.count))
                    (omega (arith, proper.some_load_time))
                    (map_snoc load_tick z.begun (loaded z.tick z.next q x) ∙ rw (h.ticks, h.tick));
              };
          draws = λ q z d h.
              record {
                beginning = h.beginning;
                drawing = draws
                    (rw (← h.next) (drawn_before z h.kept.0.0 h.kept.0.1 d.more h.kept.1 z.loading refl d.held))
                    (omega (arith, h.next));
                tick = omega (arith, h.tick);
              };
          waits = λ z w h.
              record {
                beginning = h.beginning;
                drawing = waits
                    (rw (← h.next) (waits_for z h.kept.0.0 h.kept.0.1 w.more h.kept.1 z.loading refl w.unheld))
                    h.next;
                tick = omega (arith, h.tick);
              };
        }

  pub pace_tick : (s s' : State) → 0 < length s.rest → Kept s × PacedState s → tick job (conservative loads) s ≡ going s' → Pace s s'
  pace_tick s s' more h e =
      tick_kept job (conservative loads) (Before s) (Landed s) (Begun s) (Pace s) (pace_steps s) s s' more
      (record { kept = h; next = refl; count = refl; left = refl; tick = refl; ticks = refl }) e

  -- ---- The run

  kept_start : Kept (start job) × PacedState (start job)
  unfolding top
  kept_start = (
    (sane_start job proper, early_start job proper pick below loads all),
    record { coming = λ left q x e. none_under left q x e; left = refl; bound = omega arith },
  )

  -- It comes to a state after every number of ticks, and each is as said.
  pub paced_run : (t : ℕ) → (s : State) × (run job (conservative loads) t (start job) ≡ going s)
  paced_run t =
      never_refused job proper (conservative loads).asks (EarlyState job proper pick below loads all)
      (early_moves job proper pick below loads all) (early_start job proper pick below loads all) (early_ready job proper pick below loads all) t

  pub paced : (t : ℕ) (s : State) → run job (conservative loads) t (start job) ≡ going s → Kept s × PacedState s
  paced t s e = reached job (conservative loads) _ _ _ paced_all t (start job) s kept_start e
