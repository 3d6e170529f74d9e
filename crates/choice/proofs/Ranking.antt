-- The two steps of a choice: the ranks of the slots, slot by slot, and the first of the greatest, rank by rank.
use Prim.Native.Nat.{ℕ, suc, ◌+◌, ◌-◌, ◌<◌, ◌≤◌}
use native.Mathlib.Omega.{arith}
use native.Mathlib.Numerals.{add-one}
use mathlib.Core.Path.{◌≡◌, refl, sym, ap, ◌∙◌}
use mathlib.Core.Bool.{false}
use mathlib.Core.List.{List, [], ◌∷◌, ◌++◌, map, map-append}
use lib.ListN.{length, get_or, take, drop, set, replicate, length-map, length-drop}
use lib.Seq.{length-take-le, take-suc, take-length, take_at, get_or-take, get_or-drop}
use lib.Dec.{eqb, ltb}
use borrow.Author.Tests.{lt-ltb, eq-eqb, ne_eqb, ltb-true, ltb-false}
use Rattle.rules.specs.Basics.{place, stands}
use Rattle.rules.specs.Job.{Job, free, most_slots}
use Rattle.rules.specs.Plans.{rank, ranks_from, greatest}
use Rattle.laws.proofs.Cases.{by_test}
use Rattle.laws.proofs.Search.{place_first, place_within, place_near, place_beyond}
use Rattle.laws.proofs.Places.{place_here, place_past}
use Rattle.laws.proofs.Ranks.{Leads, leads_more, leads_same, search_leads, leads_search, length-ranks, rank_at}
use Rattle.choice.specs.Ranks.{Ranks, Greatest, Chosen}
use Rattle.choice.proofs.Rows.{filled_more}

-- ---- The rank of what a slot holds: of a free slot, of a symbol met at a place, of one that is not met

module _ (row : List ℕ) where
  -- Up to this place the symbol does not come up.
  abbrev pub NotBefore : ℕ → ℕ → Type 0
  NotBefore x at = place x row ≡ at + place x (drop at row)

  pub rank_free : (x : ℕ) → x ≡ free → length row + 1 ≡ rank row x
  rank_free x e = rw (eq-eqb x free e)

  pub rank_found : (x at : ℕ) → (x ≡ free → ⊥) → at < length row → get_or row at 0 ≡ x → NotBefore x at → at ≡ rank row x
  rank_found x at other within here met =
      let stops : place x (drop at row) ≡ 0 = place_here x row at within here in
      rw (ne_eqb x free other) (omega arith)

  pub rank_past : (x at : ℕ) → (x ≡ free → ⊥) → length row ≤ at → NotBefore x at → at ≡ rank row x
  rank_past x at other over met =
      let stops : place x (drop at row) ≡ 0 = place_past x row at over in
      rw (ne_eqb x free other) (omega arith)

  pub rank_symbol : (x : ℕ) → (x ≡ free → ⊥) → place x row ≡ rank row x
  rank_symbol x other = rw (ne_eqb x free other)

  rank_most : (x : ℕ) → rank row x ≤ length row + 1
  rank_most x = by_test (eqb x free) (λ e. rw e (omega arith)) (λ e. rw e (omega (arith, place_within x row)))

  -- ---- The ranks, slot by slot

  raised : ℕ → ℕ
  raised x = suc (rank row x)

  -- The ranks of the slots passed, and zeros after them.
  pub ranks_to : List ℕ → ℕ → List ℕ
  ranks_to slots slot = map raised (take slot slots) ++ replicate (most_slots - slot) 0

  pub ranks_none : (slots : List ℕ) → replicate most_slots 0 ≡ ranks_to slots 0
  unfolding ranks_to
  ranks_none slots = refl

  pub ranks_more : (slots ranks : List ℕ) (slot r : ℕ) → slot < length slots → length slots ≤ most_slots
      → r ≡ suc (rank row (get_or slots slot 0))
      → ranks ≡ ranks_to slots slot → set ranks slot r ≡ ranks_to slots (slot + 1)
  unfolding raised ranks_to
  ranks_more slots ranks slot r within few e before =
      let front : List ℕ = map raised (take slot slots) in
      let many : length front ≡ slot = length-map (take slot slots) raised ∙ length-take-le slot slots (omega arith) in
      let next : map raised (take (slot + 1) slots) ≡ front ++ (r ∷ []) =
      rw (add-one, take-suc slots slot 0 within, map-append raised (take slot slots) (get_or slots slot 0 ∷ []), e) in
      ap (λ (l : List ℕ). set l slot r) before
      ∙ filled_more front most_slots slot r many (omega arith)
      ∙ ap (λ (l : List ℕ). l ++ replicate (most_slots - (slot + 1)) 0) (sym next)

  -- A load may go into every slot of a job, so each has its rank.
  all_ranked : (job : Job) (q : ℕ) (slots : List ℕ) → q + length slots ≤ job.slots → map raised slots ≡ ranks_from job row q slots
  unfolding raised ranks_from
  all_ranked job q [] all = refl
  all_ranked job q (x ∷ slots) all =
      rw (lt-ltb q job.slots (omega arith)) (ap (λ (l : List ℕ). suc (rank row x) ∷ l) (all_ranked job (suc q) slots (omega arith)))

  pub ranks_all : (slots ranks : List ℕ) (slot : ℕ) → slot ≡ length slots → ranks ≡ ranks_to slots slot → Ranks slots row ranks
  unfolding ranks_to
  ranks_all slots ranks slot whole e job many =
      e
      ∙ rw (whole, take-length slots)
      (ap (λ (l : List ℕ). l ++ replicate (most_slots - length slots) 0) (all_ranked job 0 slots (omega arith)))

-- ---- The slot that is chosen by its rank

-- A job that has these slots.
job_with : List ℕ → Job
job_with slots = record { slots = length slots; load_time = 0; starting = []; draws = [] }

-- The rank of what slot q holds, in a job that has these slots.
rank_in : (slots row : List ℕ) (job : Job) → job.slots ≡ length slots → (q : ℕ) → q < length slots
    → get_or (ranks_from job row 0 slots) q 0 ≡ suc (rank row (get_or slots q 0))
rank_in slots row job many q less = rank_at job row 0 slots q less ∙ rw (lt-ltb (0 + q) job.slots (omega arith))

module _ (slots row ranks : List ℕ) (ranked : Ranks slots row ranks) where
  ranks_front : (job : Job) → job.slots ≡ length slots → take (length slots) ranks ≡ ranks_from job row 0 slots
  ranks_front job many =
      ap (λ (l : List ℕ). take (length slots) l) (ranked job many)
      ∙ take_at (ranks_from job row 0 slots) (replicate (most_slots - length slots) 0) (length slots) (length-ranks job row 0 slots)

  -- There is a rank for each slot.
  pub ranks_size : length slots ≡ length (take (length slots) ranks)
  unfolding job_with
  ranks_size = sym (ap length (ranks_front (job_with slots) refl) ∙ length-ranks (job_with slots) row 0 slots)

  pub ranked_at : (q : ℕ) → q < length slots → get_or ranks q 0 ≡ suc (rank row (get_or slots q 0))
  unfolding job_with
  ranked_at q less =
      sym (get_or-take (length slots) ranks q 0 less)
      ∙ ap (λ (l : List ℕ). get_or l q 0) (ranks_front (job_with slots) refl)
      ∙ rank_in slots row (job_with slots) refl q less

  pub chosen_by : (q : ℕ) → Greatest (take (length slots) ranks) q → Chosen slots row q
  chosen_by q chosen =
      record {
        slot = λ job many.
            chosen.first ∙ ap (λ (l : List ℕ). place (greatest l) l) (ranks_front job many);
        within = rw ranks_size chosen.within;
      }

  -- So the slot of the first greatest rank is there, has its own rank, and leads by the ranks of what the slots hold.
  pub record Led (q : ℕ) : Type 0 where
    pub inside : q < length slots
    pub own : get_or ranks q 0 ≡ suc (rank row (get_or slots q 0))
    pub leads : Leads (λ i. rank row (get_or slots i 0)) q (rank row (get_or slots q 0)) (length slots)

  pub led : (q : ℕ) → Greatest (take (length slots) ranks) q → Led q
  led q chosen =
      let size : length slots ≡ length (take (length slots) ranks) = ranks_size in
      let within : q < length slots = rw ranks_size chosen.within in
      let read : (i : ℕ) → i < length slots → get_or (take (length slots) ranks) i 0 ≡ suc (rank row (get_or slots i 0)) =
      λ i less. get_or-take (length slots) ranks i 0 less ∙ ranked_at i less in
      let l = search_leads (take (length slots) ranks) q chosen.first chosen.within in
      record {
        inside = within;
        own = ranked_at q within;
        leads =
            record {
              above = λ i h. omega (arith, l.above i h, read i (omega arith), read q within);
              below_none = λ i h. omega (arith, l.below_none i (omega arith), read i h, read q within);
              own = omega arith;
            };
      }

-- What leads among all slots is chosen.
pub leads_chosen : (slots row : List ℕ) (q most upto : ℕ) → q < length slots → length slots ≤ upto
    → Leads (λ i. rank row (get_or slots i 0)) q most upto → Chosen slots row q
leads_chosen slots row q most upto within all l =
    record {
      slot = λ job many.
          let ranks : List ℕ = ranks_from job row 0 slots in
          let size : length ranks ≡ length slots = length-ranks job row 0 slots in
          leads_search ranks q (suc most) (omega arith)
          (record {
            above = λ i h. omega (arith, l.above i h, rank_in slots row job many i (omega arith));
            below_none = λ i h. omega (arith, l.below_none i (omega arith), rank_in slots row job many i (omega arith));
            own = omega (arith, l.own, rank_in slots row job many q within);
          });
      within = within;
    }

-- A rank that does not stand in a part of the ranks is that of no slot there.
pub not_there : (ranks : List ℕ) (from count never : ℕ) → stands never (take (count - from) (drop from ranks)) ≡ false → count ≤ length ranks
    → (i : ℕ) → from ≤ i → i < count → get_or ranks i 0 ≡ never → ⊥
not_there ranks from count never none fits i above below e =
    let part : List ℕ = take (count - from) (drop from ranks) in
    let back : from + (i - from) ≡ i = omega arith in
    let size : length part ≡ count - from = length-take-le (count - from) (drop from ranks) (omega (arith, length-drop from ranks)) in
    let there : get_or part (i - from) 0 ≡ never =
    get_or-take (count - from) (drop from ranks) (i - from) 0 (omega arith) ∙ get_or-drop from ranks (i - from) 0 ∙ rw back e in
    let absent : length part ≤ place never part = ltb-false (place never part) (length part) none in
    omega (arith, place_first never part (i - from) (omega arith) there)

-- ---- Both ways

module _ (rest beyond : List ℕ) where
  abbrev both : List ℕ
  both = rest ++ beyond

  -- What is met among the draws that remain ranks as it does along them; what is not ranks by where it is met beyond them; and a free slot
  -- ranks above both.
  pub both_near : (x : ℕ) → rank rest x < length rest → rank both x ≡ rank rest x
  both_near x near =
      by_test (eqb x free)
      (λ e. absurd (omega (arith, rw e at near)))
      (λ e. let found : place x rest < length rest = rw e at near in rw (e, place_near x rest beyond found))

  pub both_beyond : (x : ℕ) → rank rest x ≡ length rest → rank both x ≡ length rest + place x beyond
  both_beyond x past =
      by_test (eqb x free)
      (λ e. absurd (let over : length rest + 1 ≡ length rest = rw e at past in omega arith))
      (λ e.
      let far : place x rest ≡ length rest = rw e at past in
      rw e (place_beyond x rest beyond (omega arith)))

  both_free : (x : ℕ) → length rest < rank rest x → rank both x ≡ length both + 1
  both_free x over =
      by_test (eqb x free) (λ e. rw e)
      (λ e. absurd (omega (arith, place_within x rest, rw e at over)))

  both_held : (x : ℕ) → rank rest x ≤ length rest → rank both x ≤ length both
  both_held x held =
      by_test (eqb x free) (λ e. absurd (omega (arith, rw e at held))) (λ e. rw e (place_within x both))

  -- A slot that leads along the draws that remain leads both ways, unless its symbol is never drawn again.
  pub leads_both : (slots : List ℕ) (q : ℕ) → (rank rest (get_or slots q 0) ≡ length rest → ⊥)
      → Leads (λ i. rank rest (get_or slots i 0)) q (rank rest (get_or slots q 0)) (length slots) → q < length slots
      → Leads (λ i. rank both (get_or slots i 0)) q (rank both (get_or slots q 0)) (length slots)
  leads_both slots q other l within =
      by_test (ltb (rank rest (get_or slots q 0)) (length rest))
      (λ t.
      let near : rank rest (get_or slots q 0) < length rest = ltb-true _ _ t in
      let same : (i : ℕ) → i < length slots → rank both (get_or slots i 0) ≡ rank rest (get_or slots i 0) =
      λ i h. both_near (get_or slots i 0) (omega (arith, l.below_none i h)) in
      record {
        above = λ i h. omega (arith, l.above i h, same i (omega arith), same q within);
        below_none = λ i h. omega (arith, l.below_none i h, same i h, same q within);
        own = omega arith;
      })
      (λ t.
      let over : length rest < rank rest (get_or slots q 0) = omega (arith, ltb-false (rank rest (get_or slots q 0)) (length rest) t) in
      let top : rank both (get_or slots q 0) ≡ length both + 1 = both_free (get_or slots q 0) over in
      record {
        above = λ i h. omega (arith, both_held (get_or slots i 0) (omega (arith, l.above i h, rank_most rest (get_or slots q 0))));
        below_none = λ i h. omega (arith, rank_most both (get_or slots i 0));
        own = omega arith;
      })

-- Of slots that lead along the draws that remain with symbols never drawn again, the one leads that is met furthest beyond them: slot by slot,
-- from the lowest of them on.
module _ (rest beyond slots : List ℕ) where
  abbrev pub Freed : ℕ → ℕ → Type 0
  Freed best slot = Leads (λ i. rank (rest ++ beyond) (get_or slots i 0)) best (rank (rest ++ beyond) (get_or slots best 0)) slot

  abbrev pub Never : ℕ → Type 0
  Never q = rank rest (get_or slots q 0) ≡ length rest

  beyond_at : (q : ℕ) → Never q → rank (rest ++ beyond) (get_or slots q 0) ≡ length rest + place (get_or slots q 0) beyond
  beyond_at q never = both_beyond rest beyond (get_or slots q 0) never

  module _ (q : ℕ) (within : q < length slots) (never : Never q)
      (l : Leads (λ i. rank rest (get_or slots i 0)) q (rank rest (get_or slots q 0)) (length slots)) where
    -- Every slot whose symbol is drawn again is behind it.
    behind_it : (i : ℕ) → rank rest (get_or slots i 0) < length rest
        → rank (rest ++ beyond) (get_or slots i 0) < rank (rest ++ beyond) (get_or slots q 0)
    behind_it i near = omega (arith, beyond_at q never, both_near rest beyond (get_or slots i 0) near)

    before_it : (i : ℕ) → i < q → rank (rest ++ beyond) (get_or slots i 0) < rank (rest ++ beyond) (get_or slots q 0)
    before_it i h = behind_it i (omega (arith, l.above i h))

    pub freed_first : Freed q (q + 1)
    freed_first =
        record {
          above = before_it;
          below_none = λ i h.
              by_test (ltb i q) (λ t. omega (arith, before_it i (ltb-true i q t)))
              (λ t. let here : i ≡ q = omega (arith, ltb-false i q t) in rw here (omega arith));
          own = omega arith;
        }

    -- Where no other slot has such a symbol, it leads among all.
    pub freed_alone : ((i : ℕ) → q < i → i < length slots → Never i → ⊥) → Freed q (length slots)
    freed_alone alone =
        record {
          above = before_it;
          below_none = λ i h.
              by_test (ltb q i)
              (λ t.
              let other : Never i → ⊥ = alone i (ltb-true q i t) h in
              omega (arith, behind_it i (omega (arith, l.below_none i h))))
              (λ t. freed_first.below_none i (omega (arith, ltb-false q i t)));
          own = omega arith;
        }

  module _ (best slot : ℕ) (never : Never best) (so_far : Freed best slot) where
    pub freed_more : Never slot → place (get_or slots best 0) beyond < place (get_or slots slot 0) beyond → Freed slot (slot + 1)
    freed_more too further =
        leads_more _ best (rank (rest ++ beyond) (get_or slots best 0)) slot (omega (arith, beyond_at best never, beyond_at slot too)) so_far

    pub freed_same : Never slot → place (get_or slots slot 0) beyond ≤ place (get_or slots best 0) beyond → Freed best (slot + 1)
    freed_same too nearer =
        leads_same _ best (rank (rest ++ beyond) (get_or slots best 0)) slot (omega (arith, beyond_at best never, beyond_at slot too)) so_far

    pub freed_near : rank rest (get_or slots slot 0) < length rest → Freed best (slot + 1)
    freed_near near =
        leads_same _ best (rank (rest ++ beyond) (get_or slots best 0)) slot
        (omega (arith, beyond_at best never, both_near rest beyond (get_or slots slot 0) near)) so_far
