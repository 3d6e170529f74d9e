-- The slot that leads along the draws that remain leads both ways, unless its symbol and another are never drawn again; then the best of
-- such slots leads among those looked at.
use Rattle.std.proofs.Common.{◌≡◌, ℕ, suc, ◌+◌, ◌<◌, ◌≤◌, ◌++◌, get_or, take, length, reverse, sym, ◌∙◌, arith}
use Rattle.rules.specs.Basics.{place}
use Rattle.rules.specs.Plans.{rank}
use Rattle.choice.proofs.Ranking.{ranks_size, ranked_at, led, leads_chosen, leads_both}
use Rattle.choice.proofs.Ranking.{not_there, Never, freed_first, freed_alone, freed_more, freed_same, freed_near}
use Rattle.choice.proofs.ranks.free_first.Goals as goal
use Rattle.choice.proofs.ranks.free_first.Goals.{then-ranks-slot+then-most-ago, then-ranks-slot+else-most-ago, else-ranks-slot}

pub returns-then-ranks-first : goal.returns-then-ranks-first
returns-then-ranks-first c =
    let slots = c.args.slots.now in
    let rest = c.args.rest.now in
    let beyond = reverse c.args.made.now in
    let first = led slots rest c.ranks_of-ranks.result c.ranks_of-ranks.ensures _ c.first_greatest-first.ensures in
    leads_chosen slots (rest ++ beyond) _ _ (length slots) first.inside (omega arith)
    (leads_both rest beyond slots _ (λ e. c.if-ranks-first.true (first.own ∙ omega arith)) first.leads first.inside)

pub returns-then-not-served : goal.returns-then-not-served
returns-then-not-served c =
    let slots = c.args.slots.now in
    let rest = c.args.rest.now in
    let beyond = reverse c.args.made.now in
    let ranks = c.ranks_of-ranks.result in
    let q : ℕ = c.first_greatest-first.result in
    let size : length slots ≡ length (take (length slots) ranks) = ranks_size slots rest ranks c.ranks_of-ranks.ensures in
    let first = led slots rest ranks c.ranks_of-ranks.ensures q c.first_greatest-first.ensures in
    let never : Never rest beyond slots q = omega (arith, first.own, c.if-ranks-first.false) in
    leads_chosen slots (rest ++ beyond) q _ (length slots) first.inside (omega arith)
    (freed_alone rest beyond slots q first.inside never first.leads
    (λ i above below again.
    not_there ranks (q + 1) (length slots) (length rest + 1) (sym c.if-not-served.ensures) (omega arith) i (omega arith) below
    (ranked_at slots rest ranks c.ranks_of-ranks.ensures i below ∙ omega arith)))

pub loop-slot-init : goal.loop-slot-init
loop-slot-init c =
    let slots = c.args.slots.now in
    let rest = c.args.rest.now in
    let beyond = reverse c.args.made.now in
    let q : ℕ = c.first_greatest-first.result in
    let first = led slots rest c.ranks_of-ranks.result c.ranks_of-ranks.ensures q c.first_greatest-first.ensures in
    let never : Never rest beyond slots q = omega (arith, first.own, c.if-ranks-first.false) in
    record {
      passed = omega arith;
      age = c.last_draw-most.ensures.first;
      never = never;
      so_far = freed_first rest beyond slots q first.inside never first.leads;
    }

pub loop-slot-preserved : goal.loop-slot-preserved
loop-slot-preserved c =
    let slots = c.args.slots.now in
    let rest = c.args.rest.now in
    let beyond = reverse c.args.made.now in
    let ranks = c.ranks_of-ranks.result in
    let first = led slots rest ranks c.ranks_of-ranks.ensures _ c.first_greatest-first.ensures in
    let l = c.loop-slot in
    let kept = l.invariant in
    let turn : l.slot < length slots = c.loop-slot-test.true in
    let here : ℕ = get_or slots l.slot 0 in
    let rank_here : get_or ranks l.slot 0 ≡ suc (rank rest here) = ranked_at slots rest ranks c.ranks_of-ranks.ensures l.slot turn in
    elim c.if-ranks-slot.branch [
      | then-ranks-slot+then-most-ago w ↦
          let too : Never rest beyond slots l.slot = omega (arith, rank_here, w.if-ranks-slot.true) in
          let further : place (get_or slots l.best 0) beyond < place here beyond =
          omega (arith, kept.age, w.last_draw-ago.ensures.first, w.if-most-ago.true) in
          record {
            passed = omega (arith, w.best-is);
            age = rw (w.best-is, w.most-is) w.last_draw-ago.ensures.first;
            never = rw w.best-is too;
            so_far = rw w.best-is (freed_more rest beyond slots l.best l.slot kept.never kept.so_far too further);
          }
      | then-ranks-slot+else-most-ago w ↦
          let too : Never rest beyond slots l.slot = omega (arith, rank_here, w.if-ranks-slot.true) in
          let nearer : place here beyond ≤ place (get_or slots l.best 0) beyond =
          omega (arith, kept.age, w.last_draw-ago.ensures.first, w.if-most-ago.false) in
          record {
            passed = omega (arith, w.best-is, kept.passed);
            age = rw (w.best-is, w.most-is) kept.age;
            never = rw w.best-is kept.never;
            so_far = rw w.best-is (freed_same rest beyond slots l.best l.slot kept.never kept.so_far too nearer);
          }
      | else-ranks-slot w ↦
          let behind : rank rest here ≤ rank rest (get_or slots c.first_greatest-first.result 0) = first.leads.below_none l.slot turn in
          let near : rank rest here < length rest = omega (arith, rank_here, w.if-ranks-slot.false, first.own, c.if-ranks-first.false) in
          record {
            passed = omega (arith, w.best-is, kept.passed);
            age = rw (w.best-is, w.most-is) kept.age;
            never = rw w.best-is kept.never;
            so_far = rw w.best-is (freed_near rest beyond slots l.best l.slot kept.never kept.so_far near);
          }
    ]

pub returns : goal.returns
returns c =
    let l = c.loop-slot in
    let first = led _ c.args.rest.now c.ranks_of-ranks.result c.ranks_of-ranks.ensures _ c.first_greatest-first.ensures in
    let upto : l.slot ≤ length c.args.slots.now = l.auto.slot-end (omega (arith, first.inside)) in
    leads_chosen c.args.slots.now (c.args.rest.now ++ reverse c.args.made.now) l.best _ l.slot (omega (arith, l.invariant.passed))
    c.loop-slot-test.false l.invariant.so_far
