-- A turn ranks one slot more: each of the three ways out of the inner search yields its rank.
use Rattle.std.proofs.Common.{◌≡◌, ℕ, suc, ◌+◌, drop, get_or, ap, ◌∙◌, add-one, arith}
use Rattle.rules.specs.Basics.{place}
use Rattle.rules.specs.Plans.{rank}
use Rattle.laws.proofs.Places.{place_further}
use Rattle.choice.proofs.Ranking.{rank_free, rank_found, rank_past, ranks_none, ranks_more, ranks_all}
use Rattle.choice.proofs.ranks.ranks_of.Goals as goal
use Rattle.choice.proofs.ranks.ranks_of.Goals.{then-symbol, else-symbol+then-rest-at, else-symbol+else-rest-at+then-rest-at-2}

pub loop-slot-init : goal.loop-slot-init
loop-slot-init c = ranks_none c.args.rest.now c.args.slots.now

pub loop-at-preserved : goal.loop-at-preserved
loop-at-preserved c =
    let symbol : ℕ = get_or c.args.slots.now c.loop-slot.slot 0 in
    let rest = c.args.rest.now in
    let at = c.loop-at.at in
    let further : place symbol (drop at rest) ≡ suc (place symbol (drop (at + 1) rest)) =
    place_further symbol rest at c.if-rest-at.false c.if-rest-at-2.false in
    record { inside = omega arith; before = omega arith }

pub loop-slot-preserved : goal.loop-slot-preserved
loop-slot-preserved c =
    let l = c.loop-slot in
    let rest = c.args.rest.now in
    let at = c.loop-at.at in
    let symbol : ℕ = get_or c.args.slots.now l.slot 0 in
    let next : ℕ = c.if-symbol.next in
    let ranked : next ≡ rank rest symbol =
    elim c.if-symbol.branch [
      | then-symbol w ↦ w.next-is ∙ rank_free rest symbol w.if-symbol.true
      | else-symbol+then-rest-at w ↦
          w.next-is ∙ rank_past rest symbol at w.if-symbol.false w.if-rest-at.true c.loop-at.invariant.before
      | else-symbol+else-rest-at+then-rest-at-2 w ↦
          w.next-is
          ∙ rank_found rest symbol at w.if-symbol.false w.if-rest-at.false w.if-rest-at-2.true c.loop-at.invariant.before
    ] in
    let raised : next + 1 ≡ suc (rank rest symbol) = ap (λ (n : ℕ). n + 1) ranked ∙ add-one (rank rest symbol) in
    ranks_more rest c.args.slots.now l.ranks l.slot (next + 1) c.loop-slot-test.true c.requires.few_slots raised l.invariant

pub returns : goal.returns
returns c = let l = c.loop-slot in ranks_all c.args.rest.now c.args.slots.now l.ranks l.slot (omega arith) l.invariant
