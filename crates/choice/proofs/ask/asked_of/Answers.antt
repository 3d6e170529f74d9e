-- Each number up to 2 is that of its plan, and each above is lru.
use Rattle.std.proofs.Common.{◌∙◌, arith}
use Rattle.choice.proofs.Asked.{above_is_lru}
use Rattle.choice.proofs.ask.asked_of.Goals as goal
use Rattle.choice.proofs.ask.asked_of.Goals.{in-0, in-1, in-2, in_default}

pub returns : goal.returns
returns c = λ h job lent.
    c.asked_by.ensures h job lent
    ∙ elim c.match-plan.branch [
      | in-0 w ↦ rw (w.plan-is, w.in-0.is)
      | in-1 w ↦ rw (w.plan-is, w.in-1.is)
      | in-2 w ↦ rw (w.plan-is, w.in-2.is)
      | in_default w ↦ rw w.plan-is (above_is_lru c.args.plan job c.args.order _ (omega arith))
    ]
