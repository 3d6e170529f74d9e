-- The contract of `plan` leaves one answer and one content of the room, and asks nothing of its caller.
use Rattle.laws.specs.NoSecond.{Promise}
use Rattle.laws.proofs.Same.{same}
use Rattle.planner.specs.contracts
use Rattle.planner.proofs.answer.plan as plan

pub plan_promise : Promise contracts.plan.ended plan.Reads.Asked plan.Reads.Learnt
plan_promise =
    record {
      any = λ κs given. tt;
      one = λ κs given answer answer' left left' asked p q. (same p.0 q.0, λ i. (tt, (tt, (tt, (same p.1 q.1 i, tt)))));
    }
