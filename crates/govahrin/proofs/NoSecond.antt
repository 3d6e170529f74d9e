-- No function of the C surface has a second answer, and none asks anything of its caller.
use Rattle.laws.specs.NoSecond.{Promise}
use Rattle.laws.proofs.Same.{same}
use Rattle.govahrin.specs.contracts
use Rattle.govahrin.proofs.govahrin_plan as govahrin_plan
use Rattle.govahrin.proofs.govahrin_check as govahrin_check
use Rattle.govahrin.proofs.govahrin_why as govahrin_why
use Rattle.govahrin.proofs.govahrin_write_text as govahrin_write_text
use Rattle.govahrin.proofs.govahrin_read_text as govahrin_read_text

-- A plan has one answer, and one content of the room later.
pub govahrin_plan_promise : Promise contracts.govahrin_plan.ended govahrin_plan.Reads.Asked govahrin_plan.Reads.Learnt
govahrin_plan_promise =
    record {
      any = λ κs given. tt;
      one = λ κs given answer answer' left left' asked p q. (same p.0 q.0, λ i. (tt, (tt, (tt, (same p.1 q.1 i, tt)))));
    }

-- A check has one answer, and one content of each of its two buffers later.
pub govahrin_check_promise : Promise contracts.govahrin_check.ended govahrin_check.Reads.Asked govahrin_check.Reads.Learnt
govahrin_check_promise =
    record {
      any = λ κs given. tt;
      one = λ κs given answer answer' left left' asked p q.
          let (at, from) = p.1 in
          let (at', from') = q.1 in
          (same p.0 q.0, λ i. (tt, (tt, (tt, (same at at' i, (same from from' i, tt))))));
    }

-- Why a draw waited has one answer.
pub govahrin_why_promise : Promise contracts.govahrin_why.ended govahrin_why.Reads.Asked govahrin_why.Reads.Learnt
govahrin_why_promise =
    record {
      any = λ κs given. tt;
      one = λ κs given answer answer' left left' asked p q. (same p q, λ i. (tt, (tt, (tt, (tt, tt)))));
    }

-- The writer has one answer and one content of the text later, and the reader one of each for its list.
pub govahrin_write_text_promise : Promise contracts.govahrin_write_text.ended govahrin_write_text.Reads.Asked govahrin_write_text.Reads.Learnt
govahrin_write_text_promise =
    record {
      any = λ κs given. tt;
      one = λ κs given answer answer' left left' asked p q. (same p.0 q.0, λ i. (tt, (same p.1 q.1 i, tt)));
    }

pub govahrin_read_text_promise : Promise contracts.govahrin_read_text.ended govahrin_read_text.Reads.Asked govahrin_read_text.Reads.Learnt
govahrin_read_text_promise =
    record {
      any = λ κs given. tt;
      one = λ κs given answer answer' left left' asked p q. (same p.0 q.0, λ i. (tt, (same p.1 q.1 i, tt)));
    }
