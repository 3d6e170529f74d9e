-- No public function of this crate has a second answer, and none asks anything of its caller.
use Rattle.laws.specs.NoSecond.{Promise}
use Rattle.laws.proofs.Same.{same}
use Rattle.checker.specs.contracts
use Rattle.checker.proofs.answer.check as check
use Rattle.checker.proofs.answer.check_draws as check_draws
use Rattle.checker.proofs.reason.why as why

-- A check has one answer, and one content of each of its two buffers later.
pub check_promise : Promise contracts.check.ended check.Reads.Asked check.Reads.Learnt
check_promise =
    record {
      any = λ κs given. tt;
      one = λ κs given answer answer' left left' asked p q.
          let (at, from) = p.1 in
          let (at', from') = q.1 in
          (same p.0 q.0, λ i. (tt, (tt, (tt, (same at at' i, (same from from' i, tt))))));
    }

-- So it has with the number of its draws.
pub check_draws_promise : Promise contracts.check_draws.ended check_draws.Reads.Asked check_draws.Reads.Learnt
check_draws_promise =
    record {
      any = λ κs given. tt;
      one = λ κs given answer answer' left left' asked p q.
          let (draws, (at, from)) = p.1 in
          let (draws', (at', from')) = q.1 in (
            λ i. record { answer = same p.0 q.0 i; draws = same draws draws' i },
            λ i. (tt, (tt, (tt, (same at at' i, (same from from' i, tt))))),
          );
    }

-- Why a draw waited has one answer.
pub why_promise : Promise contracts.why.ended why.Reads.Asked why.Reads.Learnt
why_promise =
    record {
      any = λ κs given. tt;
      one = λ κs given answer answer' left left' asked p q. (same p q, λ i. (tt, (tt, (tt, (tt, tt)))));
    }
