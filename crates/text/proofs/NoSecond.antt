-- Neither public function of this crate has a second answer, and neither asks anything of its caller.
use Rattle.laws.specs.NoSecond.{Promise}
use Rattle.laws.proofs.Same.{same}
use Rattle.text.specs.contracts
use Rattle.text.proofs.write.write_text as write_text
use Rattle.text.proofs.read.read_text as read_text

pub write_text_promise : Promise contracts.write_text.ended write_text.Reads.Asked write_text.Reads.Learnt
write_text_promise =
    record {
      any = λ κs given. tt;
      one = λ κs given answer answer' left left' asked p q. (same p.0 q.0, λ i. (tt, (same p.1 q.1 i, tt)));
    }

pub read_text_promise : Promise contracts.read_text.ended read_text.Reads.Asked read_text.Reads.Learnt
read_text_promise =
    record {
      any = λ κs given. tt;
      one = λ κs given answer answer' left left' asked p q. (same p.0 q.0, λ i. (tt, (same p.1 q.1 i, tt)));
    }
