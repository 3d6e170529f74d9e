-- The number and the detail of a refusal, the two functions that rules has, have no second answer and ask nothing of their caller. They are
-- promised here, since rules has no proofs of its own.
use mathlib.Core.Path.{refl}
use Rattle.laws.specs.NoSecond.{Promise}
use Rattle.laws.proofs.Same.{same}
use Rattle.rules.specs.contracts
use Rattle.rules.proofs.refusal.Refusal.number as number
use Rattle.rules.proofs.refusal.Refusal.detail as detail

pub number_promise : Promise contracts.refusal.Refusal.number.ended number.Reads.Asked number.Reads.Learnt
number_promise = record { any = λ κs given. tt; one = λ κs given answer answer' left left' asked p q. (same p q, refl) }

pub detail_promise : Promise contracts.refusal.Refusal.detail.ended detail.Reads.Asked detail.Reads.Learnt
detail_promise = record { any = λ κs given. tt; one = λ κs given answer answer' left left' asked p q. (same p q, refl) }
