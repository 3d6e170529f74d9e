-- No public function of this crate has a second answer. Those that raise a counter ask for room in it, and no other asks anything.
use mathlib.Core.Path.{refl}
use mathlib.Core.List.{[]}
use lib.ListN.{length}
use Rattle.laws.specs.NoSecond.{NoSecond, Promise}
use Rattle.laws.proofs.Same.{same}
use Rattle.rules.specs.Job.{Job}
use Rattle.display.specs.View.{History}
use Rattle.display.specs.contracts
use Rattle.display.proofs.answer.accepted as accepted
use Rattle.display.proofs.answer.refusal as refusal
use Rattle.display.proofs.answer.refused as refused
use Rattle.display.proofs.search.slot_of as slot_of
use Rattle.display.proofs.state.start as start
use Rattle.display.proofs.state.land as land
use Rattle.display.proofs.state.begin as begin
use Rattle.display.proofs.still.before_end as before_end
use Rattle.display.proofs.still.pass_waits as pass_waits
use Rattle.display.proofs.still.smaller as smaller
use Rattle.display.proofs.tick.load_refusal as load_refusal
use Rattle.display.proofs.tick.draw_or_wait as draw_or_wait
use Rattle.display.proofs.tick.rest_of_tick as rest_of_tick

-- Where a contract holds for every history and every job, one of each decides the answer.
nothing : History
nothing = record { rest = []; made = []; begun = [] }

pub refusal_promise : Promise contracts.refusal.ended refusal.Reads.Asked refusal.Reads.Learnt
refusal_promise = record { any = λ κs given. tt; one = λ κs given answer answer' left left' asked p q. (same p q, refl) }

pub refused_promise : Promise contracts.refused.ended refused.Reads.Asked refused.Reads.Learnt
refused_promise = record { any = λ κs given. tt; one = λ κs given answer answer' left left' asked p q. (same p q, refl) }

pub start_promise : Promise contracts.start.ended start.Reads.Asked start.Reads.Learnt
start_promise = record { any = λ κs given. tt; one = λ κs given answer answer' left left' asked p q. (same p q, refl) }

pub before_end_promise : Promise contracts.before_end.ended before_end.Reads.Asked before_end.Reads.Learnt
before_end_promise = record { any = λ κs given. tt; one = λ κs given answer answer' left left' asked p q. (same p q, refl) }

pub smaller_promise : Promise contracts.smaller.ended smaller.Reads.Asked smaller.Reads.Learnt
smaller_promise = record { any = λ κs given. tt; one = λ κs given answer answer' left left' asked p q. (same p q, refl) }

pub slot_of_promise : Promise contracts.slot_of.ended slot_of.Reads.Asked slot_of.Reads.Learnt
slot_of_promise =
    record { any = λ κs given. tt; one = λ κs given answer answer' left left' asked p q. (same p.first q.first, refl) }

pub accepted_promise : Promise contracts.accepted.ended accepted.Reads.Asked accepted.Reads.Learnt
accepted_promise =
    record { any = λ κs given. tt; one = λ κs given answer answer' left left' asked p q. (same (p [] nothing) (q [] nothing), refl) }

pub load_refusal_promise : Promise contracts.load_refusal.ended load_refusal.Reads.Asked load_refusal.Reads.Learnt
load_refusal_promise =
    record {
      any = λ κs given. tt;
      one = λ κs given answer answer' left left' asked p q.
          let job : Job = record { slots = length given.0.now; load_time = 1; starting = []; draws = [] } in
          (same (p nothing job refl) (q nothing job refl), refl);
    }

pub land_promise : Promise contracts.land.ended land.Reads.Asked land.Reads.Learnt
land_promise =
    record {
      any = λ κs given. tt;
      one = λ κs given answer answer' left left' asked p q. (same p.0 q.0, λ i. (same p.1 q.1 i, (tt, tt)));
    }

-- These ask for room in the counters that they raise, and for slots that a byte can number.
pub begin_one : NoSecond contracts.begin.ended begin.Reads.Asked begin.Reads.Learnt
begin_one κs given answer answer' left left' asked p q = (same p.0 q.0, λ i. (same p.1 q.1 i, (tt, (tt, (tt, tt)))))

pub pass_waits_one : NoSecond contracts.pass_waits.ended pass_waits.Reads.Asked pass_waits.Reads.Learnt
pass_waits_one κs given answer answer' left left' asked p q = (same p q, refl)

pub draw_or_wait_one : NoSecond contracts.draw_or_wait.ended draw_or_wait.Reads.Asked draw_or_wait.Reads.Learnt
draw_or_wait_one κs given answer answer' left left' asked p q = (same p q, refl)

pub rest_of_tick_one : NoSecond contracts.rest_of_tick.ended rest_of_tick.Reads.Asked rest_of_tick.Reads.Learnt
rest_of_tick_one κs given answer answer' left left' asked p q =
    let job : Job = record { slots = length given.0.now; load_time = 1; starting = []; draws = [] } in (
      same (p.result nothing job refl) (q.result nothing job refl),
      λ i. (same (p.slots_after nothing job refl) (q.slots_after nothing job refl) i, (tt, (tt, (tt, (tt, (tt, tt)))))),
    )
