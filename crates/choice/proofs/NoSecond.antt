-- No public function of this crate has a second answer. All ask for the limits of an accepted job, and `asked_by` and `asked_of` for the
-- symbol of the next draw.
use Prim.Native.Nat.{ℕ}
use mathlib.Core.Path.{◌≡◌, refl}
use mathlib.Core.List.{List, []}
use lib.ListN.{length, drop}
use Rattle.std.specs.Prelude.{Option}
use Rattle.rules.specs.declared.Load.{Load}
use Rattle.laws.specs.NoSecond.{NoSecond}
use Rattle.laws.proofs.Same.{same}
use Rattle.rules.specs.Job.{Job}
use Rattle.display.specs.View.{History}
use Rattle.display.specs.declared.state.Display.{Display}
use Rattle.choice.specs.declared.ask.Order.{Order}
use Rattle.choice.specs.Asks.{MayAsk, Lent, Asked}
use Rattle.choice.specs.contracts
use Rattle.choice.proofs.row.row_of as row_of
use Rattle.choice.proofs.ask.asked_by as asked_by
use Rattle.choice.proofs.ask.asked_of as asked_of

pub row_of_one : NoSecond contracts.row_of.ended row_of.Reads.Asked row_of.Reads.Learnt
row_of_one κs given answer answer' left left' asked p q = (same p q, refl)

-- A job that has these slots and these draws decides what a plan of this number asks for.
same_asked : (plan : ℕ) (slots row : List ℕ) (d : Display) (symbol : ℕ) (order : Option Order) (r r' : Option Load)
    → MayAsk slots row d symbol → Asked plan slots row d symbol order r → Asked plan slots row d symbol order r' → r ≡ r'
same_asked plan slots row d symbol order r r' asked p q =
    let job : Job = record { slots = length slots; load_time = 1; starting = []; draws = row } in
    let h : History = record { rest = drop d.next row; made = []; begun = [] } in
    let fits : Lent job h slots row d symbol = record { many = refl; draws = refl; rest = refl; awaits = asked.awaits } in
    same (p h job fits) (q h job fits)

pub asked_by_one : NoSecond contracts.asked_by.ended asked_by.Reads.Asked asked_by.Reads.Learnt
asked_by_one κs given answer answer' left left' asked p q = (same_asked _ _ _ _ _ _ answer answer' asked p q, refl)

pub asked_of_one : NoSecond contracts.asked_of.ended asked_of.Reads.Asked asked_of.Reads.Learnt
asked_of_one κs given answer answer' left left' asked p q = (same_asked _ _ _ _ _ _ answer answer' asked p q, refl)
