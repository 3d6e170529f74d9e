-- No second answer, said of a function's own contract: what its caller learns decides the answer and what each lent buffer holds later.
-- `Learnt` is what the toolchain exports of the contract, so that no copy of it is between the statement and the function.
use Rattle.std.specs.Prelude.{◌≡◌}
use contract.Lifetimes.{Lfts}
use denote.Triple.Clauses.{Ended, Lasts, AtExit, at_exit}
use borrow.Fn.World.{ArgsD, ResD}

module _ (T : Ended) where
  -- What may be asked of the inputs, and what may be learnt of an outcome.
  abbrev pub Asks : Type 1
  Asks = (κs : Lfts T.signature.lifetimes) → ArgsD T.signature κs → Type 0

  abbrev pub Learns : Type 1
  Learns = (κs : Lfts T.signature.lifetimes) → ArgsD T.signature κs → ResD T.signature κs → AtExit T κs → Type 0

  -- Any two outcomes of a call that was made as it may be made, and of which this is learnt, are the same.
  abbrev pub NoSecond : Asks → Learns → Type 0
  NoSecond asked learnt =
      (κs : Lfts T.signature.lifetimes) (given : ArgsD T.signature κs) (answer answer' : ResD T.signature κs) (left left' : Lasts T κs given)
      → asked κs given
      → learnt κs given answer (at_exit T κs given left)
      → learnt κs given answer' (at_exit T κs given left')
      → (answer ≡ answer') × (left ≡ left')

  -- A call may be made with any inputs.
  abbrev pub AsksNothing : Asks → Type 0
  AsksNothing asked = (κs : Lfts T.signature.lifetimes) (given : ArgsD T.signature κs) → asked κs given

  -- A public promise: it asks nothing, and no second answer fits.
  pub record Promise (asked : Asks) (learnt : Learns) : Type 0 where
    pub any : AsksNothing asked
    pub one : NoSecond asked learnt
