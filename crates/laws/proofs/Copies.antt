-- A row handed out to the front of lent memory, element by element.
use Prim.Native.Nat.{ℕ, suc, ◌+◌, ◌<◌, ◌≤◌}
use native.Mathlib.Omega.{arith}
use native.Mathlib.Numerals.{add-one}
use mathlib.Core.Path.{◌≡◌, sym, ap, ◌∙◌}
use mathlib.Core.List.{List, ◌++◌}
use lib.ListN.{length, get_or, take, drop, set, length-append, length-drop}
use lib.Seq.{drop-cons, take-suc, set_at, append_snoc, length-take-le}
use Rattle.rules.specs.Refusals.{lent}

module _ (from to : List ℕ) (i : ℕ) (there : i < length from) (here : i < length to) where
  pub copied_more : set (take i from ++ drop i to) i (get_or from i 0) ≡ take (i + 1) from ++ drop (i + 1) to
  copied_more =
      rw (drop-cons to i 0 here, add-one, take-suc from i 0 there)
      (set_at (take i from) (get_or to i 0) (drop (suc i) to) (get_or from i 0) i (length-take-le i from (omega arith))
      ∙ sym (append_snoc (take i from) (get_or from i 0) (drop (suc i) to)))

pub copied_length : (from to : List ℕ) (i : ℕ) → i ≤ length from → i ≤ length to → length (take i from ++ drop i to) ≡ length to
copied_length from to i there here =
    length-append (take i from) (drop i to)
    ∙ rw (length-take-le i from there, length-drop i to) (omega arith)

-- What was copied is what is lent: the front of the one, the rest of the other.
pub copied_lent : (from to what : List ℕ) (i : ℕ) → i ≤ length from → take i from ≡ what → take i from ++ drop i to ≡ lent what to
copied_lent from to what i there e =
    let counted : length what ≡ i = sym (ap length e) ∙ length-take-le i from there in
    rw (counted, e)
