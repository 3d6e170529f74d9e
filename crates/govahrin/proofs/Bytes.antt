-- Ticks as four bytes each: how many bytes they are, and one tick more after those that are in lent memory.
use Prim.Native.Nat.{ℕ, ◌+◌, ◌*◌, ◌<◌, ◌≤◌}
use native.Mathlib.Omega.{arith}
use native.Mathlib.Numerals.{add-one}
use mathlib.Core.Bool.{false}
use mathlib.Core.Path.{◌≡◌, refl, sym, ap, ◌∙◌}
use mathlib.Core.List.{List, [], ◌∷◌, ◌++◌}
use lib.ListN.{length, get_or, take, drop}
use lib.Seq.{take-suc, length-take-le}
use lib.Dec.{ltb}
use borrow.Author.Tests.{le-ltb}
use Rattle.rules.specs.Basics.{bytes32}
use Rattle.rules.specs.LoadList.{put}
use Rattle.rules.specs.Refusals.{tick_bytes, lent}
use Rattle.laws.proofs.Writing.{lent_longer}

pub length-tick_bytes : (l : List ℕ) → length (tick_bytes l) ≡ 4 * length l
unfolding tick_bytes
length-tick_bytes [] = refl
length-tick_bytes (t ∷ l) = let later : length (tick_bytes l) ≡ 4 * length l = length-tick_bytes l in omega arith

one_more : (l : List ℕ) (t : ℕ) → tick_bytes (l ++ (t ∷ [])) ≡ tick_bytes l ++ bytes32 t
unfolding tick_bytes
one_more [] t = refl
one_more (x ∷ l) t = ap (λ (r : List ℕ). bytes32 x ++ r) (one_more l t)

module _ (from to : List ℕ) (i : ℕ) where
  front : i ≤ length from → length (tick_bytes (take i from)) ≡ 4 * i
  front there = length-tick_bytes (take i from) ∙ ap (λ (n : ℕ). 4 * n) (length-take-le i from there)

  pub put_more : i < length from
      → take (4 * i) (lent (tick_bytes (take i from)) to) ++ bytes32 (get_or from i 0) ++ drop (4 * i + 4) (lent (tick_bytes (take i from)) to)
      ≡ lent (tick_bytes (take (i + 1) from)) to
  put_more there =
      lent_longer (tick_bytes (take i from)) (bytes32 (get_or from i 0)) to (4 * i) (sym (front (omega arith)))
      ∙ rw (add-one, take-suc from i 0 there, one_more (take i from) (get_or from i 0))

-- One tick more, put where there is room for it.
pub put_one : (from to to₀ : List ℕ) (i : ℕ) → i + 1 ≤ length from → 4 * i + 4 ≤ length to
    → to ≡ lent (tick_bytes (take i from)) to₀
    → put (4 * i) (bytes32 (get_or from i 0)) to ≡ lent (tick_bytes (take (i + 1) from)) to₀
put_one from to to₀ i there room e =
    let enough : ltb (length to) (4 * i + 4) ≡ false = le-ltb _ _ room in
    simp enough
    (ap (λ (r : List ℕ). take (4 * i) r ++ bytes32 (get_or from i 0) ++ drop (4 * i + 4) r) e
    ∙ put_more from to₀ i (omega arith))
