-- What every section of document 01 leans on: the one search, and numbers as big-endian bytes.
-- A choice by a test is `cond test yes no` throughout, and a read past a list's end gives 0.
use Rattle.std.specs.Prelude.{ℕ, suc, ◌+◌, ◌*◌, ◌/◌, ◌%◌, Bool, cond, List, [], ◌∷◌, length, get_or, eqb, ltb}

-- The first place of x in a list, counted from 0, or the list's length where x is not in it.
-- ("The four plans": a search stops at the first match.)
unfoldable pub place : ℕ → List ℕ → ℕ
place x [] = 0
place x (y ∷ l) = cond (eqb x y) 0 (suc (place x l))

-- Whether x is in a list.
abbrev pub stands : ℕ → List ℕ → Bool
stands x l = ltb (place x l) (length l)

-- The number in two bytes, and in four, from a place on: the first byte weighs most. ("The job, byte for byte")
abbrev pub number16 : List ℕ → ℕ → ℕ
number16 b i = get_or b i 0 * 256 + get_or b (i + 1) 0

abbrev pub number32 : List ℕ → ℕ → ℕ
number32 b i = number16 b i * 65536 + number16 b (i + 2)

-- The same numbers written out as bytes.
abbrev pub bytes16 : ℕ → List ℕ
bytes16 x = x / 256 ∷ x % 256 ∷ []

abbrev pub bytes32 : ℕ → List ℕ
bytes32 x = x / 16777216 ∷ x / 65536 % 256 ∷ x / 256 % 256 ∷ x % 256 ∷ []
