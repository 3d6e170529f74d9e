-- The plans by their names. (Document 01, "The four plans")
use Rattle.std.specs.Prelude.{ℕ, suc, cond, List, [], ◌∷◌, slice_index_or, Option, Some, None, bytes_eq}
use Rattle.rules.specs.declared.Plan.{Plan}
use Rattle.rules.specs.Plans.{plan_number}

-- The first place of a name among some names, or how many they are.
unfoldable pub name_at : List ℕ → List (List ℕ) → ℕ
name_at name [] = 0
name_at name (other ∷ names) = cond (bytes_eq name other) 0 (suc (name_at name names))

-- The names in the order of the plans' numbers: aggressive, conservative, opt, lru.
abbrev pub names : List (List ℕ)
names =
    (97 ∷ 103 ∷ 103 ∷ 114 ∷ 101 ∷ 115 ∷ 115 ∷ 105 ∷ 118 ∷ 101 ∷ [])
    ∷ (99 ∷ 111 ∷ 110 ∷ 115 ∷ 101 ∷ 114 ∷ 118 ∷ 97 ∷ 116 ∷ 105 ∷ 118 ∷ 101 ∷ [])
    ∷ (111 ∷ 112 ∷ 116 ∷ [])
    ∷ (108 ∷ 114 ∷ 117 ∷ [])
    ∷ []

-- The name of each plan.
abbrev pub plan_name : Plan → List ℕ
plan_name plan = slice_index_or names (plan_number plan) []

-- The number of a plan; 4, which no plan has, where there is none.
abbrev pub number_or_none : Option Plan → ℕ
number_or_none None = 4
number_or_none (Some plan) = plan_number plan

-- The number of the plan that has a name; 4, which no plan has, where none does.
abbrev pub plan_named : List ℕ → ℕ
plan_named name = name_at name names
