-- A case split on a test that keeps what the test said.
use mathlib.Core.Path.{◌≡◌, refl}
use mathlib.Core.Bool.{Bool, true, false, ◌&&◌, ◌||◌}

pub by_test : {P : Type 0} (b : Bool) → (b ≡ true → P) → (b ≡ false → P) → P
by_test true held failed = held refl
by_test false held failed = failed refl

-- Where neither of two tests held, each failed.
pub neither : (a b : Bool) → (a || b) ≡ false → (a ≡ false) × (b ≡ false)
neither true b e = (e, by_test b (λ t. rw t e) (λ t. t))
neither false b e = (refl, e)

-- Where both of two tests held, each did.
pub both_held : (a b : Bool) → (a && b) ≡ true → (a ≡ true) × (b ≡ true)
both_held true b e = (refl, e)
both_held false b e = (e, by_test b (λ t. t) (λ t. rw t e))
