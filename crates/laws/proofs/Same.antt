-- Two things that equal a third are the same: the one step of every proof that a contract leaves no second answer.
use mathlib.Core.Path.{◌≡◌, sym, ◌∙◌}

pub same : {A : Type 0} {x y z : A} → x ≡ z → y ≡ z → x ≡ y
same p q = p ∙ sym q
