-- A part of lent room that was written and has come back, said of the whole room.
use Prim.Native.Nat.{ℕ, ◌+◌, ◌-◌, ◌≤◌}
use native.Mathlib.Omega.{arith}
use mathlib.Core.Path.{◌≡◌, refl, ◌∙◌}
use mathlib.Core.List.{List, [], ◌++◌, append-nil, append_assoc}
use lib.ListN.{length, take, drop, length-drop}
use lib.Seq.{take_all, drop-drop, drop-length}
use borrow.Rule.Slice.PartMut.{put_mid, mid_of, post_of, Post-is}

-- The part from a place to the room's end, with new bytes over its front.
pub put_back : (at : ℕ) (new room last : List ℕ)
    → at + length new ≤ length room
    → last ≡ new ++ drop (length new) (mid_of at (length room - at) room)
    → put_mid at (length room - at) room last ≡ take at room ++ new ++ drop (at + length new) room
put_back at new room last fits e =
    let behind : post_of at (length room - at) room ≡ [] = Post-is at (length room) room (omega arith) ∙ drop-length room in
    let part : mid_of at (length room - at) room ≡ drop at room =
    take_all (length room - at) (drop at room) (simp length-drop (omega arith)) in
    rw (behind, append-nil, e, part, drop-drop (length new) at room, append_assoc) refl
