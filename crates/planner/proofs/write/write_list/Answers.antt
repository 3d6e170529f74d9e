-- A turn writes one event more.
use Rattle.std.proofs.Common.{◌≡◌, length, ap, ◌∙◌, arith}
use Rattle.rules.specs.LoadList.{head_bytes}
use Rattle.laws.proofs.Writing.{length-put}
use Rattle.planner.proofs.Writes.{so_far_none, so_far_more}
use Rattle.planner.proofs.write.write_list.Goals as goal

pub loop-index-init : goal.loop-index-init
loop-index-init c =
    let a = c.args in
    let head = c.put_head in
    let same : length head.new.room ≡ length a.room.now = ap length head.ensures.written ∙ length-put 0 (head_bytes a.count) a.room.now in
    so_far_none a.count a.loads.now c.requires.there head.new.room (omega (arith, c.requires.enough))

pub loop-index-preserved : goal.loop-index-preserved
loop-index-preserved c =
    let a = c.args in
    let l = c.loop-index in
    let noted = c.load_at-tick.result in
    rw c.put_event.ensures.written
    (so_far_more a.count a.loads.now c.requires.there _ l.room l.index noted.tick noted.draw noted.load.slot noted.load.symbol c.loop-index-test.true
    c.load_at-tick.ensures l.invariant)
