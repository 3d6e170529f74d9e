-- The head and the events so far are written over the room's former content.
use Rattle.planner.proofs.Writes.{SoFar}
use Rattle.planner.proofs.write.write_list.Given as goal

abbrev pub invariant-loop-index : goal.invariant-loop-index
invariant-loop-index l = SoFar l.count l.loads l.initial.room l.room l.index
