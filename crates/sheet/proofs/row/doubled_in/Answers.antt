-- The symbol of this turn is in the rest of the row, or the rest decides.
use Rattle.std.proofs.Common.{ℕ, ◌≡◌, ◌+◌, ◌*◌, ◌-◌, sym, ◌∙◌, drop, arith}
use Rattle.laws.proofs.Symbols.{doubled_found, doubled_further, doubled_mark, row_empty}
use Rattle.sheet.proofs.row.doubled_in.Goals as goal
use Rattle.sheet.proofs.row.doubled_in.Goals.{else-symbol-via-then-symbol+else-stands_in, else-symbol-via-else-symbol}

pub returns-then-stands_in : goal.returns-then-stands_in
returns-then-stands_in c =
    let l = c.loop-place in
    let at : ℕ = c.args.from + 2 * l.place in
    sym
    (doubled_found c.args.s.now at (c.args.count - l.place) (omega arith) c.number16_at-symbol.result c.number16_at-symbol.ensures
    c.if-symbol.true (sym c.stands_in.ensures ∙ c.if-stands_in.true))
    ∙ l.invariant

pub loop-place-preserved : goal.loop-place-preserved
loop-place-preserved c =
    let l = c.loop-place in
    let at : ℕ = c.args.from + 2 * l.place in
    let left : c.args.count - (l.place + 1) ≡ c.args.count - l.place - 1 = omega arith in
    let next : c.args.from + 2 * (l.place + 1) ≡ at + 2 = omega arith in
    rw (left, next)
    (elim c.else-symbol.branch [
      | else-symbol-via-then-symbol+else-stands_in w ↦
          sym
          (doubled_further c.args.s.now at (c.args.count - l.place) (omega arith) c.number16_at-symbol.result c.number16_at-symbol.ensures
          w.if-symbol.true (sym w.stands_in.ensures ∙ w.if-stands_in.false))
          ∙ l.invariant
      | else-symbol-via-else-symbol w ↦
          sym
          (doubled_mark c.args.s.now at (c.args.count - l.place) (omega arith) c.number16_at-symbol.result c.number16_at-symbol.ensures
          w.if-symbol.false)
          ∙ l.invariant
    ])

pub returns : goal.returns
returns c =
    let l = c.loop-place in
    sym (row_empty (drop (c.args.from + 2 * l.place) c.args.s.now) (c.args.count - l.place) 0 (omega arith)).1 ∙ l.invariant
