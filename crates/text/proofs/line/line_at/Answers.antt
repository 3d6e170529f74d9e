-- Tick, slot and symbol are read one after the other, each from the place after the one before.
use Rattle.std.proofs.Common.{arith}
use Rattle.text.proofs.Lines.{no_tick, tick_read, no_slot, slot_over, slot_read, no_symbol, symbol_over, a_line, too_great, narrowed}
use Rattle.text.proofs.line.line_at.Goals as goal

pub returns-in_err-first : goal.returns-in_err-first
returns-in_err-first c = rw c.from_residual.ensures (no_tick c.args.text.now c.args.from c.in_err-first.ensures)

pub returns-in_err-second : goal.returns-in_err-second
returns-in_err-second c =
    let t = c.in_ok-first in
    rw c.from_residual-in_err-second.ensures
    (no_slot c.args.text.now c.args.from t.first.number t.first.after
    (tick_read c.args.text.now c.args.from t.first.number t.first.after t.ensures) c.in_err-second.ensures)

pub returns-in_err-slot : goal.returns-in_err-slot
returns-in_err-slot c =
    let t = c.in_ok-first in
    let q = c.in_ok-second in
    rw c.from_residual-in_err-slot.ensures
    (slot_over c.args.text.now c.args.from t.first.number t.first.after
    (tick_read c.args.text.now c.args.from t.first.number t.first.after t.ensures)
    q.second.number q.second.after q.ensures (too_great _ q.second.number 256 c.try_from.ensures c.in_err-slot.ensures.value))

pub returns-in_err-third : goal.returns-in_err-third
returns-in_err-third c =
    let t = c.in_ok-first in
    let q = c.in_ok-second in
    let tick = tick_read c.args.text.now c.args.from t.first.number t.first.after t.ensures in
    let slot = narrowed _ q.second.number 256 c.in_ok-slot.slot c.try_from.ensures c.in_ok-slot.ensures.value in
    rw c.from_residual-in_err-third.ensures
    (no_symbol c.args.text.now c.args.from t.first.number t.first.after tick q.second.number q.second.after
    (slot_read c.args.text.now c.args.from t.first.number t.first.after tick q.second.number q.second.after q.ensures (omega arith))
    c.in_err-third.ensures)

pub returns-in_err-symbol : goal.returns-in_err-symbol
returns-in_err-symbol c =
    let t = c.in_ok-first in
    let q = c.in_ok-second in
    let x = c.in_ok-third in
    let tick = tick_read c.args.text.now c.args.from t.first.number t.first.after t.ensures in
    let slot = narrowed _ q.second.number 256 c.in_ok-slot.slot c.try_from.ensures c.in_ok-slot.ensures.value in
    rw c.from_residual-in_err-symbol.ensures
    (symbol_over c.args.text.now c.args.from t.first.number t.first.after tick q.second.number q.second.after
    (slot_read c.args.text.now c.args.from t.first.number t.first.after tick q.second.number q.second.after q.ensures (omega arith))
    x.third.number x.third.after x.ensures (too_great _ x.third.number 65536 c.try_from-2.ensures c.in_err-symbol.ensures.value))

pub returns : goal.returns
returns c =
    let t = c.in_ok-first in
    let q = c.in_ok-second in
    let x = c.in_ok-third in
    let tick = tick_read c.args.text.now c.args.from t.first.number t.first.after t.ensures in
    let slot = narrowed _ q.second.number 256 c.in_ok-slot.slot c.try_from.ensures c.in_ok-slot.ensures.value in
    let symbol = narrowed _ x.third.number 65536 c.in_ok-symbol.symbol c.try_from-2.ensures c.in_ok-symbol.ensures.value in
    rw (slot.1, symbol.1)
    (a_line c.args.text.now c.args.from t.first.number t.first.after tick q.second.number q.second.after
    (slot_read c.args.text.now c.args.from t.first.number t.first.after tick q.second.number q.second.after q.ensures (omega arith))
    x.third.number x.third.after x.ensures (omega arith))
