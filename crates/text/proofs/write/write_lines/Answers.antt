-- The tests are those of the definition, in its order.
use Rattle.std.proofs.Common.{List, ℕ, Err, None, length, refl, sym, ap, ◌∙◌}
use Rattle.std.proofs.lemmas.Result.{err_from_is_err_and}
use Rattle.rules.specs.declared.refusal.Refusal.{Refusal}
use Rattle.rules.specs.declared.refusal.Refusal.TheVariants.{ListForm}
use Rattle.rules.specs.LoadList.{events_of}
use Rattle.rules.specs.Text.{text_of, write_tests}
use Rattle.text.specs.Found.{told}
use Rattle.text.proofs.Answers.{refuses, no_list, writer_out_of_order, writer_short, writer_done}
use Rattle.text.proofs.write.write_lines.Goals as goal

pub returns-in_err-list : goal.returns-in_err-list
returns-in_err-list c =
    let list : List ℕ = c.args.list.now in
    let room : List ℕ = c.args.text.now in
    let p = err_from_is_err_and c.from_residual.result c.from_residual.ensures.1 in
    let done =
    refuses (told (Err ListForm)) room (write_tests list (length room)) (text_of (events_of list)) 8 0 refl
    (no_list list None (length room) (sym c.in_err-list.ensures.refusal.0) refl) in
    record { answers = ap told (p.1 ∙ ap (λ (r : Refusal). Err r) (p.2 ∙ c.in_err-list.ensures.refusal.1)) ∙ done.0; writes = done.1 }

pub returns-in_err-check_ticks : goal.returns-in_err-check_ticks
returns-in_err-check_ticks c =
    let l = c.in_ok-list in
    let r = c.from_residual-in_err-check_ticks in
    let p = err_from_is_err_and r.result r.ensures.1 in
    let done =
    writer_out_of_order c.args.list.now l.list.bytes.now l.list.count c.args.text.now l.ensures.list.0 (ap (λ (b : _). b.now) l.ensures.list.1)
    c.in_err-check_ticks.field-0.0 c.in_err-check_ticks.ensures in
    record { answers = ap told (p.1 ∙ ap (λ (r : Refusal). Err r) p.2) ∙ done.0; writes = done.1 }

pub returns-then-text-size : goal.returns-then-text-size
returns-then-text-size c =
    let l = c.in_ok-list in
    let done =
    writer_short c.args.list.now l.list.bytes.now l.list.count c.args.text.now l.ensures.list.0 (ap (λ (b : _). b.now) l.ensures.list.1)
    c.in_ok-check_ticks.field-0 c.in_ok-check_ticks.ensures c.text_size-size.result c.text_size-size.ensures.0 c.if-text-size.true in
    record { answers = done.0; writes = done.1 }

pub returns : goal.returns
returns c =
    let l = c.in_ok-list in
    let done =
    writer_done c.args.list.now l.list.bytes.now l.list.count c.args.text.now l.ensures.list.0 (ap (λ (b : _). b.now) l.ensures.list.1)
    c.in_ok-check_ticks.field-0 c.in_ok-check_ticks.ensures c.text_size-size.result c.text_size-size.ensures.0 c.put_lines.new.text
    c.if-text-size.false c.put_lines.ensures in
    record { answers = done.0; writes = done.1 }
