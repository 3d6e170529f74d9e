-- The ticks are tested, then the room, and then the list is copied.
use Rattle.std.proofs.Common.{ℕ, List, ◌++◌, drop, take, ap, refl, ◌∙◌, arith, Ok, Err}
use Rattle.std.proofs.lemmas.Result.{err_from_is_err_and}
use Rattle.rules.specs.declared.refusal.Refusal.{Refusal}
use Rattle.rules.specs.declared.refusal.Refusal.TheVariants.{ShortRoom}
use Rattle.rules.specs.LoadList.{head_size, events_in}
use Rattle.rules.specs.Refusals.{first_bad_tick}
use Rattle.sheet.proofs.Lists.{ticks_hold, ticks_broken}
use Rattle.text.specs.Found.{told}
use Rattle.text.proofs.Answers.{first_is, out_of_order, room_short, all_handed}
use Rattle.text.proofs.read.hand_out.Goals as goal

pub returns-in_err-check_ticks : goal.returns-in_err-check_ticks
returns-in_err-check_ticks c events many holds =
    let a = c.args in
    let size : ℕ = c.list_size-size.result in
    let first : ℕ = first_bad_tick 0 (events_in a.count (drop head_size (take size a.row.now))) in
    let found = first_is events a.count a.row.now many holds first size c.list_size-size.ensures refl in
    let p = err_from_is_err_and c.from_residual.result c.from_residual.ensures.1 in
    let broken = ticks_broken a.count (take size a.row.now) c.in_err-check_ticks.field-0.0 c.in_err-check_ticks.ensures in
    out_of_order events a.count a.row.now many holds first found _ a.list.now broken.0
    (ap told (p.1 ∙ ap (λ (r : Refusal). Err r) (p.2 ∙ broken.1)))

pub returns-then-list-size : goal.returns-then-list-size
returns-then-list-size c events many holds =
    let a = c.args in
    let size : ℕ = c.list_size-size.result in
    let first : ℕ = first_bad_tick 0 (events_in a.count (drop head_size (take size a.row.now))) in
    let found = first_is events a.count a.row.now many holds first size c.list_size-size.ensures refl in
    let right = ticks_hold a.count (take size a.row.now) c.in_ok-check_ticks.field-0 c.in_ok-check_ticks.ensures in
    room_short events a.count a.row.now many holds first found (Err ShortRoom) a.list.now right
    (omega (arith, c.list_size-size.ensures, c.if-list-size.true)) refl

pub returns : goal.returns
returns c events many holds =
    let a = c.args in
    let size : ℕ = c.list_size-size.result in
    let first : ℕ = first_bad_tick 0 (events_in a.count (drop head_size (take size a.row.now))) in
    let found = first_is events a.count a.row.now many holds first size c.list_size-size.ensures refl in
    let right = ticks_hold a.count (take size a.row.now) c.in_ok-check_ticks.field-0 c.in_ok-check_ticks.ensures in
    all_handed events a.count a.row.now many holds first found (Ok size) a.list.now right size _ c.list_size-size.ensures
    c.if-list-size.false (omega (arith, c.list_size-size.ensures, c.requires.there)) refl
    (ap (λ (front : List ℕ). front ++ drop size a.list.now) c.copy_from_slice.ensures.after)
