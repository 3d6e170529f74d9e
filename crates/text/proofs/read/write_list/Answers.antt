-- A bad line is refused, and the list of any other text is handed out.
use Rattle.std.proofs.Common.{◌≡◌, ◌+◌, ◌*◌, ℕ, map, take, length, refl, ap, ◌∙◌, Err}
use lib.ListN.{length-map}
use lib.Seq.{take_at}
use Rattle.std.proofs.lemmas.Result.{err_from_is_err_and}
use Rattle.rules.specs.declared.refusal.Refusal.{Refusal}
use Rattle.rules.specs.LoadList.{head_size, event_size, list_bytes}
use Rattle.laws.proofs.RoundTrip.{length-list}
use Rattle.text.specs.Found.{kept_event, told}
use Rattle.text.proofs.Answers.{bad_line_lem, all_lines, reader_refuses, reader_hands_out}
use Rattle.text.proofs.read.write_list.Goals as goal

pub returns-in_err-count : goal.returns-in_err-count
returns-in_err-count c =
    let p = err_from_is_err_and c.from_residual.result c.from_residual.ensures.1 in
    let noted = c.in_err-count.ensures in
    let (d, bad, why) = bad_line_lem c.args.text.now _ c.note_lines.new.row _ noted c.in_err-count.field-0.0 refl in
    let done =
    reader_refuses c.args.text.now d c.from_residual.result c.args.list.now bad (ap told (p.1 ∙ ap (λ (r : Refusal). Err r) (p.2 ∙ why))) in
    record { answers = done.0; writes = done.1 }

pub returns : goal.returns
returns c =
    let noted = c.in_ok-count.ensures in
    let count : ℕ = c.in_ok-count.count in
    let (l, is, many) = all_lines c.args.text.now _ c.note_lines.new.row _ noted count refl in
    let held = noted.holds l is in
    let size : length (list_bytes (map kept_event l)) ≡ head_size + event_size * count =
    length-list (map kept_event l) ∙ ap (λ (m : ℕ). head_size + event_size * m) (length-map l kept_event ∙ many) in
    let done =
    reader_hands_out c.args.text.now l count c.note_lines.new.row c.hand_out.result c.args.list.now c.hand_out.new.list is
    (c.hand_out.ensures l many (ap (take (head_size + event_size * count)) held ∙ take_at (list_bytes (map kept_event l)) _ _ size)) in
    record { answers = done.0; writes = done.1 }
