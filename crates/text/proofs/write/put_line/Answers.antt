-- Three numbers, each put after the one before.
use Rattle.std.proofs.Common.{◌≡◌, ◌+◌, ◌≤◌, ◌++◌, ℕ, List, length, length-append, take, drop, ap, ◌∙◌, arith}
use Rattle.rules.specs.LoadList.{event}
use Rattle.rules.specs.Text.{blank, line_feed, field, line_of}
use Rattle.laws.proofs.Writing.{put_longer}
use Rattle.text.proofs.write.put_line.Goals as goal

-- The line is its three numbers.
line_parts : (t q x : ℕ)
    → length (line_of (event t q x)) ≡ length (field t blank) + length (field q blank) + length (field x line_feed)
line_parts t q x = length-append (field t blank ++ field q blank) (field x line_feed) ∙ rw (length-append (field t blank) (field q blank))

pub returns-clause-written : goal.returns-clause-written
returns-clause-written c =
    let a = c.args in
    let text : List ℕ = a.text.now in
    let first : List ℕ = field a.event.tick blank in
    let second : List ℕ = field a.event.slot blank in
    let third : List ℕ = field a.event.symbol line_feed in
    let size = line_parts a.event.tick a.event.slot a.event.symbol in
    let room : a.at + length (line_of a.event) ≤ length text = c.requires in
    let both : c.put_field-symbol_at.new.text ≡ take a.at text ++ (first ++ second) ++ drop (a.at + length (first ++ second)) text =
    c.put_field-symbol_at.ensures.written
    ∙ ap
    (λ (r : List ℕ). take c.put_field-slot_at.result r ++ second ++ drop (c.put_field-slot_at.result + length second) r)
    c.put_field-slot_at.ensures.written
    ∙ put_longer a.at first second text c.put_field-slot_at.result (omega arith) c.put_field-slot_at.ensures.next in
    let next : c.put_field-symbol_at.result ≡ a.at + length (first ++ second) =
    rw (length-append first second) (omega (arith, c.put_field-symbol_at.ensures.next, c.put_field-slot_at.ensures.next)) in
    c.put_field.ensures.written
    ∙ ap (λ (t : List ℕ). take c.put_field-symbol_at.result t ++ third ++ drop (c.put_field-symbol_at.result + length third) t) both
    ∙ put_longer a.at (first ++ second) third text c.put_field-symbol_at.result (omega arith) next
