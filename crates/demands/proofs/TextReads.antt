-- A whole text: it reads as the events whose lines it is, or has a first bad line, as specs/TextWords.antt says both.
use Prim.Native.Nat.{ℕ, zero, suc, ◌+◌, ◌-◌, ◌≤◌}
use native.Mathlib.Omega.{arith}
use mathlib.Core.Path.{◌≡◌, refl, sym, ap, ◌∙◌}
use mathlib.Core.List.{List, [], ◌∷◌, ◌++◌, append-nil, append_assoc}
use mathlib.Core.Logic.{◌⊎◌, inl, inr}
use lib.ListN.{length, drop}
use lib.Seq.{drop-append_seam}
use Rattle.rules.specs.declared.Event.{Event}
use Rattle.rules.specs.LoadList.{most_events}
use Rattle.rules.specs.Text.{line_of, text_of, digit_count, LineReading, line, bad, read_line, TextReading, lines, bad_line, add_line, first_line}
use Rattle.rules.specs.Text.{read_lines, lines_of}
use Rattle.demands.specs.TextWords.{Fitting, AllFit, InShape, NoLine, FirstBadLine}
use Rattle.demands.proofs.TextLines.{line_read, Made, line_back}

-- ---- Events that may be in lines

pub none_fit : AllFit []
none_fit i h = absurd (omega arith)

pub fit_later : (e : Event) (l : List Event) → AllFit (e ∷ l) → AllFit l
fit_later e l all i h = all (suc i) (omega arith)

pub fit_more : (e : Event) (l : List Event) → Fitting e → AllFit l → AllFit (e ∷ l)
fit_more e l this later zero h = this
fit_more e l this later (suc i) h = later i (omega arith)

-- ---- From the lines to the reading

-- A text whose first line is read goes on after it,
read_line_lem : (left : ℕ) (text : List ℕ) (e : Event) (size : ℕ) → read_line text ≡ line e size
    → read_lines (suc left) text ≡ add_line e (read_lines left (drop size text))
unfolding read_lines read_line digit_count
read_line_lem left [] e size is = let z : ◌≡◌ {A = ℕ} 0 1 = cc in absurd (omega arith)
read_line_lem left (b ∷ t) e size is = ap (λ (r : LineReading). first_line r (λ later. read_lines left later) (b ∷ t)) is

-- and one with a bad first line ends there.
read_bad : (left b : ℕ) (t : List ℕ) → read_line (b ∷ t) ≡ bad → read_lines (suc left) (b ∷ t) ≡ bad_line 0
unfolding read_lines
read_bad left b t is = ap (λ (r : LineReading). first_line r (λ later. read_lines left later) (b ∷ t)) is

-- What is found after the lines of some events, found from the first of them on.
abbrev after : List Event → TextReading → TextReading
after [] r = r
after (e ∷ l) r = add_line e (after l r)

after_lines : (l : List Event) → after l (lines []) ≡ lines l
after_lines [] = refl
after_lines (e ∷ l) = ap (add_line e) (after_lines l)

after_bad : (l : List Event) → after l (bad_line 0) ≡ bad_line (length l)
after_bad [] = refl
after_bad (e ∷ l) = ap (add_line e) (after_bad l)

-- The lines of events that fit are read, and then the rest.
read_past : (l : List Event) (most left : ℕ) (rest : List ℕ) → AllFit l → most ≡ length l + left
    → read_lines most (text_of l ++ rest) ≡ after l (read_lines left rest)
unfolding text_of
read_past [] most left rest fit size = let same : most ≡ left = omega arith in rw same
read_past (e ∷ l) zero left rest fit size = absurd (omega arith)
read_past (e ∷ l) (suc most) left rest fit size =
    ap (read_lines (suc most)) (append_assoc (line_of e) (text_of l) rest)
    ∙ read_line_lem most (line_of e ++ (text_of l ++ rest)) e (length (line_of e)) (line_read e (text_of l ++ rest) (fit 0 (omega arith)))
    ∙ ap (add_line e)
    (ap (read_lines most) (drop-append_seam (line_of e) (text_of l ++ rest)) ∙ read_past l most left rest (fit_later e l fit) (omega arith))

-- The lines of events that fit, not more than may come, read as these events,
lines_read : (left : ℕ) (l : List Event) → AllFit l → length l ≤ left → read_lines left (text_of l) ≡ lines l
unfolding read_lines
lines_read left l fit few =
    ap (read_lines left) (sym (append-nil (text_of l)))
    ∙ read_past l left (left - length l) [] fit (omega arith)
    ∙ ap (after l) (none_left (left - length l))
    ∙ after_lines l
  where
    none_left : (left : ℕ) → read_lines left [] ≡ lines []
    none_left zero = refl
    none_left (suc left) = refl

-- so a text in the shape reads as its events.
pub shape_read : (text : List ℕ) (l : List Event) → InShape text l → lines_of text ≡ lines l
shape_read text l shape = ap (read_lines most_events) shape.written ∙ lines_read most_events l shape.fit shape.few

-- Bytes that begin with no line are no line to the reader,
no_line_bad : (text : List ℕ) → NoLine text → read_line text ≡ bad
no_line_bad text no_line = by_line (read_line text) refl
  where
    by_line : (r : LineReading) → read_line text ≡ r → r ≡ bad
    by_line bad is = refl
    by_line (line e size) is = let made : Made text e size = line_back text e size is in absurd (no_line e (drop size text) made.fits made.front)

-- and what is no line to the reader begins with none.
bad_no_line : (text : List ℕ) → read_line text ≡ bad → NoLine text
bad_no_line text is e later fits front =
    let read : bad ≡ line e (length (line_of e)) = sym is ∙ ap read_line front ∙ line_read e later fits in
    let z : ◌≡◌ {A = ℕ} 0 1 = cc in
    omega arith

-- Reading ends at bytes that are no line, or where no more lines may come.
ends : (left : ℕ) (rest : List ℕ) → (rest ≡ [] → ⊥) → (left ≡ 0) ⊎ NoLine rest → read_lines left rest ≡ bad_line 0
unfolding read_lines
ends left [] more wrong = absurd (more refl)
ends zero (x ∷ t) more wrong = refl
ends (suc left) (x ∷ t) more (inl full) = absurd (omega arith)
ends (suc left) (x ∷ t) more (inr no_line) = read_bad left x t (no_line_bad (x ∷ t) no_line)

-- So a first bad line is found.
pub bad_read : (text : List ℕ) (d : ℕ) → FirstBadLine text d → lines_of text ≡ bad_line d
bad_read text d b =
    let size : most_events ≡ length b.events + (most_events - d) = omega (arith, b.count, b.few) in
    ap (read_lines most_events) b.front
    ∙ read_past b.events most_events (most_events - d) b.rest b.fit size
    ∙ ap (after b.events) (ends (most_events - d) b.rest b.more (over b.wrong))
    ∙ after_bad b.events
    ∙ ap bad_line b.count
  where
    over : (d ≡ most_events) ⊎ NoLine b.rest → (most_events - d ≡ 0) ⊎ NoLine b.rest
    over (inl full) = inl (omega arith)
    over (inr no_line) = inr no_line

-- ---- From the reading to the lines

-- What a reading says of a text of which so many lines may come.
data Reads (left : ℕ) (text : List ℕ) : TextReading → Type 0 where
  whole : {l : List Event} → text ≡ text_of l → AllFit l → length l ≤ left → Reads left text (lines l)
  broken : (l : List Event) (rest : List ℕ) {d : ℕ} → text ≡ text_of l ++ rest → length l ≡ d → AllFit l → d ≤ left → (rest ≡ [] → ⊥)
      → (d ≡ left) ⊎ NoLine rest → Reads left text (bad_line d)

-- One line more in front.
one_line : (left : ℕ) (text : List ℕ) (e : Event) (size : ℕ) (r : TextReading) → Made text e size → Reads left (drop size text) r
    → Reads (suc left) text (add_line e r)
unfolding text_of
one_line left text e size r made (whole {l} written fit few) =
    whole {l = e ∷ l} (made.front ∙ ap (λ (later : List ℕ). line_of e ++ later) written) (fit_more e l made.fits fit) (omega arith)
one_line left text e size r made (broken l rest {d} front count fit few more wrong) =
    broken (e ∷ l) rest
    (made.front ∙ ap (λ (later : List ℕ). line_of e ++ later) front ∙ sym (append_assoc (line_of e) (text_of l) rest))
    (ap suc count)
    (fit_more e l made.fits fit)
    (omega arith)
    more
    (still wrong)
  where
    still : (d ≡ left) ⊎ NoLine rest → (suc d ≡ suc left) ⊎ NoLine rest
    still (inl full) = inl (ap suc full)
    still (inr no_line) = inr no_line

some_left : (b : ℕ) (t : List ℕ) → b ∷ t ≡ [] → ⊥
some_left b t e = let z : ◌≡◌ {A = ℕ} 0 1 = cc in omega arith

-- So it is with every text.
reads : (left : ℕ) (text : List ℕ) → Reads left text (read_lines left text)
unfolding read_lines text_of
reads zero [] = whole {l = []} refl none_fit (omega arith)
reads zero (b ∷ t) = broken [] (b ∷ t) refl refl none_fit (omega arith) (some_left b t) (inl refl)
reads (suc left) [] = whole {l = []} refl none_fit (omega arith)
reads (suc left) (b ∷ t) = by_line (read_line (b ∷ t)) refl (λ later. reads left later)
  where
    by_line : (r : LineReading) → read_line (b ∷ t) ≡ r → ((later : List ℕ) → Reads left later (read_lines left later))
        → Reads (suc left) (b ∷ t) (read_lines (suc left) (b ∷ t))
    by_line bad is so =
        rw is (broken [] (b ∷ t) refl refl none_fit (omega arith) (some_left b t) (inr (bad_no_line (b ∷ t) is)))
    by_line (line e size) is so =
        rw is (one_line left (b ∷ t) e size (read_lines left (drop size (b ∷ t))) (line_back (b ∷ t) e size is) (so (drop size (b ∷ t))))

-- A text that reads as some events is in the shape,
pub read_shape : (text : List ℕ) (l : List Event) → lines_of text ≡ lines l → InShape text l
read_shape text l e = from (rw e at (reads most_events text))
  where
    from : Reads most_events text (lines l) → InShape text l
    from (whole written fit few) = record { written = written; fit = fit; few = few }

-- and a bad line that is found is the first one.
pub read_bad_line : (text : List ℕ) (d : ℕ) → lines_of text ≡ bad_line d → FirstBadLine text d
read_bad_line text d e = from (rw e at (reads most_events text))
  where
    from : Reads most_events text (bad_line d) → FirstBadLine text d
    from (broken l rest front count fit few more wrong) =
        record { events = l; rest = rest; front = front; count = count; fit = fit; few = few; more = more; wrong = wrong }
