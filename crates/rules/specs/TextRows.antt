-- The third table: lists as text and texts as lists, small ones that tell each rule of Text.antt from a slip in it, with one theorem;
-- and beside it two short ones about the number of lines.
-- (Document 02, "Three. A load sheet people can read")
use Rattle.std.specs.Prelude.{ℕ, zero, suc, ◌+◌, ◌≡◌, refl, List, [], ◌∷◌, ◌++◌, map}
use Rattle.rules.specs.LoadList.{events_in, events_bytes}
use Rattle.rules.specs.Order.{first_of}
use Rattle.rules.specs.Refusals.{first_bad_tick}
use Rattle.rules.specs.Text.{digits_of, text_of, digit_count, number_from, read_line, read_lines, write_tests, read_tests}
use Rattle.rules.specs.Text.{TextReading, lines, bad_line}
use Rattle.rules.specs.Worked.{Row, row, found, expected, list_fields, loads, load}
use Rattle.rules.specs.Worked.{text_written, text_read, text_later, list_later}
use Rattle.rules.specs.Telling.{filled}

-- ---- Texts written out

-- Decimal digits as bytes, and a line of three numbers by their digits, in the shape where these are.
unfoldable pub digits : List ℕ → List ℕ
digits [] = []
digits (d ∷ l) = (48 + d) ∷ digits l

abbrev pub line : (tick slot symbol : List ℕ) → List ℕ
line t q x = digits t ++ (32 ∷ digits q) ++ (32 ∷ digits x) ++ (10 ∷ [])

-- The texts of rows e and g of document 01: 2/1/3, and 2/1/3 with 7/1/2 after it.
abbrev pub text_e : List ℕ
text_e = 50 ∷ 32 ∷ 49 ∷ 32 ∷ 51 ∷ 10 ∷ []

abbrev pub text_g : List ℕ
text_g = 50 ∷ 32 ∷ 49 ∷ 32 ∷ 51 ∷ 10 ∷ 55 ∷ 32 ∷ 49 ∷ 32 ∷ 50 ∷ 10 ∷ []

abbrev pub list_e : List ℕ
list_e = loads 1 (load 2 1 3)

abbrev pub list_g : List ℕ
list_g = loads 2 (load 2 1 3 ++ load 7 1 2)

-- 8388607 255 65535: every number at its greatest, and the longest line there is.
abbrev pub text_greatest : List ℕ
text_greatest = line (8 ∷ 3 ∷ 8 ∷ 8 ∷ 6 ∷ 0 ∷ 7 ∷ []) (2 ∷ 5 ∷ 5 ∷ []) (6 ∷ 5 ∷ 5 ∷ 3 ∷ 5 ∷ [])

abbrev pub list_greatest : List ℕ
list_greatest = 0 ∷ 0 ∷ 0 ∷ 10 ∷ 1 ∷ 0 ∷ 1 ∷ 0 ∷ 127 ∷ 255 ∷ 255 ∷ 255 ∷ 255 ∷ 255 ∷ []

-- Answers: so many bytes, which are these; and a refusal.
abbrev pub writes : (size : ℕ) (bytes : List ℕ) → List ℕ
writes size bytes = 0 ∷ 0 ∷ size ∷ bytes

abbrev pub refusal : (number detail : ℕ) → List ℕ
refusal number detail = number ∷ detail ∷ 0 ∷ []

-- A list and its text, each made of the other with room for it alone; and bytes whose second line is bad, after a good one.
abbrev pub written_as : (list : List ℕ) (size : ℕ) (text : List ℕ) → Row
written_as l size text = row (text_written l size) (writes size text)

abbrev pub read_as : (text : List ℕ) (size : ℕ) (list : List ℕ) → Row
read_as text size l = row (text_read text size) (writes size l)

abbrev pub second_bad : List ℕ → Row
second_bad later = row (text_read (text_e ++ later) 50) (refusal 16 1)

-- ---- The rows

unfoldable pub rows : List Row
rows =
    -- The text of a list: rows e and g, the list with no event, all numbers at their greatest, and numbers of one to three digits.
    written_as list_e 6 text_e
    ∷ written_as list_g 12 text_g
    ∷ written_as (loads 0 []) 0 []
    ∷ written_as list_greatest 18 text_greatest
    ∷ written_as (loads 1 (load 0 0 0)) 6 (line (0 ∷ []) (0 ∷ []) (0 ∷ []))
    ∷ written_as (loads 1 (load 9 10 11)) 8 (line (9 ∷ []) (1 ∷ 0 ∷ []) (1 ∷ 1 ∷ []))
    ∷ written_as (loads 1 (load 99 100 109)) 11 (line (9 ∷ 9 ∷ []) (1 ∷ 0 ∷ 0 ∷ []) (1 ∷ 0 ∷ 9 ∷ []))
    -- The same texts read.
    ∷ read_as text_e 14 list_e
    ∷ read_as text_g 21 list_g
    ∷ read_as [] 7 (loads 0 [])
    ∷ read_as text_greatest 14 list_greatest
    ∷ read_as (line (0 ∷ []) (0 ∷ []) (0 ∷ [])) 14 (loads 1 (load 0 0 0))
    ∷ read_as (line (9 ∷ []) (1 ∷ 0 ∷ []) (1 ∷ 1 ∷ [])) 14 (loads 1 (load 9 10 11))
    ∷ read_as (line (9 ∷ 9 ∷ []) (1 ∷ 0 ∷ 0 ∷ []) (1 ∷ 0 ∷ 9 ∷ [])) 14 (loads 1 (load 99 100 109))
    -- A blank twice, at the front, before the line feed; a blank missing; a tab; a blank for the line feed and the other way round.
    ∷ second_bad (55 ∷ 32 ∷ 32 ∷ 49 ∷ 32 ∷ 50 ∷ 10 ∷ [])
    ∷ second_bad (55 ∷ 32 ∷ 49 ∷ 32 ∷ 32 ∷ 50 ∷ 10 ∷ [])
    ∷ second_bad (32 ∷ 55 ∷ 32 ∷ 49 ∷ 32 ∷ 50 ∷ 10 ∷ [])
    ∷ second_bad (55 ∷ 32 ∷ 49 ∷ 32 ∷ 50 ∷ 32 ∷ 10 ∷ [])
    ∷ second_bad (55 ∷ 49 ∷ 32 ∷ 50 ∷ 10 ∷ [])
    ∷ second_bad (55 ∷ 32 ∷ 49 ∷ 50 ∷ 10 ∷ [])
    ∷ second_bad (55 ∷ 9 ∷ 49 ∷ 32 ∷ 50 ∷ 10 ∷ [])
    ∷ second_bad (55 ∷ 32 ∷ 49 ∷ 9 ∷ 50 ∷ 10 ∷ [])
    ∷ second_bad (55 ∷ 32 ∷ 49 ∷ 32 ∷ 50 ∷ 32 ∷ [])
    ∷ second_bad (55 ∷ 32 ∷ 49 ∷ 10 ∷ 50 ∷ 10 ∷ [])
    ∷ second_bad (55 ∷ 10 ∷ 49 ∷ 32 ∷ 50 ∷ 10 ∷ [])
    -- A sign; the bytes beside the digits; a letter; byte 0 and a byte over 127.
    ∷ second_bad (43 ∷ 55 ∷ 32 ∷ 49 ∷ 32 ∷ 50 ∷ 10 ∷ [])
    ∷ second_bad (55 ∷ 32 ∷ 45 ∷ 49 ∷ 32 ∷ 50 ∷ 10 ∷ [])
    ∷ second_bad (55 ∷ 32 ∷ 49 ∷ 32 ∷ 43 ∷ 50 ∷ 10 ∷ [])
    ∷ second_bad (55 ∷ 47 ∷ 32 ∷ 49 ∷ 32 ∷ 50 ∷ 10 ∷ [])
    ∷ second_bad (55 ∷ 58 ∷ 32 ∷ 49 ∷ 32 ∷ 50 ∷ 10 ∷ [])
    ∷ second_bad (55 ∷ 32 ∷ 49 ∷ 32 ∷ 50 ∷ 97 ∷ 10 ∷ [])
    ∷ second_bad (55 ∷ 32 ∷ 49 ∷ 32 ∷ 0 ∷ 10 ∷ [])
    ∷ second_bad (55 ∷ 32 ∷ 49 ∷ 32 ∷ 178 ∷ 10 ∷ [])
    -- A zero in front, of each number, also of zero itself.
    ∷ second_bad (line (0 ∷ 7 ∷ []) (1 ∷ []) (2 ∷ []))
    ∷ second_bad (line (7 ∷ []) (0 ∷ 1 ∷ []) (2 ∷ []))
    ∷ second_bad (line (7 ∷ []) (1 ∷ []) (0 ∷ 2 ∷ []))
    ∷ second_bad (line (7 ∷ []) (0 ∷ 0 ∷ []) (2 ∷ []))
    ∷ second_bad (line (7 ∷ []) (1 ∷ []) (0 ∷ 0 ∷ 2 ∷ []))
    -- A number missing, each of the three; a fourth number; CR before LF, and CR alone; an empty line; the line cut off anywhere.
    ∷ second_bad (line [] (1 ∷ []) (2 ∷ []))
    ∷ second_bad (line (7 ∷ []) [] (2 ∷ []))
    ∷ second_bad (line (7 ∷ []) (1 ∷ []) [])
    ∷ second_bad (55 ∷ 32 ∷ 49 ∷ 10 ∷ [])
    ∷ second_bad (55 ∷ 32 ∷ 49 ∷ 32 ∷ 50 ∷ 32 ∷ 51 ∷ 10 ∷ [])
    ∷ second_bad (55 ∷ 32 ∷ 49 ∷ 32 ∷ 50 ∷ 13 ∷ 10 ∷ [])
    ∷ second_bad (55 ∷ 32 ∷ 49 ∷ 32 ∷ 50 ∷ 13 ∷ [])
    ∷ second_bad (10 ∷ text_e)
    ∷ second_bad (10 ∷ [])
    ∷ second_bad (55 ∷ [])
    ∷ second_bad (55 ∷ 32 ∷ [])
    ∷ second_bad (55 ∷ 32 ∷ 49 ∷ [])
    ∷ second_bad (55 ∷ 32 ∷ 49 ∷ 32 ∷ [])
    ∷ second_bad (55 ∷ 32 ∷ 49 ∷ 32 ∷ 50 ∷ [])
    -- Slot 256 and 999, symbol 65536 and 99999.
    ∷ second_bad (line (7 ∷ []) (2 ∷ 5 ∷ 6 ∷ []) (2 ∷ []))
    ∷ second_bad (line (7 ∷ []) (9 ∷ 9 ∷ 9 ∷ []) (2 ∷ []))
    ∷ second_bad (line (7 ∷ []) (1 ∷ []) (6 ∷ 5 ∷ 5 ∷ 3 ∷ 6 ∷ []))
    ∷ second_bad (line (7 ∷ []) (1 ∷ []) (9 ∷ 9 ∷ 9 ∷ 9 ∷ 9 ∷ []))
    -- The first bad line is named, and lines are counted from 0.
    ∷ row (text_read (10 ∷ []) 50) (refusal 16 0)
    ∷ row (text_read (10 ∷ 10 ∷ text_e) 50) (refusal 16 0)
    ∷ row (text_read (text_g ++ (120 ∷ [])) 50) (refusal 16 2)
    ∷ row (text_read (text_g ++ (120 ∷ 10 ∷ text_e) ++ (120 ∷ [])) 50) (refusal 16 2)
    -- 9, in the reader: 8388608, a tick of twenty digits, equal and falling ticks, and the first of two such events.
    ∷ row (text_read (line (8 ∷ 3 ∷ 8 ∷ 8 ∷ 6 ∷ 0 ∷ 8 ∷ []) (1 ∷ []) (3 ∷ [])) 50) (refusal 9 0)
    ∷ row (text_read (text_e ++ line (1 ∷ filled 19 0) (1 ∷ []) (3 ∷ [])) 50) (refusal 9 1)
    ∷ row (text_read (text_e ++ line (2 ∷ []) (1 ∷ []) (3 ∷ [])) 50) (refusal 9 1)
    ∷ row (text_read (text_g ++ line (6 ∷ []) (1 ∷ []) (3 ∷ []) ++ text_e) 50) (refusal 9 2)
    -- 9, in the writer.
    ∷ row (text_written (loads 1 (load 8388608 1 3)) 50) (refusal 9 0)
    ∷ row (text_written (loads 2 (load 2 1 3 ++ load 2 1 3)) 50) (refusal 9 1)
    ∷ row (text_written (loads 3 (load 2 1 3 ++ load 7 1 2 ++ load 6 1 3)) 50) (refusal 9 2)
    -- 8, in the writer: too few bytes, and a list whose length is wrong.
    ∷ row (text_written [] 50) (refusal 8 0)
    ∷ row (text_written (list_fields 11 1 1 (load 2 1 3)) 50) (refusal 8 0)
    -- 7: room exactly enough was above; here it is one short.
    ∷ row (text_written list_e 5) (refusal 7 0)
    ∷ row (text_written list_g 11) (refusal 7 0)
    ∷ row (text_read text_e 13) (refusal 7 0)
    ∷ row (text_read text_g 20) (refusal 7 0)
    ∷ row (text_read [] 6) (refusal 7 0)
    -- The order: 8 before 9 before 7, and 16 before 9 before 7.
    ∷ row (text_written (list_fields 17 2 2 (load 2 1 3 ++ load 2 1 3)) 0) (refusal 8 0)
    ∷ row (text_written (list_fields 10 2 1 (load 2 1 3)) 0) (refusal 8 0)
    ∷ row (text_written (loads 2 (load 2 1 3 ++ load 2 1 3)) 0) (refusal 9 1)
    ∷ row (text_read (text_e ++ text_e ++ (120 ∷ [])) 0) (refusal 16 2)
    ∷ row (text_read (text_e ++ text_e) 0) (refusal 9 1)
    -- Lent room later: what is written comes first, and the bytes after it are as they were; a refusal leaves all of them.
    ∷ row (text_later list_e (filled 8 9)) (text_e ++ (9 ∷ 9 ∷ []))
    ∷ row (text_later (loads 0 []) (filled 3 9)) (filled 3 9)
    ∷ row (text_later list_e (filled 5 9)) (filled 5 9)
    ∷ row (text_later (loads 2 (load 2 1 3 ++ load 2 1 3)) (filled 13 9)) (filled 13 9)
    ∷ row (list_later text_e (filled 16 9)) (list_e ++ (9 ∷ 9 ∷ []))
    ∷ row (list_later text_e (filled 13 9)) (filled 13 9)
    ∷ row (list_later (text_e ++ text_e) (filled 22 9)) (filled 22 9)
    ∷ row (list_later (text_e ++ (120 ∷ [])) (filled 15 9)) (filled 15 9)
    ∷ []

-- ---- The number of lines

-- One line over and over.
unfoldable pub copies : (count : ℕ) (text : List ℕ) → List ℕ
copies zero text = []
copies (suc n) text = text ++ copies n text

-- 4,096 lines are the most: of one more than that the last is bad. It is a table of its own, since it takes as long as all the others.
unfoldable pub many : List Row
many = row (text_read (copies 4097 text_e) 50) (refusal 16 4096) ∷ []

-- Lines as bytes of events, or 16 and the bad line: where two, one or none may still come.
abbrev pub lines_found : TextReading → List ℕ
lines_found (lines l) = 0 ∷ events_bytes l
lines_found (bad_line d) = 16 ∷ d ∷ []

unfoldable pub few : List TextReading
few = read_lines 2 text_g ∷ read_lines 1 text_g ∷ read_lines 1 text_e ∷ read_lines 0 text_e ∷ read_lines 0 [] ∷ []

unfoldable pub few_answers : List (List ℕ)
few_answers =
    (0 ∷ load 2 1 3 ++ load 7 1 2)
    ∷ (16 ∷ 1 ∷ [])
    ∷ (0 ∷ load 2 1 3)
    ∷ (16 ∷ 0 ∷ [])
    ∷ (0 ∷ [])
    ∷ []

-- ---- The theorems: every row computes to its answer

pub told_apart_texts : map found rows ≡ map expected rows
unfolding rows digits filled events_in events_bytes first_of first_bad_tick digits_of text_of digit_count number_from
    read_line read_lines write_tests read_tests
told_apart_texts = refl

pub told_apart_few : map lines_found few ≡ few_answers
unfolding few few_answers events_bytes digit_count number_from read_line read_lines
told_apart_few = refl

pub told_apart_many : map found many ≡ map expected many
unfolding many copies events_in events_bytes first_of first_bad_tick digit_count number_from read_line read_lines read_tests
told_apart_many = refl
