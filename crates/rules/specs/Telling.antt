-- The second table: small sheets that tell each rule from a slip in it where rows a to h do not. It is in parts, by document 01's
-- sections, with a theorem to each. tests/slips makes slips in the definitions and wants the tables to refuse every one.
use Rattle.std.specs.Prelude.{ℕ, zero, suc, ◌≡◌, refl, List, [], ◌∷◌, ◌++◌, map}
use Rattle.rules.specs.Basics.{place}
use Rattle.rules.specs.Job.{symbols, times_over}
use Rattle.rules.specs.LoadList.{events_in, events_bytes}
use Rattle.rules.specs.Display.{run, tick, beginning, happened}
use Rattle.rules.specs.Plans.{missing, ranks_from, greatest}
use Rattle.rules.specs.Refusals.{checked, planned, due, first_bad_tick, doubled, job_tests, call_tests, bad_rounds, tick_bytes}
use Rattle.rules.specs.Worked.{Row, row, found, expected, accepts, refuses, planning, checking}
use Rattle.rules.specs.Worked.{symbol_bytes, job_fields, job_bytes, list_fields, loads, load}
use Rattle.rules.specs.Worked.{job_a, job_c, records_found}
use Rattle.rules.specs.Worked.{plan, list, check, ticks, slots, check_for_c, room_later, ticks_later, slots_later, ticks_for_c_later}
use Rattle.rules.specs.Worked.{plan_records, check_records, job_number, shape, symbols_in, limits, list_number_asked, bad_tick, event_at, load_number}
use Rattle.rules.specs.Worked.{number_two, number_four, head_put, event_put, put_number_asked, rounds_number, draws_in_asked, in_rounds_asked}

-- One byte over and over.
unfoldable pub filled : (count byte : ℕ) → List ℕ
filled zero b = []
filled (suc n) b = b ∷ filled n b

-- ---- "The job, byte for byte": numbers and fields

unfoldable pub telling_bytes : List Row
telling_bytes =
    -- The first byte weighs most, and past the end there are zeros.
    row (number_two (1 ∷ 2 ∷ 3 ∷ 4 ∷ 5 ∷ []) 1) (515 ∷ [])
    ∷ row (number_two (1 ∷ 2 ∷ 3 ∷ 4 ∷ 5 ∷ []) 4) (1280 ∷ [])
    ∷ row (number_two (1 ∷ 2 ∷ 3 ∷ 4 ∷ 5 ∷ []) 5) (0 ∷ [])
    ∷ row (number_four (1 ∷ 2 ∷ 3 ∷ 4 ∷ 5 ∷ []) 0) (16909060 ∷ [])
    ∷ row (number_four (1 ∷ 2 ∷ 3 ∷ 4 ∷ 5 ∷ []) 1) (33752069 ∷ [])
    ∷ row (number_four (1 ∷ 2 ∷ 3 ∷ 4 ∷ 5 ∷ []) 2) (50595072 ∷ [])
    -- The fields of a job: k in one byte, F and n in two; then its symbols in two each, the starting ones first.
    ∷ row (shape (0 ∷ 0 ∷ 0 ∷ 8 ∷ 1 ∷ 3 ∷ 1 ∷ 2 ∷ 3 ∷ 4 ∷ 5 ∷ 6 ∷ [])) (3 ∷ 258 ∷ 772 ∷ [])
    ∷ row (shape (0 ∷ 0 ∷ 0 ∷ 1 ∷ 1 ∷ [])) (0 ∷ 0 ∷ 0 ∷ [])
    ∷ row (symbols_in (0 ∷ 0 ∷ 0 ∷ 14 ∷ 1 ∷ 2 ∷ 0 ∷ 1 ∷ 0 ∷ 2 ∷ 1 ∷ 2 ∷ 3 ∷ 4 ∷ 5 ∷ 6 ∷ 255 ∷ 255 ∷ []))
    (258 ∷ 772 ∷ 1286 ∷ 65535 ∷ [])
    -- An event takes seven bytes: tick in four, slot in one, symbol in two. With more only the first seven count.
    ∷ row (event_at (1 ∷ 2 ∷ 3 ∷ 4 ∷ 5 ∷ 6 ∷ 7 ∷ [])) (0 ∷ 16909060 ∷ 5 ∷ 1543 ∷ [])
    ∷ row (event_at (1 ∷ 2 ∷ 3 ∷ 4 ∷ 5 ∷ 6 ∷ 7 ∷ 8 ∷ [])) (0 ∷ 16909060 ∷ 5 ∷ 1543 ∷ [])
    ∷ row (event_at (1 ∷ 2 ∷ 3 ∷ 4 ∷ 5 ∷ 6 ∷ [])) (8 ∷ [])
    ∷ row (event_at []) (8 ∷ [])
    -- A head put into room: it takes seven bytes at the front, and where they do not fit nothing is put.
    ∷ row (head_put 258 (filled 9 9)) (0 ∷ 0 ∷ 7 ∷ 17 ∷ 1 ∷ 1 ∷ 2 ∷ 9 ∷ 9 ∷ [])
    ∷ row (head_put 65535 (filled 7 9)) (0 ∷ 6 ∷ 255 ∷ 252 ∷ 1 ∷ 255 ∷ 255 ∷ [])
    ∷ row (head_put 258 (filled 6 9)) (filled 6 9)
    -- An event put into room: event 1 comes after the head and event 0.
    ∷ row (event_put 1 16909060 5 1543 (filled 23 9)) (filled 14 9 ++ (1 ∷ 2 ∷ 3 ∷ 4 ∷ 5 ∷ 6 ∷ 7 ∷ 9 ∷ 9 ∷ []))
    ∷ row (event_put 0 16909060 5 1543 (filled 14 9)) (filled 7 9 ++ (1 ∷ 2 ∷ 3 ∷ 4 ∷ 5 ∷ 6 ∷ 7 ∷ []))
    ∷ row (event_put 0 16909060 5 1543 (filled 13 9)) (filled 13 9)
    ∷ row (event_put 0 33554431 5 1543 (filled 14 9)) (filled 7 9 ++ (1 ∷ 255 ∷ 255 ∷ 255 ∷ 5 ∷ 6 ∷ 7 ∷ []))
    ∷ row (event_put 0 16777216 5 1536 (filled 14 9)) (filled 7 9 ++ (1 ∷ 0 ∷ 0 ∷ 0 ∷ 5 ∷ 6 ∷ 0 ∷ []))
    -- A put answers 7 where the room is a byte short.
    ∷ row (put_number_asked 3 4 (filled 7 9)) (0 ∷ [])
    ∷ row (put_number_asked 3 4 (filled 6 9)) (7 ∷ [])
    ∷ []

-- ---- "Refusal numbers": 1 to 5, of a job. The number comes twice: as an answer, and in what reading finds.

unfoldable pub telling_jobs : List Row
telling_jobs =
    row (job_number job_a) (0 ∷ 2 ∷ 4 ∷ 4 ∷ [])
    -- 1: nine bytes are too few and ten are not; the length is the number of bytes after it.
    ∷ row (job_number []) (1 ∷ 1 ∷ [])
    ∷ row (job_number (0 ∷ 0 ∷ 0 ∷ 5 ∷ 1 ∷ 1 ∷ 0 ∷ 1 ∷ 0 ∷ [])) (1 ∷ 1 ∷ [])
    ∷ row (job_number (job_fields 6 1 1 1 0 [])) (4 ∷ 4 ∷ [])
    ∷ row (job_number (job_fields 7 1 1 1 0 (0 ∷ 5 ∷ []))) (1 ∷ 1 ∷ [])
    ∷ row (job_number (job_fields 8 1 1 1 0 (0 ∷ 5 ∷ []))) (0 ∷ 1 ∷ 1 ∷ 0 ∷ [])
    ∷ row (job_number (job_fields 9 1 1 1 0 (0 ∷ 5 ∷ []))) (1 ∷ 1 ∷ [])
    ∷ row (job_number (1 ∷ 0 ∷ 0 ∷ 8 ∷ 1 ∷ 1 ∷ 0 ∷ 1 ∷ 0 ∷ 0 ∷ 0 ∷ 5 ∷ [])) (1 ∷ 1 ∷ [])
    ∷ row (job_number (0 ∷ 1 ∷ 0 ∷ 8 ∷ 1 ∷ 1 ∷ 0 ∷ 1 ∷ 0 ∷ 0 ∷ 0 ∷ 5 ∷ [])) (1 ∷ 1 ∷ [])
    ∷ row (job_number (0 ∷ 0 ∷ 1 ∷ 8 ∷ 1 ∷ 1 ∷ 0 ∷ 1 ∷ 0 ∷ 0 ∷ 0 ∷ 5 ∷ [])) (1 ∷ 1 ∷ [])
    -- 2: the version is 1.
    ∷ row (job_number (job_fields 8 0 1 1 0 (0 ∷ 5 ∷ []))) (2 ∷ 2 ∷ [])
    ∷ row (job_number (job_fields 8 2 1 1 0 (0 ∷ 5 ∷ []))) (2 ∷ 2 ∷ [])
    -- 3: each limit from both sides.
    ∷ row (limits 0 1 0) (1 ∷ [])
    ∷ row (limits 1 1 0) (0 ∷ [])
    ∷ row (limits 64 1 0) (0 ∷ [])
    ∷ row (limits 65 1 0) (1 ∷ [])
    ∷ row (limits 1 0 0) (1 ∷ [])
    ∷ row (limits 1 1000 0) (0 ∷ [])
    ∷ row (limits 1 1001 0) (1 ∷ [])
    ∷ row (limits 1 1 4096) (0 ∷ [])
    ∷ row (limits 1 1 4097) (1 ∷ [])
    ∷ row (job_number (job_fields 6 1 0 1 0 [])) (3 ∷ 3 ∷ [])
    ∷ row (job_number (job_bytes 1000 (5 ∷ []) [])) (0 ∷ 1 ∷ 1000 ∷ 0 ∷ [])
    ∷ row (job_number (job_bytes 1001 (5 ∷ []) [])) (3 ∷ 3 ∷ [])
    -- 4: the length is 6 + 2k + 2n, no symbol more and none less.
    ∷ row (job_number (job_fields 14 1 2 1 1 (filled 8 0))) (4 ∷ 4 ∷ [])
    ∷ row (job_number (job_fields 10 1 2 1 1 (filled 4 0))) (4 ∷ 4 ∷ [])
    ∷ row (job_number (job_bytes 1 (5 ∷ []) (5 ∷ 5 ∷ 6 ∷ []))) (0 ∷ 1 ∷ 1 ∷ 3 ∷ [])
    -- 5: two slots with one symbol, next to each other or not; free slots are no symbol; 65535 is not drawn, and 65534 is a symbol.
    ∷ row (job_number (job_bytes 1 (5 ∷ 5 ∷ 6 ∷ []) [])) (5 ∷ 5 ∷ [])
    ∷ row (job_number (job_bytes 1 (5 ∷ 6 ∷ 5 ∷ []) [])) (5 ∷ 5 ∷ [])
    ∷ row (job_number (job_bytes 1 (6 ∷ 5 ∷ 5 ∷ []) [])) (5 ∷ 5 ∷ [])
    ∷ row (job_number (job_bytes 1 (65535 ∷ 6 ∷ 65535 ∷ []) [])) (0 ∷ 3 ∷ 1 ∷ 0 ∷ [])
    ∷ row (job_number (job_bytes 1 (65534 ∷ 6 ∷ 65534 ∷ []) [])) (5 ∷ 5 ∷ [])
    ∷ row (job_number (job_bytes 1 (5 ∷ []) (6 ∷ 65535 ∷ []))) (5 ∷ 5 ∷ [])
    ∷ row (job_number (job_bytes 1 (5 ∷ []) (65534 ∷ 65534 ∷ []))) (0 ∷ 1 ∷ 1 ∷ 2 ∷ [])
    -- The order: 1 before 2, 2 before 3, 3 before 4, 4 before 5.
    ∷ row (job_number (job_fields 9 2 1 1 0 (0 ∷ 5 ∷ []))) (1 ∷ 1 ∷ [])
    ∷ row (job_number (job_fields 8 2 1 0 0 (0 ∷ 5 ∷ []))) (2 ∷ 2 ∷ [])
    ∷ row (job_number (job_fields 8 1 65 1 0 (0 ∷ 5 ∷ []))) (3 ∷ 3 ∷ [])
    ∷ row (job_number (job_fields 12 1 2 1 0 (0 ∷ 5 ∷ 0 ∷ 5 ∷ 0 ∷ 5 ∷ []))) (4 ∷ 4 ∷ [])
    -- Plan and check answer each with detail 0 and no counts.
    ∷ row (plan [] 0 7) (refuses 1 0)
    ∷ row (plan (job_fields 8 2 1 1 0 (0 ∷ 5 ∷ [])) 0 7) (refuses 2 0)
    ∷ row (plan (job_fields 6 1 0 1 0 []) 0 7) (refuses 3 0)
    ∷ row (check (job_fields 6 1 1 1 0 []) (loads 0 []) 0 0) (refuses 4 0)
    ∷ row (check (job_bytes 1 (5 ∷ 5 ∷ []) []) (loads 0 []) 0 0) (refuses 5 0)
    ∷ []

-- ---- "Refusal numbers": 8 and 9, of a list

unfoldable pub telling_lists : List Row
telling_lists =
    -- 8: seven bytes are enough; the length is the number of bytes after it, each of its bytes counts, and it is 3 + 7m; the version is 1.
    row (list_number_asked []) (8 ∷ [])
    ∷ row (list_number_asked (0 ∷ 0 ∷ 0 ∷ 2 ∷ 1 ∷ 0 ∷ [])) (8 ∷ [])
    ∷ row (list_number_asked (loads 0 [])) (0 ∷ 0 ∷ [])
    ∷ row (list_number_asked (loads 1 (load 0 0 1))) (0 ∷ 1 ∷ [])
    ∷ row (list_number_asked (list_fields 10 1 1 (filled 6 0))) (8 ∷ [])
    ∷ row (list_number_asked (list_fields 10 1 1 (filled 8 0))) (8 ∷ [])
    ∷ row (list_number_asked (list_fields 10 1 0 (filled 7 0))) (8 ∷ [])
    ∷ row (list_number_asked (list_fields 3 1 1 [])) (8 ∷ [])
    ∷ row (list_number_asked (list_fields 3 0 0 [])) (8 ∷ [])
    ∷ row (list_number_asked (list_fields 3 2 0 [])) (8 ∷ [])
    ∷ row (list_number_asked (1 ∷ 0 ∷ 0 ∷ 3 ∷ 1 ∷ 0 ∷ 0 ∷ [])) (8 ∷ [])
    ∷ row (list_number_asked (0 ∷ 1 ∷ 0 ∷ 3 ∷ 1 ∷ 0 ∷ 0 ∷ [])) (8 ∷ [])
    ∷ row (list_number_asked (0 ∷ 0 ∷ 1 ∷ 3 ∷ 1 ∷ 0 ∷ 0 ∷ [])) (8 ∷ [])
    -- 4,096 events are the most.
    ∷ row (list_number_asked (list_fields 28675 1 4096 (filled 28672 0))) (0 ∷ 4096 ∷ [])
    ∷ row (list_number_asked (list_fields 28682 1 4097 (filled 28679 0))) (8 ∷ [])
    -- 9: the first event whose tick is not right, or the number of events. The first may have tick 0; equal ticks do not rise.
    ∷ row (bad_tick (loads 0 [])) (0 ∷ [])
    ∷ row (bad_tick (loads 2 (load 0 0 3 ++ load 1 0 2))) (2 ∷ [])
    ∷ row (bad_tick (loads 2 (load 2 0 3 ++ load 2 0 2))) (1 ∷ [])
    ∷ row (bad_tick (loads 3 (load 5 0 3 ++ load 4 0 2 ++ load 3 0 2))) (1 ∷ [])
    ∷ row (bad_tick (loads 3 (load 2 0 3 ++ load 3 0 2 ++ load 3 0 2))) (2 ∷ [])
    ∷ row (bad_tick (loads 1 (load 8388607 0 3))) (1 ∷ [])
    ∷ row (bad_tick (loads 1 (load 8388608 0 3))) (0 ∷ [])
    ∷ row (bad_tick (loads 2 (load 8388607 0 3 ++ load 8388608 0 3))) (1 ∷ [])
    ∷ row (bad_tick (loads 1 (1 ∷ 0 ∷ 0 ∷ 0 ∷ 0 ∷ 0 ∷ 3 ∷ []))) (0 ∷ [])
    ∷ []

-- ---- "Refusal numbers" and "One tick of the display": checks

-- Three slots, two ticks to a load, and two draws of symbols that no slot holds.
abbrev pub job_loads : List ℕ
job_loads = job_bytes 2 (1 ∷ 2 ∷ 3 ∷ []) (4 ∷ 5 ∷ [])

-- No draws.
abbrev pub job_none : List ℕ
job_none = job_bytes 1 (5 ∷ []) []

unfoldable pub telling_checks : List Row
telling_checks =
    -- The order before time begins: 5 before 8, 8 before 7, 7 before 9, and 9 over the whole list before 11 and 12.
    row (check (job_bytes 1 (5 ∷ 5 ∷ []) []) [] 0 0) (refuses 5 0)
    ∷ row (check job_a (0 ∷ []) 3 3) (refuses 8 0)
    ∷ row (check job_a (loads 2 (load 2 1 3 ++ load 2 0 2)) 3 4) (refuses 7 0)
    ∷ checking job_a (loads 2 (load 0 9 1 ++ load 0 0 2)) (refuses 9 1)
    ∷ checking job_a (loads 3 (load 0 0 1 ++ load 2 0 2 ++ load 1 0 3)) (refuses 9 2)
    -- 7: a place for each draw in both.
    ∷ row (check job_a (loads 1 (load 2 1 3)) 4 4) (accepts 8 4 1 4)
    ∷ row (check job_a (loads 1 (load 2 1 3)) 3 4) (refuses 7 0)
    ∷ row (check job_a (loads 1 (load 2 1 3)) 4 3) (refuses 7 0)
    ∷ row (check job_none (loads 0 []) 0 0) (accepts 0 0 0 0)
    -- The next load may begin at t + F, and not before: 10.
    ∷ checking job_loads (loads 2 (load 0 0 4 ++ load 2 1 5)) (accepts 5 3 2 2)
    ∷ row (ticks job_loads (loads 2 (load 0 0 4 ++ load 2 1 5)) 2 2) (2 ∷ 4 ∷ [])
    ∷ row (slots job_loads (loads 2 (load 0 0 4 ++ load 2 1 5)) 2 2) (0 ∷ 1 ∷ [])
    ∷ checking job_loads (loads 2 (load 0 0 4 ++ load 1 1 5)) (refuses 10 1)
    ∷ checking (job_bytes 1 (1 ∷ 2 ∷ []) (3 ∷ 4 ∷ [])) (loads 2 (load 0 0 3 ++ load 1 1 4)) (accepts 3 1 2 1)
    -- 11: slot k - 1 is taken, slot k is not.
    ∷ checking job_loads (loads 2 (load 0 2 4 ++ load 2 0 5)) (accepts 5 3 2 2)
    ∷ row (slots job_loads (loads 2 (load 0 2 4 ++ load 2 0 5)) 2 2) (2 ∷ 0 ∷ [])
    ∷ checking job_loads (loads 1 (load 0 3 4)) (refuses 11 0)
    ∷ checking job_loads (loads 2 (load 0 0 4 ++ load 2 3 5)) (refuses 11 1)
    -- 12: a symbol that the slot itself holds, or another, or the last, or one whose load ended in this tick; and 65535, with no slot free.
    ∷ checking job_loads (loads 1 (load 0 0 1)) (refuses 12 0)
    ∷ checking job_loads (loads 1 (load 0 1 1)) (refuses 12 0)
    ∷ checking job_loads (loads 1 (load 0 0 3)) (refuses 12 0)
    ∷ checking job_loads (loads 2 (load 0 0 4 ++ load 2 1 4)) (refuses 12 1)
    ∷ checking job_loads (loads 1 (load 0 0 65535)) (refuses 12 0)
    ∷ checking job_loads (loads 2 (load 0 0 4 ++ load 2 0 65534)) (refuses 13 0)
    -- For one event 10 before 11, and 11 before 12.
    ∷ checking job_loads (loads 2 (load 0 0 4 ++ load 1 9 5)) (refuses 10 1)
    ∷ checking job_loads (loads 2 (load 0 0 4 ++ load 1 1 1)) (refuses 10 1)
    ∷ checking job_loads (loads 1 (load 0 3 1)) (refuses 11 0)
    ∷ row (load_number job_loads 2 4) (0 ∷ [])
    ∷ row (load_number job_loads 3 1) (11 ∷ [])
    ∷ row (load_number job_loads 2 1) (12 ∷ [])
    -- What a slot held is gone at once, and may be loaded again.
    ∷ checking (job_bytes 3 (1 ∷ 2 ∷ []) (1 ∷ 1 ∷ [])) (loads 1 (load 1 0 3)) (refuses 13 1)
    ∷ checking (job_bytes 1 (1 ∷ []) (2 ∷ 1 ∷ [])) (loads 2 (load 0 0 2 ++ load 2 0 1)) (accepts 4 2 2 1)
    -- A load that ends in this tick is in its slot before the next begins: here that one takes it out before it is drawn.
    ∷ checking job_a (loads 2 (load 2 1 3 ++ load 6 1 2)) (refuses 13 2)
    -- 13: with no event left, and not with one left; the detail is the draw. Waits with nothing under way count.
    ∷ checking job_a (loads 0 []) (refuses 13 2)
    ∷ checking job_a (loads 1 (load 4 1 3)) (accepts 10 6 1 6)
    ∷ row (ticks job_a (loads 1 (load 4 1 3)) 4 4) (0 ∷ 1 ∷ 8 ∷ 9 ∷ [])
    -- 14: the first event left, with and without draws. Time does not meet the events after the last draw.
    ∷ checking job_a (loads 2 (load 2 1 3 ++ load 8 0 2)) (refuses 14 1)
    ∷ checking job_a (loads 3 (load 2 1 3 ++ load 8 0 2 ++ load 9 0 2)) (refuses 14 1)
    ∷ checking job_a (loads 3 (load 2 1 3 ++ load 7 1 2 ++ load 8 9 65535)) (refuses 14 2)
    ∷ row (check job_none (loads 1 (load 0 0 5)) 0 0) (refuses 14 0)
    ∷ row (check job_none (loads 1 (load 8388607 0 6)) 0 0) (refuses 14 0)
    ∷ row (check job_none (loads 1 (load 8388608 0 6)) 0 0) (refuses 9 0)
    -- Symbols, ticks and load times of two bytes.
    ∷ checking (job_bytes 1 (258 ∷ []) (258 ∷ 513 ∷ [])) (loads 1 (load 1 0 513)) (accepts 3 1 1 1)
    ∷ checking (job_bytes 1 (65535 ∷ []) (7 ∷ [])) (loads 1 (load 258 0 7)) (accepts 260 259 1 259)
    ∷ checking (job_bytes 258 (65535 ∷ []) (7 ∷ [])) (loads 1 (load 0 0 7)) (accepts 259 258 1 258)
    ∷ []

-- ---- Document 02, One: the longest single wait

-- Three slots, two ticks to a load, and three draws, each of a symbol that no slot holds.
abbrev pub job_pauses : List ℕ
job_pauses = job_bytes 2 (1 ∷ 2 ∷ 3 ∷ []) (4 ∷ 5 ∷ 6 ∷ [])

-- The three loads, from these ticks on.
abbrev pub pausing : (first second third : ℕ) (answer : List ℕ) → Row
pausing t u v answer = checking job_pauses (loads 3 (load t 0 4 ++ load u 1 5 ++ load v 2 6)) answer

unfoldable pub telling_pauses : List Row
telling_pauses =
    -- It is before the first draw, in the middle, before the last draw.
    pausing 3 5 7 (accepts 10 7 3 5)
    ∷ pausing 0 5 7 (accepts 10 7 3 4)
    ∷ pausing 0 2 8 (accepts 11 8 3 5)
    -- Two are equal; all are; there is no wait, and no draw.
    ∷ pausing 1 3 7 (accepts 10 7 3 3)
    ∷ checking job_loads (loads 2 (load 0 0 4 ++ load 3 1 5)) (accepts 6 4 2 2)
    ∷ checking (job_bytes 1 (1 ∷ []) (1 ∷ 1 ∷ [])) (loads 0 []) (accepts 2 0 0 0)
    ∷ row (check job_none (loads 0 []) 0 0) (accepts 0 0 0 0)
    -- Waits with nothing under way count with those for a load, and those for another symbol's load with both.
    ∷ checking (job_bytes 2 (1 ∷ 2 ∷ []) (3 ∷ [])) (loads 2 (load 1 0 4 ++ load 3 1 3)) (accepts 6 5 2 5)
    -- A refusal after waits, and after draws that waited, has none.
    ∷ pausing 0 1 2 (refuses 10 1)
    ∷ pausing 0 5 6 (refuses 10 2)
    ∷ checking job_pauses (loads 2 (load 0 0 4 ++ load 5 1 5)) (refuses 13 2)
    ∷ []

-- ---- "One tick of the display": the record of each tick, five numbers to a tick

unfoldable pub telling_records : List Row
telling_records =
    -- Row e: a load begun in a tick counts as under way in it, and a draw has its slot.
    row (check_records job_a (loads 1 (load 2 1 3)))
    (0 ∷ 0 ∷ 0 ∷ 1 ∷ 0
    ∷ 0 ∷ 0 ∷ 0 ∷ 1 ∷ 1
    ∷ 1 ∷ 1 ∷ 3 ∷ 0 ∷ 1
    ∷ 0 ∷ 0 ∷ 0 ∷ 0 ∷ 1
    ∷ 0 ∷ 0 ∷ 0 ∷ 0 ∷ 1
    ∷ 0 ∷ 0 ∷ 0 ∷ 0 ∷ 1
    ∷ 0 ∷ 0 ∷ 0 ∷ 1 ∷ 1
    ∷ 0 ∷ 0 ∷ 0 ∷ 1 ∷ 0
    ∷ [])
    -- The three causes: nothing, another, the awaited symbol.
    ∷ row (check_records (job_bytes 2 (1 ∷ 2 ∷ []) (3 ∷ [])) (loads 2 (load 1 0 4 ++ load 3 1 3)))
    (0 ∷ 0 ∷ 0 ∷ 0 ∷ 3
    ∷ 1 ∷ 0 ∷ 4 ∷ 0 ∷ 2
    ∷ 0 ∷ 0 ∷ 0 ∷ 0 ∷ 2
    ∷ 1 ∷ 1 ∷ 3 ∷ 0 ∷ 1
    ∷ 0 ∷ 0 ∷ 0 ∷ 0 ∷ 1
    ∷ 0 ∷ 0 ∷ 0 ∷ 1 ∷ 1
    ∷ [])
    -- 13 comes only when no load is under way, also of another symbol.
    ∷ row (check_records (job_bytes 2 (1 ∷ []) (2 ∷ [])) (loads 1 (load 0 0 3)))
    (1 ∷ 0 ∷ 3 ∷ 0 ∷ 2
    ∷ 0 ∷ 0 ∷ 0 ∷ 0 ∷ 2
    ∷ 0 ∷ 0 ∷ 0 ∷ 0 ∷ 3
    ∷ 13 ∷ 0
    ∷ [])
    -- Row a, aggressive, opt and lru. The next load of aggressive begins in the tick in which the first ends.
    ∷ row (plan_records job_a 0)
    (0 ∷ 0 ∷ 0 ∷ 1 ∷ 0
    ∷ 1 ∷ 0 ∷ 3 ∷ 1 ∷ 1
    ∷ 0 ∷ 0 ∷ 0 ∷ 0 ∷ 1
    ∷ 0 ∷ 0 ∷ 0 ∷ 0 ∷ 1
    ∷ 0 ∷ 0 ∷ 0 ∷ 0 ∷ 1
    ∷ 1 ∷ 1 ∷ 1 ∷ 1 ∷ 0
    ∷ 0 ∷ 0 ∷ 0 ∷ 0 ∷ 1
    ∷ 0 ∷ 0 ∷ 0 ∷ 0 ∷ 1
    ∷ 0 ∷ 0 ∷ 0 ∷ 0 ∷ 1
    ∷ 0 ∷ 0 ∷ 0 ∷ 1 ∷ 1
    ∷ [])
    ∷ row (plan_records job_a 2)
    (0 ∷ 0 ∷ 0 ∷ 1 ∷ 0
    ∷ 0 ∷ 0 ∷ 0 ∷ 1 ∷ 1
    ∷ 1 ∷ 1 ∷ 3 ∷ 0 ∷ 1
    ∷ 0 ∷ 0 ∷ 0 ∷ 0 ∷ 1
    ∷ 0 ∷ 0 ∷ 0 ∷ 0 ∷ 1
    ∷ 0 ∷ 0 ∷ 0 ∷ 0 ∷ 1
    ∷ 0 ∷ 0 ∷ 0 ∷ 1 ∷ 1
    ∷ 0 ∷ 0 ∷ 0 ∷ 1 ∷ 0
    ∷ [])
    ∷ row (plan_records job_a 3)
    (0 ∷ 0 ∷ 0 ∷ 1 ∷ 0
    ∷ 0 ∷ 0 ∷ 0 ∷ 1 ∷ 1
    ∷ 1 ∷ 0 ∷ 3 ∷ 0 ∷ 1
    ∷ 0 ∷ 0 ∷ 0 ∷ 0 ∷ 1
    ∷ 0 ∷ 0 ∷ 0 ∷ 0 ∷ 1
    ∷ 0 ∷ 0 ∷ 0 ∷ 0 ∷ 1
    ∷ 0 ∷ 0 ∷ 0 ∷ 1 ∷ 0
    ∷ 1 ∷ 1 ∷ 1 ∷ 0 ∷ 1
    ∷ 0 ∷ 0 ∷ 0 ∷ 0 ∷ 1
    ∷ 0 ∷ 0 ∷ 0 ∷ 0 ∷ 1
    ∷ 0 ∷ 0 ∷ 0 ∷ 0 ∷ 1
    ∷ 0 ∷ 0 ∷ 0 ∷ 1 ∷ 1
    ∷ [])
    -- Row c, aggressive: of the symbols done for the one in the lowest slot.
    ∷ row (plan_records job_c 0)
    (0 ∷ 0 ∷ 0 ∷ 1 ∷ 0
    ∷ 1 ∷ 0 ∷ 5 ∷ 1 ∷ 1
    ∷ 0 ∷ 0 ∷ 0 ∷ 1 ∷ 2
    ∷ 0 ∷ 0 ∷ 0 ∷ 1 ∷ 3
    ∷ 1 ∷ 1 ∷ 1 ∷ 1 ∷ 0
    ∷ 0 ∷ 0 ∷ 0 ∷ 0 ∷ 1
    ∷ 0 ∷ 0 ∷ 0 ∷ 0 ∷ 1
    ∷ 0 ∷ 0 ∷ 0 ∷ 1 ∷ 1
    ∷ [])
    -- Free slots, and the draw in the last slot.
    ∷ row (plan_records (job_bytes 1 (5 ∷ 65535 ∷ 65535 ∷ []) (7 ∷ 8 ∷ [])) 0)
    (1 ∷ 1 ∷ 7 ∷ 0 ∷ 1
    ∷ 1 ∷ 2 ∷ 8 ∷ 1 ∷ 1
    ∷ 0 ∷ 0 ∷ 0 ∷ 1 ∷ 2
    ∷ [])
    ∷ row (plan_records (job_bytes 1 (5 ∷ 65535 ∷ 65535 ∷ []) (7 ∷ 8 ∷ [])) 2)
    (1 ∷ 1 ∷ 7 ∷ 0 ∷ 1
    ∷ 0 ∷ 0 ∷ 0 ∷ 1 ∷ 1
    ∷ 1 ∷ 2 ∷ 8 ∷ 0 ∷ 1
    ∷ 0 ∷ 0 ∷ 0 ∷ 1 ∷ 2
    ∷ [])
    ∷ []

-- ---- "The four plans", and refusals 6 and 7

abbrev pub listing : (job : List ℕ) (plan : ℕ) (loads : List ℕ) → Row
listing job p answer = row (list job p 77) answer

unfoldable pub telling_plans : List Row
telling_plans =
    -- 6: plans 0 to 3. The order: 5 before 6, 6 before 7. 7: 7 + 7n bytes are enough.
    row (plan job_a 4 77) (refuses 6 0)
    ∷ row (plan job_a 256 77) (refuses 6 0)
    ∷ row (plan (job_bytes 1 (5 ∷ 5 ∷ []) []) 4 77) (refuses 5 0)
    ∷ row (plan job_a 4 0) (refuses 6 0)
    ∷ row (plan job_a 3 35) (accepts 12 8 2 4)
    ∷ row (plan job_a 0 34) (refuses 7 0)
    ∷ row (plan job_none 0 7) (accepts 0 0 0 0)
    ∷ row (plan job_none 0 6) (refuses 7 0)
    ∷ listing job_none 1 (loads 0 [])
    -- Where several symbols are neither drawn again nor yet drawn, the lowest slot.
    ∷ listing (job_bytes 1 (1 ∷ 2 ∷ 3 ∷ []) (4 ∷ [])) 0 (loads 1 (load 0 0 4))
    ∷ listing (job_bytes 1 (1 ∷ 2 ∷ 3 ∷ []) (4 ∷ [])) 1 (loads 1 (load 0 0 4))
    ∷ listing (job_bytes 1 (1 ∷ 2 ∷ 3 ∷ []) (4 ∷ [])) 2 (loads 1 (load 0 0 4))
    ∷ listing (job_bytes 1 (1 ∷ 2 ∷ 3 ∷ []) (4 ∷ [])) 3 (loads 1 (load 0 0 4))
    -- The furthest in a middle slot, and then the first of those done; never drawn again is further than the last draw.
    ∷ listing (job_bytes 1 (1 ∷ 2 ∷ 3 ∷ []) (4 ∷ 1 ∷ 3 ∷ 2 ∷ [])) 2 (loads 2 (load 0 1 4 ++ load 4 1 2))
    ∷ listing (job_bytes 1 (1 ∷ 2 ∷ 3 ∷ []) (4 ∷ 1 ∷ 2 ∷ [])) 2 (loads 1 (load 0 2 4))
    -- A free slot before any held symbol, and the lowest free slot first.
    ∷ listing (job_bytes 1 (5 ∷ 65535 ∷ []) (7 ∷ [])) 2 (loads 1 (load 0 1 7))
    ∷ listing (job_bytes 1 (5 ∷ 65535 ∷ []) (7 ∷ [])) 3 (loads 1 (load 0 1 7))
    ∷ listing (job_bytes 1 (5 ∷ 65535 ∷ 65535 ∷ []) (7 ∷ 8 ∷ [])) 0 (loads 2 (load 0 1 7 ++ load 1 2 8))
    ∷ listing (job_bytes 1 (5 ∷ 65535 ∷ 65535 ∷ []) (7 ∷ 8 ∷ [])) 1 (loads 2 (load 0 1 7 ++ load 1 2 8))
    ∷ listing (job_bytes 1 (5 ∷ 65535 ∷ 65535 ∷ []) (7 ∷ 8 ∷ [])) 2 (loads 2 (load 0 1 7 ++ load 2 2 8))
    ∷ listing (job_bytes 1 (5 ∷ 65535 ∷ 65535 ∷ []) (7 ∷ 8 ∷ [])) 3 (loads 2 (load 0 1 7 ++ load 2 2 8))
    -- Symbol 65534 is held as any other.
    ∷ listing (job_bytes 1 (5 ∷ 65534 ∷ []) (65534 ∷ 7 ∷ [])) 2 (loads 1 (load 1 0 7))
    -- Nothing to load.
    ∷ row (plan (job_bytes 1 (1 ∷ []) (1 ∷ 1 ∷ [])) 0 21) (accepts 2 0 0 0)
    ∷ row (plan (job_bytes 1 (1 ∷ []) (1 ∷ 1 ∷ [])) 1 21) (accepts 2 0 0 0)
    -- Aggressive and conservative: the draw of this very tick still counts for the symbol going out.
    ∷ listing (job_bytes 2 (1 ∷ []) (1 ∷ 2 ∷ [])) 0 (loads 1 (load 1 0 2))
    ∷ listing (job_bytes 2 (1 ∷ []) (1 ∷ 2 ∷ [])) 1 (loads 1 (load 1 0 2))
    -- Aggressive begins as soon as the symbol going out is not drawn before the miss.
    ∷ listing (job_bytes 1 (1 ∷ 2 ∷ []) (1 ∷ 2 ∷ 1 ∷ 3 ∷ [])) 0 (loads 1 (load 2 1 3))
    ∷ planning (job_bytes 1 (1 ∷ 2 ∷ []) (1 ∷ 2 ∷ 1 ∷ 3 ∷ [])) 0 (accepts 4 0 1 0)
    -- Conservative takes opt's choice at the miss, and not a symbol that is done earlier; its loads keep opt's order.
    ∷ listing job_c 1 (loads 1 (load 2 1 5))
    ∷ listing (job_bytes 2 (1 ∷ 2 ∷ []) (1 ∷ 2 ∷ 3 ∷ 4 ∷ [])) 1 (loads 2 (load 1 0 3 ++ load 3 1 4))
    ∷ planning (job_bytes 2 (1 ∷ 2 ∷ []) (1 ∷ 2 ∷ 3 ∷ 4 ∷ [])) 1 (accepts 6 2 2 1)
    ∷ listing (job_bytes 2 (1 ∷ 2 ∷ []) (1 ∷ 2 ∷ 3 ∷ 4 ∷ [])) 2 (loads 2 (load 2 0 3 ++ load 5 1 4))
    -- Lru goes by the last draw of a symbol and not by its load; a symbol not yet drawn goes before a drawn one.
    ∷ planning (job_bytes 1 (1 ∷ 2 ∷ []) (2 ∷ 1 ∷ 3 ∷ 1 ∷ [])) 3 (accepts 5 1 1 1)
    ∷ listing (job_bytes 1 (1 ∷ 2 ∷ []) (2 ∷ 1 ∷ 3 ∷ 1 ∷ [])) 3 (loads 1 (load 2 1 3))
    ∷ listing (job_bytes 1 (1 ∷ 2 ∷ []) (1 ∷ 2 ∷ 1 ∷ 3 ∷ [])) 3 (loads 1 (load 3 1 3))
    ∷ listing (job_bytes 1 (1 ∷ 2 ∷ []) (1 ∷ 2 ∷ 3 ∷ 2 ∷ 3 ∷ 1 ∷ [])) 3 (loads 2 (load 2 0 3 ++ load 6 1 1))
    ∷ listing (job_bytes 3 (1 ∷ 2 ∷ []) (1 ∷ 2 ∷ 3 ∷ 1 ∷ 2 ∷ [])) 3 (loads 3 (load 2 0 3 ++ load 6 1 1 ++ load 10 0 2))
    ∷ planning (job_bytes 3 (1 ∷ 2 ∷ []) (1 ∷ 2 ∷ 3 ∷ 1 ∷ 2 ∷ [])) 3 (accepts 14 9 3 3)
    ∷ listing (job_bytes 1 (1 ∷ 2 ∷ 3 ∷ []) (2 ∷ 4 ∷ [])) 3 (loads 1 (load 1 0 4))
    ∷ listing (job_bytes 1 (1 ∷ 2 ∷ 3 ∷ []) (1 ∷ 4 ∷ [])) 3 (loads 1 (load 1 1 4))
    ∷ listing (job_bytes 1 (1 ∷ 2 ∷ 3 ∷ []) (1 ∷ 2 ∷ 4 ∷ [])) 3 (loads 1 (load 2 2 4))
    -- A load time of two bytes, and ticks above 255 in a list.
    ∷ planning (job_bytes 300 (1 ∷ []) (2 ∷ 1 ∷ [])) 2 (accepts 602 600 2 300)
    ∷ listing (job_bytes 300 (1 ∷ []) (2 ∷ 1 ∷ [])) 2 (loads 2 (load 0 0 2 ++ load 301 0 1))
    ∷ []

-- ---- Document 02, Four: the slot that came free first

-- Of two symbols that are done for, the one in the higher slot was done first.
abbrev pub job_freed : List ℕ
job_freed = job_bytes 2 (1 ∷ 2 ∷ []) (2 ∷ 1 ∷ 3 ∷ [])

-- Of three, one is not yet drawn, and it is in the highest slot.
abbrev pub job_unmet : List ℕ
job_unmet = job_bytes 1 (1 ∷ 2 ∷ 9 ∷ []) (2 ∷ 1 ∷ 3 ∷ [])

-- With a slot free at first.
abbrev pub job_room : List ℕ
job_room = job_bytes 1 (1 ∷ 2 ∷ 65535 ∷ []) (2 ∷ 1 ∷ 3 ∷ 4 ∷ [])

-- The symbol that was drawn longest ago is drawn again.
abbrev pub job_again : List ℕ
job_again = job_bytes 1 (1 ∷ 2 ∷ 3 ∷ []) (1 ∷ 3 ∷ 2 ∷ 4 ∷ 1 ∷ [])

unfoldable pub telling_ties : List Row
telling_ties =
    -- The one whose last draw is earliest: so conservative is done at 4, and was done at 5 by the lowest slot.
    planning job_freed 1 (accepts 4 1 1 1)
    ∷ listing job_freed 1 (loads 1 (load 1 1 3))
    ∷ planning job_freed 2 (accepts 5 2 1 2)
    ∷ listing job_freed 2 (loads 1 (load 2 1 3))
    -- It is the last draw that counts, and not the first.
    ∷ listing (job_bytes 1 (1 ∷ 2 ∷ []) (2 ∷ 1 ∷ 2 ∷ 3 ∷ [])) 2 (loads 1 (load 3 0 3))
    ∷ listing (job_bytes 1 (1 ∷ 2 ∷ []) (1 ∷ 2 ∷ 1 ∷ 3 ∷ [])) 2 (loads 1 (load 3 1 3))
    -- One that is not yet drawn goes before all that were, and the lowest of several such.
    ∷ listing job_unmet 1 (loads 1 (load 0 2 3))
    ∷ listing job_unmet 2 (loads 1 (load 2 2 3))
    ∷ listing (job_bytes 1 (2 ∷ 8 ∷ 9 ∷ []) (2 ∷ 3 ∷ [])) 2 (loads 1 (load 1 1 3))
    -- A free slot before all of them; then the one in the middle slot came free first.
    ∷ listing job_room 1 (loads 2 (load 0 2 3 ++ load 1 1 4))
    ∷ listing job_room 2 (loads 2 (load 2 2 3 ++ load 4 1 4))
    -- Opt keeps what is drawn again, though it was drawn longest ago; lru does not.
    ∷ listing job_again 2 (loads 1 (load 3 2 4))
    ∷ listing job_again 3 (loads 2 (load 3 0 4 ++ load 5 2 1))
    -- Aggressive takes the lowest slot of those done, also where another came free first.
    ∷ listing (job_bytes 3 (1 ∷ 2 ∷ 9 ∷ []) (2 ∷ 1 ∷ 4 ∷ 5 ∷ [])) 0 (loads 2 (load 0 2 4 ++ load 3 0 5))
    ∷ listing (job_bytes 3 (1 ∷ 2 ∷ 9 ∷ []) (2 ∷ 1 ∷ 4 ∷ 5 ∷ [])) 1 (loads 2 (load 0 2 4 ++ load 3 1 5))
    ∷ []

-- ---- Document 02, Five: sheets that are redrawn

-- One round never draws symbol 1 again once symbol 3 is missing, and two rounds do.
abbrev pub job_redrawn : List ℕ
job_redrawn = job_bytes 1 (1 ∷ 2 ∷ []) (1 ∷ 2 ∷ 3 ∷ [])

-- The list of conservative for job a, twice round.
abbrev pub list_twice : List ℕ
list_twice = loads 3 (load 2 1 3 ++ load 9 0 2 ++ load 14 0 1)

abbrev pub twice : (plan : ℕ) (answer : List ℕ) → Row
twice p answer = row (in_rounds_asked 2 (plan job_a p 77)) answer

abbrev pub listing_twice : (job : List ℕ) (plan : ℕ) (loads : List ℕ) → Row
listing_twice job p answer = row (in_rounds_asked 2 (list job p 77)) answer

unfoldable pub telling_rounds : List Row
telling_rounds =
    -- The draws are those of the sheet, round after round.
    row (in_rounds_asked 3 (draws_in_asked job_redrawn)) (1 ∷ 2 ∷ 3 ∷ 1 ∷ 2 ∷ 3 ∷ 1 ∷ 2 ∷ 3 ∷ [])
    ∷ row (draws_in_asked job_redrawn) (1 ∷ 2 ∷ 3 ∷ [])
    ∷ row (in_rounds_asked 0 (draws_in_asked job_redrawn)) []
    -- 17: at least one round, and at most 4,096 draws in all, also where the product has more than 32 bits.
    ∷ row (in_rounds_asked 0 (rounds_number job_a)) (17 ∷ 17 ∷ [])
    ∷ row (in_rounds_asked 1 (rounds_number job_a)) (0 ∷ 2 ∷ 4 ∷ 1 ∷ 4 ∷ 4 ∷ [])
    ∷ row (in_rounds_asked 1024 (rounds_number job_a)) (0 ∷ 2 ∷ 4 ∷ 1024 ∷ 4 ∷ 4096 ∷ [])
    ∷ row (in_rounds_asked 1025 (rounds_number job_a)) (17 ∷ 17 ∷ [])
    ∷ row (in_rounds_asked 1073741824 (rounds_number job_a)) (17 ∷ 17 ∷ [])
    ∷ row (in_rounds_asked 4096 (rounds_number (job_bytes 1 (7 ∷ []) (7 ∷ [])))) (0 ∷ 1 ∷ 1 ∷ 4096 ∷ 1 ∷ 4096 ∷ [])
    ∷ row (in_rounds_asked 4097 (rounds_number (job_bytes 1 (7 ∷ []) (7 ∷ [])))) (17 ∷ 17 ∷ [])
    ∷ row (in_rounds_asked 4294967295 (rounds_number (job_bytes 1 (7 ∷ []) (7 ∷ [])))) (17 ∷ 17 ∷ [])
    -- A sheet with no draws may be drawn any number of times but 0.
    ∷ row (in_rounds_asked 4294967295 (plan job_none 0 7)) (accepts 0 0 0 0)
    ∷ row (in_rounds_asked 4294967295 (check job_none (loads 0 []) 0 0)) (accepts 0 0 0 0)
    ∷ row (in_rounds_asked 0 (plan job_none 0 7)) (refuses 17 0)
    -- The order: 5 before 17, 17 before 6 and 7 of a plan, and before 8 and 7 of a check.
    ∷ row (in_rounds_asked 0 (plan (job_bytes 1 (5 ∷ 5 ∷ []) []) 0 7)) (refuses 5 0)
    ∷ row (in_rounds_asked 0 (plan job_a 4 77)) (refuses 17 0)
    ∷ row (in_rounds_asked 0 (plan job_a 0 0)) (refuses 17 0)
    ∷ row (in_rounds_asked 1025 (check job_a [] 0 0)) (refuses 17 0)
    ∷ row (in_rounds_asked 1025 (check job_a (loads 0 []) 0 0)) (refuses 17 0)
    ∷ row (in_rounds_asked 0 (check (job_fields 6 1 1 1 0 []) [] 0 0)) (refuses 4 0)
    -- Room and places are for the draws of all rounds.
    ∷ row (in_rounds_asked 2 (plan job_a 1 63)) (accepts 19 11 3 4)
    ∷ row (in_rounds_asked 2 (plan job_a 1 62)) (refuses 7 0)
    ∷ row (in_rounds_asked 2 (check job_a list_twice 8 8)) (accepts 19 11 3 4)
    ∷ row (in_rounds_asked 2 (check job_a list_twice 7 8)) (refuses 7 0)
    ∷ row (in_rounds_asked 2 (check job_a list_twice 8 7)) (refuses 7 0)
    -- Row a twice round. The second round starts from what the first has left in the slots.
    ∷ twice 0 (accepts 22 14 5 3)
    ∷ twice 1 (accepts 19 11 3 4)
    ∷ twice 2 (accepts 20 12 3 4)
    ∷ twice 3 (accepts 28 20 5 4)
    ∷ listing_twice job_a 0 (loads 5 (load 1 0 3 ++ load 5 1 1 ++ load 9 0 2 ++ load 13 1 3 ++ load 17 0 1))
    ∷ listing_twice job_a 1 list_twice
    ∷ listing_twice job_a 2 (loads 3 (load 2 1 3 ++ load 9 0 2 ++ load 15 0 1))
    ∷ listing_twice job_a 3 (loads 5 (load 2 0 3 ++ load 7 1 1 ++ load 13 0 2 ++ load 18 1 3 ++ load 23 0 1))
    ∷ row (in_rounds_asked 2 (ticks job_a list_twice 8 8)) (0 ∷ 1 ∷ 6 ∷ 7 ∷ 8 ∷ 13 ∷ 14 ∷ 18 ∷ [])
    ∷ row (in_rounds_asked 2 (slots job_a list_twice 8 8)) (0 ∷ 1 ∷ 1 ∷ 0 ∷ 0 ∷ 0 ∷ 1 ∷ 0 ∷ [])
    -- The list of one round is not enough for two, and one of two is too much for one: draw 5 is the second of round 1.
    ∷ row (in_rounds_asked 2 (check job_a (loads 1 (load 2 1 3)) 8 8)) (refuses 13 5)
    ∷ row (check job_a list_twice 8 8) (refuses 14 1)
    -- Rounds matter to opt: its first load goes into another slot.
    ∷ listing job_redrawn 2 (loads 1 (load 2 0 3))
    ∷ listing_twice job_redrawn 2 (loads 2 (load 2 1 3 ++ load 5 0 2))
    -- 4,096 draws, as one round and as so many.
    ∷ row (check (job_bytes 1 (7 ∷ []) (filled 4096 7)) (loads 0 []) 4096 4096) (accepts 4096 0 0 0)
    ∷ row (in_rounds_asked 4096 (check (job_bytes 1 (7 ∷ []) (7 ∷ [])) (loads 0 []) 4096 4096)) (accepts 4096 0 0 0)
    ∷ row (in_rounds_asked 2 (check (job_bytes 1 (7 ∷ []) (filled 4096 7)) (loads 0 []) 4096 4096)) (refuses 17 0)
    ∷ []

-- ---- "Refusal numbers": lent memory, and the bytes for C

unfoldable pub telling_memory : List Row
telling_memory =
    -- A plan writes its list from the first byte and leaves the rest; a refused one leaves all.
    row (room_later (job_bytes 1 (65535 ∷ []) (7 ∷ [])) 2 (filled 16 9))
    (0 ∷ 0 ∷ 0 ∷ 10 ∷ 1 ∷ 0 ∷ 1 ∷ 0 ∷ 0 ∷ 0 ∷ 0 ∷ 0 ∷ 0 ∷ 7 ∷ 9 ∷ 9 ∷ [])
    ∷ row (room_later (job_bytes 1 (7 ∷ []) (7 ∷ [])) 0 (filled 15 9)) (0 ∷ 0 ∷ 0 ∷ 3 ∷ 1 ∷ 0 ∷ 0 ∷ filled 8 9)
    ∷ row (room_later (job_bytes 1 (65535 ∷ []) (7 ∷ [])) 4 (filled 16 9)) (filled 16 9)
    ∷ row (room_later (job_bytes 1 (65535 ∷ []) (7 ∷ [])) 2 (filled 13 9)) (filled 13 9)
    -- A check writes the tick and the slot of each draw into the first places; a refused one leaves all, also where draws were made.
    ∷ row (ticks_later job_a (loads 1 (load 2 1 3)) (filled 6 9) (filled 6 8)) (0 ∷ 1 ∷ 6 ∷ 7 ∷ 9 ∷ 9 ∷ [])
    ∷ row (slots_later job_a (loads 1 (load 2 1 3)) (filled 6 9) (filled 6 8)) (0 ∷ 1 ∷ 1 ∷ 0 ∷ 8 ∷ 8 ∷ [])
    ∷ row (ticks_later job_a (loads 1 (load 1 0 3)) (filled 6 9) (filled 6 8)) (filled 6 9)
    ∷ row (slots_later job_a (loads 1 (load 1 0 3)) (filled 6 9) (filled 6 8)) (filled 6 8)
    -- For C each draw tick is four bytes, so 4n are needed.
    ∷ row (check_for_c job_a (loads 1 (load 2 1 3)) 16 4) (accepts 8 4 1 4)
    ∷ row (check_for_c job_a (loads 1 (load 2 1 3)) 15 4) (refuses 7 0)
    ∷ row (check_for_c job_a (loads 1 (load 2 1 3)) 16 3) (refuses 7 0)
    ∷ row (ticks_for_c_later job_a (loads 1 (load 2 1 3)) (filled 18 9) (filled 4 8))
    (0 ∷ 0 ∷ 0 ∷ 0 ∷ 0 ∷ 0 ∷ 0 ∷ 1 ∷ 0 ∷ 0 ∷ 0 ∷ 6 ∷ 0 ∷ 0 ∷ 0 ∷ 7 ∷ 9 ∷ 9 ∷ [])
    ∷ row (ticks_for_c_later (job_bytes 1 (65535 ∷ []) (7 ∷ [])) (loads 1 (load 258 0 7)) (filled 5 9) (filled 1 8)) (0 ∷ 0 ∷ 1 ∷ 3 ∷ 9 ∷ [])
    ∷ []

-- ---- The theorems: every row computes to its answer

pub told_apart_bytes : map found telling_bytes ≡ map expected telling_bytes
unfolding telling_bytes filled symbols
told_apart_bytes = refl

pub told_apart_jobs : map found telling_jobs ≡ map expected telling_jobs
unfolding telling_jobs filled symbol_bytes planned checked job_tests place symbols times_over doubled events_in
told_apart_jobs = refl

pub told_apart_lists : map found telling_lists ≡ map expected telling_lists
unfolding telling_lists filled events_in first_bad_tick
told_apart_lists = refl

pub told_apart_checks : map found telling_checks ≡ map expected telling_checks
unfolding telling_checks symbol_bytes checked run tick beginning happened place symbols times_over doubled events_in due first_bad_tick
told_apart_checks = refl

pub told_apart_pauses : map found telling_pauses ≡ map expected telling_pauses
unfolding telling_pauses symbol_bytes checked run tick beginning happened place symbols times_over doubled events_in due first_bad_tick
told_apart_pauses = refl

pub told_apart_records : map found telling_records ≡ map expected telling_records
unfolding telling_records records_found symbol_bytes run tick beginning happened place symbols times_over missing ranks_from greatest events_in due
told_apart_records = refl

pub told_apart_plans : map found telling_plans ≡ map expected telling_plans
unfolding telling_plans symbol_bytes planned run tick beginning happened place symbols times_over doubled missing ranks_from greatest events_bytes
told_apart_plans = refl

pub told_apart_ties : map found telling_ties ≡ map expected telling_ties
unfolding telling_ties symbol_bytes planned run tick beginning happened place symbols times_over doubled missing ranks_from greatest events_bytes
told_apart_ties = refl

pub told_apart_rounds : map found telling_rounds ≡ map expected telling_rounds
unfolding telling_rounds filled symbol_bytes planned checked job_tests call_tests bad_rounds run tick beginning happened place symbols times_over doubled
    missing ranks_from greatest events_in events_bytes due first_bad_tick
told_apart_rounds = refl

pub told_apart_memory : map found telling_memory ≡ map expected telling_memory
unfolding telling_memory filled symbol_bytes planned checked run tick beginning happened place symbols times_over doubled ranks_from greatest
    missing events_in events_bytes due first_bad_tick tick_bytes
told_apart_memory = refl
