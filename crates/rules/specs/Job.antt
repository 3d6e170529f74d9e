-- The job as bytes: the places of its numbers and of its symbols; and the job of the model, read from what a call asks.
-- (Document 01, "The job, byte for byte", first half; rounds: document 02, Five)
use Rattle.std.specs.Prelude.{ℕ, zero, suc, ◌+◌, ◌*◌, List, [], ◌∷◌, ◌++◌, get_or, drop}
use Rattle.rules.specs.declared.Shape.{Shape}
use Rattle.rules.specs.declared.Unrolled.{Unrolled}
use Rattle.rules.specs.Basics.{number16}

-- The number that marks a slot with no symbol in it. No symbol has it.
abbrev pub free : ℕ
free = 65535

-- The limits: at most 64 slots, 1,000 ticks to a load, 4,096 draws.
abbrev pub most_slots : ℕ
most_slots = 64

abbrev pub most_load_time : ℕ
most_load_time = 1000

abbrev pub most_draws : ℕ
most_draws = 4096

-- After the length (4 bytes) and the version (1) come the slots k (1), the load time F (2) and the draws n (2).
abbrev pub shape_of : List ℕ → Shape
shape_of job = record { slots = get_or job 5 0; load_time = number16 job 6; draws = number16 job 8 }

-- After these ten bytes come k starting symbols, then n drawn ones, two bytes each.
abbrev pub starting_at : ℕ
starting_at = 10

abbrev pub draws_at : ℕ → ℕ
draws_at k = starting_at + 2 * k

-- The first n symbols of a row of bytes.
unfoldable pub symbols : ℕ → List ℕ → List ℕ
symbols zero b = []
symbols (suc n) b = number16 b 0 ∷ symbols n (drop 2 b)

-- The starting symbols of a job, and its drawn ones.
abbrev pub starting_symbols : List ℕ → List ℕ
starting_symbols job = symbols (shape_of job).slots (drop starting_at job)

abbrev pub drawn_symbols : List ℕ → List ℕ
drawn_symbols job = symbols (shape_of job).draws (drop (draws_at (shape_of job).slots) job)

-- What a plan and a check are asked about: the bytes of a job, and how many rounds of its sheet are drawn. (Document 02, Five)
pub record Call : Type 0 where
  pub job : List ℕ
  pub rounds : ℕ

abbrev pub call : List ℕ → ℕ → Call
call job rounds = record { job = job; rounds = rounds }

-- A row of draws this many times over, round after round. An empty row stays empty, however often it is drawn.
unfoldable pub times_over : ℕ → List ℕ → List ℕ
times_over rounds [] = []
times_over zero (x ∷ row) = []
times_over (suc rounds) (x ∷ row) = (x ∷ row) ++ times_over rounds (x ∷ row)

-- The draws that a call speaks of: those of its sheet, in all rounds.
abbrev pub draws_of : Call → List ℕ
draws_of asked = times_over asked.rounds (drawn_symbols asked.job)

-- The size of a job in rounds: its slots k and its load time F, the rounds r, the n draws of one round, and r times n in all.
abbrev pub in_rounds : ℕ → Shape → Unrolled
in_rounds rounds shape =
    record {
      slots = shape.slots;
      load_time = shape.load_time;
      rounds = rounds;
      round = shape.draws;
      draws = rounds * shape.draws;
    }

abbrev pub unrolled : Call → Unrolled
unrolled asked = in_rounds asked.rounds (shape_of asked.job)

-- A job as the display meets it: the number of slots, the ticks that a load takes, what each slot holds at the start, and the draws.
pub record Job : Type 0 where
  pub slots : ℕ
  pub load_time : ℕ
  pub starting : List ℕ
  pub draws : List ℕ

abbrev pub job_of : Call → Job
job_of asked =
    record {
      slots = (shape_of asked.job).slots;
      load_time = (shape_of asked.job).load_time;
      starting = starting_symbols asked.job;
      draws = draws_of asked;
    }
