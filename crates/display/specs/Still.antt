-- A stretch of waits after a tick: the display at its end, and what its length keeps to.
use Rattle.std.specs.Prelude.{ℕ, ◌+◌, ◌-◌, ◌≤◌, ◌<◌, ◌≡◌, Bool, true, false}
use Rattle.rules.specs.declared.Happening.{Happening}
use Rattle.rules.specs.declared.Happening.TheVariants.{Draw, Wait}
use Rattle.display.specs.declared.state.Display.{Display}

-- The display after m waits.
abbrev pub passed : ℕ → Display → Display
passed m d =
    record {
      tick = d.tick + m;
      waits = d.waits + m;
      loads = d.loads;
      pause = d.pause + m;
      longest = d.longest;
      next = d.next;
      remaining = d.remaining - m;
      target = d.target;
      incoming = d.incoming;
    }

abbrev pub waiting : Happening → Bool
waiting (Draw q) = false
waiting (Wait cause) = true

-- What a stretch of waits after a tick starts from: a tick that is in time, and no more waits than ticks, in all and since the last draw.
pub record MayRest (limit : ℕ) (d : Display) : Type 0 where
  pub in_its_time : d.tick ≤ limit
  pub waits : d.waits ≤ d.tick
  pub pause : d.pause ≤ d.tick

-- A number of waits after a tick in which this happened: none after a draw, and no tick past the limit. `quiet` says of a number of ticks
-- that nothing else comes up in them.
pub record Rested (quiet : ℕ → Type 0) (limit : ℕ) (happening : Happening) (d r : Display) : Type 0 where
  pub many : ℕ
  pub passes : r ≡ passed many d
  pub in_its_time : d.tick + many ≤ limit
  pub after_a_wait : 0 < many → waiting happening ≡ true
  pub still : quiet many
