-- A number between two powers of ten has the digits of the lower one.
use Rattle.std.proofs.Common.{◌≡◌, ℕ, suc, ◌^◌, ◌<◌, ◌≤◌, length, sym, ap, arith}
use Rattle.rules.specs.Text.{decimal}
use Rattle.laws.proofs.Decimals.{decimal_small, decimal_length}
use Rattle.text.proofs.decimal.digits.Goals as goal

-- A step of the ladder: the number is at least this power of ten, and below the next.
step : (k n : ℕ) → 10 ^ k ≤ n → n < 10 ^ suc k → suc k ≤ 10 → (suc k ≡ length (decimal n)) × (suc k ≤ 10)
step k n from below few = (sym (decimal_length k n from below), few)

pub returns-in-0-to-9 : goal.returns-in-0-to-9
returns-in-0-to-9 c = (sym (ap length (decimal_small c.args.number (omega arith))), omega arith)

pub returns-in-10-to-99 : goal.returns-in-10-to-99
returns-in-10-to-99 c = step 1 c.args.number (omega arith) (omega arith) (omega arith)

pub returns-in-100-to-999 : goal.returns-in-100-to-999
returns-in-100-to-999 c = step 2 c.args.number (omega arith) (omega arith) (omega arith)

pub returns-in-1000-to-9999 : goal.returns-in-1000-to-9999
returns-in-1000-to-9999 c = step 3 c.args.number (omega arith) (omega arith) (omega arith)

pub returns-in-10000-to-99999 : goal.returns-in-10000-to-99999
returns-in-10000-to-99999 c = step 4 c.args.number (omega arith) (omega arith) (omega arith)

pub returns-in-100000-to-999999 : goal.returns-in-100000-to-999999
returns-in-100000-to-999999 c = step 5 c.args.number (omega arith) (omega arith) (omega arith)

pub returns-in-1000000-to-9999999 : goal.returns-in-1000000-to-9999999
returns-in-1000000-to-9999999 c = step 6 c.args.number (omega arith) (omega arith) (omega arith)

pub returns-in-10000000-to-99999999 : goal.returns-in-10000000-to-99999999
returns-in-10000000-to-99999999 c = step 7 c.args.number (omega arith) (omega arith) (omega arith)

pub returns-in-100000000-to-999999999 : goal.returns-in-100000000-to-999999999
returns-in-100000000-to-999999999 c = step 8 c.args.number (omega arith) (omega arith) (omega arith)

pub returns-in_default : goal.returns-in_default
returns-in_default c = step 9 c.args.number (omega arith) (omega arith) (omega arith)
