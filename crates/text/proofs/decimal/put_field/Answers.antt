-- The digits are put from the last one on, and the first one when the loop has ended.
use Rattle.std.proofs.Common.{◌≡◌, ℕ, ◌+◌, ◌-◌, ◌≤◌, [], ◌∷◌, length, length-append, length-set, ap, sym, ◌∙◌, arith}
use Rattle.rules.specs.Text.{decimal, field}
use Rattle.laws.proofs.Decimals.{decimal_some}
use Rattle.text.proofs.Fields.{none_passed, more_left, one_left, one_passed, all_passed, field_put}
use Rattle.text.proofs.decimal.put_field.Goals as goal

pub loop-place-init : goal.loop-place-init
loop-place-init c =
    let a = c.args in
    let counted : c.digits.result ≡ length (decimal a.number) = c.digits.ensures.0 in
    let size : length (field a.number a.stop) ≡ length (decimal a.number) + 1 = length-append (decimal a.number) (a.stop ∷ []) in
    none_passed a.at a.number _ (a.at + c.digits.result) (ap (λ (n : ℕ). a.at + n) (sym counted))
    (omega (arith, length-set a.text.now (a.at + c.digits.result) a.stop, c.requires))

pub loop-place-preserved : goal.loop-place-preserved
loop-place-preserved c =
    let l = c.loop-place in
    one_passed c.args.at c.args.number _ l.text l.left l.place l.invariant (l.place - 1) (omega arith)
    (more_left c.args.at c.args.number _ l.text l.left l.place l.invariant c.loop-place-test.true)

pub overflow_cast-text-2 : goal.overflow_cast-text-2
overflow_cast-text-2 c =
    let l = c.loop-place in omega (arith, one_left c.args.at c.args.number _ l.text l.left l.place l.invariant c.loop-place-test.false)

pub overflow_add-text-2 : goal.overflow_add-text-2
overflow_add-text-2 c =
    let l = c.loop-place in omega (arith, one_left c.args.at c.args.number _ l.text l.left l.place l.invariant c.loop-place-test.false)

pub returns-clause-written : goal.returns-clause-written
returns-clause-written c =
    let a = c.args in
    let l = c.loop-place in
    let counted : c.digits.result ≡ length (decimal a.number) = c.digits.ensures.0 in
    let size : length (field a.number a.stop) ≡ length (decimal a.number) + 1 = length-append (decimal a.number) (a.stop ∷ []) in
    let fits : a.at + length (field a.number a.stop) ≤ length a.text.now = c.requires in
    all_passed a.at a.number _ l.text l.left l.place l.invariant a.at (omega (arith, decimal_some l.left, l.invariant.up_to))
    (one_left a.at a.number _ l.text l.left l.place l.invariant c.loop-place-test.false)
    ∙ field_put a.text.now a.at a.number a.stop (a.at + c.digits.result) (ap (λ (n : ℕ). a.at + n) counted) (omega arith)
