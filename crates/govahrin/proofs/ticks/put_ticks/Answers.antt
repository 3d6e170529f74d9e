-- One tick more is at the front, four bytes of it.
use Rattle.std.proofs.Common.{ℕ, ◌*◌, ◌≡◌, ◌<◌, refl, ap, ◌∙◌, get_or, take, arith}
use Rattle.std.proofs.lemmas.List.{get_or-take, length-take-le}
use Rattle.rules.specs.Basics.{bytes32}
use Rattle.rules.specs.LoadList.{put}
use Rattle.rules.specs.Refusals.{tick_bytes}
use Rattle.govahrin.proofs.Bytes.{put_one}
use Rattle.govahrin.proofs.ticks.put_ticks.Goals as goal

pub loop-place-init : goal.loop-place-init
unfolding tick_bytes
loop-place-init c = refl

pub loop-place-preserved : goal.loop-place-preserved
loop-place-preserved c =
    let a = c.args in
    let i = c.loop-place.place in
    let within : i < a.count = rw (length-take-le a.count a.from.now c.requires.from) at c.loop-place-test.true in
    let tick : get_or (take a.count a.from.now) i 0 ≡ get_or a.from.now i 0 = get_or-take a.count a.from.now i 0 within in
    let ticks = c.requires.from in
    let bytes = c.requires.to in
    c.put_number32.ensures
    ∙ ap (λ (t : ℕ). put (4 * i) (bytes32 t) c.loop-place.to) tick
    ∙ put_one a.from.now c.loop-place.to a.to.now i (omega arith) (omega (arith, c.loop-place.auto.to)) c.loop-place.invariant
