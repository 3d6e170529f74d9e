-- A job and a list have at most one sheet that is right by the list alone, so what an accepted check reports is the only one.
use Prim.Native.Nat.{ℕ, zero, suc, ◌+◌, ◌<◌, ◌≤◌}
use native.Mathlib.Omega.{arith}
use mathlib.Core.Path.{◌≡◌, refl, sym, ap, ◌∙◌}
use mathlib.Core.List.{List}
use lib.ListN.{length, get_or}
use lib.Seq.{ext_get_or}
use lib.Dec.{ltb}
use borrow.Author.Tests.{ltb-true, ltb-false}
use Rattle.rules.specs.declared.Answer.{Answer}
use Rattle.rules.specs.Job.{Job}
use Rattle.rules.specs.declared.Event.{Event}
use Rattle.rules.specs.Plans.{greatest}
use Rattle.laws.proofs.Cases.{by_test}
use Rattle.demands.specs.Held.{DrawnAt, from, gaps, Sheet}

-- A draw that is looked for from the same tick on is made at one tick and from one slot.
module _ (job : Job) (events : List Event) (f x : ℕ) where
  no_sooner : (t t' q q' : ℕ) → DrawnAt job events f t q x → DrawnAt job events f t' q' x → t' ≤ t
  no_sooner t t' q q' d d' =
      by_test (ltb t t')
      (λ e. absurd (d'.soonest t q d.looked (ltb-true t t' e) d.slot d.holds))
      (λ e. ltb-false t t' e)

  no_lower : (t q q' : ℕ) → DrawnAt job events f t q x → DrawnAt job events f t q' x → q' ≤ q
  no_lower t q q' d d' =
      by_test (ltb q q') (λ e. absurd (d'.lowest q (ltb-true q q' e) d.holds)) (λ e. ltb-false q q' e)

  one_draw : (t t' q q' : ℕ) → DrawnAt job events f t q x → DrawnAt job events f t' q' x → (t ≡ t') × (q ≡ q')
  one_draw t t' q q' d d' =
      let one : t' ≤ t = no_sooner t t' q q' d d' in
      let other : t ≤ t' = no_sooner t' t q' q d' d in
      let same : t ≡ t' = omega arith in
      let here : DrawnAt job events f t q' x = rw same d' in
      let low : q' ≤ q = no_lower t q q' d here in
      let high : q ≤ q' = no_lower t q' q here d in
      (same, omega arith)

-- Two rows of draws agree draw by draw, since a draw is looked for from the same tick on in both.
abbrev pub DrawnUpTo : Job → List Event → ℕ → List ℕ → List ℕ → Type 0
DrawnUpTo job events n ticks slots =
    (i : ℕ) → i < n → DrawnAt job events (from ticks i) (get_or ticks i 0) (get_or slots i 0) (get_or job.draws i 0)

module _ (job : Job) (events : List Event) (n : ℕ) (ticks slots ticks' slots' : List ℕ)
    (drawn : DrawnUpTo job events n ticks slots) (drawn' : DrawnUpTo job events n ticks' slots') where
  same_from : (i : ℕ) → i < n → from ticks i ≡ from ticks' i → (get_or ticks i 0 ≡ get_or ticks' i 0) × (get_or slots i 0 ≡ get_or slots' i 0)
  same_from i h e = one_draw job events (from ticks i) (get_or job.draws i 0) _ _ _ _ (drawn i h) (rw e (drawn' i h))

  pub looked_alike : (i : ℕ) → i ≤ n → from ticks i ≡ from ticks' i
  looked_alike zero h = refl
  looked_alike (suc i) h = ap (λ (t : ℕ). t + 1) (same_from i h (looked_alike i (omega arith))).0

  drawn_alike : (i : ℕ) → i < n → (get_or ticks i 0 ≡ get_or ticks' i 0) × (get_or slots i 0 ≡ get_or slots' i 0)
  drawn_alike i h = same_from i h (looked_alike i (omega arith))

-- Two sheets that are right have the same ticks, the same slots and the same counts.
pub only_sheet : (job : Job) (events : List Event) (ticks slots ticks' slots' : List ℕ) (answer answer' : Answer)
    → Sheet job events ticks slots answer → Sheet job events ticks' slots' answer'
    → (ticks ≡ ticks')
    × (slots ≡ slots')
    × (answer.elapsed ≡ answer'.elapsed)
    × (answer.waits ≡ answer'.waits)
    × (answer.loads ≡ answer'.loads)
    × (answer.longest ≡ answer'.longest)
only_sheet job events ticks slots ticks' slots' answer answer' sheet sheet' =
    let n : ℕ = length job.draws in
    let alike : (i : ℕ) → i < n → (get_or ticks i 0 ≡ get_or ticks' i 0) × (get_or slots i 0 ≡ get_or slots' i 0) =
    drawn_alike job events n ticks slots ticks' slots' sheet.drawn sheet'.drawn in
    let together : from ticks n ≡ from ticks' n =
    looked_alike job events n ticks slots ticks' slots' sheet.drawn sheet'.drawn n (omega arith) in
    let same_ticks : ticks ≡ ticks' =
    ext_get_or 0 ticks ticks' (sheet.a_tick_each ∙ sym sheet'.a_tick_each) (λ i h. (alike i (rw sheet.a_tick_each at h)).0) in
    let elapsed : answer.elapsed ≡ answer'.elapsed = sheet.elapsed ∙ together ∙ sym sheet'.elapsed in (
      same_ticks,
      ext_get_or 0 slots slots' (sheet.a_slot_each ∙ sym sheet'.a_slot_each) (λ i h. (alike i (rw sheet.a_slot_each at h)).1),
      elapsed,
      omega arith,
      sheet.loads ∙ sym sheet'.loads,
      sheet.longest ∙ ap (λ (l : List ℕ). greatest (gaps 0 l)) same_ticks ∙ sym sheet'.longest,
    )
