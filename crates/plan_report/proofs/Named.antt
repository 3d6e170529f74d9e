-- Which number a name has: that of the text that it is, or none where it is none of the four.
use Rattle.std.proofs.Common.{ℕ, ◌≡◌, ◌≢◌, false, List, inl, inr, refl, sym, ◌∙◌}
use Rattle.std.specs.Str.{IsUtf8, bytes_eq}
use Rattle.std.proofs.lemmas.Slice.Eq.{bytes_eq-Decides}
use lib.Utf8.{encode}
use Rattle.std.proofs.lemmas.Bool.{cases_Bool}
use Rattle.plan_report.specs.Names.{name_at, plan_name, plan_named}
use Rattle.rules.specs.declared.Plan.TheVariants.{Aggressive, Conservative, Opt, Lru}

differs : (name other : List ℕ) → name ≢ other → bytes_eq name other ≡ false
differs name other apart =
    elim (cases_Bool (bytes_eq name other)) [ inl same ↦ absurd (apart ((bytes_eq-Decides name other).0 same)) | inr apart' ↦ apart' ]

module _ (name : List ℕ) where
  unknown : name ≢ plan_name Aggressive → name ≢ plan_name Conservative → name ≢ plan_name Opt → name ≢ plan_name Lru → plan_named name ≡ 4
  unfolding name_at
  unknown a c o l =
      rw (differs name (plan_name Aggressive) a, differs name (plan_name Conservative) c, differs name (plan_name Opt) o, differs name (plan_name Lru) l)

  -- Each name is text, of characters of one byte each.
  pub no_text : (IsUtf8 name → ⊥) → plan_named name ≡ 4
  unfolding encode
  no_text bad =
      unknown
      (λ is. bad (rw is (plan_name Aggressive, (refl, refl))))
      (λ is. bad (rw is (plan_name Conservative, (refl, refl))))
      (λ is. bad (rw is (plan_name Opt, (refl, refl))))
      (λ is. bad (rw is (plan_name Lru, (refl, refl))))

  module _ (text : List ℕ) (same : text ≡ name) where
    pub aggressive : text ≡ plan_name Aggressive → plan_named name ≡ 0
    unfolding name_at
    aggressive is = rw (sym same ∙ is)

    pub conservative : text ≡ plan_name Conservative → plan_named name ≡ 1
    unfolding name_at
    conservative is = rw (sym same ∙ is)

    pub opt : text ≡ plan_name Opt → plan_named name ≡ 2
    unfolding name_at
    opt is = rw (sym same ∙ is)

    pub lru : text ≡ plan_name Lru → plan_named name ≡ 3
    unfolding name_at
    lru is = rw (sym same ∙ is)

    pub other : text ≢ plan_name Aggressive → text ≢ plan_name Conservative → text ≢ plan_name Opt → text ≢ plan_name Lru
        → plan_named name ≡ 4
    other a c o l = unknown (λ is. a (same ∙ is)) (λ is. c (same ∙ is)) (λ is. o (same ∙ is)) (λ is. l (same ∙ is))

pub ruleset by_name = (aggressive, conservative, opt, lru, other, no_text)
