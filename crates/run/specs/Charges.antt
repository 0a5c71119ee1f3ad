-- The charges of a batch while it runs: an amount more at a panel. Assumes nothing.
use Rattle.std.specs.Prelude.{◌≡◌, List, ◌⊎◌, ℕ, ◌+◌, ◌<◌, length, get_or, set}
use Rattle.std.proofs.Common.{ap, ◌∙◌, inl, inr, arith, get_or-set_same, get_or-set_other}
use Rattle.laws.specs.Order.{eq_or}
use Rattle.laws.specs.Update.{only, only_same, only-other}

-- The greatest number of 64 bits.
abbrev pub most64 : ℕ
most64 = 18446744073709551615

abbrev pub added : List ℕ → ℕ → ℕ → List ℕ
added charges panel amount = set charges panel (get_or charges panel 0 + amount)

-- What each panel has then.
pub added-at : (charges : List ℕ) (panel amount q : ℕ) → panel < length charges →
    get_or (added charges panel amount) q 0 ≡ get_or charges q 0 + only panel amount q
added-at charges panel amount q l = go (eq_or q panel)
  where
    go : (q ≡ panel) ⊎ (q ≡ panel → ⊥) → get_or (added charges panel amount) q 0 ≡ get_or charges q 0 + only panel amount q
    go (inl e) =
        ap (λ (i : ℕ). get_or (added charges panel amount) i 0) e ∙
        get_or-set_same charges panel (get_or charges panel 0 + amount) 0 l ∙
        omega (arith, only_same panel amount q e, ap (λ (i : ℕ). get_or charges i 0) e)
    go (inr e) = get_or-set_other charges panel q (get_or charges panel 0 + amount) 0 e ∙ omega (arith, only-other panel amount q e)
