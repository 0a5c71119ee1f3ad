-- No page's sequence number is the version of a log entry (document 01, "Pages": "Page stamps all differ, and none is the version of a
-- log entry"): the entries of each page as they stand.
use Rattle.std.specs.Prelude.{◌≡◌, refl, Bool, true, false, not, ◌&&◌, List, ℕ, zero, suc, ◌+◌, ◌-◌, ◌≤◌, ◌<◌, eqb, get_or}
use Rattle.std.proofs.Math.Path.{sym}
use Rattle.std.proofs.Common.{ap, ◌∙◌, arith, eq-eqb, ne_eqb}
use Rattle.laws.specs.Tests.{choose}
use Rattle.laws.specs.BigEndian.{number_at}
use Rattle.laws.specs.Loops.{all_from}
use Rattle.layout.specs.Layout.{most_entries}
use Rattle.flash_blocks.specs.Pages.{page_at}
use Rattle.mount_sequences.specs.Find.{has}

-- None of the entries from a place on, at most so many, has a version with which a test passes: a tag 12, two bytes of length, two
-- of id, then the version.
unfoldable pub apart_from : (ℕ → Bool) → ℕ → List ℕ → ℕ → Bool
apart_from test zero b at = true
apart_from test (suc most) b at =
    choose (eqb (get_or b at 0) 0x12) (not (test (number_at 4 b (at + 5))) && apart_from test most b (at + 18)) true

-- None of the entries of a page.
unfoldable pub apart_on : (ℕ → Bool) → List ℕ → Bool
apart_on test b = apart_from test most_entries b 7

-- The entries of one page against the sequence numbers, and of the first pages.
unfoldable pub page_apart : List ℕ → List (List ℕ) → ℕ → Bool
page_apart sequences pages q = apart_on (has sequences) (page_at pages q)

unfoldable pub pages_apart : List ℕ → ℕ → List (List ℕ) → Bool
pages_apart sequences count pages = all_from (page_apart sequences pages) count 0

-- A turn and the ends of the loop over a page's entries.
module _ (test : ℕ → Bool) (b : List ℕ) (at most : ℕ) (h : 0 < most) where
  turn : most ≡ suc (most - 1)
  turn = omega arith

  pub apart_more : get_or b at 0 ≡ 0x12 → test (number_at 4 b (at + 5)) ≡ false → apart_from test (most - 1) b (at + 18) ≡ apart_from test most b at
  unfolding apart_from
  apart_more e f = sym (ap (λ (k : ℕ). apart_from test k b at) turn ∙ rw (eq-eqb (get_or b at 0) 0x12 e, f) refl)

  pub apart_hit : get_or b at 0 ≡ 0x12 → test (number_at 4 b (at + 5)) ≡ true → false ≡ apart_from test most b at
  unfolding apart_from
  apart_hit e f = sym (ap (λ (k : ℕ). apart_from test k b at) turn ∙ rw (eq-eqb (get_or b at 0) 0x12 e, f) refl)

  pub apart_stop : (get_or b at 0 ≡ 0x12 → ⊥) → true ≡ apart_from test most b at
  unfolding apart_from
  apart_stop e = sym (ap (λ (k : ℕ). apart_from test k b at) turn ∙ rw (ne_eqb (get_or b at 0) 0x12 e) refl)

pub apart_done : (test : ℕ → Bool) (b : List ℕ) (at most : ℕ) → most ≤ 0 → true ≡ apart_from test most b at
unfolding apart_from
apart_done test b at most h =
    let over : most ≡ 0 = omega arith in
    ap (λ (k : ℕ). apart_from test k b at) (sym over)
