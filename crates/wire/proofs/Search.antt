-- A tag table searched: what its entries say from a place on. Assumes nothing.
use mathlib.Core.Path.{◌≡◌, refl, sym, ap, ◌∙◌}
use Rattle.std.specs.Prelude.{Option, Some, None}
use mathlib.Core.List.{List, ◌∷◌, map}
use Prim.Native.Nat.{ℕ, ◌+◌, ◌/◌, ◌%◌, ◌≤◌, ◌<◌}
use native.Mathlib.Numerals.{add-one}
use lib.ListN.{length, get_or, drop, drop_of_length-le}
use lib.Seq.{drop-cons}
use borrow.Author.Tests.{eq-eqb, ne_eqb}
use Rattle.wire.specs.Tag.{row_of, spelt, find}
use Rattle.wire.specs.declared.tag.Length.{Length}

-- What the entries from a place on say of a tag.
unfoldable pub find_from : ℕ → List ℕ → ℕ → Option Length
find_from tag entries i = find tag (map row_of (drop i entries))

module _ (tag : ℕ) (entries : List ℕ) (i : ℕ) where
  pub find_end : length entries ≤ i → find_from tag entries i ≡ None
  unfolding find_from find
  find_end h = ap (λ (es : List ℕ). find tag (map row_of es)) (drop_of_length-le entries {i = i} h)

  module _ (h : i < length entries) where
    abbrev entry : ℕ
    entry = get_or entries i 0

    seen : find_from tag entries i ≡ find tag (row_of entry ∷ map row_of (drop (i + 1) entries))
    unfolding find_from
    seen = ap (λ (es : List ℕ). find tag (map row_of es))
        (drop-cons entries i 0 h ∙ ap (λ (n : ℕ). entry ∷ drop n entries) (sym (add-one i)))

    pub find-here : entry / 256 ≡ tag → find_from tag entries i ≡ Some (spelt (entry % 256))
    unfolding find
    find-here e = seen ∙ rw (eq-eqb tag (entry / 256) (sym e)) refl

    pub find-next : (entry / 256 ≡ tag → ⊥) → find_from tag entries i ≡ find_from tag entries (i + 1)
    unfolding find find_from
    find-next e = seen ∙ rw (ne_eqb tag (entry / 256) (λ z. e (sym z))) refl

    -- The same of an entry that was read where a front part of them stands.
    pub find-read : (x : ℕ) → x ≡ entry → x / 256 ≡ tag → find_from tag entries i ≡ Some (spelt (x % 256))
    find-read x same e = find-here (ap (λ (n : ℕ). n / 256) (sym same) ∙ e) ∙ ap (λ (n : ℕ). Some (spelt (n % 256))) (sym same)

    pub find-past : (x : ℕ) → x ≡ entry → (x / 256 ≡ tag → ⊥) → find_from tag entries i ≡ find_from tag entries (i + 1)
    find-past x same e = find-next (λ z. e (ap (λ (n : ℕ). n / 256) same ∙ z))
