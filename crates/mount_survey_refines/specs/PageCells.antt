-- What the survey reads of a page that checks is what its cell holds: whether it is blank, its sequence number, and the versions of its
-- entries. Assumes nothing.
use Rattle.std.specs.Prelude.{◌≡◌, refl, Bool, true, false, not, ◌&&◌, ◌⊎◌, length, replicate, Option, None, Some}
use Rattle.std.proofs.Math.Path.{sym, ap}
use Rattle.std.proofs.Common.{ap₂, ◌∙◌, inl, inr, add-zero, arith, length-append}
use mathlib.Core.List.{List, [], ◌∷◌, ◌++◌, map, append_assoc}
use Prim.Native.Nat.{ℕ, ◌+◌, ◌-◌, ◌^◌, ◌≤◌, ◌<◌}
use Rattle.std.proofs.Math.Dec.{eqb}
use Rattle.std.proofs.Math.ListN.{get_or}
use Rattle.std.proofs.Math.Seq.{get_or-append-add}
use borrow.Author.Tests.{le-leb, lt-ltb}
use Rattle.laws.specs.Order.{eq_or}
use Rattle.laws.specs.Every.{Every, none, both}
use Rattle.laws.specs.Lay.{part, part-append}
use Rattle.laws.specs.Counts.{count, tally}
use Rattle.laws.specs.BigEndian.{big_endian, number, number_at, number-big_endian}
use Rattle.laws.specs.Tests.{not_positive}
use Rattle.layout.specs.Layout.{most_entries}
use Rattle.account.specs.declared.Tariff.{Tariff}
use Rattle.node.specs.Node.{Node}
use Rattle.wire.specs.Field.{field}
use Rattle.wire.specs.FieldLaws.{length-field}
use Rattle.page.specs.Page.{Entry, Score, log, whole, checkpoint, Page, page, sequence}
use Rattle.page.specs.Image.{entry_bytes, fields, content_bytes, numbered, sums_field, sealed, image, blank_bytes}
use Rattle.page.specs.Limits.{EntryFits, Fits, PageFits}
use Rattle.page.specs.Spelled.{length-entry_bytes}
use Rattle.store.specs.Pool.{Blocks}
use Rattle.store.specs.Pool as Pool
use Rattle.store.specs.Reopen.{version_passes, versions_pass, page_passes}
use Rattle.flash_blocks.specs.Pages.{is_blank}
use Rattle.flash_refines.specs.Store.Placed.{image-written}
use Rattle.mount_sequences.specs.Strict.{is}
use Rattle.mount_sequences.specs.Find.{has}
use Rattle.mount_pages.specs.Versions.{apart_from, apart_on, apart_more, apart_hit, apart_stop, apart_done}
use Rattle.mount_survey_refines.specs.Cells.{Spells, no_page, one_page}

-- A cell holds no page.
abbrev pub vacant : Option Page → Bool
vacant None = true
vacant (Some p) = false

blank-first : is_blank blank_bytes ≡ true
unfolding is_blank blank_bytes
blank-first = refl

pub blank-read : (b : List ℕ) {o : Option Page} → Spells b o → is_blank b ≡ vacant o
blank-read b (no_page e) = ap is_blank e ∙ blank-first
blank-read b (one_page {p = p} e f) = ap is_blank e ∙ image-written.written p

-- THE SEQUENCE NUMBER stands behind the tag and the length of field 10.
sequence-image : (p : Page) → PageFits p → number_at 4 (image p) 3 ≡ sequence p
unfolding image sealed numbered field number_at part
sequence-image (page s c) h = number-big_endian 4 s h.below

pub sequence-read : (b : List ℕ) (p : Page) → b ≡ image p → PageFits p → number_at 4 b 3 ≡ sequence p
sequence-read b p e f = ap (λ (x : List ℕ). number_at 4 x 3) e ∙ sequence-image p f

-- ---- THE VERSIONS

-- No entry has a version that passes a test.
abbrev apart_in : (ℕ → Bool) → List Entry → Bool
apart_in test [] = true
apart_in test (e ∷ es) = not (test e.version) && apart_in test es

abbrev apart_of : (ℕ → Bool) → Page → Bool
apart_of test (page s (log es)) = apart_in test es
apart_of test (page s (whole id n)) = true
apart_of test (page s (checkpoint t ss c)) = true

-- An entry behind some bytes: its tag and its version.
module _ (front : List ℕ) (e : Entry) (rest : List ℕ) where
  abbrev laid : List ℕ
  laid = front ++ (field 0x12 (entry_bytes e) ++ rest)

  tag_laid : get_or laid (length front) 0 ≡ 0x12
  unfolding field
  tag_laid = ap (λ (k : ℕ). get_or laid k 0) (sym (add-zero (length front))) ∙ get_or-append-add front (field 0x12 (entry_bytes e) ++ rest) 0 0

  version-laid : e.version < 256 ^ 4 → number_at 4 laid (length front + 5) ≡ e.version
  unfolding number_at field entry_bytes part
  version-laid l = ap number (part-append front (field 0x12 (entry_bytes e) ++ rest) 5 4) ∙ number-big_endian 4 e.version l

-- The entries one behind another, then the sums.
module _ (test : ℕ → Bool) (s : ℕ) (small : s < 4294967296) (sums : List ℕ) where
  entries_apart : (es : List Entry) → Every (EntryFits s) es → (most : ℕ) → length es ≤ most → (front : List ℕ) →
      apart_from test most (front ++ (fields 0x12 (map entry_bytes es) ++ (0x1F ∷ sums))) (length front) ≡ apart_in test es
  unfolding fields
  entries_apart [] none most l front = go (eq_or most 0)
    where
      b : List ℕ
      b = front ++ (0x1F ∷ sums)

      tag : get_or b (length front) 0 ≡ 0x1F
      tag = ap (λ (k : ℕ). get_or b k 0) (sym (add-zero (length front))) ∙ get_or-append-add front (0x1F ∷ sums) 0 0

      go : (most ≡ 0) ⊎ (most ≡ 0 → ⊥) → apart_from test most b (length front) ≡ true
      go (inl z) = sym (apart_done test b (length front) most (omega arith))
      go (inr z) = sym (apart_stop test b (length front) most (omega arith) (λ q. omega (arith, tag)))
  entries_apart (e ∷ es) (both f fs) most l front =
      ap (λ (x : List ℕ). apart_from test most (front ++ x) (length front)) (append_assoc one (fields 0x12 (map entry_bytes es)) (0x1F ∷ sums)) ∙
      go (test e.version) refl (entries_apart es fs (most - 1) (omega arith) (front ++ one))
    where
      one : List ℕ
      one = field 0x12 (entry_bytes e)

      rest : List ℕ
      rest = fields 0x12 (map entry_bytes es) ++ (0x1F ∷ sums)

      version : test (number_at 4 (front ++ (one ++ rest)) (length front + 5)) ≡ test e.version
      version = ap test (version-laid front e rest (omega (arith, f.below)))

      next : length (front ++ one) ≡ length front + 18
      next = length-append front one ∙ ap (λ (k : ℕ). length front + k) (length-field 0x12 (entry_bytes e) ∙ omega (arith, length-entry_bytes e))

      go : (t : Bool) → test e.version ≡ t → apart_from test (most - 1) ((front ++ one) ++ rest) (length (front ++ one)) ≡ apart_in test es →
          apart_from test most (front ++ (one ++ rest)) (length front) ≡ (not t && apart_in test es)
      go true q r = sym (apart_hit test (front ++ (one ++ rest)) (length front) most (omega arith) (tag_laid front e rest) (version ∙ q))
      go false q r =
          sym (apart_more test (front ++ (one ++ rest)) (length front) most (omega arith) (tag_laid front e rest) (version ∙ q)) ∙
          ap₂ (λ (x : List ℕ) (k : ℕ). apart_from test (most - 1) x k) (sym (append_assoc front one rest)) (sym next) ∙
          r

-- A page whose content begins with another tag has no entries.
no_entries : (test : ℕ → Bool) (b : List ℕ) → (get_or b 7 0 ≡ 0x12 → ⊥) → apart_on test b ≡ true
unfolding apart_on
no_entries test b h = sym (apart_stop test b 7 most_entries (omega arith) h)

whole_tag : (s id : ℕ) (n : Node) → get_or (image (page s (whole id n))) 7 0 ≡ 0x11
unfolding image sealed numbered content_bytes field
whole_tag s id n = refl

checkpoint_tag : (s : ℕ) (t : Option Tariff) (ss : List Score) (c : Option ℕ) → 1 ≤ length ss → get_or (image (page s (checkpoint t ss c))) 7 0 ≡ 0x12 → ⊥
unfolding image sealed numbered content_bytes field fields
checkpoint_tag s (Some t) ss c l q = omega arith
checkpoint_tag s None [] c l q = omega arith
checkpoint_tag s None (x ∷ ss) c l q = omega arith

log_apart : (test : ℕ → Bool) (s : ℕ) (es : List Entry) → Fits s (log es) → apart_on test (image (page s (log es))) ≡ apart_in test es
unfolding apart_on image sealed numbered content_bytes sums_field field
log_apart test s es f =
    let front = field 0x10 (big_endian 4 s) in
    let content = fields 0x12 (map entry_bytes es) in
    let sums = sums_field (numbered s content) in
    ap (λ (x : List ℕ). apart_from test most_entries x 7) (append_assoc front content _) ∙
    entries_apart test s f.below _ es f.content.entries most_entries f.content.few front

apart_image : (test : ℕ → Bool) (p : Page) → PageFits p → apart_on test (image p) ≡ apart_of test p
apart_image test (page s (log es)) f = log_apart test s es f
apart_image test (page s (whole id n)) f = no_entries test (image (page s (whole id n))) (other s id n)
  where
    other : (s id : ℕ) (n : Node) → get_or (image (page s (whole id n))) 7 0 ≡ 0x12 → ⊥
    other s id n q = omega (arith, whole_tag s id n)
apart_image test (page s (checkpoint t ss c)) f = no_entries test (image (page s (checkpoint t ss c))) (λ q. checkpoint_tag s t ss c f.content.some q)

-- ---- and so the model's test of a page

-- The sequence numbers of a list are those of the blocks.
module _ (sequences : List ℕ) (bs : Blocks) (same : (v : ℕ) → count (is v) sequences ≡ tally (Pool.numbered v) bs) where
  version-passes : (s : ℕ) (e : Entry) → EntryFits s e → not (has sequences e.version) ≡ version_passes s bs e
  unfolding has
  version-passes s e f =
      let v = e.version in
      not_positive (count (is v) sequences) ∙
      ap (λ (n : ℕ). eqb n 0) (same v) ∙
      sym (rw (le-leb 1 v f.from, lt-ltb v s f.below) refl)

  versions_pass_lem : (s : ℕ) (es : List Entry) → Every (EntryFits s) es → apart_in (has sequences) es ≡ versions_pass s bs es
  versions_pass_lem s [] none = refl
  versions_pass_lem s (e ∷ es) (both f fs) = ap₂ ◌&&◌ (version-passes s e f) (versions_pass_lem s es fs)

  page_passes_lem : (p : Page) → PageFits p → apart_of (has sequences) p ≡ page_passes bs p
  page_passes_lem (page s (log es)) f = versions_pass_lem s es f.content.entries ∙ sym (rw (le-leb 1 s f.from) refl)
  page_passes_lem (page s (whole id n)) f = sym (le-leb 1 s f.from)
  page_passes_lem (page s (checkpoint t ss c)) f = sym (le-leb 1 s f.from)

  -- A cell's test: none where there is no page.
  abbrev pub cell_passes : Option Page → Bool
  cell_passes None = true
  cell_passes (Some p) = page_passes bs p

  pub apart_read : (b : List ℕ) {o : Option Page} → Spells b o → apart_on (has sequences) b ≡ cell_passes o
  unfolding blank_bytes
  apart_read b (no_page e) = ap (apart_on (has sequences)) e ∙ no_entries (has sequences) (replicate 512 255) (λ q. omega arith)
  apart_read b (one_page {p = p} e f) = ap (apart_on (has sequences)) e ∙ apart_image (has sequences) p f ∙ page_passes_lem p f
