-- What the headers of a page's bytes say is what the page in its cell says: number, tariff, scores and node count; a page that is no
-- checkpoint page, and a blank one, has none of these. Assumes nothing.
use Rattle.std.specs.Prelude.{◌≡◌, Bool, true, false, ◌⊎◌, ℕ, zero, suc, ◌+◌, ◌*◌, ◌≤◌, ◌<◌, eqb, leb, length, get_or, Option, None, Some}
use Rattle.std.proofs.Math.Path.{refl, ap}
use Rattle.std.proofs.Common.{sym, subst, ◌∙◌, inl, inr, arith}
use mathlib.Core.List.{List, [], ◌∷◌, map}
use borrow.Author.Tests.{eqb-true, eqb-false, eq-eqb, ne_eqb, leb-true, leb-false}
use Rattle.laws.specs.Tests.{choose, and_left, and_right, test_clash}
use Rattle.laws.specs.BigEndian.{number}
use Rattle.laws.specs.Options.{some_same}
use Rattle.layout.specs.Layout.{page_bytes}
use Rattle.wire.specs.Field.{payload_at}
use Rattle.wire.specs.FieldLaws.{payload_at-absent}
use Rattle.page.specs.Page.{Score, Page, page, log, whole, checkpoint, sequence}
use Rattle.page.specs.Decode.{
  Decoded,
  blank,
  written,
  bad,
  all_blank,
  found,
  taken,
  run,
  payloads,
  tariff_of,
  score_ok,
  score_of,
  read_if,
  most_scores,
  decode_log,
  decode_node,
  decode_scores,
  decode_counted,
  decode_checkpoint,
  decode_content,
  decode_written,
  decode,
}
use Rattle.page.specs.Image.{blank_bytes}
use Rattle.page.proofs.Seal.{all_blank-replicate}
use Rattle.page.proofs.Sizes.{blank-decode}
use Rattle.page.specs.Cases.{
  decode-blank,
  decode-other,
  written-zero,
  written_from,
  content_log,
  content_node,
  content-checkpoint,
  when_passed,
}
use Rattle.page.specs.Runs.{run_stops}
use Rattle.page.proofs.Exact.{written_bad}
use Rattle.store.specs.Checkpoint.{CheckpointPage, checkpoint_page}
use Rattle.model.specs.Bytes.{cell_from}
use Rattle.mount_checkpoint_pages.specs.CheckpointPage.{number_of, scores_from, scores_on, count_part}

-- The number of a cell's page, its checkpoint page, and whether it is of another kind.
abbrev pub number_in : Option Page → ℕ
number_in None = 0
number_in (Some p) = sequence p

abbrev pub no_checkpoint_page : CheckpointPage
no_checkpoint_page = checkpoint_page None [] None

abbrev pub checkpoint_page_in : Option Page → CheckpointPage
checkpoint_page_in None = no_checkpoint_page
checkpoint_page_in (Some (page s (log es))) = no_checkpoint_page
checkpoint_page_in (Some (page s (whole n x))) = no_checkpoint_page
checkpoint_page_in (Some (page s (checkpoint t ss c))) = checkpoint_page t ss c

abbrev pub foreign : Option Page → Bool
foreign None = false
foreign (Some (page s (log es))) = true
foreign (Some (page s (whole n x))) = true
foreign (Some (page s (checkpoint t ss c))) = false

-- The scores that a page's bytes spell.
unfoldable pub scores_read : List ℕ → List Score
scores_read b = map score_of (payloads 0x14 9 (scores_on b) b (scores_from b))

-- The tag behind field 10 is that of a log page or a node page.
abbrev pub foreign_tag : List ℕ → Bool
foreign_tag b = choose (eqb (get_or b 7 0) 0x12) true (eqb (get_or b 7 0) 0x11)

pub record Header (b : List ℕ) (x : Option Page) : Type 0 where
  pub seq : number_of b ≡ number_in x
  pub tariff : read_if tariff_of (payload_at b 7 0x13) ≡ (checkpoint_page_in x).tariff
  pub scores : scores_read b ≡ (checkpoint_page_in x).scores
  pub count : read_if number (count_part b) ≡ (checkpoint_page_in x).count
  pub kind : foreign_tag b ≡ foreign x

-- a byte of blank bytes, or none
blank_byte : (b : List ℕ) → all_blank b ≡ true → (i : ℕ) → (get_or b i 0 ≡ 255) ⊎ (get_or b i 0 ≡ 0)
unfolding all_blank
blank_byte [] e i = inr refl
blank_byte (x ∷ b) e zero = inl (eqb-true x 255 (and_left (eqb x 255) (all_blank b) e))
blank_byte (x ∷ b) e (suc i) = blank_byte b (and_right (eqb x 255) (all_blank b) e) i

blank_not : (b : List ℕ) → all_blank b ≡ true → (i tag : ℕ) → 1 ≤ tag → tag < 255 → get_or b i 0 ≡ tag → ⊥
blank_not b e i tag l h q = go (blank_byte b e i)
  where
    go : (get_or b i 0 ≡ 255) ⊎ (get_or b i 0 ≡ 0) → ⊥
    go (inl z) = omega arith
    go (inr z) = omega arith

-- Nothing of a checkpoint stands on a page whose content has another tag.
module _ (b : List ℕ) (no13 : get_or b 7 0 ≡ 0x13 → ⊥) (no14 : get_or b 7 0 ≡ 0x14 → ⊥) (no15 : get_or b 7 0 ≡ 0x15 → ⊥) where
  no_tariff : payload_at b 7 0x13 ≡ []
  no_tariff = payload_at-absent b 7 0x13 no13

  from_seven : scores_from b ≡ 7
  unfolding scores_from
  from_seven = ap (λ (p : List ℕ). 7 + taken p) no_tariff

  no_scores : scores_on b ≡ 0
  unfolding scores_on
  no_scores =
      ap (λ (k : ℕ). run score_ok 0x14 9 (most_scores (found (payload_at b 7 0x13))) b k) from_seven ∙
      ap (λ (p : List ℕ). run score_ok 0x14 9 (most_scores (found p)) b 7) no_tariff ∙
      run_stops score_ok 0x14 9 53 b 7 (ap score_ok (payload_at-absent b 7 0x14 no14))

  no_count_lem : count_part b ≡ []
  unfolding count_part
  no_count_lem =
      let e : scores_from b + 9 * scores_on b ≡ 7 = omega (arith, from_seven, no_scores) in
      ap (λ (k : ℕ). payload_at b k 0x15) e ∙ payload_at-absent b 7 0x15 no15

  read-nothing : scores_read b ≡ []
  unfolding scores_read payloads
  read-nothing = ap (λ (n : ℕ). map score_of (payloads 0x14 9 n b (scores_from b))) no_scores

  bare : (x : Option Page) → number_of b ≡ number_in x → checkpoint_page_in x ≡ no_checkpoint_page → foreign_tag b ≡ foreign x → Header b x
  bare x en es ek =
      record {
        seq = en;
        tariff = ap (read_if tariff_of) no_tariff ∙ sym (ap (λ (y : CheckpointPage). y.tariff) es);
        scores = read-nothing ∙ sym (ap (λ (y : CheckpointPage). y.scores) es);
        count = ap (read_if number) no_count_lem ∙ sym (ap (λ (y : CheckpointPage). y.count) es);
        kind = ek;
      }

-- ---- by the decoder's cases

page_parts : (p q : Page) (b : List ℕ) → p ≡ q → Header b (Some p) → Header b (Some q)
page_parts p q b e h = subst (λ (x : Page). Header b (Some x)) e h

module _ (b : List ℕ) (p : Page) where
  log_header : get_or b 7 0 ≡ 0x12 → (n : ℕ) → decode_log (number_of b) n b ≡ written p → Header b (Some p)
  unfolding decode_log
  log_header t n e =
      page_parts _ p b (when_passed _ _ p e).same
      (bare b (λ z. omega arith) (λ z. omega arith) (λ z. omega arith) (Some (page (number_of b) (log _))) refl refl (rw (eq-eqb _ _ t) refl))

  node_header : get_or b 7 0 ≡ 0x11 → decode_node (number_of b) (payload_at b 7 0x11) b ≡ written p → Header b (Some p)
  unfolding decode_node
  node_header t e =
      page_parts _ p b (when_passed _ _ p e).same
      (bare b (λ z. omega arith) (λ z. omega arith) (λ z. omega arith) (Some (page (number_of b) (whole _ _))) refl refl
      (rw (ne_eqb (get_or b 7 0) 0x12 (λ z. omega arith), eq-eqb _ _ t) refl))

  checkpoint_page_header : (get_or b 7 0 ≡ 0x12 → ⊥) → (get_or b 7 0 ≡ 0x11 → ⊥) → decode_checkpoint (number_of b) (payload_at b 7 0x13) b ≡ written p →
      Header b (Some p)
  unfolding decode_checkpoint decode_counted decode_scores scores_read scores_on scores_from count_part
  checkpoint_page_header t u e =
      page_parts _ p b (when_passed _ _ p e).same
      (record { seq = refl; tariff = refl; scores = refl; count = refl; kind = rw (ne_eqb _ _ t, ne_eqb _ _ u) refl })

  written_header : decode_written (number_of b) b ≡ written p → Header b (Some p)
  written_header e = go (leb 1 (number_of b)) refl
    where
      kinds : (x y : Bool) → eqb (get_or b 7 0) 0x12 ≡ x → eqb (get_or b 7 0) 0x11 ≡ y → decode_content (number_of b) (get_or b 7 0) b ≡ written p →
          Header b (Some p)
      kinds true y f g c = log_header (eqb-true _ _ f) _ (sym (content_log (number_of b) b (get_or b 7 0) (eqb-true _ _ f)) ∙ c)
      kinds false true f g c = node_header (eqb-true _ _ g) (sym (content_node (number_of b) b (get_or b 7 0) (eqb-true _ _ g)) ∙ c)
      kinds false false f g c =
          checkpoint_page_header (eqb-false _ _ f) (eqb-false _ _ g)
          (sym (content-checkpoint (number_of b) b (get_or b 7 0) (eqb-false _ _ f) (eqb-false _ _ g)) ∙ c)

      go : (x : Bool) → leb 1 (number_of b) ≡ x → Header b (Some p)
      go true f =
          kinds (eqb (get_or b 7 0) 0x12) (eqb (get_or b 7 0) 0x11) refl refl
          (sym (written_from (number_of b) b (leb-true 1 (number_of b) f)) ∙ e)
      go false f = written_bad _ p e (written-zero (number_of b) b (leb-false 1 (number_of b) f))

blank_header : (b : List ℕ) → all_blank b ≡ true → Header b None
blank_header b e =
    bare b (blank_not b e 7 0x13 (omega arith) (omega arith)) (blank_not b e 7 0x14 (omega arith) (omega arith))
    (blank_not b e 7 0x15 (omega arith) (omega arith)) None
    (ap number (payload_at-absent b 0 0x10 (blank_not b e 0 0x10 (omega arith) (omega arith)))) refl
    (rw (
      ne_eqb (get_or b 7 0) 0x12 (blank_not b e 7 0x12 (omega arith) (omega arith)),
      ne_eqb (get_or b 7 0) 0x11 (blank_not b e 7 0x11 (omega arith) (omega arith)),
    ) refl)

all-blank : all_blank blank_bytes ≡ true
unfolding blank_bytes
all-blank = all_blank-replicate page_bytes

-- THE HEADERS of a page that checks are its cell's.
pub header : (b : List ℕ) → length b ≡ page_bytes → (x : Option Page) → cell_from (decode b) ≡ Some x → Header b x
header b l x e = go (all_blank b) refl
  where
    other : (d : Decoded) → decode b ≡ d → cell_from d ≡ Some x → all_blank b ≡ false → Header b x
    other blank q r f = absurd (test_clash (all_blank b) (ap all_blank (blank-decode b l q) ∙ all-blank) f)
    other (written p) q r f = subst (Header b) (some_same r) (written_header b p (sym (decode-other b f) ∙ q))
    other bad q r f = absurd (let z : ◌≡◌ {A = ℕ} 0 1 = cc in omega arith)

    go : (t : Bool) → all_blank b ≡ t → Header b x
    go true f = subst (Header b) (some_same (ap cell_from (sym (decode-blank b f)) ∙ e)) (blank_header b f)
    go false f = other (decode b) refl e f
