-- One entry more by cases, a turn of each loop, pages of the pool and none behind its end, and the cases of a row's pages. Assumes nothing.
use Rattle.std.proofs.Common.{◌≡◌, refl, sym, ap, ap₂, ◌∙◌, Bool, true, false, List, [], ◌∷◌, ◌++◌, append_assoc, append-nil, ℕ, suc, ◌+◌, ◌-◌, ◌*◌, ◌≤◌, ◌<◌, add-one, arith, length, get_or, set, take, drop, replicate, drop-cons, drop_of_length-le, take-suc-set, length-take-le, eq-eqb, ne_eqb, lt-ltb, le-ltb, le-leb}
use native.Mathlib.Nat.{sub-zero}
use lib.ListN.{get_or-replicate, get_or-eq_default}
use borrow.Author.Tests.{lt-leb}
use Rattle.laws.specs.Lay.{part, part-lent}
use Rattle.laws.specs.BigEndian.{number, number_at}
use Rattle.layout.specs.Layout.{most_entries, bound32}
use Rattle.pairs.specs.Pairs.{Pair, Within}
use Rattle.wire.specs.Tag.{length_of, find, rows}
use Rattle.wire.specs.Field.{length_at, payload_of, payload_at}
use Rattle.wire.specs.FieldLaws.{payload_at-absent}
use Rattle.wire.proofs.Cases.{is-foreign-length, is-payload}
use Rattle.flash_blocks.specs.Pages.{page_at, blank_page}
use Rattle.account.specs.declared.Mode.{Mode}
use Rattle.account.specs.declared.Mode.TheVariants.{Log, Disk}
use Rattle.flash_rows.specs.Step.{by_mode}
use Rattle.flash_rows.specs.declared.Row.{Row}
use Rattle.node.specs.declared.DraftState.TheVariants.{Made}
use Rattle.node.specs.declared.NodeValue.{NodeValue}
use Rattle.node.specs.declared.Shape.{Shape}
use Rattle.node.specs.declared.Shape.TheVariants.{Leaf, Branch}
use Rattle.node.specs.Node.{node, pairs_of}
use Rattle.node.specs.Change.{put, remove, link}
use Rattle.node.specs.Splice.{zip}
use Rattle.node.specs.Ascends.{ascends, ascends_within}
use Rattle.node.specs.Replay.{Draft, made, broken, redo}
use Rattle.node.specs.Value.{pairs_in, Stands}
use Rattle.node.specs.Drafts.{Redone}
use Rattle.node_replay.specs.declared.outline.Outline.{Outline}
use Rattle.node_replay.specs.Front.{Arrays}
use Rattle.node_replay.specs.Outline.{empty_outline, broken_at, draft_from}
use Rattle.page.specs.Page.{Entry}
use Rattle.page.specs.Decode as decode
use Rattle.flash_read.specs.Replay.{is_own, redo_entry, redo_run, entry_in, stride_of, redo_from}
use Rattle.flash_read.specs.declared.slot.Slot.{Slot}
use Rattle.flash_read.specs.Slots.{sequence_at, slot_at, redo_at, redo_each, redo_two, redo_three}
use Rattle.flash_read.specs.NodePage.{if_ascends, node_of_payload, node_page_at}
use Rattle.flash_read.specs.Content.{redo_pages, log_content, content_by}

-- The change that an entry says, by its kind.
module _ (b : List ℕ) (kind key pointer : ℕ) (n : kind ≡ get_or b 6 0) (k : key ≡ number_at 4 b 7) (p : pointer ≡ number_at 4 b 11) where
  pub change-put : kind ≡ 1 → put key pointer ≡ (decode.entry_of b).change
  unfolding decode.entry_of decode.change_of
  change-put e = rw (← n, ← k, ← p, eq-eqb kind 1 e) refl

  pub change_remove : (kind ≡ 1 → ⊥) → kind ≡ 2 → remove key ≡ (decode.entry_of b).change
  unfolding decode.entry_of decode.change_of
  change_remove e f = rw (← n, ← k, ← p, ne_eqb kind 1 e, eq-eqb kind 2 f) refl

  pub change-leaf : (kind ≡ 1 → ⊥) → (kind ≡ 2 → ⊥) → kind ≡ 3 → link Leaf pointer ≡ (decode.entry_of b).change
  unfolding decode.entry_of decode.change_of
  change-leaf e f g = rw (← n, ← k, ← p, ne_eqb kind 1 e, ne_eqb kind 2 f, eq-eqb kind 3 g) refl

  pub change-branch : (kind ≡ 1 → ⊥) → (kind ≡ 2 → ⊥) → (kind ≡ 3 → ⊥) → link Branch pointer ≡ (decode.entry_of b).change
  unfolding decode.entry_of decode.change_of
  change-branch e f g = rw (← n, ← k, ← p, ne_eqb kind 1 e, ne_eqb kind 2 f, ne_eqb kind 3 g) refl

-- An entry more, where it is the node's and of the version, and where it is not.
module _ (id version : ℕ) (e : Entry) (d : Draft) (test : Bool) (t : test ≡ is_own id version e) where
  pub entry-own : test ≡ true → redo d e.change ≡ redo_entry id version e d
  unfolding redo_entry
  entry-own o = rw (sym t ∙ o) refl

  pub entry_other : test ≡ false → d ≡ redo_entry id version e d
  unfolding redo_entry
  entry_other o = rw (sym t ∙ o) refl

-- An entry in the buffer.
pub entry_plain : (bytes : List ℕ) (at : ℕ) → at + 15 ≤ length bytes → take (at + 15 - at) (drop at bytes) ≡ entry_in false bytes at
unfolding entry_in
entry_plain bytes at h = rw (le-leb (at + 15) (length bytes) h) (part-lent bytes at (at + 15) 15 refl)

-- A field 12 is known by its tag and length: it has one length only.
module _ (bytes : List ℕ) (at : ℕ) (h : at + 18 ≤ length bytes) (t : get_or bytes at 0 ≡ 0x12) (n : ℕ) (e : n ≡ length_at bytes at) where
  pub field-other : (n ≡ 15 → ⊥) → [] ≡ payload_at bytes at 0x12
  unfolding payload_at length_of find rows
  field-other f = ap (payload_of bytes) (is-foreign-length bytes at 0x12 (omega arith) n t e (ne_eqb n 15 f))

  pub field_there : n ≡ 15 → take (at + 18 - (at + 3)) (drop (at + 3) bytes) ≡ payload_at bytes at 0x12
  unfolding payload_at length_of find rows
  field_there f =
      let size : at + 3 + n - (at + 3) ≡ 15 = omega arith in
      part-lent bytes (at + 3) (at + 18) 15 (omega arith) ∙
      ap (part bytes (at + 3)) (sym size) ∙
      ap (payload_of bytes) (is-payload bytes at 0x12 (omega arith) n t e (eq-eqb n 15 f) (omega arith))

-- The loop over entries.
module _ (framed : Bool) (id version : ℕ) (bytes : List ℕ) where
  from_more : (left at : ℕ) (d : Draft) → 0 < left → length (entry_in framed bytes at) ≡ 15 →
      redo_from framed id version (left - 1) bytes (at + stride_of framed) (redo_entry id version (decode.entry_of (entry_in framed bytes at)) d) ≡
      redo_from framed id version left bytes at d
  unfolding redo_from
  from_more left at d h e =
      let turn : left ≡ suc (left - 1) = omega arith in
      sym (ap (λ (k : ℕ). redo_from framed id version k bytes at d) turn ∙ rw (eq-eqb (length (entry_in framed bytes at)) 15 e, redo_from) refl)

  pub from_stop : (left at : ℕ) (d : Draft) → 0 < left → (length (entry_in framed bytes at) ≡ 15 → ⊥) →
      redo_from framed id version left bytes at d ≡ d
  unfolding redo_from
  from_stop left at d h e =
      let turn : left ≡ suc (left - 1) = omega arith in
      ap (λ (k : ℕ). redo_from framed id version k bytes at d) turn ∙ rw (ne_eqb (length (entry_in framed bytes at)) 15 e, redo_from) refl

  pub from_done : (left at : ℕ) (d : Draft) → left ≤ 0 → redo_from framed id version left bytes at d ≡ d
  unfolding redo_from
  from_done left at d h =
      let over : left ≡ 0 = omega arith in
      ap (λ (k : ℕ). redo_from framed id version k bytes at d) over

  -- a turn: an entry of the node's and the version, and another
  module _ (left at : ℕ) (h : 0 < left) (b : List ℕ) (p : b ≡ entry_in framed bytes at) (l : length b ≡ 15) (step : ℕ) (s : step ≡ stride_of framed)
      (test : Bool) (t : test ≡ is_own id version (decode.entry_of b)) (d : Draft) where
    from_turn : (x : Draft) → x ≡ redo_entry id version (decode.entry_of b) d →
        redo_from framed id version (left - 1) bytes (at + step) x ≡ redo_from framed id version left bytes at d
    from_turn x e =
        ap (λ (k : ℕ). redo_from framed id version (left - 1) bytes (at + k) x) s ∙
        ap (redo_from framed id version (left - 1) bytes (at + stride_of framed)) (e ∙ ap (λ (b : List ℕ). redo_entry id version (decode.entry_of b) d) p) ∙
        from_more left at d h (sym (ap length p) ∙ l)

    pub from_own : test ≡ true → (x : Draft) → x ≡ redo d (decode.entry_of b).change →
        redo_from framed id version (left - 1) bytes (at + step) x ≡ redo_from framed id version left bytes at d
    from_own o x e = from_turn x (e ∙ entry-own id version (decode.entry_of b) d test t o)

    pub from_other : test ≡ false → redo_from framed id version (left - 1) bytes (at + step) d ≡ redo_from framed id version left bytes at d
    from_other o = from_turn d (entry_other id version (decode.entry_of b) d test t o)

-- No entry stands at the place where a page has no field 12.
run_none : (id version : ℕ) (page : List ℕ) (left at : ℕ) (d : Draft) → 0 < left → (length (payload_at page at 0x12) ≡ 15 → ⊥) →
    redo_run id version left page at d ≡ d
unfolding redo_run
run_none id version page left at d h e =
    let turn : left ≡ suc (left - 1) = omega arith in
    ap (λ (k : ℕ). redo_run id version k page at d) turn ∙ rw (ne_eqb (length (payload_at page at 0x12)) 15 e, redo_run) refl

pub payload-blank : (at tag : ℕ) → at < 512 → (tag ≡ 255 → ⊥) → payload_at blank_page at tag ≡ []
unfolding blank_page
payload-blank at tag h t = payload_at-absent (replicate 512 255) at tag (λ e. t (sym e ∙ get_or-replicate {A = ℕ} 512 at 255 0 h))

-- What is read of a page within the pool; behind the pool's end every page is blank.
module _ (pages : List (List ℕ)) (q : ℕ) where
  page_behind : length pages ≤ q → page_at pages q ≡ blank_page
  unfolding page_at
  page_behind h = get_or-eq_default pages blank_page h

  pub sequence_in : (b : List ℕ) → b ≡ page_at pages q → number (payload_at b 0 0x10) ≡ sequence_at pages q
  unfolding sequence_at
  sequence_in b e = ap (λ (b : List ℕ). number (payload_at b 0 0x10)) e

  pub sequence-behind : length pages ≤ q → 0 ≡ sequence_at pages q
  unfolding sequence_at
  sequence-behind h =
      sym (ap (λ (b : List ℕ). number (payload_at b 0 0x10)) (page_behind h) ∙ ap number (payload-blank 0 0x10 (omega arith) (λ e. omega arith)))

  pub redo_in : (b : List ℕ) (id version : ℕ) (d : Draft) → b ≡ page_at pages q →
      redo_run id version most_entries b 7 d ≡ redo_at pages q id version d
  unfolding redo_at
  redo_in b id version d e = ap (λ (b : List ℕ). redo_run id version most_entries b 7 d) e

  pub redo-behind : (id version : ℕ) (d : Draft) → length pages ≤ q → d ≡ redo_at pages q id version d
  unfolding redo_at
  redo-behind id version d h =
      sym
      (ap (λ (b : List ℕ). redo_run id version most_entries b 7 d) (page_behind h) ∙
      run_none id version blank_page 27 7 d (omega arith) (λ e. omega (arith, ap length (payload-blank 7 0x12 (omega arith) (λ z. omega arith)))))

-- A turn and the end of the loop over pages.
module _ (pages : List (List ℕ)) (slots : List Slot) (i id version : ℕ) (d : Draft) where
  pub each_more : i < length slots →
      redo_each pages (drop (i + 1) slots) id version (redo_at pages (get_or slots i (record { sequence = 0; page = 0 })).page id version d) ≡
      redo_each pages (drop i slots) id version d
  unfolding redo_each
  each_more h =
      let none : Slot = record { sequence = 0; page = 0 } in
      ap (λ (n : ℕ). redo_each pages (drop n slots) id version (redo_at pages (get_or slots i none).page id version d)) (add-one i) ∙
      sym (ap (λ (ss : List Slot). redo_each pages ss id version d) (drop-cons slots i none h))

  pub each_done : length slots ≤ i → redo_each pages (drop i slots) id version d ≡ d
  unfolding redo_each
  each_done h = ap (λ (ss : List Slot). redo_each pages ss id version d) (drop_of_length-le slots h)

-- The pages of a row, by how many they are.
module _ (pages : List (List ℕ)) (row : Row) (n : ℕ) (d : Draft) where
  pub pages-none : row.pages ≡ 0 → d ≡ redo_pages pages row n d
  unfolding redo_pages
  pages-none e = rw (eq-eqb row.pages 0 e) refl

  module _ (e₀ : row.pages ≡ 0 → ⊥) where
    pub pages-one : row.pages ≡ 1 → redo_at pages row.first n row.version d ≡ redo_pages pages row n d
    unfolding redo_pages
    pages-one e = rw (ne_eqb row.pages 0 e₀, eq-eqb row.pages 1 e) refl

    module _ (e₁ : row.pages ≡ 1 → ⊥) where
      pub pages_two : row.pages ≡ 2 → redo_two pages (slot_at pages row.first) (slot_at pages row.second) n row.version d ≡ redo_pages pages row n d
      unfolding redo_pages
      pages_two e = rw (ne_eqb row.pages 0 e₀, ne_eqb row.pages 1 e₁, eq-eqb row.pages 2 e) refl

      pub pages_three : (row.pages ≡ 2 → ⊥) →
          redo_three pages (slot_at pages row.first) (slot_at pages row.second) (slot_at pages row.third) n row.version d ≡ redo_pages pages row n d
      unfolding redo_pages
      pages_three e = rw (ne_eqb row.pages 0 e₀, ne_eqb row.pages 1 e₁, ne_eqb row.pages 2 e) refl

-- ---- a node page's pairs

zip-snoc : (xs ys : List ℕ) (a b : ℕ) → length xs ≡ length ys → zip (xs ++ (a ∷ [])) (ys ++ (b ∷ [])) ≡ zip xs ys ++ ((a, b) ∷ [])
zip-snoc [] [] a b e = refl
zip-snoc [] (y ∷ ys) a b e = absurd (omega arith)
zip-snoc (x ∷ xs) [] a b e = absurd (omega arith)
zip-snoc (x ∷ xs) (y ∷ ys) a b e = ap (λ (l : List Pair). (x, y) ∷ l) (zip-snoc xs ys a b (omega arith))

-- The start, a turn and the end of the loop that reads pairs.
module _ (p : List ℕ) (n : ℕ) where
  pub pairs-begin : decode.pairs_from (n - 0) p (7 + 8 * 0) ≡ decode.pairs_from n p 7
  pairs-begin = ap (λ (k : ℕ). decode.pairs_from k p 7) (sub-zero n)

  pub pairs_more : (keys pointers : List ℕ) (i : ℕ) → i < n → n ≤ 24 → length keys ≡ 24 → length pointers ≡ 24 → (k q : ℕ) →
      k ≡ number_at 4 p (7 + 8 * i) → q ≡ number_at 4 p (11 + 8 * i) →
      zip (take (i + 1) (set keys i k)) (take (i + 1) (set pointers i q)) ++ decode.pairs_from (n - (i + 1)) p (7 + 8 * (i + 1)) ≡
      zip (take i keys) (take i pointers) ++ decode.pairs_from (n - i) p (7 + 8 * i)
  unfolding decode.pairs_from
  pairs_more keys pointers i h l lk lp k q ek eq =
      let turn : n - i ≡ suc (n - (i + 1)) = omega arith in
      let behind : 7 + 8 * i + 4 ≡ 11 + 8 * i = omega arith in
      let next : 7 + 8 * (i + 1) ≡ 7 + 8 * i + 8 = omega arith in
      let a : List ℕ = take i keys in
      let b : List ℕ = take i pointers in
      let la : length a ≡ i = length-take-le i keys (omega arith) in
      let lb : length b ≡ i = length-take-le i pointers (omega arith) in
      let tk : take (i + 1) (set keys i k) ≡ a ++ (k ∷ []) = ap (λ (j : ℕ). take j (set keys i k)) (add-one i) ∙ take-suc-set keys i k (omega arith) in
      let tp : take (i + 1) (set pointers i q) ≡ b ++ (q ∷ []) = ap (λ (j : ℕ). take j (set pointers i q))
      (add-one i) ∙ take-suc-set pointers i q (omega arith) in
      let one : Pair = (number_at 4 p (7 + 8 * i), number_at 4 p (7 + 8 * i + 4)) in
      let pair : (k, q) ≡ one = ap₂ {C = Pair} (λ (x y : ℕ). (x, y)) ek (eq ∙ ap (number_at 4 p) (sym behind)) in
      let rest : List Pair = decode.pairs_from (n - (i + 1)) p (7 + 8 * (i + 1)) in
      ap₂ (λ (x y : List ℕ). zip x y ++ rest) tk tp ∙
      ap (λ (l : List Pair). l ++ rest) (zip-snoc a b k q (la ∙ sym lb)) ∙
      append_assoc (zip a b) ((k, q) ∷ []) rest ∙
      ap₂ (λ (x : Pair) (j : ℕ). zip a b ++ (x ∷ decode.pairs_from (n - (i + 1)) p j)) pair next ∙
      sym (ap (λ (m : ℕ). zip a b ++ decode.pairs_from m p (7 + 8 * i)) turn)

  pub pairs-done : (keys pointers : List ℕ) (i : ℕ) → i ≤ n → n ≤ i →
      zip (take i keys) (take i pointers) ++ decode.pairs_from (n - i) p (7 + 8 * i) ≡ zip (take n keys) (take n pointers)
  unfolding decode.pairs_from
  pairs-done keys pointers i l h =
      let over : n - i ≡ 0 = omega arith in
      let same : i ≡ n = omega arith in
      ap (λ (m : ℕ). zip (take i keys) (take i pointers) ++ decode.pairs_from m p (7 + 8 * i)) over ∙
      append-nil (zip (take i keys) (take i pointers)) ∙
      ap (λ (j : ℕ). zip (take j keys) (take j pointers)) same

-- The keys read so far ascend: what is left, tested from the least key that may come, gives the whole test.
module _ (p : List ℕ) (n i least key : ℕ) (h : i < n) (e : key ≡ number_at 4 p (7 + 8 * i)) where
  rest_more : decode.pairs_from (n - i) p (7 + 8 * i) ≡ (key, number_at 4 p (7 + 8 * i + 4)) ∷ decode.pairs_from (n - (i + 1)) p (7 + 8 * (i + 1))
  unfolding decode.pairs_from
  rest_more =
      let turn : n - i ≡ suc (n - (i + 1)) = omega arith in
      let next : 7 + 8 * (i + 1) ≡ 7 + 8 * i + 8 = omega arith in
      ap (λ (m : ℕ). decode.pairs_from m p (7 + 8 * i)) turn ∙
      sym (ap₂ (λ (k at : ℕ). (k, number_at 4 p (7 + 8 * i + 4)) ∷ decode.pairs_from (n - (i + 1)) p at) e next)

  pub rising_low : key < least → ascends least bound32 (decode.pairs_from (n - i) p (7 + 8 * i)) ≡ false
  unfolding ascends
  rising_low l = ap (ascends least bound32) rest_more ∙ rw (lt-leb least key l) refl

  pub rising_more : least ≤ key → key < bound32 →
      ascends (key + 1) bound32 (decode.pairs_from (n - (i + 1)) p (7 + 8 * (i + 1))) ≡ ascends least bound32 (decode.pairs_from (n - i) p (7 + 8 * i))
  unfolding ascends
  rising_more l b =
      ap (λ (k : ℕ). ascends k bound32 (decode.pairs_from (n - (i + 1)) p (7 + 8 * (i + 1)))) (add-one key) ∙
      sym (ap (ascends least bound32) rest_more ∙ rw (le-leb least key l, lt-ltb key bound32 b) refl)

pub rising_done : (p : List ℕ) (n i least : ℕ) → n ≤ i → ascends least bound32 (decode.pairs_from (n - i) p (7 + 8 * i)) ≡ true
unfolding ascends decode.pairs_from
rising_done p n i least h =
    let over : n - i ≡ 0 = omega arith in
    ap (λ (m : ℕ). ascends least bound32 (decode.pairs_from m p (7 + 8 * i))) over

-- No node, whatever the arrays hold.
pub redone_none : (o : Outline) → o ≡ broken_at empty_outline → (ks ps : List ℕ) → Arrays ks ps →
    (d : Draft) → broken ≡ d → Redone (draft_from o ks ps) d
unfolding pairs_in Within
redone_none o e ks ps (k, p) d f =
    rw e (record { is = f; held = record { sized = record { size = omega arith; key_room = k; pointer_room = p }; ascending = tt } })

-- A node read, and one whose keys do not ascend.
module _ (shape : Shape) (qs : List Pair) (link : ℕ) where
  pub node_loose : ascends 0 bound32 qs ≡ false → broken ≡ if_ascends (node shape qs link)
  unfolding if_ascends
  node_loose a = rw a refl

  pub node_read : (v : NodeValue) → Stands v (node shape qs link) → ascends 0 bound32 qs ≡ true →
      Redone (record { state = Made; node = v }) (if_ascends (node shape qs link))
  unfolding if_ascends
  node_read v s a =
      let e : pairs_in v ≡ qs = ap pairs_of s.is in
      rw a
      (record {
        is = ap made s.is;
        held = record { sized = s.sized; ascending = ascends_within 0 bound32 (pairs_in v) (ap (ascends 0 bound32) e ∙ a) };
      })

-- A payload that spells no node, or one.
module _ (p : List ℕ) where
  pub whole_short : length p < 7 → broken ≡ node_of_payload p
  unfolding node_of_payload
  whole_short h = rw (lt-ltb (length p) 7 h) refl

  module _ (h : 7 ≤ length p) (n : ℕ) (e : n ≡ decode.pairs_in p) where
    pub whole_long : 24 < n → broken ≡ node_of_payload p
    unfolding node_of_payload
    whole_long l = rw (le-ltb (length p) 7 h, ← e, lt-ltb 24 n l) refl

    pub whole-read : n ≤ 24 → (shape : Shape) (to : ℕ) → shape ≡ decode.shape_of_number (get_or p 2 0) → to ≡ number_at 4 p 3 →
        if_ascends (node shape (decode.pairs_from n p 7) to) ≡ node_of_payload p
    unfolding node_of_payload if_ascends decode.node_of
    whole-read l shape to k m = rw (le-ltb (length p) 7 h, ← e, le-ltb 24 n l, k, m) refl

-- The node of a page within the pool, and none behind its end.
pub node_in_lem : (pages : List (List ℕ)) (q : ℕ) (b : List ℕ) → b ≡ page_at pages q → node_of_payload (payload_at b 7 0x11) ≡ node_page_at pages q
unfolding node_page_at
node_in_lem pages q b e = ap (λ (b : List ℕ). node_of_payload (payload_at b 7 0x11)) e

pub node_behind : (pages : List (List ℕ)) (q : ℕ) → length pages ≤ q → broken ≡ node_page_at pages q
unfolding node_page_at
node_behind pages q h =
    whole_short [] (omega arith) ∙
    sym (ap (λ (b : List ℕ). node_of_payload (payload_at b 7 0x11)) (page_behind pages q h) ∙ ap node_of_payload
    (payload-blank 7 0x11 (omega arith) (λ e. omega arith)))

-- A node by its mode.
module _ (pages : List (List ℕ)) (buffer : List ℕ) (entries : ℕ) (row : Row) (n : ℕ) where
  pub content_log : row.mode ≡ Log → log_content pages buffer entries row n ≡ content_by pages buffer entries row n
  unfolding content_by
  content_log e = ap (λ (m : Mode). by_mode m (log_content pages buffer entries row n) (node_page_at pages row.first)) (sym e)

  pub content_disk : row.mode ≡ Disk → node_page_at pages row.first ≡ content_by pages buffer entries row n
  unfolding content_by
  content_disk e = ap (λ (m : Mode). by_mode m (log_content pages buffer entries row n) (node_page_at pages row.first)) (sym e)
