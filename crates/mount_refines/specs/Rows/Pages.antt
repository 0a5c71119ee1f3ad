-- The pieces that the code meets in a page's bytes are the items of the page; so each row goes through the pages of a pool as one node's
-- row does. Assumes nothing.
use Rattle.std.specs.Prelude.{◌≡◌, Bool, ◌⊎◌, eqb, ltb, get_or, set, Option, None, Some}
use Rattle.std.proofs.Math.Path.{refl, ap, subst}
use Rattle.std.proofs.Common.{sym, ◌∙◌, add-zero, arith, get_or-set_same, get_or-set_other}
use Rattle.std.proofs.Math.Bool.{true, false}
use Rattle.std.proofs.Math.Logic.{inl, inr}
use mathlib.Core.List.{List, [], ◌∷◌, ◌++◌, map}
use Prim.Native.Nat.{ℕ, zero, suc, ◌+◌, ◌*◌, ◌≤◌, ◌<◌, suc-le-suc}
use borrow.Author.Tests.{eq-eqb, ne_eqb, lt-ltb, le-ltb}
use Rattle.std.proofs.Math.ListN.{length, length-set}
use Rattle.laws.specs.Tests.{choose}
use Rattle.laws.specs.Order.{eq_or, le_or}
use Rattle.laws.specs.Every.{Every, none, both}
use Rattle.laws.specs.Lay.{part}
use Rattle.laws.specs.Loops.{steps}
use Rattle.laws.specs.BigEndian.{number_at, number-big_endian}
use Rattle.layout.specs.Layout.{most_entries, bound32}
use Rattle.account.specs.declared.Tariff.{Tariff}
use Rattle.account.specs.declared.Mode.{Mode}
use Rattle.account.specs.declared.Mode.TheVariants.{Log, Disk}
use Rattle.node.specs.Node.{Node, node}
use Rattle.wire.specs.Field.{field, payload_at}
use Rattle.wire.specs.FieldLaws.{payload_at-absent}
use Rattle.page.specs.Page.{Entry, Score, Page, page, log, whole, checkpoint}
use Rattle.page.specs.Image.{entry_bytes, whole_bytes, content_bytes, fields, numbered, sealed, image}
use Rattle.page.specs.Decode.{run, payloads, entry_of}
use Rattle.page.specs.Limits.{EntryFits, Fits, PageFits}
use Rattle.page.specs.Runs.{run_goes, run_stops}
use Rattle.page.specs.SpelledNode.{length-whole_bytes}
use Rattle.store.specs.Item.{Item, entry_item, items_of}
use Rattle.store.specs.Reopen.{Cells}
use Rattle.demands.specs.PoolBytes.{CellFits}
use Rattle.flash_rows.specs.Row.{no_row}
use Rattle.flash_rows.specs.declared.Row.{Row}
use Rattle.flash_blocks.specs.Pages.{blank_page, page_at}
use Rattle.flash_read.proofs.Laws.{payload-blank}
use Rattle.flash_refines.specs.Store.Mirror.{row_at, image_at}
use Rattle.flash_refines.specs.Read.EntriesRead.{is_entry, entry_back}
use Rattle.flash_refines.specs.Read.PageRead.{behind, image-split, sequence-read, run-read, payloads-read, payload-read}
use Rattle.mount_rows.specs.Seen.{seen, seen_at}
use Rattle.mount_rows.specs.Pieces.{seen_entry, seen_run, seen_node}
use Rattle.mount_rows.specs.Fill.{seen_page, filled}
use Rattle.mount_refines.specs.Rows.PageItems.{mode_in, row_items}
use Rattle.mount_refines.specs.Rows.Cells.{row_cell, row_cells}

-- Items met one after another.
abbrev seen_items : ℕ → ℕ → Mode → List Item → List Row → List Row
seen_items nodes q m [] rows = rows
seen_items nodes q m (x ∷ xs) rows = seen_items nodes q m xs (seen_at nodes x.id x.version m q rows)

-- ---- one row of them
module _ (nodes : ℕ) (rows : List Row) where
  length-seen_at : (id u : ℕ) (m : Mode) (q : ℕ) → length (seen_at nodes id u m q rows) ≡ length rows
  unfolding seen_at
  length-seen_at id u m q = go (ltb id nodes)
    where
      go : (b : Bool) → length (choose b (set rows id (seen u m q (get_or rows id no_row))) rows) ≡ length rows
      go true = length-set rows id (seen u m q (get_or rows id no_row))
      go false = refl

  row-seen_at : nodes ≤ length rows → (n : ℕ) → n < nodes → (id u : ℕ) (m : Mode) (q : ℕ) →
      row_at (seen_at nodes id u m q rows) n ≡ choose (eqb id n) (seen u m q (row_at rows n)) (row_at rows n)
  unfolding seen_at
  row-seen_at long n l id u m q = go (eq_or id n) (le_or nodes id)
    where
      after : Row
      after = seen u m q (get_or rows id no_row)

      go : (id ≡ n) ⊎ (id ≡ n → ⊥) → (nodes ≤ id) ⊎ (id < nodes) →
          get_or (choose (ltb id nodes) (set rows id (seen u m q (get_or rows id no_row))) rows) n no_row ≡
          choose (eqb id n) (seen u m q (get_or rows n no_row)) (get_or rows n no_row)
      go (inl e) (inl h) = absurd (omega arith)
      go (inl e) (inr h) =
          rw (lt-ltb id nodes h, eq-eqb id n e)
          (subst (λ (k : ℕ). get_or (set rows id after) k no_row ≡ seen u m q (get_or rows k no_row)) e (get_or-set_same rows id after no_row (omega arith)))
      go (inr d) (inl h) = rw (le-ltb id nodes h, ne_eqb id n d) refl
      go (inr d) (inr h) = rw (lt-ltb id nodes h, ne_eqb id n d) (get_or-set_other rows id n after no_row (λ z. d (sym z)))

module _ (nodes q : ℕ) (m : Mode) where
  length-seen_items : (xs : List Item) (rows : List Row) → length (seen_items nodes q m xs rows) ≡ length rows
  length-seen_items [] rows = refl
  length-seen_items (x ∷ xs) rows =
      length-seen_items xs (seen_at nodes x.id x.version m q rows) ∙ length-seen_at nodes rows x.id x.version m q

  row-seen_items : (xs : List Item) (rows : List Row) → nodes ≤ length rows → (n : ℕ) → n < nodes →
      row_at (seen_items nodes q m xs rows) n ≡ row_items n q m xs (row_at rows n)
  row-seen_items [] rows long n l = refl
  row-seen_items (x ∷ xs) rows long n l =
      row-seen_items xs (seen_at nodes x.id x.version m q rows) (omega (arith, length-seen_at nodes rows x.id x.version m q)) n l ∙
      ap (row_items n q m xs) (row-seen_at nodes rows long n l x.id x.version m q)

-- ---- from bytes to items

-- Fields 12, one behind another.
abbrev seen_all : ℕ → ℕ → List (List ℕ) → List Row → List Row
seen_all nodes q [] rows = rows
seen_all nodes q (p ∷ ps) rows = seen_all nodes q ps (seen_entry nodes q p rows)

module _ (nodes q : ℕ) where
  seen_run-payloads : (most : ℕ) (s : List ℕ) (at : ℕ) (rows : List Row) →
      seen_run nodes q most s at rows ≡ seen_all nodes q (payloads 0x12 18 (run is_entry 0x12 18 most s at) s at) rows
  unfolding seen_run run payloads
  seen_run-payloads zero s at rows = refl
  seen_run-payloads (suc most) s at rows = go (is_entry (payload_at s at 0x12)) refl (λ x. seen_run-payloads most s (at + 18) x)
    where
      go : (t : Bool) → is_entry (payload_at s at 0x12) ≡ t →
          ((x : List Row) → seen_run nodes q most s (at + 18) x ≡ seen_all nodes q (payloads 0x12 18 (run is_entry 0x12 18 most s (at + 18)) s (at + 18)) x) →
          seen_run nodes q (suc most) s at rows ≡ seen_all nodes q (payloads 0x12 18 (run is_entry 0x12 18 (suc most) s at) s at) rows
      go true t rest = rw (run_goes is_entry 0x12 18 most s at t, t, seen_run) (rest (seen_entry nodes q (payload_at s at 0x12) rows))
      go false t rest = rw (run_stops is_entry 0x12 18 most s at t, t, seen_run)

  entry-item : (s : ℕ) (e : Entry) → s ≤ bound32 → EntryFits s e → (rows : List Row) →
      seen_entry nodes q (entry_bytes e) rows ≡ seen_at nodes e.id e.version Log q rows
  unfolding seen_entry entry_of
  entry-item s e l h rows =
      let back = entry_back s e l h in
      let id : number_at 2 (entry_bytes e) 0 ≡ e.id = ap (λ (x : Entry). x.id) back in
      let version : number_at 4 (entry_bytes e) 2 ≡ e.version = ap (λ (x : Entry). x.version) back in
      rw (id, version) refl

  entries_items : (s : ℕ) (es : List Entry) → s ≤ bound32 → Every (EntryFits s) es → (rows : List Row) →
      seen_all nodes q (map entry_bytes es) rows ≡ seen_items nodes q Log (map entry_item es) rows
  entries_items s [] l none rows = refl
  entries_items s (e ∷ es) l (both h hs) rows =
      ap (seen_all nodes q (map entry_bytes es)) (entry-item s e l h rows) ∙
      entries_items s es l hs (seen_at nodes e.id e.version Log q rows)

  -- no entry, no node
  no_run : (b : List ℕ) → payload_at b 7 0x12 ≡ [] → (rows : List Row) → seen_run nodes q most_entries b 7 rows ≡ rows
  unfolding seen_run
  no_run b e rows = rw (e, seen_run) refl

  no_node : (b : List ℕ) → payload_at b 7 0x11 ≡ [] → (rows : List Row) → seen_node nodes q b rows ≡ rows
  unfolding seen_node
  no_node b e rows = rw e refl

  -- A LOG PAGE
  log_items : (s : ℕ) (es : List Entry) → Fits s (log es) → (rows : List Row) →
      seen_run nodes q most_entries (image (page s (log es))) 7 rows ≡ seen_items nodes q Log (map entry_item es) rows
  unfolding content_bytes
  log_items s es h rows =
      let laid : List ℕ = fields 0x12 (map entry_bytes es) in
      let b : List ℕ = numbered s (laid ++ behind s laid) in
      ap (λ (x : List ℕ). seen_run nodes q most_entries x 7 rows) (image-split s (log es)) ∙
      seen_run-payloads most_entries b 7 rows ∙
      ap (λ (k : ℕ). seen_all nodes q (payloads 0x12 18 k b 7) rows) (run-read s es h) ∙
      ap (λ (ps : List (List ℕ)). seen_all nodes q ps rows) (payloads-read s es h) ∙
      entries_items s es (omega (arith, h.below)) h.content.entries rows

  -- A NODE PAGE
  node_item : (s id : ℕ) (x : Node) → Fits s (whole id x) → (rows : List Row) →
      seen_node nodes q (image (page s (whole id x))) rows ≡ seen_at nodes id s Disk q rows
  unfolding seen_node whole_bytes number_at part
  node_item s id (node shape ps l) h rows =
      let p : List ℕ = whole_bytes id (node shape ps l) in
      let own : number_at 2 (whole_bytes id (node shape ps l)) 0 ≡ id = number-big_endian 2 id h.content.id in
      rw (
        payload-read s id shape ps l h,
        le-ltb (length (whole_bytes id (node shape ps l))) 7 (omega (arith, length-whole_bytes id shape ps l)),
        own,
        sequence-read (page s (whole id (node shape ps l))) h,
      )
      refl

-- ---- which fields begin a content

module _ (s : ℕ) where
  tag_log : (es : List Entry) → 1 ≤ length es → get_or (image (page s (log es))) 7 0 ≡ 0x12
  unfolding image sealed numbered content_bytes fields field
  tag_log [] h = absurd (omega arith)
  tag_log (e ∷ es) h = refl

  tag_whole : (id : ℕ) (x : Node) → get_or (image (page s (whole id x))) 7 0 ≡ 0x11
  unfolding image sealed numbered content_bytes field
  tag_whole id x = refl

  tag_checkpoint : (t : Option Tariff) (ss : List Score) (k : Option ℕ) → 1 ≤ length ss →
      (get_or (image (page s (checkpoint t ss k))) 7 0 ≡ 0x13) ⊎ (get_or (image (page s (checkpoint t ss k))) 7 0 ≡ 0x14)
  unfolding image sealed numbered content_bytes fields field
  tag_checkpoint (Some t) ss k h = inl refl
  tag_checkpoint None [] k h = absurd (omega arith)
  tag_checkpoint None (x ∷ ss) k h = inr refl

-- WHAT THE CODE MEETS ON A PAGE are its items, and on a blank one nothing.
module _ (nodes q : ℕ) where
  abbrev seen_bytes : List ℕ → List Row → List Row
  seen_bytes b rows = seen_node nodes q b (seen_run nodes q most_entries b 7 rows)

  nothing : (b : List ℕ) → payload_at b 7 0x12 ≡ [] → payload_at b 7 0x11 ≡ [] → (rows : List Row) → seen_bytes b rows ≡ rows
  nothing b e f rows = no_node nodes q b f (seen_run nodes q most_entries b 7 rows) ∙ no_run nodes q b e rows

  page_items : (p : Page) → PageFits p → (rows : List Row) → seen_bytes (image p) rows ≡ seen_items nodes q (mode_in p) (items_of p) rows
  page_items (page s (log es)) h rows =
      no_node nodes q (image (page s (log es))) none_here (seen_run nodes q most_entries (image (page s (log es))) 7 rows) ∙
      log_items nodes q s es h rows
    where
      none_here : payload_at (image (page s (log es))) 7 0x11 ≡ []
      none_here = payload_at-absent (image (page s (log es))) 7 0x11 (λ z. omega (arith, tag_log s es h.content.some))
  page_items (page s (whole id x)) h rows =
      ap (seen_node nodes q (image (page s (whole id x)))) (no_run nodes q (image (page s (whole id x))) none_here rows) ∙
      node_item nodes q s id x h rows
    where
      none_here : payload_at (image (page s (whole id x))) 7 0x12 ≡ []
      none_here = payload_at-absent (image (page s (whole id x))) 7 0x12 (λ z. omega (arith, tag_whole s id x))
  page_items (page s (checkpoint t ss k)) h rows = nothing (image (page s (checkpoint t ss k)))
      (none_of 0x12 (omega arith) (tag_checkpoint s t ss k h.content.some))
      (none_of 0x11 (omega arith) (tag_checkpoint s t ss k h.content.some)) rows
    where
      b : List ℕ
      b = image (page s (checkpoint t ss k))

      none_of : (tag : ℕ) → tag < 0x13 → (get_or (image (page s (checkpoint t ss k))) 7 0 ≡ 0x13) ⊎ (get_or (image (page s (checkpoint t ss k))) 7 0 ≡ 0x14) →
          payload_at (image (page s (checkpoint t ss k))) 7 tag ≡ []
      none_of tag l (inl e) = payload_at-absent (image (page s (checkpoint t ss k))) 7 tag (λ z. omega arith)
      none_of tag l (inr e) = payload_at-absent (image (page s (checkpoint t ss k))) 7 tag (λ z. omega arith)

  blank_items : (rows : List Row) → seen_bytes blank_page rows ≡ rows
  blank_items rows =
      nothing blank_page (payload-blank 7 0x12 (omega arith) (λ z. omega arith)) (payload-blank 7 0x11 (omega arith) (λ z. omega arith)) rows

  -- A PLACE OF THE POOL, for one row
  module _ (pages : List (List ℕ)) (rows : List Row) where
    pub record Seen (c : Option Page) : Type 0 where
      pub long : length (seen_page nodes pages q rows) ≡ length rows
      pub row : (n : ℕ) → n < nodes → row_at (seen_page nodes pages q rows) n ≡ row_cell n q c (row_at rows n)

    place-seen : nodes ≤ length rows → (c : Option Page) → CellFits c → page_at pages q ≡ image_at image c → Seen c
    unfolding seen_page
    place-seen long None f e =
        let is : seen_page nodes pages q rows ≡ rows = ap (λ (b : List ℕ). seen_bytes b rows) e ∙ blank_items rows in
        record { long = ap length is; row = λ n l. ap (λ (x : List Row). row_at x n) is }
    place-seen long (Some p) f e =
        let is : seen_page nodes pages q rows ≡ seen_items nodes q (mode_in p) (items_of p) rows =
        ap (λ (b : List ℕ). seen_bytes b rows) e ∙ page_items p f rows in
        record {
          long = ap length is ∙ length-seen_items nodes q (mode_in p) (items_of p) rows;
          row = λ n l. ap (λ (x : List Row). row_at x n) is ∙ row-seen_items nodes q (mode_in p) (items_of p) rows long n l;
        }

-- ALL PLACES, for one row
module _ (nodes : ℕ) (pages : List (List ℕ)) where
  pub record Carried (i : ℕ) (cs : Cells) (rows rows' : List Row) : Type 0 where
    pub long : length rows' ≡ length rows
    pub row : (n : ℕ) → n < nodes → row_at rows' n ≡ row_cells n i cs (row_at rows n)

  cells_carried : (cs : Cells) (i : ℕ) (rows : List Row) → nodes ≤ length rows → Every CellFits cs →
      ((j : ℕ) → j < length cs → page_at pages (i + j) ≡ image_at image (get_or cs j None)) →
      Carried i cs rows (steps (seen_page nodes pages) (length cs) i rows)
  unfolding steps
  cells_carried [] i rows long none is = record { long = refl; row = λ n l. refl }
  cells_carried (c ∷ cs) i rows long (both f fs) is =
      let first = place-seen nodes i pages rows long c f (ap (page_at pages) (sym (add-zero i)) ∙ is 0 (omega arith)) in
      let next = seen_page nodes pages i rows in
      let rest = cells_carried cs (i + 1) (seen_page nodes pages i rows) (omega (arith, first.long)) fs
      (λ j l. ap (page_at pages) (omega arith) ∙ is (suc j) (suc-le-suc l)) in
      record {
        long = rest.long ∙ first.long;
        row = λ n l. rest.row n l ∙ ap (row_cells n (i + 1) cs) (first.row n l);
      }

  -- THE ROWS FILLED, each by itself
  pub filled_carried : (blocks : ℕ) (cs : Cells) (rows : List Row) → nodes ≤ length rows → length cs ≡ 32 * blocks → Every CellFits cs →
      ((j : ℕ) → j < length cs → page_at pages j ≡ image_at image (get_or cs j None)) →
      Carried 0 cs rows (filled blocks nodes pages rows)
  unfolding filled
  filled_carried blocks cs rows long size fits is =
      subst (λ (k : ℕ). Carried 0 cs rows (steps (seen_page nodes pages) k 0 rows)) size
      (cells_carried cs 0 rows long fits (λ j l. ap (page_at pages) (omega arith) ∙ is j l))
