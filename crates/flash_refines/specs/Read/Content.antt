-- THE CONTENT READ is the store's: what the code replays from the pages that a node's row names, and then from the buffer, is the node that
-- the store says; and so is the whole node on its page in disk mode. Assumes nothing.
use Rattle.std.proofs.Math.Path.{◌≡◌, refl, sym, ap}
use Rattle.std.proofs.Common.{subst, ◌∙◌, arith}
use Rattle.std.proofs.Math.Bool.{true, false, not}
use Rattle.std.specs.Prelude.{Option, None, Some, ℕ, ◌≤◌, ◌<◌}
use mathlib.Core.List.{List, [], ◌∷◌, ◌++◌, map}
use Rattle.std.proofs.Math.ListN.{length}
use Rattle.laws.specs.Tests.{test_clash}
use Rattle.laws.specs.BigEndian.{number}
use Rattle.laws.specs.Counts.{empty}
use Rattle.laws.specs.Options.{test}
use Rattle.layout.specs.Layout.{most_entries}
use Rattle.account.specs.declared.Mode.{Mode}
use Rattle.account.specs.declared.Mode.TheVariants.{Log, Disk}
use Rattle.node.specs.Node.{Node, Neat}
use Rattle.node.specs.Replay.{Piece, Draft, unlinked, made, redo_piece, replay_from, replay}
use Rattle.wire.specs.Field.{payload_at}
use Rattle.page.specs.Page.{Page, page, whole}
use Rattle.page.specs.Image.{image}
use Rattle.page.specs.Limits.{PageFits}
use Rattle.store.specs.Item.{entry_item, pieces_in}
use Rattle.store.specs.View.{greatest, pieces, pages}
use Rattle.store.specs.Pool.{numbered, find, items_at}
use Rattle.store.specs.Store.{Store, view, draft_of, mode_of}
use Rattle.store.specs.Live.{carries}
use Rattle.store.specs.Run.{Run}
use Rattle.store_laws.specs.Versions.{OnPage, mode_is}
use Rattle.flash_rows.specs.Step.{names, by_mode}
use Rattle.flash_blocks.specs.Pages.{page_at}
use Rattle.flash_allocate.specs.World.{World}
use Rattle.flash_read.specs.Replay.{redo_run, redo_buffer}
use Rattle.flash_read.specs.Slots.{sequence_at, slot_at, redo_at}
use Rattle.flash_read.specs.NodePage.{node_of_payload, node_page_at}
use Rattle.flash_read.specs.Content.{redo_pages, log_content, content_by, content}
use Rattle.flash_refines.specs.Store.Mirror.{row_at, RowMode}
use Rattle.flash_refines.specs.Store.Follows.{Follows, Writable}
use Rattle.flash_refines.specs.Read.EntriesRead.{buffer_redone}
use Rattle.flash_refines.specs.Read.PageRead.{sequence-read, node_read}
use Rattle.flash_refines.specs.Read.Sequences.{sequences_to, joined, length_sequences, gather_sequences, sequences_falling, sequences_one}
use Rattle.flash_refines.specs.Read.Lies.{Lies, find_lies, place_of, page_fits, block-below, place-below, image-here}
use Rattle.flash_refines.specs.Read.SlotsInUse.{in_one}
use Rattle.flash_refines.specs.Read.RowRedone.{replay_from-append, Named, row_redone}
use Rattle.flash_refines.specs.Read.NodePieces.{none_lies, log_redone, disk_buffer, disk_own, disk_other}

-- The pieces of a node's greatest version at a sequence number.
abbrev pieces_of : Store → ℕ → ℕ → List Piece
pieces_of st n s = pieces_in n (greatest (view st) n) (items_at (find s st.blocks))

-- The page of a sequence number at which the node has pieces: where it lies, and that the row names it there.
record Carrier (w : World) (st : Store) (n s : ℕ) : Type 0 where
  own : Page
  found : find s st.blocks ≡ Some own
  lies : Lies st.blocks s own
  named : names (place_of lies) (row_at w.table.rows n) ≡ true

module _ {B : ℕ} {score : ℕ → ℕ} {w : World} {run : Run} (known : Writable B run) (h : Follows score w run) (n : ℕ) (l : n < run.nodes) where
  inside : n < w.state.nodes
  inside = omega (arith, h.nodes)

  carrier : (s : ℕ) → empty (pieces_of run.now n s) ≡ false → Carrier w run.now n s
  unfolding carries
  carrier s has = go (find s run.now.blocks) refl has
    where
      go : (c : Option Page) → find s run.now.blocks ≡ c → empty (pieces_in n (greatest (view run.now) n) (items_at c)) ≡ false →
          Carrier w run.now n s
      go None e q = absurd (test_clash true refl q)
      go (Some p) e q =
          let at = find_lies s run.now.blocks p e in
          let m = h.mirrors in
          record {
            own = p;
            found = e;
            lies = at;
            named =
                m.names.each n at.number at.at.place (omega (arith, inside)) (block-below m.pages at) (place-below m.pages at) ∙
                ap (test (carries (view run.now) n)) at.at.here ∙
                ap not q;
          }

  -- As many sequence numbers have pieces as the row has pages.
  sequences : List ℕ
  sequences = sequences_to (pieces_of run.now n) run.now.last

  pages_sequences : (row_at w.table.rows n).pages ≡ length sequences
  unfolding sequences pages
  pages_sequences = h.mirrors.rows.pages n inside ∙ sym (length_sequences (pieces_of run.now n) run.now.last)

  sequences_few : length sequences ≤ 3
  unfolding sequences pages
  sequences_few = omega (arith, known.good.invariant.lean.each n l, length_sequences (pieces_of run.now n) run.now.last)

  -- What the store says, by these numbers.
  draft_sequences : draft_of run.now n ≡
      replay_from (replay_from (unlinked []) (joined (pieces_of run.now n) sequences))
      (pieces_in n (greatest (view run.now) n) (map entry_item run.now.buffer))
  unfolding draft_of replay pieces sequences
  draft_sequences =
      let behind : List Piece = pieces_in n (greatest (view run.now) n) (map entry_item run.now.buffer) in
      ap (λ (xs : List Piece). replay_from (unlinked []) (xs ++ behind)) (gather_sequences (pieces_of run.now n) run.now.last) ∙
      replay_from-append (unlinked []) (joined (pieces_of run.now n) sequences) behind

  -- LOG MODE: the pages, then the buffer
  module _ (in_log : RowMode Log run.now n) where
    told : (s : ℕ) → empty (pieces_of run.now n s) ≡ false → Named w.pages (row_at w.table.rows n) n (pieces_of run.now n) s
    unfolding slot_at sequence_at redo_at
    told s has =
        let v = greatest (view run.now) n in
        let c = carrier s has in
        let fits = page_fits c.lies known.fits.pages in
        let here = image-here h.mirrors.pages c.lies in
        let are : pieces_of run.now n s ≡ pieces_in n v (items_at (Some c.own)) = ap (λ (o : Option Page). pieces_in n v (items_at o)) c.found in
        record {
          place = place_of c.lies;
          named = c.named;
          tells =
              record {
                number = ap (λ (b : List ℕ). number (payload_at b 0 0x10)) here ∙ sequence-read c.own fits ∙ c.lies.at.sequenced;
                redo =
                    λ d.
                    ap (λ (u : ℕ). redo_run n u most_entries (page_at w.pages (place_of c.lies)) 7 d) (h.mirrors.rows.version n inside) ∙
                    ap (λ (b : List ℕ). redo_run n v most_entries b 7 d) here ∙
                    log_redone n v c.own (none_lies (numbered v) in_log c.lies) fits (ap empty (sym are) ∙ has) d ∙
                    ap (replay_from d) (sym are);
              };
        }

    pub log_content_lem : log_content w.pages w.table.buffer w.state.entries (row_at w.table.rows n) n ≡ draft_of run.now n
    unfolding log_content sequences
    log_content_lem =
        let row = row_at w.table.rows n in
        let f = pieces_of run.now n in
        let done : Draft = redo_pages w.pages row n (unlinked []) in
        ap (λ (u : ℕ). redo_buffer n u w.table.buffer w.state.entries done) (h.mirrors.rows.version n inside) ∙
        buffer_redone n (greatest (view run.now) n) run.now.last h.buffer known.fits.last known.fits.entries done ∙
        ap (λ (d : Draft). replay_from d (pieces_in n (greatest (view run.now) n) (map entry_item run.now.buffer)))
        (row_redone w.pages row n f told sequences (sequences_falling f run.now.last) pages_sequences sequences_few (unlinked [])) ∙
        sym draft_sequences

  -- DISK MODE: the node page alone
  module _ (on_page : OnPage run.now n) where
    abbrev version : ℕ
    version = greatest (view run.now) n

    has_piece : empty (pieces_of run.now n version) ≡ false
    has_piece = ap empty (disk_own known.good.versions on_page)

    pub own_page : PageFits (page version (whole n on_page.node))
    own_page = page_fits (find_lies version run.now.blocks (page version (whole n on_page.node)) on_page.page) known.fits.pages

    one-sequence : sequences ≡ version ∷ []
    unfolding sequences
    one-sequence =
        sequences_one (pieces_of run.now n) version run.now.last own_page.from (known.good.invariant.fit.versions n) has_piece
        (disk_other known.good.versions on_page)

    pub disk_draft : draft_of run.now n ≡ made on_page.node
    unfolding replay_from redo_piece
    disk_draft =
        draft_sequences ∙
        rw (one-sequence, disk_own known.good.versions on_page, disk_buffer known.good.versions on_page)

    -- the page that its row names is the node page, whatever node stands there
    pub disk_page : node_page_at w.pages (row_at w.table.rows n).first ≡ node_of_payload (payload_at (image (page version (whole n on_page.node))) 7 0x11)
    unfolding node_page_at
    disk_page =
        let c = carrier version has_piece in
        let found = c.found in
        let own = on_page.page in
        let same : c.own ≡ page version (whole n on_page.node) = cc in
        in_one (λ x. node_of_payload (payload_at (page_at w.pages x) 7 0x11) ≡ node_of_payload (payload_at (image (page version (whole n on_page.node))) 7 0x11))
        (ap (λ (b : List ℕ). node_of_payload (payload_at b 7 0x11)) (image-here h.mirrors.pages c.lies ∙ ap image same))
        (row_at w.table.rows n) c.named (omega (arith, pages_sequences, ap length one-sequence))

    pub disk_content : Neat on_page.node → node_page_at w.pages (row_at w.table.rows n).first ≡ made on_page.node
    disk_content neat = disk_page ∙ node_read version n on_page.node own_page neat

  -- IN LOG MODE whatever the store says is read
  pub log_follows : mode_of run.now n ≡ Log → content w.pages w.table w.state n ≡ draft_of run.now n
  unfolding content content_by
  log_follows e = go (row_at w.table.rows n).mode (h.mirrors.rows.mode n inside)
    where
      go : (m : Mode) → RowMode m run.now n →
          by_mode m (log_content w.pages w.table.buffer w.state.entries (row_at w.table.rows n) n)
          (node_page_at w.pages (row_at w.table.rows n).first) ≡ draft_of run.now n
      go Log i = log_content_lem i
      go Disk o = let d = mode_is Disk run.now n o in absurd (let z : ◌≡◌ {A = ℕ} 0 1 = cc in omega arith)

  -- IN EITHER MODE a neat node is read
  pub content_follows : (x : Node) → draft_of run.now n ≡ made x → Neat x → content w.pages w.table w.state n ≡ made x
  unfolding content content_by
  content_follows x e neat = go (row_at w.table.rows n).mode (h.mirrors.rows.mode n inside)
    where
      go : (m : Mode) → RowMode m run.now n →
          by_mode m (log_content w.pages w.table.buffer w.state.entries (row_at w.table.rows n) n)
          (node_page_at w.pages (row_at w.table.rows n).first) ≡ made x
      go Log i = log_content_lem i ∙ e
      go Disk o =
          let said = disk_draft o in
          let same : x ≡ o.node = cc in
          disk_content o (subst Neat same neat) ∙ ap made (sym same)
