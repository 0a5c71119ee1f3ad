-- A node of any pool that passes questions 5 and 6 is read as the store says it; but that of a node page whose keys do not ascend, which no
-- sound tree has, the code reads no node at all. Assumes nothing.
use Rattle.std.specs.Prelude.{◌≡◌, Bool, ◌⊎◌, List, ℕ, ◌+◌, ◌*◌, ◌≤◌, ◌<◌, length}
use Rattle.std.proofs.Math.Path.{refl, sym, ap}
use Rattle.std.proofs.Common.{◌∙◌, subst, arith, le-ltb}
use Rattle.std.proofs.Math.Bool.{true, false}
use Rattle.std.proofs.Math.Logic.{inl, inr}
use Rattle.laws.specs.Tests.{test_clash}
use Rattle.layout.specs.Layout.{most_keys, bound32}
use Rattle.account.specs.declared.Mode.{Mode}
use Rattle.account.specs.declared.Mode.TheVariants.{Log, Disk}
use Rattle.node.specs.Node.{Node, node, pairs_of, Neat}
use Rattle.node.specs.Replay.{Draft, broken}
use Rattle.node.specs.Ascends.{ascends, ascends_within, within_ascends}
use Rattle.wire.specs.Field.{payload_at}
use Rattle.page.specs.Page.{page, whole}
use Rattle.page.specs.Image.{whole_bytes, image}
use Rattle.page.specs.Decode.{pairs_in, pairs_from, node_of}
use Rattle.page.specs.Limits.{Fits}
use Rattle.page.specs.SpelledNode.{length-whole_bytes, node_of-bytes}
use Rattle.store.specs.Store.{node_in, no_node}
use Rattle.store.specs.Store as Store
use Rattle.store.specs.Run.{Run}
use Rattle.store_laws.specs.Versions.{OnPage}
use Rattle.flash_rows.specs.Step.{by_mode}
use Rattle.flash_allocate.specs.World.{World}
use Rattle.flash_read.specs.NodePage.{node_of_payload, node_page_at}
use Rattle.flash_read.specs.Content.{log_content, content_by, content}
use Rattle.flash_refines.specs.Store.Mirror.{row_at, RowMode}
use Rattle.flash_refines.specs.Store.Follows.{Follows, Writable}
use Rattle.flash_refines.specs.Read.PageRead.{payload-read}
use Rattle.flash_refines.specs.Read.Content.{log_content_lem, disk_draft, disk_page, disk_content, own_page}

-- A node page whose keys do not ascend has no node.
page_broken : (s id : ℕ) (x : Node) → Fits s (whole id x) → ascends 0 bound32 (pairs_of x) ≡ false →
    node_of_payload (payload_at (image (page s (whole id x))) 7 0x11) ≡ broken
unfolding node_of_payload node_of
page_broken s id (node shape ps l) h e =
    let p : List ℕ = whole_bytes id (node shape ps l) in
    let size : length p ≡ 7 + 8 * length ps = length-whole_bytes id shape ps l in
    let keys : ascends 0 bound32 (pairs_from (pairs_in p) p 7) ≡ false =
    ap (λ (y : Node). ascends 0 bound32 (pairs_of y)) (node_of-bytes id shape ps l h.content.node) ∙ e in
    ap node_of_payload (payload-read s id shape ps l h) ∙
    rw (le-ltb (length p) 7 (omega arith), le-ltb most_keys (pairs_in p) (omega (arith, h.content.node.few)), keys) refl

page_few : (s id : ℕ) (x : Node) → Fits s (whole id x) → length (pairs_of x) ≤ most_keys
page_few s id (node shape ps l) h = h.content.node.few

module _ {B : ℕ} {score : ℕ → ℕ} {w : World} {run : Run} (known : Writable B run) (h : Follows score w run) (n : ℕ) (l : n < run.nodes) where
  abbrev read : Draft → Type 0
  read d = (Store.node_of run.now n ≡ node_in d) ⊎ ((Neat (Store.node_of run.now n) → ⊥) × (node_in d ≡ no_node))

  on_page_lem : (o : OnPage run.now n) (b : Bool) → ascends 0 bound32 (pairs_of o.node) ≡ b → read (node_page_at w.pages (row_at w.table.rows n).first)
  unfolding Store.node_of
  on_page_lem o true e =
      let neat : Neat o.node =
      record { keys = ascends_within 0 bound32 (pairs_of o.node) e; size = page_few _ n o.node (own_page known h n l o) } in
      inl (ap node_in (disk_draft known h n l o ∙ sym (disk_content known h n l o neat)))
  on_page_lem o false e =
      inr (
        λ neat.
            test_clash (ascends 0 bound32 (pairs_of o.node))
            (within_ascends 0 bound32 (pairs_of o.node) (subst Neat (ap node_in (disk_draft known h n l o)) neat).keys) e,
        ap node_in (disk_page known h n l o ∙ page_broken _ n o.node (own_page known h n l o) e),
      )

  pub read_as : read (content w.pages w.table w.state n)
  unfolding content content_by Store.node_of
  read_as = go (row_at w.table.rows n).mode (h.mirrors.rows.mode n (omega (arith, h.nodes)))
    where
      go : (m : Mode) → RowMode m run.now n →
          read (by_mode m (log_content w.pages w.table.buffer w.state.entries (row_at w.table.rows n) n)
          (node_page_at w.pages (row_at w.table.rows n).first))
      go Log i = inl (ap node_in (sym (log_content_lem known h n l i)))
      go Disk o = on_page_lem o (ascends 0 bound32 (pairs_of o.node)) refl
