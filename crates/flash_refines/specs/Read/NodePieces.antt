-- Which page has a node's pieces at a sequence number: in log mode a log page, since no page has the node's version for its number; in disk
-- mode the node page alone, since no entry has that version. Assumes nothing.
use Rattle.std.specs.Prelude.{◌≡◌, Bool, true, false, ◌&&◌, ◌⊎◌, ℕ, zero, suc, ◌≤◌, ◌<◌, eqb, Option, None, Some}
use Rattle.std.proofs.Math.Path.{refl}
use Rattle.std.proofs.Common.{sym, ap, ◌∙◌, inl, inr, arith, ne_eqb, eq-eqb}
use mathlib.Core.List.{List, [], ◌∷◌, map}
use Rattle.laws.specs.Tests.{test_clash}
use Rattle.laws.specs.Order.{le_or}
use Rattle.laws.specs.Counts.{bit, count, tally, cons_if, empty}
use Rattle.laws.specs.Elements.{tally-get}
use Rattle.layout.specs.Layout.{most_entries}
use Rattle.node.specs.Node.{Node}
use Rattle.node.specs.Replay.{Draft, replay_from}
use Rattle.node.specs.Replay as Replay
use Rattle.page.specs.Page.{Entry, Page, page, log, whole, checkpoint, sequence}
use Rattle.page.specs.Image.{image}
use Rattle.page.specs.Limits.{PageFits}
use Rattle.store.specs.Item.{entry_item, items_of, pieces_in}
use Rattle.store.specs.View.{greatest}
use Rattle.store.specs.Pool.{Blocks, numbered, find, items_at}
use Rattle.store.specs.Store.{Store, view}
use Rattle.store_laws.specs.PoolLaws.{find_none}
use Rattle.store_laws.specs.Versions.{version_is, positive, says, said, VersionRules, OnPage}
use Rattle.flash_read.specs.Replay.{redo_run}
use Rattle.flash_refines.specs.Read.PageRead.{entries-read}
use Rattle.flash_refines.specs.Read.Lies.{Lies, find_lies}

-- What no page of a pool passes, the page of a number does not.
pub none_lies : (f : Page → Bool) {bs : Blocks} {s : ℕ} {p : Page} → tally f bs ≡ 0 → Lies bs s p → f p ≡ false
none_lies f {bs} {s} {p} e h = go (f p) refl
  where
    go : (t : Bool) → f p ≡ t → t ≡ false
    go true q =
        absurd (omega (arith, ap bit q, tally-get f bs h.number h.at.place p h.at.here))
    go false q = refl

-- Nothing of a version where its test fails.
pieces_whole : (n v m s : ℕ) (x : Node) → eqb s v ≡ false → pieces_in n v (items_of (page s (whole m x))) ≡ []
pieces_whole n v m s x e = rw e (go (eqb m n))
  where
    go : (t : Bool) → cons_if (t && false) (Replay.whole x) [] ≡ []
    go true = refl
    go false = refl

pub pieces-entries : (n v : ℕ) (es : List Entry) → count (version_is v) es ≡ 0 → pieces_in n v (map entry_item es) ≡ []
pieces-entries n v [] e = refl
pieces-entries n v (x ∷ es) e = go (eqb x.id n) (eqb x.version v) refl (pieces-entries n v es (omega arith))
  where
    go : (a b : Bool) → eqb x.version v ≡ b → pieces_in n v (map entry_item es) ≡ [] →
        cons_if (a && b) (Replay.step x.change) (pieces_in n v (map entry_item es)) ≡ []
    go a true q r = absurd (omega (arith, ap bit q))
    go true false q r = r
    go false false q r = r

positive-zero : (k : ℕ) → positive k ≡ false → k ≡ 0
positive-zero zero e = refl
positive-zero (suc k) e = absurd (test_clash true refl e)

pieces_unsaid : (n v : ℕ) (p : Page) → says v p ≡ false → (sequence p ≡ v → ⊥) → pieces_in n v (items_of p) ≡ []
unfolding says
pieces_unsaid n v (page s (log es)) e apart = pieces-entries n v es (positive-zero (count (version_is v) es) e)
pieces_unsaid n v (page s (whole m x)) e apart = pieces_whole n v m s x (ne_eqb s v apart)
pieces_unsaid n v (page s (checkpoint t scores k)) e apart = refl

-- LOG MODE: a page not numbered with the version, on which there are pieces, is a log page, and they are taken from its bytes
pub log_redone : (n v : ℕ) (p : Page) → numbered v p ≡ false → PageFits p → empty (pieces_in n v (items_of p)) ≡ false → (d : Draft) →
    redo_run n v most_entries (image p) 7 d ≡ replay_from d (pieces_in n v (items_of p))
log_redone n v (page s (log es)) e h has d = entries-read s es h n v d
log_redone n v (page s (whole m x)) e h has d = absurd (test_clash true refl (ap empty (sym (pieces_whole n v m s x e)) ∙ has))
log_redone n v (page s (checkpoint t scores k)) e h has d = absurd (test_clash true refl has)

-- DISK MODE
module _ {st : Store} {n : ℕ} (rules : VersionRules st) (o : OnPage st n) where
  -- no entry has the version
  unsaid : said (greatest (view st) n) st ≡ 0
  unsaid = go (le_or (said (greatest (view st) n) st) 0)
    where
      go : (said (greatest (view st) n) st ≤ 0) ⊎ (0 < said (greatest (view st) n) st) → said (greatest (view st) n) st ≡ 0
      go (inl l) = omega arith
      go (inr l) =
          let gone = find_none (greatest (view st) n) st.blocks (rules.apart (greatest (view st) n) l) in
          let found = o.page in
          absurd (let z : ◌≡◌ {A = ℕ} 0 1 = cc in omega arith)

  pub disk_buffer : pieces_in n (greatest (view st) n) (map entry_item st.buffer) ≡ []
  unfolding said
  disk_buffer = pieces-entries n (greatest (view st) n) st.buffer (omega (arith, unsaid))

  -- the node page has the node, and no other page has anything of it
  pub disk_own : pieces_in n (greatest (view st) n) (items_at (find (greatest (view st) n) st.blocks)) ≡ Replay.whole o.node ∷ []
  disk_own = rw (o.page, eq-eqb n n refl, eq-eqb (greatest (view st) n) (greatest (view st) n) refl)

  pub disk_other : (s : ℕ) → (s ≡ greatest (view st) n → ⊥) → pieces_in n (greatest (view st) n) (items_at (find s st.blocks)) ≡ []
  unfolding said
  disk_other s apart = go (find s st.blocks) refl
    where
      go : (c : Option Page) → find s st.blocks ≡ c → pieces_in n (greatest (view st) n) (items_at c) ≡ []
      go None e = refl
      go (Some p) e =
          let lies = find_lies s st.blocks p e in
          pieces_unsaid n (greatest (view st) n) p (none_lies (says (greatest (view st) n)) (omega (arith, unsaid)) lies)
          (λ z. apart (sym lies.at.sequenced ∙ z))
