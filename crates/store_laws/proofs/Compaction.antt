-- Finding a place, with or without a compaction, as its users see it: every node keeps version, content, mode and the very pages that it
-- lies on, told apart by number; the place has room and another block is blank. Assumes nothing.
use Rattle.std.specs.Prelude.{◌≡◌, refl, Bool, true, length, Some}
use Rattle.std.proofs.Common.{sym, arith, eq-eqb}
use Rattle.std.proofs.Math.Path.{subst}
use Prim.Native.Nat.{ℕ, ◌≤◌, ◌<◌}
use Rattle.laws.specs.Every.{Every, every_weaken}
use Rattle.layout.specs.Layout.{pages_in_block, most_log_pages}
use Rattle.account.specs.declared.Mode.{Mode}
use Rattle.account.specs.declared.Mode.TheVariants.{Log, Disk}
use Rattle.page.specs.Page.{Page, page, whole}
use Rattle.store.specs.Item.{pieces_in}
use Rattle.store.specs.View.{greatest, pieces, pages}
use Rattle.store.specs.Pool.{block, numbered, find}
use Rattle.store.specs.Store.{Store, view}
use Rattle.store.specs.Live.{carries}
use Rattle.store.specs.Write.{found}
use Rattle.store.specs.Run.{Run}
use Rattle.store_laws.specs.Steps.{pruned_at}
use Rattle.store_laws.specs.LiveLaws.{live-carries}
use Rattle.store_laws.specs.AllocateLaws.{BlankAt}
use Rattle.store_laws.specs.BlockRules.{how_tally}
use Rattle.store_laws.specs.Placing.{Invariant}
use Rattle.store_laws.proofs.Placing.{found_ready, found_how, found_pruned, found-live, found_same}
use Rattle.store_laws.specs.Versions.{InMode}
use Rattle.store_laws.specs.Good.{Good}

-- A node has on every page what it had, its version and content, and its mode.
pub record Unmoved (a b : Store) (n : ℕ) : Type 0 where
  pub version : greatest (view b) n ≡ greatest (view a) n
  pub content : pieces (view b) n ≡ pieces (view a) n
  pub on : (s : ℕ) → pieces_in n (greatest (view b) n) ((view b).at s) ≡ pieces_in n (greatest (view a) n) ((view a).at s)
  pub mode : (m : Mode) → InMode m a n → InMode m b n

module _ {B N : ℕ} {closing : Page → Bool} {st : Store} (v : Invariant B N closing st) where
  found_mode : (n : ℕ) → n < N → (m : Mode) → InMode m st n → InMode m (found closing N st) n
  unfolding carries found
  found_mode n l Log h =
      let same = (found_same v n l).greatest in
      record {
        none = rw same (omega (arith, how_tally (numbered (greatest (view st) n)) (found_how v), h.none));
        some = rw same h.some;
      }
  found_mode n l Disk h =
      record {
        node = h.node;
        page = subst (λ u. find u (found closing N st).blocks ≡ Some (page u (whole n h.node))) (sym (found_same v n l).greatest) kept;
      }
    where
      u : ℕ
      u = greatest (view st) n

      carried : carries (view st) n (page (greatest (view st) n) (whole n h.node)) ≡ true
      carried = rw (eq-eqb n n refl, eq-eqb (greatest (view st) n) (greatest (view st) n) refl) refl

      kept : find (greatest (view st) n) (found closing N st).blocks ≡ Some (page (greatest (view st) n) (whole n h.node))
      kept = found-live v u (page u (whole n h.node)) h.page (live-carries (view st) closing N (page u (whole n h.node)) n l carried)

  -- COMPACTION IS INVISIBLE
  pub found_unmoved : (n : ℕ) → n < N → Unmoved st (found closing N st) n
  found_unmoved n l =
      let same = found_same v n l in
      record { version = same.greatest; content = same.pieces; on = pruned_at (found_pruned v) n l; mode = found_mode n l }

  -- NEVER STUCK: the place has room, and another block is blank
  pub found-room : length (block (found closing N st).blocks (found closing N st).current) < pages_in_block
  found-room = (found_ready v).free

  pub found_spare : BlankAt (found closing N st).blocks (λ i. i ≡ (found closing N st).current → ⊥)
  found_spare = (found_ready v).spare

-- THREE PAGES in every state passed, of every node that there was then
pub passed_three : {B : ℕ} {run : Run} → Good B run →
    Every (λ m. (n : ℕ) → n < m.nodes → pages (view m.state) n ≤ most_log_pages) run.passed
passed_three v = every_weaken (λ m h n l. omega (arith, h.each n l)) v.passed
