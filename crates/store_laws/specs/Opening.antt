-- A pool whose cells pass the tests is a good state to begin with, whoever wrote it; each of its nodes with an unbroken content is in the
-- mode that the store says. And a pool of ours passes them. Assumes nothing.
use Rattle.std.specs.Prelude.{◌≡◌, Bool, true, false, ◌&&◌, ◌⊎◌, eqb, Option, None, Some}
use Rattle.std.proofs.Math.Path.{refl, ap}
use Rattle.std.proofs.Common.{sym, subst, ◌∙◌, inl, inr, arith, eq-eqb, ne_eqb}
use mathlib.Core.List.{List, [], ◌∷◌, ◌++◌, map}
use Prim.Native.Nat.{ℕ, zero, suc, ◌≤◌, ◌<◌}
use Rattle.laws.specs.Tests.{choose, test_clash, and_left, and_right, and_both}
use Rattle.laws.specs.Order.{eq_or, le_or}
use Rattle.laws.specs.Counts.{bit, cons_if, count, tally}
use Rattle.laws.specs.Every as Every
use Rattle.layout.specs.Layout.{pages_in_block, fewest_blocks, node_limit, most_log_pages}
use Rattle.account.specs.declared.Mode.TheVariants.{Log, Disk}
use Rattle.node.specs.Node.{Node, Neat}
use Rattle.node.specs.Replay.{Piece, unlinked, made, replay_from, replay}
use Rattle.page.specs.Page.{Entry, Page, page, log, whole, checkpoint}
use Rattle.store.specs.Item.{entry_item, items_of, pieces_in, greatest_in}
use Rattle.store.specs.View.{gather, greatest_to, greatest, pieces, buffered, pages}
use Rattle.store.specs.Pool.{Blocks, numbered, find, items_at}
use Rattle.store.specs.Store.{Store, view, draft_of, node_of, mode_of}
use Rattle.store.specs.Live.{no_checkpoint}
use Rattle.store.specs.Run.{Run}
use Rattle.store.specs.Checkpoint.{collect, checkpoint_of, complete}
use Rattle.store.specs.Reopen.{Cells, blocks_in, newest, block_of, store_of, reopened, pool_of, blocks_pass, version_passes, versions_pass, page_passes}
use Rattle.store.specs.Reopen.{every_page, pages_pass}
use Rattle.store_laws.specs.ViewLaws.{gather-nil, Reached, greatest_to-reached}
use Rattle.store_laws.specs.BlockRules.{BlockRules}
use Rattle.store_laws.specs.Versions.{version_is, VersionRules, InLog, OnPage, InMode, mode_is}
use Rattle.store_laws.specs.BlockTests.{
  passing,
  passing_true,
  passing_rules,
  newest_le,
  le_newest,
  rules_current,
  rules_blocks,
  rules_passing,
}
use Rattle.store_laws.specs.PageTests.{
  VersionFits,
  version-fits,
  said_fits,
  page_versions,
  page_from_one,
  Passes,
  find-passes,
  passing_numbers,
  passing_fit,
  passing_versions,
  rules_pages,
}
use Rattle.store_laws.specs.Changes.{Lean}
use Rattle.store_laws.specs.Good.{Good}
use Rattle.store_laws.specs.Keeps.{Keeps}

none_closing_in : (b : List Page) → count no_checkpoint b ≡ 0
none_closing_in [] = refl
none_closing_in (p ∷ b) = omega (arith, none_closing_in b)

pub none_closing : (bs : Blocks) → tally no_checkpoint bs ≡ 0
none_closing [] = refl
none_closing (b ∷ bs) = omega (arith, none_closing_in b, none_closing bs)

-- The run at the opening of a pool with so many nodes.
abbrev pub opened : ℕ → ℕ → Cells → Run
opened B N c = record { nodes = N; now = reopened B c; passed = [] }

-- What the tests are asked of.
pub record Opens (B N : ℕ) (c : Cells) : Type 0 where
  pub blocks : fewest_blocks ≤ B
  pub nodes : N ≤ node_limit B
  pub pass : pages_pass B c ≡ true
  pub some : 0 < newest (blocks_in pages_in_block B c)
  pub three : (n : ℕ) → n < N → pages (view (reopened B c)) n ≤ most_log_pages

module _ {B N : ℕ} {c : Cells} (o : Opens B N c) where
  opens-blocks : blocks_pass pages_in_block B c ≡ true
  unfolding pages_pass
  opens-blocks =
      and_left (blocks_pass pages_in_block B c) (every_page (page_passes (blocks_in pages_in_block B c)) (blocks_in pages_in_block B c)) o.pass

  opens-pages : every_page (page_passes (blocks_in pages_in_block B c)) (blocks_in pages_in_block B c) ≡ true
  unfolding pages_pass
  opens-pages =
      and_right (blocks_pass pages_in_block B c) (every_page (page_passes (blocks_in pages_in_block B c)) (blocks_in pages_in_block B c)) o.pass

  opened_lean : Lean N (view (reopened B c))
  unfolding reopened buffered
  opened_lean = record { each = λ n l. omega (arith, o.three n l) }

  -- A POOL THAT PASSES IS A GOOD STATE
  pub opened_good : Good B (opened B N c)
  unfolding reopened
  opened_good =
      let bs = blocks_in pages_in_block B c in
      record {
        invariant =
            record {
              blocks = o.blocks;
              nodes = o.nodes;
              checkpoint_pages = omega (arith, none_closing bs);
              rules = passing_rules pages_in_block B c (passing pages_in_block B c opens-blocks) (passing_numbers bs opens-pages) o.some;
              fit = passing_fit bs opens-pages;
              lean = opened_lean;
            };
        versions = passing_versions bs opens-pages;
        small = omega arith;
        passed = Every.none;
      }

-- nothing has version 0
pieces_in-zero : (n s : ℕ) (bs : Blocks) (es : List Entry) → versions_pass s bs es ≡ true → pieces_in n 0 (map entry_item es) ≡ []
pieces_in-zero n s bs [] h = refl
pieces_in-zero n s bs (e ∷ es) h =
    rw (ne_eqb e.version 0 (λ z. omega (arith, fits.from_one)))
    (go (eqb e.id n) (pieces_in-zero n s bs es (and_right (version_passes s bs e) (versions_pass s bs es) h)))
  where
    fits : VersionFits s bs e.version
    fits = version-fits s bs e (and_left (version_passes s bs e) (versions_pass s bs es) h)

    go : (b : Bool) → pieces_in n 0 (map entry_item es) ≡ [] → cons_if (b && false) (entry_item e).piece (pieces_in n 0 (map entry_item es)) ≡ []
    go true r = r
    go false r = r

page_zero : (n : ℕ) (bs : Blocks) (p : Page) → page_passes bs p ≡ true → pieces_in n 0 (items_of p) ≡ []
page_zero n bs (page s (log es)) h = pieces_in-zero n s bs es (page_versions bs s es h)
page_zero n bs (page s (whole m x)) h = rw (ne_eqb s 0 (λ z. omega (arith, page_from_one bs (page s (whole m x)) h))) (go (eqb m n))
  where
    go : (b : Bool) → cons_if (b && false) (Rattle.node.specs.Replay.whole x) [] ≡ []
    go true = refl
    go false = refl
page_zero n bs (page s (checkpoint t scores k)) h = refl

-- the greatest version that entries name is one that they say
greatest-said : (n u : ℕ) (es : List Entry) → 0 < u → greatest_in n (map entry_item es) ≡ u → 0 < count (version_is u) es
greatest-said n u [] l e = absurd (omega arith)
greatest-said n u (x ∷ es) l e = go (eqb x.id n) refl (eq_or x.version u) (λ q. greatest-said n u es l q)
  where
    go : (b : Bool) → eqb x.id n ≡ b → (x.version ≡ u) ⊎ (x.version ≡ u → ⊥) → (greatest_in n (map entry_item es) ≡ u → 0 < count (version_is u) es) →
        0 < count (version_is u) (x ∷ es)
    go b f (inl q) r = omega (arith, ap bit (eq-eqb x.version u q))
    go true f (inr q) r = omega (arith, r (omega (arith, rw f at e)))
    go false f (inr q) r = omega (arith, r (omega (arith, rw f at e)))

-- A NODE WITH A CONTENT IS IN ONE OF THE TWO MODES
module _ (bs : Blocks) (h : every_page (page_passes bs) bs ≡ true) (n : ℕ) where
  abbrev u : ℕ
  u = greatest (view (store_of bs)) n

  pub no_pieces : u ≡ 0 → pieces (view (store_of bs)) n ≡ []
  unfolding pieces
  no_pieces e =
      ap (λ z. gather (λ s. pieces_in n z (items_at (find s bs))) (newest bs) ++ []) e ∙
      ap (λ (z : List Piece). z ++ []) (gather-nil (λ s. pieces_in n 0 (items_at (find s bs))) (newest bs)
      (λ s a b. zero_of s (find s bs) (find-passes (page_passes bs) s bs h)))
    where
      zero_of : (s : ℕ) (o : Option Page) → Passes (page_passes bs) s o → pieces_in n 0 (items_at o) ≡ []
      zero_of s None p = refl
      zero_of s (Some x) p = page_zero n bs x p.0

  on_page_lem : (s s' m : ℕ) (x : Node) → find s bs ≡ Some (page s' (whole m x)) → s' ≡ s → s' ≡ u → m ≡ n → OnPage (store_of bs) n
  on_page_lem s s' m x a p q r =
      record {
        node = x;
        page =
            subst (λ z. find z bs ≡ Some (page z (whole n x))) (sym p ∙ q)
            (subst (λ k. find s bs ≡ Some (page s (whole k x))) r (subst (λ z. find s bs ≡ Some (page z (whole m x))) p a));
      }

  found_mode : (s : ℕ) (o : Option Page) → find s bs ≡ o → Passes (page_passes bs) s o → 0 < u → greatest_in n (items_at o) ≡ u →
      InLog (store_of bs) n ⊎ OnPage (store_of bs) n
  found_mode s None a p k q = absurd (omega arith)
  found_mode s (Some (page s' (log es))) a p k q =
      inl (record { none = (said_fits u s' bs es (page_versions bs s' es p.0) (greatest-said n u es k q)).apart; some = k })
  found_mode s (Some (page s' (whole m x))) a p k q = go (eq_or m n)
    where
      go : (m ≡ n) ⊎ (m ≡ n → ⊥) → InLog (store_of bs) n ⊎ OnPage (store_of bs) n
      go (inl r) = inr (on_page_lem s s' m x a p.1 (omega (arith, q, ap (λ b. choose b s' 0) (eq-eqb m n r))) r)
      go (inr r) = absurd (omega (arith, q, ap (λ b. choose b s' 0) (ne_eqb m n r)))
  found_mode s (Some (page s' (checkpoint t scores k'))) a p k q = absurd (omega arith)

  in_a_mode : (x : Node) → draft_of (store_of bs) n ≡ made x → InLog (store_of bs) n ⊎ OnPage (store_of bs) n
  unfolding greatest draft_of replay replay_from
  in_a_mode x e = go (le_or 1 (greatest_to f (newest bs))) (greatest_to-reached f (newest bs))
    where
      f : ℕ → ℕ
      f s = greatest_in n (items_at (find s bs))

      bare : u ≡ 0 → InLog (store_of bs) n ⊎ OnPage (store_of bs) n
      bare z = let q : unlinked [] ≡ made x = ap replay (sym (no_pieces z)) ∙ e in absurd (clash q)
        where
          clash : unlinked [] ≡ made x → ⊥
          clash q = let z : ◌≡◌ {A = ℕ} 0 1 = cc in omega arith

      go : (1 ≤ greatest_to f (newest bs)) ⊎ (greatest_to f (newest bs) < 1) → (greatest_to f (newest bs) ≡ 0) ⊎ Reached f (newest bs) →
          InLog (store_of bs) n ⊎ OnPage (store_of bs) n
      go (inl k) (inl z) = absurd (omega arith)
      go (inl k) (inr r) =
          found_mode r.number (find r.number bs) refl (find-passes (page_passes bs) r.number bs h) (omega arith) (r.is ∙ omega arith)
      go (inr k) r = bare (omega arith)

  pub opened_mode : (x : Node) → draft_of (store_of bs) n ≡ made x → InMode (mode_of (store_of bs) n) (store_of bs) n
  opened_mode x e = go (in_a_mode x e)
    where
      go : InLog (store_of bs) n ⊎ OnPage (store_of bs) n → InMode (mode_of (store_of bs) n) (store_of bs) n
      go (inl m) = subst (λ z. InMode z (store_of bs) n) (sym (mode_is Log (store_of bs) n m)) m
      go (inr m) = subst (λ z. InMode z (store_of bs) n) (sym (mode_is Disk (store_of bs) n m)) m

-- ANY POOL THAT PASSES, with neat contents: the store keeps what it says
pub opened_keeps : {B N : ℕ} {c : Cells} → Opens B N c → ((n : ℕ) → n < N → draft_of (reopened B c) n ≡ made (node_of (reopened B c) n)) →
    ((n : ℕ) → n < N → Neat (node_of (reopened B c) n)) →
    Keeps B N (node_of (reopened B c)) (mode_of (reopened B c)) (opened B N c)
unfolding reopened
opened_keeps {B} {N} {c} o d t =
    record {
      good = opened_good o;
      nodes = refl;
      holds =
          λ n l.
          record {
            content = d n l;
            mode = opened_mode (blocks_in pages_in_block B c) (opens-pages o) n (node_of (store_of (blocks_in pages_in_block B c)) n) (d n l);
          };
      neat = t;
    }

-- OUR OWN POOL PASSES the tests, in every good state
pub own-passes : {B : ℕ} (st : Store) → BlockRules pages_in_block B st.blocks st.current st.last → VersionRules st →
    pages_pass B (pool_of st) ≡ true
unfolding pages_pass
own-passes {B} st r a =
    and_both (blocks_pass pages_in_block B (pool_of st)) _
    (passing_true pages_in_block B (pool_of st) (rules_passing r))
    (rw (rules_blocks r) (rules_pages st r.from_one a))

-- AFTER A PAGE OF THE LAST NUMBER, and with the buffer empty, the next call finds this very store
pub reopen : {B : ℕ} (st : Store) → BlockRules pages_in_block B st.blocks st.current st.last →
    0 < tally (numbered st.last) st.blocks → st.buffer ≡ [] → reopened B (pool_of st) ≡ st
unfolding reopened
reopen {B} st r h e =
    let top : newest st.blocks ≡ st.last =
    omega (arith, newest_le st.last st.blocks r.within, le_newest st.last st.blocks h) in
    let at : block_of st.last st.blocks ≡ st.current = ap (λ z. block_of z st.blocks) (sym top) ∙ rules_current r in
    rw (rules_blocks r, top, at) (λ i. record { blocks = st.blocks; current = st.current; buffer = sym e i; last = st.last })

-- A pool with a complete checkpoint has a page.
pub complete-newest : (B : ℕ) (c : Cells) → complete (checkpoint_of (reopened B c)) ≡ true → 0 < newest (blocks_in pages_in_block B c)
unfolding reopened checkpoint_of collect complete
complete-newest B c e = go (newest bs) refl
  where
    bs : Blocks
    bs = blocks_in pages_in_block B c

    go : (k : ℕ) → newest bs ≡ k → 0 < k
    go zero q = absurd (test_clash (complete (collect (λ s. find s bs) (newest bs) [])) e (ap (λ k. complete (collect (λ s. find s bs) k [])) q))
    go (suc k) q = omega arith
