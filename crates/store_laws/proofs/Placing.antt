-- Writing a page: what the store is afterwards. A place is found without any node noticing; then the page stands under the next
-- number and every other page where it was. Then each operation of the store, as one of the changes of a view. Assumes nothing.
use Rattle.std.specs.Prelude.{◌≡◌, Bool, true, false, ℕ, suc, ◌+◌, ◌*◌, ◌-◌, ◌≤◌, ◌<◌, length, Option, Some}
use Rattle.std.proofs.Math.Path.{refl, ap}
use Rattle.std.proofs.Common.{sym, ◌∙◌, eq-eqb, ne_eqb}
use mathlib.Core.List.{List, [], ◌∷◌, ◌++◌, map}
use Rattle.std.proofs.Math.Nat.{le_trans}
use native.Mathlib.Omega.{arith}
use Rattle.laws.specs.Tests.{test_clash}
use Rattle.laws.specs.Counts.{bit, bit_le_one, count, count-append, tally, tally-at}
use Rattle.laws.specs.Options.{some_same}
use Rattle.layout.specs.Layout.{pages_in_block, node_limit, most_log_pages}
use Rattle.node.specs.Node.{Node}
use Rattle.node.specs.Change.{Change}
use Rattle.node.specs.Replay.{Piece, step}
use Rattle.node.specs.Replay as Replay
use Rattle.page.specs.Page.{Entry, Content, Page, log, whole, sequence}
use Rattle.store.specs.Item.{entry_item, items_of, greatest_in, group}
use Rattle.store.specs.View.{some?, greatest, pieces, buffered, pages}
use Rattle.store.specs.Pool.{Blocks, block, numbered, page_in, find, items_at, add_to}
use Rattle.store.specs.Store.{Store, seen, view}
use Rattle.store.specs.Live.{live}
use Rattle.store.specs.Write.{found, next, place, flush, enter, start, node_page}
use Rattle.store_laws.specs.ItemLaws.{greatest_in-append, greatest_in-group_any, items_append}
use Rattle.store_laws.specs.Steps.{Fit, fit_buffer, Wrote, Added, Pruned, pruned_greatest, pruned_pieces, pruned_pages, pruned_buffered, pruned_fit}
use Rattle.store_laws.specs.Steps as Steps
use Rattle.store_laws.specs.Changes.{Same, same_trans, Now, flushed, edited, edited_other, started, started-other, paged, paged_other, silent, wrote_fit, added_fit, Lean, same_lean, flushed_lean, edited_lean, started_lean, paged_lean}
use Rattle.store_laws.specs.PoolLaws.{find-block, find-set, page_in-snoc, page_in-snoc-other, Found, find-compact}
use Rattle.store_laws.specs.PoolLaws as PoolLaws
use Rattle.store_laws.specs.LiveLaws.{compact_pruned, live_bound}
use Rattle.store_laws.specs.BlockRules.{BlockRules, Ready, add_to-tally, numbered-none, rules_later, added_current, written_rules, How, how_tally}
use Rattle.store_laws.proofs.Spots.{spot_ready, spot_how}
use Rattle.store_laws.specs.BlockRules as BlockRules
use Rattle.store_laws.specs.Placing.{most_checkpoint_pages, Invariant}

-- One page more, of the next number: it is found under it, and every other number as before.
module _ {width B : ℕ} {bs : Blocks} {current k : ℕ} (p : Page) (e : sequence p ≡ suc k) (r : Ready width B bs current k) where
  pub find-added : find (suc k) (add_to bs current p) ≡ Some p
  find-added =
      let inside : current < length bs = omega (arith, r.size, r.inside) in
      let gone : tally (numbered (suc k)) bs ≡ 0 = numbered-none k bs r.within (suc k) (omega arith) in
      let own : numbered (suc k) p ≡ true = eq-eqb (sequence p) (suc k) e in
      let here = added_current p e r in
      find-block (suc k) (add_to bs current p) current
      (omega (
        arith,
        gone,
        add_to-tally (numbered (suc k)) bs current p inside,
        ap (count (numbered (suc k))) here,
        count-append (numbered (suc k)) (block bs current) (p ∷ []),
      )) ∙
      ap (page_in (suc k)) here ∙
      page_in-snoc (suc k) (block bs current) p (omega (arith, gone, tally-at (numbered (suc k)) bs current)) own

pub find-added-other : (bs : Blocks) (current k : ℕ) (p : Page) → sequence p ≡ suc k → (s : ℕ) → (s ≡ suc k → ⊥) →
    find s (add_to bs current p) ≡ find s bs
find-added-other bs current k p e s h =
    find-set s bs current (block bs current ++ (p ∷ []))
    (page_in-snoc-other s (block bs current) p (ne_eqb (sequence p) s (λ q. h (sym q ∙ e))))

added_wrote : {width B : ℕ} {bs : Blocks} {current k : ℕ} (buffer rest : List Entry) (p : Page) → sequence p ≡ suc k → Ready width B bs current k →
    Wrote (seen bs buffer k) (seen (add_to bs current p) rest (suc k)) (items_of p) (map entry_item rest)
added_wrote {bs = bs} {current} {k} buffer rest p e r =
    record {
      last = refl;
      page = ap items_at (find-added p e r);
      old = λ s h. ap items_at (find-added-other bs current k p e s h);
      buffer = refl;
    }

-- Live pages are fewer than all blocks but one hold.
pub live-fits : {B N : ℕ} {closing : Page → Bool} {st : Store} → Invariant B N closing st →
    tally (live (view st) closing N) st.blocks < pages_in_block * (B - 1)
live-fits {B} {N} {closing} {st} v =
    omega (
      arith,
      live_bound st.blocks st.buffer st.last v.rules.once v.rules.from_one v.rules.within closing most_log_pages N
          (λ n l. le_trans (omega arith) (v.lean.each n l)),
      v.nodes,
      v.checkpoint_pages,
      v.blocks,
    )

module _ {B N : ℕ} {closing : Page → Bool} {st : Store} (v : Invariant B N closing st) where
  pub found_ready : Ready pages_in_block B (found closing N st).blocks (found closing N st).current st.last
  unfolding found
  found_ready = spot_ready (live (view st) closing N) v.rules (live-fits v)

  pub found_how : How (live (view st) closing N) st.blocks (found closing N st).blocks
  unfolding found
  found_how = spot_how (live (view st) closing N) v.rules (live-fits v)

  pub found_pruned : Pruned N (view st) (view (found closing N st))
  unfolding found
  found_pruned = go found_how
    where
      go : {bs' : Blocks} → How (live (view st) closing N) st.blocks bs' → Pruned N (view st) (seen bs' st.buffer st.last)
      go BlockRules.stays = record { last = refl; buffer = refl; each = λ s. Steps.stays refl }
      go (BlockRules.moves m) = compact_pruned closing N st.buffer st.last m v.rules.once

  -- a live page stays, under its number
  pub found-live : (s : ℕ) (q : Page) → find s st.blocks ≡ Some q → live (view st) closing N q ≡ true →
      find s (found closing N st).blocks ≡ Some q
  found-live s q e l = go found_how
    where
      kept : {after : Option Page} → Found (live (view st) closing N) (find s st.blocks) after → after ≡ Some q
      kept (PoolLaws.stays x) = x ∙ e
      kept (PoolLaws.goes p x y z) =
          absurd (test_clash (live (view st) closing N q) l (ap (live (view st) closing N) (some_same (sym e ∙ y)) ∙ z))

      go : {bs' : Blocks} → How (live (view st) closing N) st.blocks bs' → find s bs' ≡ Some q
      go BlockRules.stays = e
      go (BlockRules.moves m) = kept (find-compact (live (view st) closing N) m s (v.rules.once s))

  -- FINDING A PLACE CHANGES NO NODE
  pub found_same : (n : ℕ) → n < N → Same (view st) (view (found closing N st)) n
  found_same n l =
      record {
        greatest = pruned_greatest found_pruned n l;
        pieces = pruned_pieces found_pruned n l;
        pages = pruned_pages found_pruned n l;
        buffered = pruned_buffered found_pruned n l;
      }

  found_lean : Lean N (view (found closing N st))
  found_lean = same_lean v.lean found_same

  found_fit : Fit (view (found closing N st))
  found_fit = pruned_fit found_pruned v.fit

  -- the page that is written
  pub place_rules : (c : Content) (rest : List Entry) →
      BlockRules pages_in_block B (place closing N c rest st).blocks (place closing N c rest st).current (suc st.last)
  unfolding place
  place_rules c rest = written_rules (next st c) refl found_ready

  place_wrote : (c : Content) (rest : List Entry) →
      Wrote (view (found closing N st)) (view (place closing N c rest st)) (items_of (next st c)) (map entry_item rest)
  unfolding place found
  place_wrote c rest = added_wrote st.buffer rest (next st c) refl found_ready

  pub place-find : (c : Content) (rest : List Entry) → find (suc st.last) (place closing N c rest st).blocks ≡ Some (next st c)
  unfolding place
  place-find c rest = find-added (next st c) refl found_ready

  pub place-find-live : (c : Content) (rest : List Entry) (s : ℕ) (q : Page) → s ≤ st.last → find s st.blocks ≡ Some q →
      live (view st) closing N q ≡ true → find s (place closing N c rest st).blocks ≡ Some q
  unfolding place
  place-find-live c rest s q l e h =
      find-added-other (found closing N st).blocks (found closing N st).current st.last (next st c) refl s (λ z. omega arith) ∙
      found-live s q e h

  pub place-tally : (f : Page → Bool) (c : Content) (rest : List Entry) →
      tally f (place closing N c rest st).blocks ≤ tally f st.blocks + bit (f (next st c))
  unfolding place
  place-tally f c rest =
      omega (
        arith,
        how_tally f found_how,
        add_to-tally f (found closing N st).blocks (found closing N st).current (next st c)
            (omega (arith, found_ready.size, found_ready.inside)),
      )

  pub place-has : (f : Page → Bool) (c : Content) (rest : List Entry) → bit (f (next st c)) ≤ tally f (place closing N c rest st).blocks
  unfolding place
  place-has f c rest =
      omega (
        arith,
        add_to-tally f (found closing N st).blocks (found closing N st).current (next st c)
            (omega (arith, found_ready.size, found_ready.inside)),
      )

  pub place_invariant : (c : Content) (rest : List Entry) → tally closing st.blocks + bit (closing (next st c)) ≤ most_checkpoint_pages →
      ((n : ℕ) → greatest_in n (items_of (next st c)) ≤ suc st.last) → ((n : ℕ) → greatest_in n (map entry_item rest) ≤ suc st.last) →
      Lean N (view (place closing N c rest st)) → Invariant B N closing (place closing N c rest st)
  unfolding place found
  place_invariant c rest l hx hy t =
      record {
        blocks = v.blocks;
        nodes = v.nodes;
        checkpoint_pages = le_trans (place-tally closing c rest) l;
        rules = place_rules c rest;
        fit = wrote_fit (place_wrote c rest) found_fit hx hy;
        lean = t;
      }

  -- THE BUFFER AS A PAGE: content and version of every node stay
  flush_wrote : Wrote (view (found closing N st)) (view (flush closing N st)) (view st).buffer []
  unfolding flush
  flush_wrote = place_wrote (log st.buffer) []

  pub flush_now : (n : ℕ) → n < N →
      Now (view (flush closing N st)) n (greatest (view st) n) (pieces (view st) n) (pages (view st) n + some? (buffered (view st) n)) []
  unfolding found
  flush_now n l =
      let a = flushed flush_wrote n in
      let o = found_same n l in
      record {
        greatest = a.greatest ∙ o.greatest;
        pieces = a.pieces ∙ o.pieces;
        pages = a.pages ∙ rw (o.pages, o.buffered);
        buffered = a.buffered;
      }

  pub flush_invariant : closing (next st (log st.buffer)) ≡ false → Invariant B N closing (flush closing N st)
  unfolding flush found
  flush_invariant e =
      place_invariant (log st.buffer) [] (omega (arith, ap bit e, v.checkpoint_pages)) (λ n. omega (arith, fit_buffer v.fit n))
      (λ n. omega arith) (flushed_lean flush_wrote found_lean)

  -- A NODE PAGE: the node has exactly what was written
  page_wrote : (n : ℕ) (x : Node) →
      Wrote (view (found closing N st)) (view (node_page closing N n x st)) (group n (suc st.last) (Replay.whole x ∷ [])) (view st).buffer
  unfolding node_page
  page_wrote n x = place_wrote (whole n x) st.buffer

  pub page_now : (n : ℕ) (x : Node) → Now (view (node_page closing N n x st)) n (suc st.last) (Replay.whole x ∷ []) 1 []
  unfolding found
  page_now n x = paged found_fit n (Replay.whole x) (page_wrote n x)

  pub page_other : (n : ℕ) (x : Node) (m : ℕ) → m < N → (n ≡ m → ⊥) → Same (view st) (view (node_page closing N n x st)) m
  unfolding found
  page_other n x m l h = same_trans (found_same m l) (paged_other found_fit n (Replay.whole x) (page_wrote n x) m h)

  pub page_invariant : (n : ℕ) (x : Node) → closing (next st (whole n x)) ≡ false → Invariant B N closing (node_page closing N n x st)
  unfolding node_page found
  page_invariant n x c =
      place_invariant (whole n x) st.buffer (omega (arith, ap bit c, v.checkpoint_pages))
      (λ m. greatest_in-group_any m n (suc st.last) (Replay.whole x ∷ [])) (λ m. omega (arith, fit_buffer v.fit m))
      (paged_lean found_fit n (Replay.whole x) (page_wrote n x) found_lean)

  -- A PAGE THAT SAYS NOTHING OF A NODE, as a checkpoint page: every node stays
  pub silent_same : (c : Content) → items_of (next st c) ≡ [] → (m : ℕ) → m < N → Same (view st) (view (place closing N c st.buffer st)) m
  unfolding found
  silent_same c e m l =
      let wrote : Wrote (view (found closing N st)) (view (place closing N c st.buffer st)) [] (view st).buffer =
      rw e at (place_wrote c st.buffer) in
      same_trans (found_same m l) (silent wrote m)

  pub silent_invariant : (c : Content) → items_of (next st c) ≡ [] → tally closing st.blocks < most_checkpoint_pages →
      Invariant B N closing (place closing N c st.buffer st)
  silent_invariant c e l =
      place_invariant c st.buffer (omega (arith, bit_le_one (closing (next st c)))) (λ m. rw e (omega arith))
      (λ m. omega (arith, fit_buffer v.fit m)) (same_lean v.lean (λ m k. silent_same c e m k))

  -- ONE ENTRY under the node's version
  enter-added : (n : ℕ) (c : Change) → Added (view st) (view (enter n c st)) (group n (greatest (view st) n) (step c ∷ []))
  unfolding enter
  enter-added n c =
      record { last = refl; old = λ s. refl; buffer = items_append n (greatest (view st) n) st.buffer (c ∷ []) }

  pub enter_now : (n : ℕ) (c : Change) →
      Now (view (enter n c st)) n (greatest (view st) n) (pieces (view st) n ++ (step c ∷ [])) (pages (view st) n)
      (buffered (view st) n ++ (step c ∷ []))
  enter_now n c = edited n (step c) (enter-added n c)

  pub enter-other : (n : ℕ) (c : Change) (m : ℕ) → (n ≡ m → ⊥) → Same (view st) (view (enter n c st)) m
  enter-other n c m h = edited_other n (step c) (enter-added n c) m h

  pub enter_invariant : (n : ℕ) (c : Change) → pages (view st) n < most_log_pages → Invariant B N closing (enter n c st)
  unfolding enter
  enter_invariant n c l =
      record {
        blocks = v.blocks;
        nodes = v.nodes;
        checkpoint_pages = v.checkpoint_pages;
        rules = v.rules;
        fit =
            added_fit (enter-added n c) v.fit
            (λ m. le_trans (greatest_in-group_any m n (greatest (view st) n) (step c ∷ [])) (v.fit.versions n));
        lean = edited_lean n (step c) (enter-added n c) l v.lean;
      }

  -- A FRESH START, of a node that is there or of the next one
  start_wrote : (n : ℕ) (cs : List Change) →
      Wrote (view st) (view (start n cs st)) [] ((view st).buffer ++ group n (suc st.last) (map step cs))
  unfolding start
  start_wrote n cs =
      record {
        last = refl;
        page = v.fit.beyond (suc st.last) (omega arith);
        old = λ s h. refl;
        buffer = items_append n (suc st.last) st.buffer cs;
      }

  pub start_now : (n : ℕ) (c : Change) (cs : List Change) →
      Now (view (start n (c ∷ cs) st)) n (suc st.last) (map step (c ∷ cs)) 0 (map step (c ∷ cs))
  start_now n c cs = started v.fit n (step c) (map step cs) (start_wrote n (c ∷ cs))

  pub start-other : (n : ℕ) (c : Change) (cs : List Change) (m : ℕ) → (n ≡ m → ⊥) → Same (view st) (view (start n (c ∷ cs) st)) m
  start-other n c cs m h = started-other v.fit n (step c) (map step cs) (start_wrote n (c ∷ cs)) m h

  pub start_invariant : (n : ℕ) (c : Change) (cs : List Change) (N' : ℕ) → ((m : ℕ) → m < N' → (n ≡ m → ⊥) → m < N) → N' ≤ node_limit B →
      Invariant B N' closing (start n (c ∷ cs) st)
  unfolding start
  start_invariant n c cs N' g l =
      let xs : List Piece = map step (c ∷ cs) in
      record {
        blocks = v.blocks;
        nodes = l;
        checkpoint_pages = v.checkpoint_pages;
        rules = rules_later v.rules;
        fit =
            wrote_fit (start_wrote n (c ∷ cs)) v.fit (λ m. omega arith)
            (λ m.
            rw (greatest_in-append m (view st).buffer (group n (suc st.last) xs))
            (omega (arith, fit_buffer v.fit m, greatest_in-group_any m n (suc st.last) xs)));
        lean = started_lean v.fit n (step c) (map step cs) (start_wrote n (c ∷ cs)) N' g v.lean;
      }
