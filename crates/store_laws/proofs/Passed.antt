-- The states passed while a page is written: each copy of a compaction shows the nodes as they were. Assumes nothing.
use Rattle.std.specs.Prelude.{◌≡◌, refl, Bool, true, false, List, ℕ, zero, suc, ◌≤◌, leb, ltb, length}
use Rattle.std.proofs.Common.{ap, arith}
use Rattle.laws.specs.Counts.{count, tally}
use Rattle.laws.specs.Every.{Every, none, both, every_append}
use Rattle.layout.specs.Layout.{pages_in_block}
use Rattle.page.specs.Page.{Entry, Content, Page}
use Rattle.store.specs.Pool.{block, numbered, items_at}
use Rattle.store.specs.Store.{Store, view}
use Rattle.store.specs.Live.{live}
use Rattle.store.specs.Allocate.{blanks, next_blank, victim}
use Rattle.store.specs.Write.{place}
use Rattle.store.specs.Run.{copying, one_to, copies_by, written}
use Rattle.store_laws.specs.Steps.{Pruned, stays, pruned_greatest, pruned_pieces, pruned_pages, pruned_buffered}
use Rattle.store_laws.specs.Changes.{Same, Lean, same_lean}
use Rattle.store_laws.specs.PoolLaws.{Moves, find-copying}
use Rattle.store_laws.specs.BlockRules.{spot_moves}
use Rattle.store_laws.specs.Placing.{Invariant}
use Rattle.store_laws.proofs.Placing.{live-fits}

-- with q pages copied, every node is as it was
copying_same : (keep : Page → Bool) (st : Store) {i j : ℕ} (q : ℕ) → ((s : ℕ) → tally (numbered s) st.blocks ≤ 1) → Moves st.blocks i j →
    (n : ℕ) → Same (view st) (view (copying keep st i j q)) n
copying_same keep st {i} {j} q once m n =
    record {
      greatest = pruned_greatest p n (omega arith);
      pieces = pruned_pieces p n (omega arith);
      pages = pruned_pages p n (omega arith);
      buffered = pruned_buffered p n (omega arith);
    }
  where
    p : Pruned (suc n) (view st) (view (copying keep st i j q))
    p = record { last = refl; buffer = refl; each = λ s. stays (ap items_at (find-copying keep m s q (once s))) }

every-one_to : {P : Store → Type 0} (f : ℕ → Store) (q : ℕ) → ((i : ℕ) → P (f i)) → Every P (one_to f q)
every-one_to f zero h = none
every-one_to f (suc q) h = every_append (every-one_to f q h) (both (h (suc q)) none)

-- THREE PAGES AFTER EVERY PAGE WRITTEN, copies too
pub written_lean : {B N : ℕ} {closing : Page → Bool} {st : Store} (v : Invariant B N closing st) (c : Content) (rest : List Entry) →
    Lean N (view (place closing N c rest st)) → Every (λ s. Lean N (view s)) (written closing N c rest st)
unfolding written
written_lean {N = N} {closing} {st} v c rest t =
    every_append (go (ltb (length (block st.blocks st.current)) pages_in_block) (leb 2 (blanks st.blocks)) refl) (both t none)
  where
    keep : Page → Bool
    keep = live (view st) closing N

    go : (a b : Bool) → leb 2 (blanks st.blocks) ≡ b → Every (λ s. Lean N (view s)) (copies_by a b (live (view st) closing N) st)
    go true b eb = none
    go false true eb = none
    go false false eb =
        let m = spot_moves keep v.rules (live-fits v) eb in
        every-one_to (copying keep st (victim keep st.blocks) (next_blank st.blocks st.current))
        (count keep (block st.blocks (victim keep st.blocks)))
        (λ q. same_lean v.lean (λ n l. copying_same keep st q v.rules.once m.0 n))
