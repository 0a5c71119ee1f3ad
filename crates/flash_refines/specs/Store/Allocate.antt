-- The place that the code finds for the next page is the model's, and what it leaves stands for what the model leaves. Assumes nothing.
use Rattle.std.specs.Prelude.{◌≡◌, Bool, true, false, not, ◌||◌, ◌⊎◌, List, leb, ltb, length, get_or, slice_get}
use Rattle.std.proofs.Math.Path.{refl, subst}
use Rattle.std.proofs.Common.{sym, ap, ◌∙◌, inl, inr, arith, lt-ltb, le-ltb, leb-true, leb-false}
use Prim.Native.Nat.{ℕ, zero, suc, ◌+◌, ◌*◌, ◌≤◌, ◌<◌}
use Rattle.laws.specs.Order.{le_or}
use Rattle.laws.specs.Counts.{count, tally, empty}
use Rattle.laws.specs.Options.{test}
use Rattle.page.specs.Page.{Page, sequence}
use Rattle.store.specs.Item.{items_of, pieces_in}
use Rattle.store.specs.View.{View}
use Rattle.store.specs.Pool.{Blocks, block, above}
use Rattle.store.specs.Store.{Store, view}
use Rattle.store.specs.Live.{carries, live}
use Rattle.store_laws.specs.LiveLaws.{live-carries, live_closing}
use Rattle.store.specs.Allocate.{blanks, Spot, spot_by, spot}
use Rattle.store.specs.Allocate as Model
use Rattle.store_laws.specs.AllocateLaws.{BlankAt, next_blank-blank}
use Rattle.store_laws.specs.PoolLaws.{Moves}
use Rattle.store_laws.specs.BlockRules.{spot_moves}
use Rattle.store_laws.specs.Placing.{Invariant}
use Rattle.store_laws.proofs.Placing.{live-fits, found_same}
use Rattle.store.specs.Write.{found}
use Rattle.flash_rows.specs.declared.Row.{Row}
use Rattle.flash_rows.specs.Worktable.{Worktable, with_rows}
use Rattle.flash_blocks.specs.Blank.{blank_block, blank_blocks, next_blank}
use Rattle.flash_live.specs.Live.{live_map, marked, live_in}
use Rattle.flash_live.specs.Choose.{victim}
use Rattle.flash_allocate.specs.declared.state.State.{State}
use Rattle.flash_allocate.specs.Compact.{Compacted, move_block, compact}
use Rattle.flash_allocate.specs.World.{World, world, used}
use Rattle.flash_allocate.specs.Allocate.{allocate}
use Rattle.flash_allocate.proofs.Laws.{allocate-room, allocate-next, allocate-compact}
use Rattle.flash_refines.specs.Store.Mirror.{row_at, Images, PagesAre, RowsName, RowMode, RowsSay, Owners, Mirrors}
use Rattle.flash_refines.specs.Store.RowModes.{found_row_mode}
use Rattle.flash_refines.specs.Store.Pages.{blank-block}
use Rattle.flash_refines.specs.Store.Ownership.{page_within}
use Rattle.flash_refines.specs.Store.Blank.{blank_blocks-is, next_blank-is}
use Rattle.flash_refines.specs.Store.Live.{Owned, mark_live, live_in-is}
use Rattle.flash_refines.specs.Store.Choice.{victim-is}
use Rattle.flash_refines.specs.Store.Names.{mapped}
use Rattle.flash_refines.specs.Store.Moves.{Compaction, move_block-is}
use Rattle.flash_allocate.specs.State.{in_block}

-- What pages, rows and state say of the blocks, before and after.
pub record Stands (image : Page → List ℕ) (own : ℕ → Page → Bool) (w : World) (bs : Blocks) (here : ℕ) : Type 0 where
  pub pages : PagesAre w.state.blocks image w.pages bs
  pub names : RowsName w.state.blocks (used w.state) own w.table.rows bs
  pub current : w.state.current ≡ here
  pub fill : w.state.fill ≡ length (block bs here)

-- What no step of an allocation changes: the state but for the current block and its fill, and of each row all but where its pages are.
pub record Kept (w w' : World) : Type 0 where
  pub blocks : w'.state.blocks ≡ w.state.blocks
  pub nodes : w'.state.nodes ≡ w.state.nodes
  pub checkpoint : w'.state.checkpoint ≡ w.state.checkpoint
  pub last : w'.state.last ≡ w.state.last
  pub entries : w'.state.entries ≡ w.state.entries
  pub buffer : w'.table.buffer ≡ w.table.buffer
  pub table : length w'.table.rows ≡ length w.table.rows
  pub rows : (n : ℕ) → n < used w.state → (g : ℕ → ℕ) × (row_at w'.table.rows n ≡ mapped g (row_at w.table.rows n))

pub record Allocated (image : Page → List ℕ) (own : ℕ → Page → Bool) (w : World) (place : Spot) (w' : World) : Type 0 where
  pub stands : Stands image own w' place.blocks place.current
  pub kept : Kept w w'

module _ (image : Page → List ℕ) (written : Images image) (own : ℕ → Page → Bool) (keep : Page → Bool) (ps : List (List ℕ)) (t : Worktable)
    (s : State) (bs : Blocks)
    (small : s.blocks ≤ 64) (r : Stands image own (world ps t s) bs s.current) (o : Owned keep own (used s) bs) (inside : s.current < s.blocks) where
  blank-is : (i : ℕ) → i < length bs → blank_block ps i ≡ empty (block bs i)
  blank-is i l = blank-block r.pages written i (omega (arith, r.pages.size))

  mark_is : (i q : ℕ) → i < s.blocks → q < 32 → marked (get_or (live_map (s.nodes + s.checkpoint) t.rows) (32 * i + q) 0) ≡ test keep
      (slice_get (block bs i) q)
  mark_is i q li lq = mark_live small r.names o i q li lq

  live-is : (i : ℕ) → i < length bs → live_in (live_map (s.nodes + s.checkpoint) t.rows) i ≡ count keep (block bs i)
  live-is i l = live_in-is keep (live_map (s.nodes + s.checkpoint) t.rows) (block bs i) i (r.pages.most i)
      (λ q lq. mark_is i q (omega (arith, r.pages.size)) lq)

  blanks-is : blank_blocks s.blocks ps ≡ blanks bs
  blanks-is = ap (λ (n : ℕ). blank_blocks n ps) (sym r.pages.size) ∙ blank_blocks-is ps bs blank-is

  next-is : next_blank s.blocks s.current ps ≡ Model.next_blank bs s.current
  next-is =
      ap (λ (n : ℕ). next_blank n s.current ps) (sym r.pages.size) ∙ next_blank-is ps bs blank-is s.current (omega (arith, r.pages.size))

  module _ (blank : BlankAt bs (λ i. Unit {0}))
      (moves : leb 2 (blanks bs) ≡ false → Moves bs (Model.victim keep bs) (Model.next_blank bs s.current) ×
      (count keep (block bs (Model.victim keep bs)) < 32)) where
    stays : (n : ℕ) → n < used s → (g : ℕ → ℕ) × (row_at t.rows n ≡ mapped g (row_at t.rows n))
    stays n l = ((λ x. x), refl)

    pub allocate-is : Allocated image own (world ps t s) (spot 32 keep bs s.current) (allocate (world ps t s))
    unfolding spot in_block compact
    allocate-is = go (le_or 32 s.fill) (leb 2 (blanks bs)) refl
      where
        j : ℕ
        j = Model.next_blank bs s.current

        goal : Bool → Bool → World → Type 0
        goal a two w' = Allocated image own (world ps t s) (spot_by a two keep bs s.current) w'

        full : 32 ≤ s.fill → ltb (length (block bs s.current)) 32 ≡ false
        full l = le-ltb (length (block bs s.current)) 32 (omega (arith, r.fill))

        go : (32 ≤ s.fill) ⊎ (s.fill < 32) → (two : Bool) → leb 2 (blanks bs) ≡ two → goal (ltb (length (block bs s.current)) 32)
            (leb 2 (blanks bs)) (allocate (world ps t s))
        go (inr l) two e =
            rw (lt-ltb (length (block bs s.current)) 32 (omega (arith, r.fill)))
            (subst (goal true (leb 2 (blanks bs))) (allocate-room (world ps t s) l)
            (record {
              stands = r;
              kept =
                  record { blocks = refl; nodes = refl; checkpoint = refl; last = refl; entries = refl; buffer = refl; table = refl; rows = stays };
            }))
        go (inl l) true e =
            rw (full l, e)
            (subst (goal false true) (allocate-next ps t s j (blanks bs) l (sym next-is) (sym blanks-is) (leb-true 2 (blanks bs) e) (in_block j 0 s) refl)
            (record {
              stands = record {
                pages = r.pages;
                names = r.names;
                current = refl;
                fill = rw
                    (next_blank-blank bs s.current blank.number blank.inside blank.blank).1 refl;
              };
              kept = record { blocks = refl; nodes = refl; checkpoint = refl; last = refl; entries = refl; buffer = refl; table = refl; rows = stays };
            }))
        go (inl l) false e =
            rw (full l, e)
            (subst (goal false false)
            (allocate-compact ps t s j (blanks bs) l (sym next-is) (sym blanks-is) (leb-false 2 (blanks bs) e) z.pages z.rows z.fill whole
            (with_rows z.rows t) refl (in_block j z.fill s) refl)
            (record {
              stands = record { pages = c.pages; names = c.names; current = refl; fill = c.fill };
              kept = record { blocks = refl; nodes = refl; checkpoint = refl; last = refl; entries = refl; buffer = refl; table = c.long; rows = c.same };
            }))
          where
            v : Moves bs (Model.victim keep bs) (Model.next_blank bs s.current)
            v = (moves e).0

            z : Compacted
            z = move_block (live_map (s.nodes + s.checkpoint) t.rows) (s.nodes + s.checkpoint) (Model.victim keep bs)
                (Model.next_blank bs s.current) ps t.rows

            c : Compaction s.blocks image (used s) own t.rows bs keep (Model.victim keep bs) (Model.next_blank bs s.current) z
            c =
                move_block-is keep v r.pages r.names o (live_map (s.nodes + s.checkpoint) t.rows)
                (λ q lq. mark_is (Model.victim keep bs) q (omega (arith, v.from, r.pages.size)) lq)

            chosen : victim s.blocks ps (live_map (s.nodes + s.checkpoint) t.rows) ≡ Model.victim keep bs
            chosen =
                ap (λ (n : ℕ). victim n ps (live_map (s.nodes + s.checkpoint) t.rows)) (sym r.pages.size) ∙
                victim-is keep ps (live_map (s.nodes + s.checkpoint) t.rows) bs blank-is live-is (omega (arith, (moves e).1))

            whole : z ≡ compact (used s) s.blocks (Model.next_blank bs s.current) ps t.rows
            whole =
                sym
                (ap (λ (x : ℕ). move_block (live_map (s.nodes + s.checkpoint) t.rows) (s.nodes + s.checkpoint) x
                (Model.next_blank bs s.current) ps t.rows) chosen)

-- A live page carries a node below the count, or is of the checkpoint being written.
live-cases : (w : View) (closing : Page → Bool) (N : ℕ) (p : Page) → live w closing N p ≡ true →
    ((n : ℕ) × (n < N) × (carries w n p ≡ true)) ⊎ (closing p ≡ true)
live-cases w closing zero p e = inr e
live-cases w closing (suc k) p e = go (carries w k p) refl e (λ h. live-cases w closing k p h)
  where
    go : (t : Bool) → carries w k p ≡ t → (t || live w closing k p) ≡ true →
        (live w closing k p ≡ true → ((n : ℕ) × (n < k) × (carries w n p ≡ true)) ⊎ (closing p ≡ true)) →
        ((n : ℕ) × (n < suc k) × (carries w n p ≡ true)) ⊎ (closing p ≡ true)
    go true d q rec = inl (k, omega arith, d)
    go false d q rec = by (rec q)
      where
        by : ((n : ℕ) × (n < k) × (carries w n p ≡ true)) ⊎ (closing p ≡ true) → ((n : ℕ) × (n < suc k) × (carries w n p ≡ true)) ⊎ (closing p ≡ true)
        by (inl f) = inl (f.0, omega (arith, f.1), f.2)
        by (inr f) = inr f

owned_live : {own : ℕ → Page → Bool} {closing : Page → Bool} {N C : ℕ} {st : Store} → tally (above st.last) st.blocks ≡ 0 → Owners own closing N C st →
    Owned (live (view st) closing N) own (N + C) st.blocks
owned_live {own} {closing} {N} {C} {st} within h =
    record {
      owner = λ i q p d e. owner p (page_within st.last st.blocks within i q p d) (live-cases (view st) closing N p e);
      owned = λ n l p
          e. owned n l p e (le_or N n);
    }
  where
    owner : (p : Page) → sequence p ≤ st.last → ((n : ℕ) × (n < N) × (carries (view st) n p ≡ true)) ⊎ (closing p ≡ true) → (n : ℕ) × (n < N + C) ×
        (own n p ≡ true)
    owner p w (inl f) = (f.0, omega (arith, f.1), h.nodes f.0 f.1 p ∙ f.2)
    owner p w (inr f) = let x = h.checkpoint_pages p w f in (x.0, x.2, x.3)

    owned : (n : ℕ) → n < N + C → (p : Page) → own n p ≡ true → (N ≤ n) ⊎ (n < N) → live (view st) closing N p ≡ true
    owned n l p e (inr g) = live-carries (view st) closing N p n g (sym (h.nodes n g p) ∙ e)
    owned n l p e (inl g) = live_closing (view st) closing N p (h.checkpoint_page n g l p e)

module _ {image : Page → List ℕ} {own : ℕ → Page → Bool} {closing : Page → Bool} {w : World} {st : Store} (written : Images image)
    (small : w.state.blocks ≤ 64)
    (v : Invariant w.state.blocks w.state.nodes closing st) (h : Mirrors image own closing w st) where
  pub found-place : Allocated image own w (spot 32 (live (view st) closing w.state.nodes) st.blocks st.current) (allocate w)
  found-place =
      subst (λ (c : ℕ). Allocated image own w (spot 32 (live (view st) closing w.state.nodes) st.blocks c) (allocate w)) h.current
      (allocate-is image written own (live (view st) closing w.state.nodes) w.pages w.table w.state st.blocks small
      (record {
        pages = h.pages;
        names = h.names;
        current = refl;
        fill = h.fill ∙ ap (λ (c : ℕ). length (block st.blocks c)) (sym h.current);
      })
      (owned_live v.rules.within h.owners)
      (omega (arith, h.current, v.rules.inside))
      v.rules.spare
      (λ e. subst
      (λ (c : ℕ). Moves st.blocks (Model.victim (live (view st) closing w.state.nodes) st.blocks) (Model.next_blank st.blocks c) ×
      (count (live (view st) closing w.state.nodes) (block st.blocks (Model.victim (live (view st) closing w.state.nodes) st.blocks)) < 32))
      (sym h.current)
      (spot_moves (live (view st) closing w.state.nodes) v.rules (live-fits v) e)))

  -- THE PLACE FOUND is the model's: the world that the code leaves stands for the store that the model leaves.
  pub allocate_mirrors : Mirrors image own closing (allocate w) (found closing w.state.nodes st)
  unfolding found carries
  allocate_mirrors =
      record {
        pages = a.stands.pages;
        names = a.stands.names;
        owners = subst (λ (n : ℕ). Owners own closing n (allocate w).state.checkpoint st') (sym a.kept.nodes)
            (subst (λ (n : ℕ). Owners own closing w.state.nodes n st') (sym a.kept.checkpoint) owners);
        rows = subst (λ (n : ℕ). RowsSay n (allocate w).table.rows st') (sym a.kept.nodes) rows;
        current = a.stands.current;
        fill = a.stands.fill;
        last = a.kept.last ∙ h.last;
      }
    where
      st' : Store
      st' = found closing w.state.nodes st

      a : Allocated image own w (spot 32 (live (view st) closing w.state.nodes) st.blocks st.current) (allocate w)
      a = found-place

      owners : Owners own closing w.state.nodes w.state.checkpoint st'
      owners =
          record {
            nodes = λ n l p. h.owners.nodes n l p ∙ ap (λ (u : ℕ). not (empty (pieces_in n u (items_of p)))) (sym (found_same v n l).greatest);
            checkpoint_page = h.owners.checkpoint_page;
            checkpoint_pages = h.owners.checkpoint_pages;
          }

      row : (n : ℕ) → n < w.state.nodes → (g : ℕ → ℕ) × (row_at (allocate w).table.rows n ≡ mapped g (row_at w.table.rows n))
      row n l = a.kept.rows n (omega arith)

      rows : RowsSay w.state.nodes (allocate w).table.rows st'
      rows =
          record {
            version = λ n l. ap (λ (x : Row). x.version) (row n l).1 ∙ h.rows.version n l ∙ sym (found_same v n l).greatest;
            mode = λ n l. subst (λ (x : Row). RowMode x.mode st' n) (sym (row n l).1)
                (found_row_mode v n l (row_at w.table.rows n).mode (h.rows.mode n l));
            pages = λ n l. ap (λ (x : Row). x.pages) (row n l).1 ∙ h.rows.pages n l ∙ sym (found_same v n l).pages;
          }
