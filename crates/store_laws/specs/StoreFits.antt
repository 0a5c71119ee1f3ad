-- A store that can stand in bytes: every page is within its limits, and so would be the page that the buffer is to be. A page that is
-- placed keeps it so, wherever it goes and whatever is compacted for it: pages are moved or erased, and none is changed. Assumes nothing.
use Rattle.std.specs.Prelude.{Bool, true, false, List, [], ◌∷◌, ◌++◌, ℕ, zero, suc, ◌≤◌, ◌<◌, leb, ltb, length, set, take}
use Rattle.std.proofs.Common.{arith}
use Rattle.laws.specs.Every.{Every, none, both, every_append, every_map, every_weaken, every_take, every_set, every-filter, every_in}
use Rattle.laws.specs.Counts.{count, filter}
use Rattle.layout.specs.Layout.{pages_in_block, most_entries, bound32}
use Rattle.page.specs.Page.{Entry, Content, Page}
use Rattle.page.specs.Limits.{EntryFits, Fits, PageFits}
use Rattle.store.specs.Pool.{Blocks, block}
use Rattle.store.specs.Live.{live}
use Rattle.store.specs.Allocate.{blanks, next_blank, victim, copied, compact, spot_by, spot}
use Rattle.store.specs.Store.{Store, view}
use Rattle.store.specs.Write.{found, next, place}
use Rattle.store.specs.Run.{Moment, Run, moment, copying, one_to, copies_by, copies, written, write}

abbrev pub BlocksFit : Blocks → Type 0
BlocksFit = Every (Every PageFits)

-- Every page keeps to the limits of its fields; every entry that waits in the buffer may stand on the page of the next number, and there
-- are no more of them than a page takes; and the last number taken has 32 bits.
pub record StoreFits (st : Store) : Type 0 where
  pub pages : BlocksFit st.blocks
  pub entries : Every (EntryFits (suc st.last)) st.buffer
  pub few : length st.buffer ≤ most_entries
  pub last : st.last < bound32

-- A run all of whose states are so, the ones passed too: "after every page written".
abbrev pub MomentFits : Moment → Type 0
MomentFits m = StoreFits m.state

pub record RunFits (run : Run) : Type 0 where
  pub now : StoreFits run.now
  pub passed : Every MomentFits run.passed

-- An entry that may stand on a page may stand on any later one.
pub later-entries : {s s' : ℕ} {es : List Entry} → s ≤ s' → Every (EntryFits s) es → Every (EntryFits s') es
later-entries l =
    every_weaken (λ e f. record { id = f.id; from = f.from; below = omega (arith, f.below, l); change = f.change })

-- Where a page goes: the blocks as they are, or compacted.
module _ {bs : Blocks} (fit : BlocksFit bs) (keep : Page → Bool) where
  pub compact-fits : (from to : ℕ) → BlocksFit (compact keep bs from to)
  compact-fits from to =
      every_set (copied keep bs from to) from [] none
      (every_set bs to (filter keep (block bs from)) (every-filter keep (block bs from) (every_in bs from fit)) fit)

  copied-fits : (from to q : ℕ) → BlocksFit (set bs to (take q (filter keep (block bs from))))
  copied-fits from to q =
      every_set bs to (take q (filter keep (block bs from)))
      (every_take q (filter keep (block bs from)) (every-filter keep (block bs from) (every_in bs from fit))) fit

  spot_by-fits : (room two : Bool) (current : ℕ) → BlocksFit (spot_by room two keep bs current).blocks
  spot_by-fits true two current = fit
  spot_by-fits false true current = fit
  spot_by-fits false false current = compact-fits (victim keep bs) (next_blank bs current)

module _ {st : Store} (h : StoreFits st) (closing : Page → Bool) (nodes : ℕ) where
  abbrev keep : Page → Bool
  keep = live (view st) closing nodes

  pub found-fits : BlocksFit (found closing nodes st).blocks
  unfolding found spot
  found-fits =
      spot_by-fits h.pages keep (ltb (length (block st.blocks st.current)) pages_in_block) (leb 2 (blanks st.blocks)) st.current

  -- A PAGE IS PLACED, and the buffer is `rest` afterwards.
  pub place-fits : (c : Content) (rest : List Entry) → Fits (suc st.last) c → Every (EntryFits (suc (suc st.last))) rest →
      length rest ≤ most_entries → StoreFits (place closing nodes c rest st)
  unfolding place
  place-fits c rest p e l =
      let bs = (found closing nodes st).blocks in
      let at = (found closing nodes st).current in
      record {
        pages =
            every_set bs at (block bs at ++ (next st c ∷ [])) (every_append (every_in bs at found-fits) (both {x = next st c} p none))
            found-fits;
        entries = e;
        few = l;
        last = p.below;
      }

  -- Each state of a compaction: a page more has been copied.
  pub copying-fits : (from to q : ℕ) → StoreFits (copying keep st from to q)
  copying-fits from to q =
      record { pages = copied-fits h.pages keep from to q; entries = h.entries; few = h.few; last = h.last }

  every-one_to : (f : ℕ → Store) (k : ℕ) → ((q : ℕ) → StoreFits (f q)) → Every StoreFits (one_to f k)
  every-one_to f zero e = none
  every-one_to f (suc k) e = every_append (every-one_to f k e) (both (e (suc k)) none)

  pub copies-fits : Every StoreFits (copies closing nodes st)
  copies-fits = go (ltb (length (block st.blocks st.current)) pages_in_block) (leb 2 (blanks st.blocks))
    where
      go : (room two : Bool) → Every StoreFits (copies_by room two keep st)
      go true two = none
      go false true = none
      go false false =
          let from = victim keep st.blocks in
          let to = next_blank st.blocks st.current in
          every-one_to (copying keep st from to) (count keep (block st.blocks from)) (copying-fits from to)

-- A page written in a run.
pub write-fits : {run : Run} (h : RunFits run) (closing : Page → Bool) (c : Content) (rest : List Entry) → Fits (suc run.now.last) c →
    Every (EntryFits (suc (suc run.now.last))) rest → length rest ≤ most_entries → RunFits (write closing c rest run)
unfolding write written
write-fits {run} h closing c rest p e l =
    let after = place-fits h.now closing run.nodes c rest p e l in
    record {
      now = after;
      passed =
          every_append h.passed
          (every_map (moment run.nodes) (every_append (copies-fits h.now closing run.nodes) (both after none)));
    }
