-- SWEEP (document 01, command 04): "reads the nodes from root to leaf, a sweep then leaf after leaf by links". Assumes nothing.
use Rattle.std.specs.Prelude.{◌≡◌, refl, true, false, ℕ, ◌+◌, ◌*◌, ◌≤◌, ◌<◌, ltb, length}
use Rattle.std.proofs.Math.Path.{sym, ap₂}
use Rattle.std.proofs.Common.{ap, ◌∙◌, arith, lt-ltb, le-ltb}
use mathlib.Core.List.{List, []}
use Rattle.std.proofs.Math.ListN.{take}
use Rattle.account.specs.declared.Tariff.{Tariff}
use Rattle.layout.specs.Layout.{node_limit, most_blocks}
use Rattle.pairs.specs.Pairs.{Pair}
use Rattle.tree.specs.Scan.{pairs_from, leaves_after}
use Rattle.flash_rows.specs.Worktable.{Worktable}
use Rattle.flash_allocate.specs.World.{World, world, Good, Kept}
use Rattle.flash_allocate.specs.declared.state.State.{State}
use Rattle.flash_allocate.specs.declared.flash.Flash.{Flash}
use Rattle.flash_allocate.specs.Flash.{world_of}
use Rattle.run_serve.specs.Step.{Charged, InBytes, ChargedAs, kept_same, kept_then, charged-none, charged-is, both, then}
use Rattle.run_path.specs.Path.{table_in}
use Rattle.run_path.specs.Reads.{read_all, read_charges, ReadAs}
use Rattle.run_path.specs.Descend.{Descent, descent, Arrived, DescendedAs}
use Rattle.run_scan.specs.declared.Pairs.{Pairs}
use Rattle.run_scan.specs.declared.gather.Gathered.{Gathered}
use Rattle.run_scan.specs.declared.scan.Scanned as code
use Rattle.run_scan.specs.Pairs.{pairs_of, Sized}
use Rattle.run_scan.specs.Gathered.{GatheredFrom}

-- From the leaf that the walk down to the low key ends at, in the world after the walk: the pairs found, and the leaves read behind it, by links.
abbrev pub pairs_along : ℕ → ℕ → ℕ → Descent → List Pair
pairs_along low high most d = pairs_from d.now.state.nodes (table_in d.now) low high most d.leaf

abbrev pub leaves_along : ℕ → ℕ → ℕ → Descent → List ℕ
leaves_along low high most d = leaves_after d.now.state.nodes (table_in d.now) low high most d.leaf

-- The world after the walk and these reads, and their charge; "low above high: no node read".
unfoldable pub scan_world : Tariff → ℕ → ℕ → ℕ → World → World
scan_world t low high most w =
    elim (ltb high low) [
      | true ↦ w
      | false ↦ read_all t (leaves_along low high most (descent t low w)) (descent t low w).now
    ]

unfoldable pub scan_charge : Tariff → ℕ → ℕ → ℕ → World → ℕ
scan_charge t low high most w =
    elim (ltb high low) [
      | true ↦ 0
      | false ↦ (descent t low w).charge + read_charges t (leaves_along low high most (descent t low w)) (descent t low w).now
    ]

-- The pairs that it finds; "low above high: an empty list".
unfoldable pub scan_pairs : Tariff → ℕ → ℕ → ℕ → World → List Pair
scan_pairs t low high most w = elim (ltb high low) [ true ↦ [] | false ↦ pairs_along low high most (descent t low w) ]

-- What the code of a scan answers, with the state that it leaves.
pub record Scanned : Type 0 where
  pub charged : Charged
  pub pairs : Pairs

abbrev pub scanned_in : State → code.Scanned → Scanned
scanned_in s r = record { charged = record { state = s; charge = r.charge }; pairs = r.pairs }

-- What the code of a scan leaves: this world, this charge and these pairs, and room for as many ids as before.
pub record ScannedAs (pool_length table_length : ℕ) (pages : List (List ℕ)) (table : Worktable) (ids : List ℕ) (r : Scanned) (t : Tariff)
    (low high wanted : ℕ) (w : World) : Type 0 where
  pub charged : ChargedAs Kept pool_length table_length pages table r.charged w.state (2 * node_limit most_blocks) (scan_world t low high wanted w)
      (scan_charge t low high wanted w)
  pub pairs : pairs_of r.pairs ≡ scan_pairs t low high wanted w
  pub sized : Sized r.pairs
  pub count : r.pairs.count ≤ wanted
  pub room : length ids ≡ node_limit most_blocks

-- The same said of lent buffers and their state.
abbrev pub Scans : Flash → Flash → List ℕ → code.Scanned → Tariff → ℕ → ℕ → ℕ → Type 0
Scans before behind ids r t low high wanted =
    InBytes ScannedAs behind.pool.now behind.table.now ids (scanned_in behind.state r) t low high wanted (world_of before)

module _ (t : Tariff) (low high most : ℕ) (w : World) where
  -- low above high
  pub scanned_none : {P T : ℕ} (p : Pairs) (ids : List ℕ) → high < low → Good P T w.state → pairs_of p ≡ [] → Sized p → p.count ≤ most →
      length ids ≡ node_limit most_blocks →
      ScannedAs P T w.pages w.table ids (record { charged = record { state = w.state; charge = 0 }; pairs = p }) t low high most w
  unfolding scan_world scan_charge scan_pairs
  scanned_none p ids l g e s f room =
      record {
        charged =
            charged-is (charged-none w (kept_same w g)) (omega arith) (sym (rw (lt-ltb high low l, scan_world) refl))
            (sym (rw (lt-ltb high low l, scan_charge) refl));
        pairs = e ∙ sym (rw (lt-ltb high low l, scan_pairs) refl);
        sized = s;
        count = f;
        room = room;
      }

  -- the walk down, then the leaves behind the one that it ends at
  module _ {P T P' T' : ℕ} {pages pages' : List (List ℕ)} {table table' : Worktable} {walk : Arrived} {d : Charged} {ids : List ℕ} {g : Gathered} where
    pub scanned : low ≤ high → w.state.nodes ≤ node_limit most_blocks → DescendedAs P T pages table walk t low w →
        GatheredFrom walk.id (table_in (world pages table walk.charged.state)) walk.charged.state.nodes low high most ids g →
        ReadAs P' T' pages' table' d t g.visited (take g.visited ids) (world pages table walk.charged.state) →
        ScannedAs P' T' pages' table' ids (record { charged = both walk.charged d; pairs = g.pairs }) t low high most w
    unfolding scan_world scan_charge scan_pairs
    scanned l limit down gathered along =
        let ns = take g.visited ids in
        let is : world pages table walk.charged.state ≡ (descent t low w).now = down.charged.kept.is in
        let read : ns ≡ leaves_along low high most (descent t low w) =
        gathered.leaves ∙
        ap₂ (λ (z : World) (leaf : ℕ). leaves_after z.state.nodes (table_in z) low high most leaf) is down.id in
        let found : pairs_of g.pairs ≡ pairs_along low high most (descent t low w) =
        gathered.pairs ∙
        ap₂ (λ (z : World) (leaf : ℕ). pairs_from z.state.nodes (table_in z) low high most leaf) is down.id in
        record {
          charged =
              charged-is (then (read_all t ns) (read_charges t ns) (kept_then (read_all t ns)) down.charged along)
              (omega (arith, gathered.few, down.charged.kept.nodes, limit))
              (ap (λ (ns : List ℕ). read_all t ns (descent t low w).now) read ∙ sym (rw (le-ltb high low l, scan_world) refl))
              (ap (λ (ns : List ℕ). (descent t low w).charge + read_charges t ns (descent t low w).now) read ∙
              sym (rw (le-ltb high low l, scan_charge) refl));
          pairs = found ∙ sym (rw (le-ltb high low l, scan_pairs) refl);
          sized = gathered.sized;
          count = gathered.wanted;
          room = gathered.room;
        }
