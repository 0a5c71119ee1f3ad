-- A WHOLE CONTENT written, in either mode: the code follows the store, and the run can be written on. Assumes nothing.
use Rattle.std.specs.Prelude.{◌≡◌, ℕ, suc, ◌+◌, ◌≤◌, ◌<◌}
use Rattle.std.proofs.Math.Path.{refl}
use Rattle.std.proofs.Common.{◌∙◌, arith}
use Rattle.std.proofs.Math.ListN.{length}
use Rattle.layout.specs.Layout.{node_limit, bound32}
use Rattle.account.specs.declared.Mode.{Mode}
use Rattle.account.specs.declared.Mode.TheVariants.{Log, Disk}
use Rattle.node.specs.Node.{Node, Neat}
use Rattle.node.specs.Change.{changes_of}
use Rattle.node.specs.Narrow.{Narrow}
use Rattle.page.specs.Limits.{bound16}
use Rattle.store.specs.Live.{no_checkpoint}
use Rattle.store.specs.Write.{node_page}
use Rattle.store.specs.Run.{Run, write, write_group, write_node}
use Rattle.store_laws.specs.Contents.{neat_fits}
use Rattle.store_laws.proofs.Good.{make_room-roomy, write_group-done, write_node-done}
use Rattle.store_laws.proofs.Keeps.{write_group-nodes}
use Rattle.store_laws.proofs.Numbers.{make_room-last, write-last, write_group-last}
use Rattle.store_laws.specs.StoreFits.{StoreFits}
use Rattle.store_laws.proofs.WriteFits.{changes_of_fit, start_fits, node_page-fits}
use Rattle.flash_allocate.specs.World.{World}
use Rattle.flash_refines.specs.Store.Follows.{Follows, Writable}
use Rattle.flash_refines.specs.Write.Requests.{room_writable, group_follows}
use Rattle.flash_refines.specs.Write.NodePages.{node_page_follows}
use Rattle.run_serve.specs.Write.{write_whole}

-- The store's writes of a whole content, by mode.
abbrev pub whole_run : Mode → ℕ → Node → Run → Run
whole_run Log n x run = write_group n x run
whole_run Disk n x run = write_node n x run

-- What one leaves: a run to be written on, with the same nodes, that took at most two sequence numbers.
pub record Stays (B : ℕ) (run run' : Run) : Type 0 where
  pub writable : Writable B run'
  pub nodes : run'.nodes ≡ run.nodes
  pub last : run'.now.last ≤ 2 + run.now.last

pub stays : {B : ℕ} {run : Run} → Writable B run → Stays B run run
stays b = record { writable = b; nodes = refl; last = omega arith }

module _ {B : ℕ} {run : Run} (b : Writable B run) (n : ℕ) (there : n < run.nodes) (x : Node) (neat : Neat x) (number : 2 + run.now.last < bound32) where
  -- THE CODE FOLLOWS
  pub whole_follows : {score : ℕ → ℕ} {w : World} → Follows score w run → (m : Mode) → Follows score (write_whole m n x w) (whole_run m n x run)
  whole_follows f Log = group_follows b f x (neat_fits x neat) number n there
  whole_follows f Disk = node_page_follows b (omega arith) f n there x

  -- THE RUN can be written on, where the content has 32-bit numbers.
  module _ (narrow : Narrow x) where
    limit : run.nodes ≤ node_limit B
    limit = b.good.invariant.nodes

    id : n < bound16
    id = omega (arith, limit, b.few)

    group-fits : StoreFits (write_group n x run).now
    unfolding write_group
    group-fits =
        let k = length (changes_of x) in
        let room = room_writable b k (neat_fits x neat) (omega arith) in
        start_fits room.fits n id (changes_of x) (changes_of_fit x narrow) (make_room-roomy b.good k (neat_fits x neat)).fits
        (omega (arith, make_room-last k run))

    page_fits : StoreFits (write_node n x run).now
    unfolding write node_page
    page_fits = node_page-fits b.fits (omega arith) no_checkpoint run.nodes n id x narrow neat.size

    page_nodes : (write_node n x run).nodes ≡ run.nodes
    unfolding write
    page_nodes = refl

    page_last : (write_node n x run).now.last ≡ suc run.now.last
    page_last = write-last _ _ _ run

    pub whole_stays : (m : Mode) → Stays B run (whole_run m n x run)
    whole_stays Log =
        record {
          writable =
              record {
                few = b.few;
                good = (write_group-done b.good n x (neat_fits x neat) (omega arith) (omega (arith, limit))).good;
                fits = group-fits;
              };
          nodes = write_group-nodes n x run ∙ omega arith;
          last = write_group-last n x run;
        }
    whole_stays Disk =
        record {
          writable = record { few = b.few; good = (write_node-done b.good n x there).good; fits = page_fits };
          nodes = page_nodes;
          last = omega (arith, page_last);
        }
