-- A COMMAND'S NODE REQUESTS, served by the code one after another, agree with the model's command. Assumes nothing.
use Rattle.std.specs.Prelude.{◌≡◌, refl, List, [], ◌∷◌, map, ℕ, ◌+◌, ◌<◌}
use Rattle.std.proofs.Common.{ap, arith}
use Rattle.layout.specs.Layout.{node_limit, bound32}
use Rattle.pairs.specs.Pairs.{Pair}
use Rattle.account.specs.declared.Tariff.{Tariff}
use Rattle.command.specs.declared.Command.{Command}
use Rattle.tree.specs.NodeRequest.{read, count_after_all}
use Rattle.book.specs.Command.{requests}
use Rattle.book.specs.Session.{Session}
use Rattle.store.specs.Serve as Store
use Rattle.store_laws.specs.Numbers.{last}
use Rattle.model.specs.State.{State, book_of}
use Rattle.command.specs.Command.{Valid}
use Rattle.demands.specs.Commands.{does}
use Rattle.demands.specs.Run.{Holds}
use Rattle.demands.specs.NodesNarrow.{book_narrow}
use Rattle.demands.specs.CommandFits.{command_narrow}
use Rattle.demands.specs.RequestCount.{command_length}
use Rattle.demands.specs.BatchFits.{most_numbers}
use Rattle.flash_allocate.specs.World.{World}
use Rattle.run_serve.specs.Serve.{serve, charge}
use Rattle.run_path.specs.Reads.{read_all, read_charges}
use Rattle.run_refines.specs.Commands.Lists.{served_all, charged_all, Runs, Ran}
use Rattle.run_refines.proofs.Commands.Lists.{list_runs}

-- Reads are node requests like others.
pub reads-served : (t : Tariff) (ns : List ℕ) (w : World) → read_all t ns w ≡ served_all t (map read ns) w
reads-served t [] w = refl
reads-served t (n ∷ ns) w = reads-served t ns (serve t n Store.read w)

pub reads-charged : (t : Tariff) (ns : List ℕ) (w : World) → read_charges t ns w ≡ charged_all t (map read ns) w
reads-charged t [] w = refl
reads-charged t (n ∷ ns) w = ap (λ (k : ℕ). charge t n Store.read w + k) (reads-charged t ns (serve t n Store.read w))

module _ {blocks : ℕ} {w : World} {s : State} (k : Runs blocks w s) (ps : List Pair) (h : Holds (node_limit blocks) (book_of s) ps) where
  abbrev limit : ℕ
  limit = node_limit blocks

  -- THE REQUESTS OF A COMMAND
  pub command_runs : (n : Session) (c : Command) → Valid c → 1 + (most_numbers + last s.run) < bound32 →
      Ran blocks n.tariff (requests limit n c (book_of s)) w s
  command_runs n c valid number =
      let b = book_of s in
      let rs = requests limit n c b in
      let d = does limit (omega (arith, k.few)) b ps h.spells h.most n c valid in
      let l = command_length limit n c b ps h.spells (omega (arith, h.most, k.few)) valid in
      list_runs n.tariff rs (count_after_all rs b.count) k d.served.fits
      (command_narrow limit b ps h.spells (omega (arith, h.most, k.few)) (book_narrow s k.fits.now) n c valid)
      (omega (arith, l, h.most, k.few))
