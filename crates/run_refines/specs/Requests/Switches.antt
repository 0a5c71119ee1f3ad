-- THE ACCOUNT SETTLED follows the store's switch, with the score that the account says. Assumes nothing.
use Rattle.std.specs.Prelude.{ℕ, ◌+◌, ◌<◌}
use Rattle.std.proofs.Common.{arith}
use Rattle.laws.specs.Update.{update}
use Rattle.layout.specs.Layout.{bound32}
use Rattle.account.specs.declared.Mode.{Mode}
use Rattle.account.specs.declared.Mode.TheVariants.{Log, Disk}
use Rattle.account.specs.declared.Account.{Account}
use Rattle.node.specs.Node.{Node, Neat}
use Rattle.node.specs.Narrow.{Narrow}
use Rattle.store.specs.Run.{Run}
use Rattle.store.specs.Serve as Store
use Rattle.flash_allocate.specs.World.{World}
use Rattle.flash_refines.specs.Store.Follows.{Follows, Writable}
use Rattle.run_serve.specs.Settle.{switch, settle_by}
use Rattle.run_refines.specs.Requests.Scores.{rescored_follows}
use Rattle.run_refines.specs.Requests.Writes.{Stays, stays, whole_follows, whole_stays}

module _ {B : ℕ} {run : Run} (b : Writable B run) (n : ℕ) (there : n < run.nodes) (x : Node) (neat : Neat x) (number : 2 + run.now.last < bound32) where
  pub switch_stays : Narrow x → (from to : Mode) → Stays B run (Store.switch from to n x run)
  switch_stays narrow Log Log = stays b
  switch_stays narrow Log Disk = whole_stays b n there x neat number narrow Disk
  switch_stays narrow Disk Log = whole_stays b n there x neat number narrow Log
  switch_stays narrow Disk Disk = stays b

  module _ {score : ℕ → ℕ} {w : World} (f : Follows score w run) where
    switch_follows : (from to : Mode) → Follows score (switch from to n x w) (Store.switch from to n x run)
    unfolding switch
    switch_follows Log Log = f
    switch_follows Log Disk = whole_follows b n there x neat number f Disk
    switch_follows Disk Log = whole_follows b n there x neat number f Log
    switch_follows Disk Disk = f

    pub settle_follows : Narrow x → (from : Mode) (after : Account) →
        Follows (update score n after.score) (settle_by from after n x w) (Store.switch from after.mode n x run)
    unfolding settle_by
    settle_follows narrow from after =
        rescored_follows (switch_follows from after.mode) n (omega (arith, (switch_stays narrow from after.mode).nodes)) after.score
