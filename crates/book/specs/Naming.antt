-- Which commands name a panel (document 02, P2): a command sets the current panel, or it keeps it and does the same whichever that is. Assumes nothing.
use Rattle.std.specs.Prelude.{◌≡◌, ℕ}
use Rattle.command.specs.declared.Command.{Command}
use Rattle.command.specs.declared.Command.TheVariants.{Panel}
use Rattle.command.specs.Batch.{named}
use Rattle.book.specs.Session.{Session, with_panel}
use Rattle.book.specs.Command.{task_of}
use Rattle.book.specs.SessionAfter.{panel_after}

pub data Naming (c : Command) : Type 0 where
  sets : (panel : ℕ) → c ≡ Panel panel → Naming c
  keeps : named c ≡ 0 → ((n : Session) → panel_after n c ≡ n.panel) → ((q : ℕ) (n : Session) → task_of (with_panel q n) c ≡ task_of n c) → Naming c
