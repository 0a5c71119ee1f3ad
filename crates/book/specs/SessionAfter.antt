-- The session after a command and its reply. Assumes nothing.
use Rattle.std.specs.Prelude.{ℕ}
use Rattle.command.specs.declared.Command.{Command}
use Rattle.book.specs.Session.{Session, with_panel}
use Rattle.book.specs.Command.{Reply, Task, looks, puts, deletes, names, task_of}

-- "Command 05 .. names the panel (0 to 15) for the commands after it."
abbrev pub current_after : Task → ℕ → ℕ
current_after (looks l) now = now
current_after (puts k v) now = now
current_after (deletes k) now = now
current_after (names panel) now = panel

abbrev pub panel_after : Session → Command → ℕ
panel_after n c = current_after (task_of n c) n.panel

abbrev pub session_after : Command → Reply → Session → Session
session_after c r n = with_panel (panel_after n c) n
