-- The session of a batch that runs: what the code holds by value, as `book` means it; at first, and after a command. A field more is a line more here,
-- and a stretch of commands knows none by name but the panel and the tariff. Assumes nothing.
use Rattle.std.specs.Prelude.{ℕ}
use Rattle.account.specs.declared.Tariff.{Tariff}
use Rattle.command.specs.declared.Command.{Command}
use Rattle.book.specs.Session.{Session}
use Rattle.book.specs.SessionAfter.{panel_after}
use Rattle.flash_allocate.specs.declared.state.State.{State}
use Rattle.run.specs.declared.Session.{Session as Held}
use Rattle.run.specs.declared.Ran as code

abbrev pub session_of : Held → Session
session_of h = record { panel = h.panel; tariff = h.tariff }

abbrev pub held_first : Tariff → Held
held_first t = record { panel = 0; tariff = t }

-- The same but for the current panel.
abbrev pub held_with : ℕ → Held → Held
held_with panel h = record { panel = panel; tariff = h.tariff }

abbrev pub held_after : Command → Held → Held
held_after c h = held_with (panel_after (session_of h) c) h

-- Where a batch stands: the state, the session, and how many bytes of answers are laid.
pub record Ran : Type 0 where
  pub state : State
  pub session : Held
  pub at : ℕ

abbrev pub ran_in : State → code.Ran → Ran
ran_in s r = record { state = s; session = r.session; at = r.at }

-- The session at a place.
abbrev pub session_at : Ran → Session
session_at here = session_of here.session
