-- What a batch remembers from one command to the next, beside the book: the current panel (document 02, P2), and the tariff that charges go by. Every
-- fold over the commands of a batch carries it, and every command may ask it. Assumes nothing.
use Rattle.std.specs.Prelude.{ℕ}
use Rattle.account.specs.declared.Tariff.{Tariff}

pub record Session : Type 0 where
  pub panel : ℕ
  pub tariff : Tariff

-- "A batch begins at panel 0", with the tariff of its pool.
abbrev pub at_first : Tariff → Session
at_first t = record { panel = 0; tariff = t }

-- The same but for the current panel.
abbrev pub with_panel : ℕ → Session → Session
with_panel panel n = record { panel = panel; tariff = n.tariff }
