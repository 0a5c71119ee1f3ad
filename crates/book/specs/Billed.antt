-- What each panel is charged for where panels take turns (document 02, P2 and P5), in the reference model. Assumes nothing.
use Rattle.std.specs.Prelude.{List, [], ◌∷◌, ℕ, ◌+◌, eqb}
use Rattle.laws.specs.Counts.{cons_if}
use Rattle.command.specs.declared.Command.{Command}
use Rattle.book.specs.Book.{Book}
use Rattle.book.specs.Command.{answer}
use Rattle.book.specs.Session.{Session, with_panel}
use Rattle.book.specs.SessionAfter.{session_after}
use Rattle.book.specs.Batch.{done_book, cost_book}

-- A bill: commands, each with what it costs. Which they are, and what they cost together.
abbrev pub bill_commands : List (Command × ℕ) → List Command
bill_commands [] = []
bill_commands (x ∷ xs) = x.0 ∷ bill_commands xs

abbrev pub bill_total : List (Command × ℕ) → ℕ
bill_total [] = 0
bill_total (x ∷ xs) = x.1 + bill_total xs

module _ (limit : ℕ) where
  -- "Each that of the panel's own commands" (P2), where the desk "serves one command from each queue" in turn (P5). A turn is a panel and its command;
  -- it is served with its panel current, on the book that the turns before it left. The bill of panel p: its own commands in their order, each with what
  -- all its node requests are charged then.
  abbrev pub billed : ℕ → List (ℕ × Command) → Session → Book → List (Command × ℕ)
  billed p [] n b = []
  billed p (x ∷ xs) n b =
      let m = with_panel x.0 n in
      cons_if (eqb p x.0) (x.1, cost_book limit m x.1 b)
      (billed p xs (session_after x.1 (answer limit m x.1 b) m) (done_book limit m x.1 b))
