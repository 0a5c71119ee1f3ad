-- How many sequence numbers are taken. Assumes nothing.
use Rattle.std.specs.Prelude.{ℕ}
use Rattle.store.specs.Run.{Run}

abbrev pub last : Run → ℕ
last run = run.now.last
