-- The tariff: what a request costs in each mode, and the switches (document 01, "Account", its first two sentences). Whatever is
-- said of a mode is said with the mode as a parameter. Assumes nothing.
use Rattle.std.specs.Prelude.{◌≡◌, Bool, true, false, ℕ, ◌+◌}
use Rattle.std.proofs.Common.{arith}
use Rattle.account.specs.declared.Mode.{Mode}
use Rattle.account.specs.declared.Mode.TheVariants.{Log, Disk}
use Rattle.account.specs.declared.Request.{Request}
use Rattle.account.specs.declared.Request.TheVariants.{Read, Edit, Rewrite}
use Rattle.account.specs.declared.Costs.{Costs}
use Rattle.account.specs.declared.Tariff.{Tariff}

-- The other mode: the one that a node is not in.
abbrev pub other : Mode → Mode
other Log = Disk
other Disk = Log

-- Whether two modes are not the same.
abbrev pub differ : Mode → Mode → Bool
differ Log Log = false
differ Log Disk = true
differ Disk Log = true
differ Disk Disk = false

-- The costs of a mode.
abbrev pub costs : Tariff → Mode → Costs
costs t Log = t.log
costs t Disk = t.disk

-- What a request costs by a mode's costs: one number for reads, one for edits, one for rewrites.
abbrev pub cost_of : Costs → Request → ℕ
cost_of c Read = c.read
cost_of c Edit = c.edit
cost_of c Rewrite = c.rewrite

-- What a request costs in a mode.
abbrev pub cost : Tariff → Mode → Request → ℕ
cost t m q = cost_of (costs t m) q

-- What it costs to switch into a mode.
abbrev pub switch_to : Tariff → Mode → ℕ
switch_to t m = (costs t m).enter

-- The limit T of scores: both switches together.
abbrev pub limit : Tariff → ℕ
limit t = switch_to t Disk + switch_to t Log

-- It is that from either mode.
pub limit-both : (t : Tariff) (m : Mode) → limit t ≡ switch_to t m + switch_to t (other m)
limit-both t Log = omega arith
limit-both t Disk = omega arith

-- The tariff from its eight numbers, in document 01's order: read, edit and rewrite in log mode, the three in disk mode, then what
-- it costs to switch to disk, and to log.
abbrev pub tariff_of : ℕ → ℕ → ℕ → ℕ → ℕ → ℕ → ℕ → ℕ → Tariff
tariff_of log_read log_edit log_rewrite disk_read disk_edit disk_rewrite to_disk to_log =
    record {
      log = record { read = log_read; edit = log_edit; rewrite = log_rewrite; enter = to_log };
      disk = record { read = disk_read; edit = disk_edit; rewrite = disk_rewrite; enter = to_disk };
    }
