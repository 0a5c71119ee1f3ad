-- Two batches with the same pool and buffers, which ask for the same room: a relation that holds of equal ends, and of both ends where the pool opens,
-- holds of the ends of both calls. Assumes nothing.
use Rattle.std.specs.Prelude.{◌≡◌, Bool, true, false, List, [], ◌++◌, ℕ, eqb, Some}
use Rattle.std.proofs.Math.Path.{refl}
use Rattle.laws.specs.Tests.{choose}
use Rattle.account.specs.declared.Tariff.{Tariff}
use Rattle.command.specs.declared.Command.{Command}
use Rattle.command.specs.Batch.{commands_of, room_for_all}
use Rattle.model.specs.State.{State}
use Rattle.model.specs.Mount.{Mounted, refused, opened}
use Rattle.model.specs.Pool.{blocks_of, mount_of}
use Rattle.model.specs.Questions.{first_no, of_buffers, of_pool}
use Rattle.model.specs.Outcome.{Outcome, refuse, work_by, accept, done}
use Rattle.model.specs.Call.{outcome, batch_of}

module _ (R : Outcome → Outcome → Type 0) (alike : (o : Outcome) → R o o) (pool table buffer : List ℕ) (cs ds : List Command)
    (room : room_for_all cs ≡ room_for_all ds)
    (accepts : (t : Tariff) (s : State) → R (accept (blocks_of pool) t cs s table buffer) (accept (blocks_of pool) t ds s table buffer)) where
  abbrev end_of : ℕ → Bool → Mounted → List Command → Outcome
  end_of n b m xs = choose b (done (work_by (Some xs) m) pool table buffer) (refuse n pool table buffer)

  ends : (n : ℕ) (b : Bool) (m : Mounted) → R (end_of n b m cs) (end_of n b m ds)
  ends n true (refused k) = alike (refuse 0 pool table buffer)
  ends n true (opened t s) = accepts t s
  ends n false m = alike (refuse n pool table buffer)

  module _ (bytes bytes' : List ℕ) (e : commands_of bytes ≡ Some cs) (f : commands_of bytes' ≡ Some ds) where
    asked : of_buffers pool table bytes buffer ≡ of_buffers pool table bytes' buffer
    unfolding of_buffers
    asked = rw (e, f, room) refl

    pub both_end : R (batch_of pool table bytes buffer) (batch_of pool table bytes' buffer)
    unfolding outcome
    both_end = let n = first_no (of_buffers pool table bytes' buffer ++ (of_pool pool ++ [])) in rw (asked, e, f) (ends n (eqb n 0) (mount_of pool))
