use Rattle.std.proofs.Common.{◌≡◌, List, ℕ, Bool, ◌+◌, ◌*◌, ◌-◌}
use Rattle.std.specs.Fn.{FnReturnsAt}
use Rattle.page.specs.Decode.{run}
use Rattle.page_read.proofs.field.count_fields.Given as goal

abbrev pub invariant-loop-n : goal.invariant-loop-n
invariant-loop-n g l = record {
  place : l.at ≡ l.from + l.size * l.n;
  so_far : (test : List ℕ → Bool) → ((p : List ℕ) (r : Bool) → FnReturnsAt g.F.Fn l.passes p r → r ≡ test p) →
      l.n + run test l.tag l.size (l.most - l.n) l.page l.at ≡ run test l.tag l.size l.most l.page l.from;
}
