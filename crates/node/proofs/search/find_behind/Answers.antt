-- `node::search::find_behind` meets its contract: behind the last key, or found as in a replay. Assumes nothing.
use Rattle.std.proofs.Common.{◌≡◌, ℕ, ◌-◌, ◌<◌, get_or, List, Err, sym, subst, arith}
use Rattle.node.specs.FoundIn.{FoundIn, found_in_above}
use Rattle.node.proofs.search.find_behind.Goals as goal
use Rattle.node.proofs.search.find_behind.Goals.{then-count-eq0-via-then-count-eq0, then-count-eq0-via-else-count-eq0+then-keys-count}

-- The place behind all keys, whatever it was worked out from.
behind : (keys : List ℕ) (count key place : ℕ) → place ≡ count → (0 < count → get_or keys (count - 1) 0 < key) → FoundIn keys count key (Err place)
behind keys count key place same below =
    subst (λ (n : ℕ). FoundIn keys count key (Err n)) (sym same) (found_in_above keys count key count (omega arith) below (λ z. omega arith))

pub returns-then-count-eq0 : goal.returns-then-count-eq0
returns-then-count-eq0 c =
    let a = c.args in
    elim c.then-count-eq0.branch [
      | then-count-eq0-via-then-count-eq0 w ↦ behind a.keys.now a.count a.key _ (omega arith) (λ z. omega arith)
      | then-count-eq0-via-else-count-eq0+then-keys-count w ↦ behind a.keys.now a.count a.key _ (omega arith) (λ z. w.if-keys-count.true)
    ]
