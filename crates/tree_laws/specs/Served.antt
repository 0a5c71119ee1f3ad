-- What every command's requests keep: the store can take each, and the table after them is sound and spells a map. Assumes
-- nothing.
use Rattle.std.specs.Prelude.{◌≡◌, refl, List, [], ◌∷◌, map, ℕ, ◌≤◌, ◌<◌}
use Rattle.laws.specs.Every.{Every}
use Rattle.pairs.specs.Pairs.{Pair}
use Rattle.tree.specs.Table.{Table}
use Rattle.tree.specs.NodeRequest.{NodeRequest, read, apply_all, count_after_all}
use Rattle.tree.specs.Fit.{Fits}
use Rattle.tree.specs.Spells.{Spells}
use Rattle.tree_laws.specs.Requests.{apply_all-reads, fits-reads}

-- Requests on a table with a count, and the map that is spelled after them; the limit is kept.
pub record Served (limit : ℕ) (table : Table) (count : ℕ) (rs : List NodeRequest) (pairs : List Pair) : Type 0 where
  pub kept : count_after_all rs count ≤ limit
  pub fits : Fits limit rs table count (count_after_all rs count)
  pub spells : Spells (apply_all rs table) (count_after_all rs count) pairs

pub count-reads : (ids : List ℕ) (count : ℕ) → count_after_all (map read ids) count ≡ count
count-reads [] count = refl
count-reads (i ∷ ids) count = count-reads ids count

-- Reads leave the table and what it spells.
pub served-reads : (limit : ℕ) (table : Table) (count : ℕ) (pairs : List Pair) (ids : List ℕ) → count ≤ limit → Spells table count pairs →
    Every (λ i. i < count) ids → Served limit table count (map read ids) pairs
served-reads limit table count pairs ids l s e =
    record {
      kept = rw (count-reads ids count) l;
      fits = rw (count-reads ids count) (fits-reads limit ids table count e);
      spells = rw (count-reads ids count, apply_all-reads ids table) s;
    }
