-- No row of the documents hides another. Assumes nothing.
use Rattle.std.specs.Prelude.{◌≡◌, refl, Some, map, eqb}
use Rattle.laws.specs.Counts.{count}
use Rattle.wire.specs.Tag.{Row, rows, find, length_of}

-- Each tag is counted once among the rows.
pub tags_differ : map (λ (r : Row). count (λ (s : Row). eqb s.tag r.tag) rows) rows ≡ map (λ (r : Row). 1) rows
unfolding rows
tags_differ = refl

-- So a tag asks for what its own row says.
pub rows-found : map (λ (r : Row). length_of r.tag) rows ≡ map (λ (r : Row). Some r.bytes) rows
unfolding length_of find rows
rows-found = refl
