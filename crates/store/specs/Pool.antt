-- The pool as blocks of written pages, and a page found by its sequence number. A block is the list of its written pages, in
-- order: that "in a block blank pages follow written ones" is then no rule, but the type. Assumes nothing.
use Rattle.std.specs.Prelude.{Bool, List, [], ◌∷◌, ◌++◌, ℕ, eqb, ltb, get_or, set, Option, None, Some}
use Rattle.laws.specs.Tests.{choose}
use Rattle.page.specs.Page.{Page, sequence}
use Rattle.store.specs.Item.{Item, items_of}

abbrev pub Blocks : Type 0
Blocks = List (List Page)

-- The pages of one block; of a block beyond the pool, none.
abbrev pub block : Blocks → ℕ → List Page
block bs i = get_or bs i []

-- A page has this sequence number; or one above it.
abbrev pub numbered : ℕ → Page → Bool
numbered s p = eqb (sequence p) s

unfoldable pub above : ℕ → Page → Bool
above s p = ltb s (sequence p)

-- The page of a sequence number, in a block and in the pool.
abbrev pub page_in : ℕ → List Page → Option Page
page_in s [] = None
page_in s (p ∷ ps) = choose (numbered s p) (Some p) (page_in s ps)

abbrev pub or_else : Option Page → Option Page → Option Page
or_else None q = q
or_else (Some p) q = Some p

abbrev pub find : ℕ → Blocks → Option Page
find s [] = None
find s (b ∷ bs) = or_else (page_in s b) (find s bs)

abbrev pub items_at : Option Page → List Item
items_at None = []
items_at (Some p) = items_of p

-- One page more in a block: "each block fills from its first page up".
abbrev pub add_to : Blocks → ℕ → Page → Blocks
add_to bs i p = set bs i (block bs i ++ (p ∷ []))
