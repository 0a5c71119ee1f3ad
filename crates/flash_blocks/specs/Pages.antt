-- The pool as a list of pages (document 01, "Pool and buffers"): "a page is written once, then only erased with its block".
use Rattle.std.specs.Prelude.{Bool, List, ℕ, ◌*◌, eqb, get_or, set, replicate}
use Rattle.laws.specs.Chunks.{chunks, set_run}
use Rattle.layout.specs.Layout.{block_bytes, page_bytes, pages_in_block}

-- The pages of a pool, 512 bytes each.
unfoldable pub pages_of : List ℕ → List (List ℕ)
pages_of pool = chunks page_bytes pool

-- "A blank page is 512 bytes of hexadecimal FF."
unfoldable pub blank_page : List ℕ
blank_page = replicate page_bytes 255

-- The page at a place.
unfoldable pub page_at : List (List ℕ) → ℕ → List ℕ
page_at pages q = get_or pages q blank_page

-- The pages with one copied, unchanged, to another place.
unfoldable pub copied : ℕ → ℕ → List (List ℕ) → List (List ℕ)
copied from to pages = set pages to (page_at pages from)

-- The bytes of an erased block.
unfoldable pub erased_bytes : List ℕ
erased_bytes = replicate block_bytes 255

-- The pages with a block erased.
unfoldable pub erased : ℕ → List (List ℕ) → List (List ℕ)
erased block pages = set_run pages_in_block (pages_in_block * block) blank_page pages

-- Whether a page is blank, told by its first byte: a written page begins with the tag 10.
unfoldable pub is_blank : List ℕ → Bool
is_blank page = eqb (get_or page 0 0) 255
