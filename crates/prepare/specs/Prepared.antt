-- What prepare leaves, by bytes: all FF but the first two pages; and that these are the bytes of the prepared pool. Assumes nothing.
use Rattle.std.specs.Prelude.{◌≡◌, refl, Some}
use Rattle.std.proofs.Common.{sym, ap₂, ◌∙◌, arith}
use Rattle.std.proofs.Math.Path.{ap}
use mathlib.Core.List.{List, [], ◌∷◌, ◌++◌, append_assoc}
use Prim.Native.Nat.{ℕ, zero, suc, ◌+◌, ◌-◌, ◌*◌, ◌≤◌}
use Rattle.std.proofs.Math.ListN.{length, replicate, length-append, length-replicate}
use Rattle.std.proofs.lemmas.List.{replicate-append-replicate}
use Rattle.laws.specs.Lay.{lay, lay-replicate, lay-next}
use Rattle.layout.specs.Layout.{page_bytes, pages_in_block, block_bytes, no_leaf}
use Rattle.account.specs.declared.Tariff.{Tariff}
use Rattle.node.specs.declared.Shape.TheVariants.{Leaf}
use Rattle.node.specs.Change.{link}
use Rattle.page.specs.Page.{Page, page, log, checkpoint}
use Rattle.page.specs.Image.{image, blank_bytes}
use Rattle.store.specs.Reopen.{Cells, cells_in, cells}
use Rattle.model.specs.Bytes.{cell_bytes, bytes_of}
use Rattle.model.specs.Prepare.{prepared}
use Rattle.model.specs.Pool.{blocks_of}
use Rattle.model.specs.PoolLaws.{IsPool}
use Rattle.model.specs.Call.{Prepared}

-- The two pages.
abbrev pub root_page : Page
root_page = page 2 (log (record { id = 0; version = 1; change = link Leaf no_leaf } ∷ []))

abbrev pub checkpoint_page : Tariff → Page
checkpoint_page t = page 3 (checkpoint (Some t) (record { id = 0; score = 0 } ∷ []) (Some 1))

-- Two images laid over erased bytes.
unfoldable pub first_bytes : ℕ → List ℕ → List ℕ → List ℕ
first_bytes bytes a b = lay (lay (replicate bytes 255) 0 a) page_bytes b

-- What a call leaves is what the definition says: its number, and every byte of the pool.
pub record Leaves (right : Prepared) (returned : ℕ) (left : List ℕ) : Type 0 where
  pub number : returned ≡ right.number
  pub pool : left ≡ right.pool

abbrev erased_bytes : ℕ → List ℕ
erased_bytes n = replicate n 255

erased_same : (m n : ℕ) → m ≡ n → erased_bytes m ≡ erased_bytes n
erased_same m n e = ap erased_bytes e

bytes-append : (a b : Cells) → bytes_of (a ++ b) ≡ bytes_of a ++ bytes_of b
bytes-append [] b = refl
bytes-append (c ∷ a) b = ap (cell_bytes c ++◌) (bytes-append a b) ∙ sym (append_assoc (cell_bytes c) (bytes_of a) (bytes_of b))

bytes-blank : (k : ℕ) → bytes_of (cells_in k []) ≡ replicate (page_bytes * k) 255
unfolding cells_in blank_bytes
bytes-blank zero = refl
bytes-blank (suc k) =
    ap (replicate page_bytes 255 ++◌) (bytes-blank k) ∙
    replicate-append-replicate page_bytes (page_bytes * k) 255 ∙ erased_same (page_bytes + page_bytes * k) (page_bytes * suc k) (omega arith)

bytes-blanks : (k : ℕ) → bytes_of (cells pages_in_block (replicate k [])) ≡ replicate (block_bytes * k) 255
bytes-blanks zero = refl
bytes-blanks (suc k) =
    bytes-append (cells_in pages_in_block []) (cells pages_in_block (replicate k [])) ∙
    ap₂ {B = List ℕ} ◌++◌ (bytes-blank pages_in_block) (bytes-blanks k) ∙
    replicate-append-replicate (page_bytes * pages_in_block) (block_bytes * k) 255 ∙
    erased_same (page_bytes * pages_in_block + block_bytes * k) (block_bytes * suc k) (omega arith)

module _ (a b : List ℕ) (la : length a ≡ page_bytes) (lb : length b ≡ page_bytes) where
  first-laid : (bytes : ℕ) → 2 * page_bytes ≤ bytes → first_bytes bytes a b ≡ a ++ (b ++ replicate (bytes - 2 * page_bytes) 255)
  unfolding first_bytes
  first-laid bytes l =
      let erased : List ℕ = replicate bytes 255 in
      let n : length erased ≡ bytes = length-replicate {A = ℕ} bytes 255 in
      lay-next erased 0 a b page_bytes (omega arith) (omega arith) ∙
      lay-replicate bytes 255 (a ++ b) ∙
      ap (λ (xs : List ℕ). (a ++ b) ++ xs) (erased_same (bytes - length (a ++ b)) (bytes - 2 * page_bytes) (omega (arith, length-append a b))) ∙
      append_assoc a b (replicate (bytes - 2 * page_bytes) 255)

-- THE PREPARED POOL is these bytes.
pub prepared-bytes : (pool : List ℕ) → IsPool pool → (t : Tariff) → length (image root_page) ≡ page_bytes → length (image (checkpoint_page t)) ≡ page_bytes →
    first_bytes (length pool) (image root_page) (image (checkpoint_page t)) ≡ bytes_of (prepared (blocks_of pool) t)
unfolding prepared cells_in
prepared-bytes pool h t k l =
    first-laid (image root_page) (image (checkpoint_page t)) k l (length pool) (omega (arith, h.whole, h.least)) ∙
    ap (λ (xs : List ℕ). image root_page ++ (image (checkpoint_page t) ++ xs)) rest
  where
    rest : replicate (length pool - 2 * page_bytes) 255 ≡ bytes_of (cells_in 30 [] ++ cells pages_in_block (replicate (blocks_of pool - 1) []))
    rest =
        sym
        (bytes-append (cells_in 30 []) (cells pages_in_block (replicate (blocks_of pool - 1) [])) ∙
        ap₂ {B = List ℕ} ◌++◌ (bytes-blank 30) (bytes-blanks (blocks_of pool - 1)) ∙
        replicate-append-replicate (page_bytes * 30) (block_bytes * (blocks_of pool - 1)) 255 ∙
        erased_same (page_bytes * 30 + block_bytes * (blocks_of pool - 1)) (length pool - 2 * page_bytes) (omega (arith, h.whole, h.least)))
