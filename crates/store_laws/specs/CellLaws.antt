-- Cells and blocks are two ways to write one pool: each is read back from the other. And what one page written, or one block erased or
-- filled, is in the cells. Assumes nothing.
use Rattle.std.specs.Prelude.{◌≡◌, refl, true, List, [], ◌∷◌, ◌++◌, ℕ, zero, suc, ◌+◌, ◌*◌, ◌≤◌, ◌<◌, length, set, take, drop, None, Some}
use Rattle.std.proofs.Common.{sym, ap, ap₂, subst, ◌∙◌, append_assoc, not-suc-le-zero, le_of_suc-le-suc, arith, length-take, length-drop, length-append, take-append-drop, take_at, drop_at}
use Rattle.std.proofs.lemmas.List.{set-append_left}
use Rattle.laws.specs.Tests.{and_left, and_right}
use Rattle.laws.specs.Lists.{set_append_right, take-append-right, drop-append-right, length-zero}
use Rattle.page.specs.Page.{Page}
use Rattle.store.specs.Pool.{Blocks, block, add_to}
use Rattle.store.specs.Reopen.{Cells, cells_in, cells, block_in, blocks_in, blank, filled, all_filled}

pub length-cells_in : (k : ℕ) (b : List Page) → length (cells_in k b) ≡ k
unfolding cells_in
length-cells_in zero b = refl
length-cells_in (suc k) [] = ap suc (length-cells_in k [])
length-cells_in (suc k) (p ∷ b) = ap suc (length-cells_in k b)

pub length-cells : (width : ℕ) (bs : Blocks) → length (cells width bs) ≡ length bs * width
length-cells width [] = omega arith
length-cells width (b ∷ bs) =
    omega (arith, length-append (cells_in width b) (cells width bs), length-cells_in width b, length-cells width bs)

-- From blocks to cells and back.
block_in-cells_in : (k : ℕ) (b : List Page) → length b ≤ k → block_in (cells_in k b) ≡ b
unfolding cells_in
block_in-cells_in zero [] l = refl
block_in-cells_in zero (p ∷ b) l = absurd (omega arith)
block_in-cells_in (suc k) [] l = refl
block_in-cells_in (suc k) (p ∷ b) l = ap {B = List Page} (λ z. p ∷ z) (block_in-cells_in k b (le_of_suc-le-suc l))

pub blocks_in-cells : (width : ℕ) (bs : Blocks) → ((i : ℕ) → length (block bs i) ≤ width) → blocks_in width (length bs) (cells width bs) ≡ bs
blocks_in-cells width [] h = refl
blocks_in-cells width (b ∷ bs) h =
    ap₂ {B = Blocks} ◌∷◌
    (ap block_in (take_at (cells_in width b) (cells width bs) width (length-cells_in width b)) ∙ block_in-cells_in width b (h 0))
    (ap (blocks_in width (length bs)) (drop_at (cells_in width b) (cells width bs) width (length-cells_in width b)) ∙
    blocks_in-cells width bs (λ i. h (suc i)))

blank-cells_in : (k : ℕ) → blank (cells_in k []) ≡ true
unfolding cells_in
blank-cells_in zero = refl
blank-cells_in (suc k) = blank-cells_in k

filled-cells_in : (k : ℕ) (b : List Page) → filled (cells_in k b) ≡ true
unfolding cells_in
filled-cells_in zero b = refl
filled-cells_in (suc k) [] = blank-cells_in k
filled-cells_in (suc k) (p ∷ b) = filled-cells_in k b

pub all_filled-cells : (width : ℕ) (bs : Blocks) → all_filled width (length bs) (cells width bs) ≡ true
all_filled-cells width [] = refl
all_filled-cells width (b ∷ bs) =
    rw (
      take_at (cells_in width b) (cells width bs) width (length-cells_in width b),
      drop_at (cells_in width b) (cells width bs) width (length-cells_in width b),
      filled-cells_in width b,
    )
    (all_filled-cells width bs)

-- From cells to blocks and back.
cells_in-blank : (c : Cells) → blank c ≡ true → cells_in (length c) [] ≡ c
unfolding cells_in
cells_in-blank [] e = refl
cells_in-blank (None ∷ c) e = ap {B = Cells} (λ z. None ∷ z) (cells_in-blank c e)
cells_in-blank (Some p ∷ c) e = cc

cells_in-block_in : (c : Cells) → filled c ≡ true → cells_in (length c) (block_in c) ≡ c
unfolding cells_in
cells_in-block_in [] e = refl
cells_in-block_in (None ∷ c) e = ap {B = Cells} (λ z. None ∷ z) (cells_in-blank c e)
cells_in-block_in (Some p ∷ c) e = ap {B = Cells} (λ z. Some p ∷ z) (cells_in-block_in c e)

pub cells-blocks_in : (width k : ℕ) (c : Cells) → length c ≡ k * width → all_filled width k c ≡ true → cells width (blocks_in width k c) ≡ c
cells-blocks_in width zero c l t = sym (length-zero c (omega arith))
cells-blocks_in width (suc k) c l t =
    let n : length (take width c) ≡ width = omega (arith, length-take width c) in
    ap₂ {B = Cells} ◌++◌
    (subst (λ (z : ℕ). cells_in z (block_in (take width c)) ≡ take width c) n
    (cells_in-block_in (take width c) (and_left (filled (take width c)) (all_filled width k (drop width c)) t)))
    (cells-blocks_in width k (drop width c) (omega (arith, length-drop width c))
    (and_right (filled (take width c)) (all_filled width k (drop width c)) t)) ∙
    take-append-drop width c

length-block_in : (c : Cells) → length (block_in c) ≤ length c
length-block_in [] = omega arith
length-block_in (None ∷ c) = omega arith
length-block_in (Some p ∷ c) = omega (arith, length-block_in c)

pub length-blocks_in : (width k : ℕ) (c : Cells) → length (blocks_in width k c) ≡ k
length-blocks_in width zero c = refl
length-blocks_in width (suc k) c = ap suc (length-blocks_in width k (drop width c))

pub block-blocks_in : (width k : ℕ) (c : Cells) (i : ℕ) → length (block (blocks_in width k c) i) ≤ width
block-blocks_in width zero c i = omega arith
block-blocks_in width (suc k) c zero = omega (arith, length-block_in (take width c), length-take width c)
block-blocks_in width (suc k) c (suc i) = block-blocks_in width k (drop width c) i

-- One page more is one cell set.
cells_in-snoc : (k : ℕ) (b : List Page) (p : Page) → length b < k → cells_in k (b ++ (p ∷ [])) ≡ set (cells_in k b) (length b) (Some p)
unfolding cells_in
cells_in-snoc zero b p l = absurd (not-suc-le-zero l)
cells_in-snoc (suc k) [] p l = refl
cells_in-snoc (suc k) (x ∷ b) p l = ap {B = Cells} (λ z. Some x ∷ z) (cells_in-snoc k b p (le_of_suc-le-suc l))

pub cells-add_to : (width : ℕ) (bs : Blocks) (i : ℕ) (p : Page) → i < length bs → length (block bs i) < width →
    cells width (add_to bs i p) ≡ set (cells width bs) (i * width + length (block bs i)) (Some p)
cells-add_to width [] i p l f = absurd (not-suc-le-zero l)
cells-add_to width (b ∷ bs) zero p l f =
    rw (
      cells_in-snoc width b p f,
      ← set-append_left (cells_in width b) (cells width bs) (length b) (Some p) (rw (length-cells_in width b) f),
    )
    (ap (λ z. set (cells_in width b ++ cells width bs) z (Some p)) (omega arith))
cells-add_to width (b ∷ bs) (suc i) p l f =
    ap {B = Cells} (λ z. cells_in width b ++ z) (cells-add_to width bs i p (le_of_suc-le-suc l) f) ∙
    sym
    (set_append_right (cells_in width b) (cells width bs) (suc i * width + length (block bs i)) (i * width + length (block bs i)) (Some p)
    (rw (length-cells_in width b) (omega arith)))

-- A block erased or filled is its cells changed.
pub cells-set : (width : ℕ) (bs : Blocks) (i : ℕ) (b : List Page) → i < length bs →
    cells width (set bs i b) ≡ take (i * width) (cells width bs) ++ (cells_in width b ++ drop (i * width + width) (cells width bs))
cells-set width [] i b l = absurd (not-suc-le-zero l)
cells-set width (c ∷ bs) zero b l =
    let z : 0 * width ≡ 0 = omega arith in
    let w : 0 + width ≡ width = omega arith in
    rw (z, w)
    (ap {B = Cells} (λ z. cells_in width b ++ z) (sym (drop_at (cells_in width c) (cells width bs) width (length-cells_in width c))))
cells-set width (c ∷ bs) (suc i) b l =
    ap {B = Cells} (λ z. cells_in width c ++ z) (cells-set width bs i b (le_of_suc-le-suc l)) ∙
    rw (
      take-append-right (cells_in width c) (cells width bs) (suc i * width) (i * width) (rw (length-cells_in width c) (omega arith)),
      drop-append-right (cells_in width c) (cells width bs) (suc i * width + width) (i * width + width)
          (rw (length-cells_in width c) (omega arith)),
    )
    (simp append_assoc)
