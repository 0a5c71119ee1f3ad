-- One node's row carried through the pages of a pool: it ends with the node's greatest version there, names the pages that have a piece of
-- it, and says how many they are. Assumes nothing.
use Rattle.std.specs.Prelude.{◌≡◌, refl, Bool, true, false, not, ◌&&◌, ◌||◌, ◌⊎◌, [], ◌∷◌, ℕ, zero, suc, ◌+◌, ◌≤◌, ◌<◌, max, eqb, get_or, Option, None, Some}
use Rattle.std.proofs.Common.{sym, ap, ◌∙◌, inl, inr, arith, eq-eqb, ne_eqb}
use Rattle.std.proofs.Math.Bool.{and-true, and-false, or-false, or_assoc}
use Rattle.laws.specs.Tests.{choose, and_not_right}
use Rattle.laws.specs.Order.{le_or}
use Rattle.laws.specs.Counts.{bit, count}
use Rattle.laws.specs.Every.{Every, none, both}
use Rattle.account.specs.declared.Mode.{Mode}
use Rattle.account.specs.declared.Mode.TheVariants.{Log}
use Rattle.page.specs.Page.{Page}
use Rattle.store.specs.Item.{items_of, greatest_in}
use Rattle.store.specs.Pool.{items_at}
use Rattle.store.specs.Reopen.{Cells}
use Rattle.flash_rows.specs.Step.{holds, names}
use Rattle.flash_rows.specs.declared.Row.{Row}
use Rattle.mount_refines.specs.Rows.Pieces.{cap, pages_at, names_at, pages_same, names_same, pages_at_few, Goes, Adds, adds_none}
use Rattle.mount_refines.specs.Rows.PageItems.{mode_in, row_items, has_items, goes_none, goes_both, items_go, items_add, items_right}

-- A node's row after the page at a place; of a blank place there is none.
abbrev pub row_cell : ℕ → ℕ → Option Page → Row → Row
row_cell n q None r = r
row_cell n q (Some p) r = row_items n q (mode_in p) (items_of p) r

-- After the pages from a place on.
abbrev pub row_cells : ℕ → ℕ → Cells → Row → Row
row_cells n q [] r = r
row_cells n q (c ∷ cs) r = row_cells n (q + 1) cs (row_cell n q c r)

-- Whether a place has a piece of a version; the greatest version in all places.
abbrev pub has_cell : ℕ → ℕ → Option Page → Bool
has_cell n v c = has_items n v (items_at c)

abbrev pub greatest_cell : ℕ → Cells → ℕ
greatest_cell n [] = 0
greatest_cell n (c ∷ cs) = max (greatest_in n (items_at c)) (greatest_cell n cs)

-- Whether a place has one, the first of the cells being at place q.
abbrev has_at : ℕ → ℕ → ℕ → Cells → ℕ → Bool
has_at n v q [] x = false
has_at n v q (c ∷ cs) x = (has_cell n v c && eqb q x) || has_at n v (q + 1) cs x

module _ (n : ℕ) where
  cell_goes : (q : ℕ) (c : Option Page) (r : Row) → r.pages ≤ 4 → Goes (greatest_in n (items_at c)) r (row_cell n q c r)
  cell_goes q None r l = goes_none r l
  cell_goes q (Some p) r l = items_go n q (mode_in p) (items_of p) r l

  cells_go : (q : ℕ) (cs : Cells) (r : Row) → r.pages ≤ 4 → Goes (greatest_cell n cs) r (row_cells n q cs r)
  cells_go q [] r l = goes_none r l
  cells_go q (c ∷ cs) r l = let first = cell_goes q c r l in goes_both first (cells_go (q + 1) cs (row_cell n q c r) first.few)

  module _ (v : ℕ) where
    cell_adds : (q : ℕ) (c : Option Page) (r : Row) → r.pages ≤ 4 → r.version ≤ v → greatest_in n (items_at c) ≤ v →
        Adds (has_cell n v c) q v r (row_cell n q c r)
    cell_adds q None r l o h = adds_none q v r l
    cell_adds q (Some p) r l o h = items_add n q (mode_in p) v (items_of p) r l o h

    record Fills (q : ℕ) (cs : Cells) (r r' : Row) : Type 0 where
      pages : pages_at v r' ≡ cap (pages_at v r + count (has_cell n v) cs)
      names : pages_at v r' ≤ 3 → (x : ℕ) → names_at v x r' ≡ (names_at v x r || has_at n v q cs x)

    -- the row names no page from a place on
    abbrev Clear : ℕ → Row → Type 0
    Clear q r = pages_at v r ≤ 3 → (x : ℕ) → q ≤ x → names_at v x r ≡ false

    -- a page that the row does not name counts
    new_page : (q : ℕ) (c : Option Page) {r r₁ : Row} → r.pages ≤ 4 → Clear q r → Adds (has_cell n v c) q v r r₁ →
        pages_at v r₁ ≡ cap (pages_at v r + bit (has_cell n v c))
    new_page q c {r} {r₁} l clear a = go (le_or (pages_at v r) 3)
      where
        go : (pages_at v r ≤ 3) ⊎ (3 < pages_at v r) → pages_at v r₁ ≡ cap (pages_at v r + bit (has_cell n v c))
        go (inl h) =
            a.pages ∙
            ap (λ (t : Bool). cap (pages_at v r + bit (has_cell n v c && not t))) (clear h q (omega arith)) ∙
            ap (λ (t : Bool). cap (pages_at v r + bit t)) (and-true (has_cell n v c))
        go (inr h) = omega (arith, a.pages)

    -- one place, then the others
    fill_next : (q : ℕ) (c : Option Page) (cs : Cells) (r : Row) → r.pages ≤ 4 → r.version ≤ v → greatest_in n (items_at c) ≤ v → Clear q r →
        ((row_cell n q c r).pages ≤ 4 → (row_cell n q c r).version ≤ v → Clear (q + 1) (row_cell n q c r) →
        Fills (q + 1) cs (row_cell n q c r) (row_cells n (q + 1) cs (row_cell n q c r))) →
        Fills q (c ∷ cs) r (row_cells n q (c ∷ cs) r)
    fill_next q c cs r l o h clear more =
        record {
          pages = omega (arith, one, rest.pages);
          names =
              λ k x.
              rest.names k x ∙
              ap (λ (t : Bool). t || has_at n v (q + 1) cs x) (first.names (omega (arith, rest.pages)) x) ∙
              or_assoc (names_at v x r) (has_cell n v c && eqb q x) (has_at n v (q + 1) cs x);
        }
      where
        goes : Goes (greatest_in n (items_at c)) r (row_cell n q c r)
        goes = cell_goes q c r l

        first : Adds (has_cell n v c) q v r (row_cell n q c r)
        first = cell_adds q c r l o h

        one : pages_at v (row_cell n q c r) ≡ cap (pages_at v r + bit (has_cell n v c))
        one = new_page q c l clear first

        still : Clear (q + 1) (row_cell n q c r)
        still k x b =
            first.names k x ∙
            ap (λ (t : Bool). t || (has_cell n v c && eqb q x)) (clear (omega (arith, one)) x (omega arith)) ∙
            and_not_right (has_cell n v c) (eqb q x) (ne_eqb q x (λ z. omega arith))

        rest : Fills (q + 1) cs (row_cell n q c r) (row_cells n (q + 1) cs (row_cell n q c r))
        rest = more goes.few (omega (arith, goes.version)) still

    cells_fill : (q : ℕ) (cs : Cells) (r : Row) → r.pages ≤ 4 → r.version ≤ v → greatest_cell n cs ≤ v → Clear q r →
        Fills q cs r (row_cells n q cs r)
    cells_fill q [] r l o h clear =
        record { pages = omega (arith, pages_at_few v r l); names = λ k x. sym (or-false (names_at v x r)) }
    cells_fill q (c ∷ cs) r l o h clear =
        fill_next q c cs r l o (omega arith) clear (λ few own still. cells_fill (q + 1) cs (row_cell n q c r) few own (omega arith) still)

    -- what a place has, by its number
    has-before : (q : ℕ) (cs : Cells) (x : ℕ) → x < q → has_at n v q cs x ≡ false
    has-before q [] x l = refl
    has-before q (c ∷ cs) x l =
        rw (and_not_right (has_cell n v c) (eqb q x) (ne_eqb q x (λ z. omega arith))) (has-before (q + 1) cs x (omega arith))

    has_here : (q : ℕ) (cs : Cells) (x k : ℕ) → k ≡ q + x → has_at n v q cs k ≡ has_cell n v (get_or cs x None)
    has_here q [] x k e = refl
    has_here q (c ∷ cs) zero k e =
        rw (eq-eqb q k (omega arith), has-before (q + 1) cs k (omega arith)) (or-false (has_cell n v c && true) ∙ and-true (has_cell n v c))
    has_here q (c ∷ cs) (suc x) k e =
        rw (and_not_right (has_cell n v c) (eqb q k) (ne_eqb q k (λ z. omega arith))) (has_here (q + 1) cs x k (omega arith))

  -- ---- the version and the mode
  module _ (P : ℕ → Mode → Type 0) where
    -- what is to hold of each piece of the node in a place
    abbrev pub CellRight : Option Page → Type 0
    CellRight None = Unit {0}
    CellRight (Some p) = Every (λ x. x.id ≡ n → P x.version (mode_in p)) (items_of p)

    cell_right : (q : ℕ) (c : Option Page) (r : Row) → r.pages ≤ 4 → CellRight c → P r.version r.mode →
        P (row_cell n q c r).version (row_cell n q c r).mode
    cell_right q None r l e h = h
    cell_right q (Some p) r l e h = items_right n q (mode_in p) P (items_of p) r l e h

    pub cells_right : (q : ℕ) (cs : Cells) (r : Row) → r.pages ≤ 4 → Every CellRight cs → P r.version r.mode →
        P (row_cells n q cs r).version (row_cells n q cs r).mode
    cells_right q [] r l none h = h
    cells_right q (c ∷ cs) r l (both e es) h =
        cells_right (q + 1) cs (row_cell n q c r) (cell_goes q c r l).few es (cell_right q c r l e h)

-- A row that names no page and has no version yet.
pub record Unmet (r : Row) : Type 0 where
  pub version : r.version ≡ 0
  pub mode : r.mode ≡ Log
  pub pages : r.pages ≡ 0

-- THE ROW AFTER ALL PAGES, of a node that none was met of before.
pub record Told (n : ℕ) (cs : Cells) (r r' : Row) : Type 0 where
  pub version : r'.version ≡ greatest_cell n cs
  pub score : r'.score ≡ r.score
  pub pages : r'.pages ≡ cap (count (has_cell n (greatest_cell n cs)) cs)
  pub names : r'.pages ≤ 3 → (x : ℕ) → names x r' ≡ has_cell n (greatest_cell n cs) (get_or cs x None)

pub cells_tell : (n : ℕ) (cs : Cells) (r : Row) → Unmet r → Told n cs r (row_cells n 0 cs r)
unfolding names holds
cells_tell n cs r e =
    record {
      version = top;
      score = goes.score;
      pages = sym here ∙ omega (arith, fills.pages, before);
      names =
          λ l x.
          sym (names_same (row_cells n 0 cs r) (greatest_cell n cs) top x) ∙
          fills.names (omega (arith, here)) x ∙
          ap (λ (t : Bool). t || has_at n (greatest_cell n cs) 0 cs x) (unnamed x) ∙
          has_here n (greatest_cell n cs) 0 cs x x (omega arith);
    }
  where
    few : r.pages ≤ 4
    few = omega (arith, e.pages)

    goes : Goes (greatest_cell n cs) r (row_cells n 0 cs r)
    goes = cells_go n 0 cs r few

    top : (row_cells n 0 cs r).version ≡ greatest_cell n cs
    top = omega (arith, goes.version, e.version)

    here : pages_at (greatest_cell n cs) (row_cells n 0 cs r) ≡ (row_cells n 0 cs r).pages
    here = pages_same (row_cells n 0 cs r) (greatest_cell n cs) top

    before : pages_at (greatest_cell n cs) r ≡ 0
    before = go (eqb r.version (greatest_cell n cs))
      where
        go : (b : Bool) → choose b r.pages 0 ≡ 0
        go true = e.pages
        go false = refl

    unnamed : (x : ℕ) → names_at (greatest_cell n cs) x r ≡ false
    unnamed x = rw e.pages (and-false (eqb r.version (greatest_cell n cs)))

    fills : Fills n (greatest_cell n cs) 0 cs r (row_cells n 0 cs r)
    fills = cells_fill n (greatest_cell n cs) 0 cs r few (omega (arith, e.version)) (omega arith) (λ l x b. unnamed x)
