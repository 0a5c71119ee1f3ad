-- One node's row carried through the items of a page: the greatest version among them stays, and the page is noted once where it has a piece
-- of it. Assumes nothing.
use Rattle.std.specs.Prelude.{◌≡◌, refl, Bool, true, false, not, ◌&&◌, ◌||◌, ◌⊎◌, List, [], ◌∷◌, ℕ, ◌+◌, ◌≤◌, ◌<◌, max, eqb}
use Rattle.std.proofs.Common.{ap, ◌∙◌, inl, inr, arith, eqb-true, eq-eqb}
use Rattle.std.proofs.Math.Bool.{and-true}
use Rattle.laws.specs.Tests.{choose}
use Rattle.laws.specs.Order.{le_or}
use Rattle.laws.specs.Counts.{bit, cons_if, empty}
use Rattle.laws.specs.Every.{Every, none, both}
use Rattle.account.specs.declared.Mode.{Mode}
use Rattle.account.specs.declared.Mode.TheVariants.{Log, Disk}
use Rattle.page.specs.Page.{Page, page, log, whole, checkpoint}
use Rattle.store.specs.Item.{Item, pieces_in, greatest_in}
use Rattle.flash_rows.specs.declared.Row.{Row}
use Rattle.mount_rows.specs.Seen.{seen}
use Rattle.mount_refines.specs.Rows.Pieces.{cap, pages_at, names_at, Goes, Adds, adds_none, seen_goes, seen_adds, seen-right}

-- The mode of the nodes of which a page has pieces.
abbrev pub mode_in : Page → Mode
mode_in (page s (log es)) = Log
mode_in (page s (whole n x)) = Disk
mode_in (page s (checkpoint t scores k)) = Log

-- A node's row after one item, and after those of a page, at a place.
abbrev pub row_item : ℕ → ℕ → Mode → Item → Row → Row
row_item n q m x r = choose (eqb x.id n) (seen x.version m q r) r

abbrev pub row_items : ℕ → ℕ → Mode → List Item → Row → Row
row_items n q m [] r = r
row_items n q m (x ∷ xs) r = row_items n q m xs (row_item n q m x r)

-- Whether items have a piece of a version.
abbrev pub has_items : ℕ → ℕ → List Item → Bool
has_items n v xs = not (empty (pieces_in n v xs))

-- ---- steps one after another

pub goes_none : (r : Row) → r.pages ≤ 4 → Goes 0 r r
goes_none r l = record { version = omega arith; score = refl; few = l }

pub goes_both : {a b : ℕ} {r r₁ r₂ : Row} → Goes a r r₁ → Goes b r₁ r₂ → Goes (max a b) r r₂
goes_both g h = record { version = omega (arith, g.version, h.version); score = h.score ∙ g.score; few = h.few }

bit_more : (a b c : Bool) → bit (a && c) ≤ bit ((a || b) && c)
bit_more true b c = omega arith
bit_more false b c = omega arith

module _ (p₀ p₁ p₂ : ℕ) where
  noted_once : (a b n : Bool) → p₁ ≡ cap (p₀ + bit (a && not n)) → p₂ ≡ cap (p₁ + bit (b && not (n || a))) →
      p₂ ≡ cap (p₀ + bit ((a || b) && not n))
  noted_once true true true e f = omega arith
  noted_once true true false e f = omega arith
  noted_once true false true e f = omega arith
  noted_once true false false e f = omega arith
  noted_once false true true e f = omega arith
  noted_once false true false e f = omega arith
  noted_once false false true e f = omega arith
  noted_once false false false e f = omega arith

or_and : (n a b t : Bool) → ((n || (a && t)) || (b && t)) ≡ (n || ((a || b) && t))
or_and true a b t = refl
or_and false true b true = refl
or_and false true true false = refl
or_and false true false false = refl
or_and false false b t = refl

-- two parts of one page
adds_both : {a b : Bool} {q v : ℕ} {r r₁ r₂ : Row} → Adds a q v r r₁ → Adds b q v r₁ r₂ → Adds (a || b) q v r r₂
adds_both {a} {b} {q} {v} {r} {r₁} {r₂} g h =
    record {
      pages = go (le_or (pages_at v r₁) 3);
      names =
          λ l x.
          h.names l x ∙
          ap (λ (t : Bool). t || (b && eqb q x)) (g.names (omega (arith, h.pages)) x) ∙
          or_and (names_at v x r) a b (eqb q x);
    }
  where
    named : pages_at v r₁ ≤ 3 → names_at v q r₁ ≡ (names_at v q r || a)
    named l = g.names l q ∙ ap (λ (t : Bool). names_at v q r || (a && t)) (eq-eqb q q refl) ∙ ap (λ (t : Bool). names_at v q r || t) (and-true a)

    go : (pages_at v r₁ ≤ 3) ⊎ (3 < pages_at v r₁) → pages_at v r₂ ≡ cap (pages_at v r + bit ((a || b) && not (names_at v q r)))
    go (inl l) =
        noted_once (pages_at v r) (pages_at v r₁) (pages_at v r₂) a b (names_at v q r) g.pages
        (h.pages ∙ ap (λ (t : Bool). cap (pages_at v r₁ + bit (b && not t))) (named l))
    go (inr l) = omega (arith, g.pages, h.pages, bit_more a b (not (names_at v q r)))

-- ---- the items of a page
module _ (n q : ℕ) (m : Mode) where
  item_goes : (x : Item) (r : Row) → r.pages ≤ 4 → Goes (choose (eqb x.id n) x.version 0) r (row_item n q m x r)
  item_goes x r l = go (eqb x.id n)
    where
      go : (b : Bool) → Goes (choose b x.version 0) r (choose b (seen x.version m q r) r)
      go true = seen_goes x.version m q r l
      go false = goes_none r l

  pub items_go : (xs : List Item) (r : Row) → r.pages ≤ 4 → Goes (greatest_in n xs) r (row_items n q m xs r)
  items_go [] r l = goes_none r l
  items_go (x ∷ xs) r l = let first = item_goes x r l in goes_both first (items_go xs (row_item n q m x r) first.few)

  module _ (v : ℕ) where
    item_adds : (x : Item) (r : Row) → r.pages ≤ 4 → r.version ≤ v → choose (eqb x.id n) x.version 0 ≤ v →
        Adds (eqb x.id n && eqb x.version v) q v r (row_item n q m x r)
    item_adds x r l o h = go (eqb x.id n) h
      where
        go : (b : Bool) → choose b x.version 0 ≤ v → Adds (b && eqb x.version v) q v r (choose b (seen x.version m q r) r)
        go true g = seen_adds x.version m q r l v o g
        go false g = adds_none q v r l

    has-cons : (b : Bool) (x : Item) (xs : List Item) → (b || has_items n v xs) ≡ not (empty (cons_if b x.piece (pieces_in n v xs)))
    has-cons true x xs = refl
    has-cons false x xs = refl

    pub items_add : (xs : List Item) (r : Row) → r.pages ≤ 4 → r.version ≤ v → greatest_in n xs ≤ v →
        Adds (has_items n v xs) q v r (row_items n q m xs r)
    items_add [] r l o h = adds_none q v r l
    items_add (x ∷ xs) r l o h =
        let first = item_goes x r l in
        rw (← has-cons (eqb x.id n && eqb x.version v) x xs)
        (adds_both (item_adds x r l o (omega arith)) (items_add xs (row_item n q m x r) first.few (omega (arith, first.version)) (omega arith)))

  -- What holds of the version and mode of each piece, and of the row's, holds of the row's afterwards.
  module _ (P : ℕ → Mode → Type 0) where
    pub items_right : (xs : List Item) (r : Row) → r.pages ≤ 4 → Every (λ x. x.id ≡ n → P x.version m) xs → P r.version r.mode →
        P (row_items n q m xs r).version (row_items n q m xs r).mode
    items_right [] r l none h = h
    items_right (x ∷ xs) r l (both e es) h = items_right xs (row_item n q m x r) (item_goes x r l).few es (go (eqb x.id n) refl)
      where
        go : (b : Bool) → eqb x.id n ≡ b → P (choose b (seen x.version m q r) r).version (choose b (seen x.version m q r) r).mode
        go true t = seen-right x.version m q r l P (e (eqb-true x.id n t)) h
        go false t = h
