-- Items one list after another, and the items of one node and one version: by cases on whether id and version are those asked
-- for. Assumes nothing.
use Rattle.std.specs.Prelude.{◌≡◌, refl, Bool, true, false, ◌&&◌, ◌⊎◌, List, [], ◌∷◌, ◌++◌, map, ℕ, suc, ◌≤◌, ◌<◌, max, eqb, length}
use Rattle.std.proofs.Common.{ap, ◌∙◌, inl, inr, arith, eqb-true, eq-eqb, ne_eqb}
use Rattle.std.proofs.lemmas.List.{map-append}
use Rattle.std.proofs.lemmas.Bool.{eqb-false}
use Rattle.laws.specs.Order.{eq_or}
use Rattle.laws.specs.Counts.{empty, cons_if-append}
use Rattle.node.specs.Change.{Change}
use Rattle.node.specs.Replay.{Piece, step}
use Rattle.page.specs.Page.{Entry}
use Rattle.store.specs.Item.{Item, item, entry_item, pieces_in, greatest_in, group, entries}

pub pieces_in-append : (n v : ℕ) (xs ys : List Item) → pieces_in n v (xs ++ ys) ≡ pieces_in n v xs ++ pieces_in n v ys
pieces_in-append n v [] ys = refl
pieces_in-append n v (x ∷ xs) ys =
    rw (pieces_in-append n v xs ys)
    (cons_if-append (eqb x.id n && eqb x.version v) x.piece (pieces_in n v xs) (pieces_in n v ys))

pub greatest_in-append : (n : ℕ) (xs ys : List Item) → greatest_in n (xs ++ ys) ≡ max (greatest_in n xs) (greatest_in n ys)
greatest_in-append n [] ys = omega arith
greatest_in-append n (x ∷ xs) ys = rw (greatest_in-append n xs ys) (omega arith)

-- Above the greatest version there is nothing.
pub pieces_in-above : (n v : ℕ) (xs : List Item) → greatest_in n xs < v → pieces_in n v xs ≡ []
pieces_in-above n v [] h = refl
pieces_in-above n v (x ∷ xs) h = go (eqb x.id n) refl (eqb x.version v) refl (pieces_in-above n v xs (omega arith))
  where
    go : (a : Bool) → eqb x.id n ≡ a → (b : Bool) → eqb x.version v ≡ b → pieces_in n v xs ≡ [] → pieces_in n v (x ∷ xs) ≡ []
    go true ea true eb r = absurd (omega (arith, rw ea at h, eqb-true x.version v eb))
    go true ea false eb r = rw (ea, eb) r
    go false ea b eb r = rw ea r

-- Of the greatest version there is something.
pub pieces_in-greatest : (n v : ℕ) (xs : List Item) → 0 < v → greatest_in n xs ≡ v → empty (pieces_in n v xs) ≡ false
pieces_in-greatest n v [] p e = absurd (omega arith)
pieces_in-greatest n v (x ∷ xs) p e = go (eqb x.id n) refl (eqb x.version v) refl (λ h. pieces_in-greatest n v xs p h)
  where
    go : (a : Bool) → eqb x.id n ≡ a → (b : Bool) → eqb x.version v ≡ b →
        (greatest_in n xs ≡ v → empty (pieces_in n v xs) ≡ false) → empty (pieces_in n v (x ∷ xs)) ≡ false
    go true ea true eb r = rw (ea, eb) refl
    go true ea false eb r = rw (ea, eb) (r (omega (arith, rw ea at e, eqb-false x.version v eb)))
    go false ea b eb r = rw ea (r (omega (arith, rw ea at e)))

-- A group: seen from its own node and version, and from another node.
pub pieces_in-group : (n v : ℕ) (xs : List Piece) → pieces_in n v (group n v xs) ≡ xs
pieces_in-group n v [] = refl
pieces_in-group n v (x ∷ xs) = rw (eq-eqb n n refl, eq-eqb v v refl, pieces_in-group n v xs)

pub pieces_in-group-other : (m n u v : ℕ) (xs : List Piece) → (n ≡ m → ⊥) → pieces_in m u (group n v xs) ≡ []
pieces_in-group-other m n u v [] h = refl
pieces_in-group-other m n u v (x ∷ xs) h = rw (ne_eqb n m h) (pieces_in-group-other m n u v xs h)

greatest_in-group_le : (n v : ℕ) (xs : List Piece) → greatest_in n (group n v xs) ≤ v
greatest_in-group_le n v [] = omega arith
greatest_in-group_le n v (x ∷ xs) = rw (eq-eqb n n refl) (omega (arith, greatest_in-group_le n v xs))

pub greatest_in-group : (n v : ℕ) (x : Piece) (xs : List Piece) → greatest_in n (group n v (x ∷ xs)) ≡ v
greatest_in-group n v x xs = rw (eq-eqb n n refl) (omega (arith, greatest_in-group_le n v xs))

pub greatest_in-group-other : (m n v : ℕ) (xs : List Piece) → (n ≡ m → ⊥) → greatest_in m (group n v xs) ≡ 0
greatest_in-group-other m n v [] h = refl
greatest_in-group-other m n v (x ∷ xs) h = rw (ne_eqb n m h) (omega (arith, greatest_in-group-other m n v xs h))

pub greatest_in-group_any : (m n v : ℕ) (xs : List Piece) → greatest_in m (group n v xs) ≤ v
greatest_in-group_any m n v xs = go (eq_or n m)
  where
    go : (n ≡ m) ⊎ (n ≡ m → ⊥) → greatest_in m (group n v xs) ≤ v
    go (inl e) = rw (← e) (greatest_in-group_le n v xs)
    go (inr e) = omega (arith, greatest_in-group-other m n v xs e)

-- Entries of changes are the group of their steps.
pub items_entries : (n v : ℕ) (cs : List Change) → map entry_item (entries n v cs) ≡ group n v (map step cs)
items_entries n v [] = refl
items_entries n v (c ∷ cs) = ap {B = List Item} (λ r. item n v (step c) ∷ r) (items_entries n v cs)

pub items_append : (n v : ℕ) (es : List Entry) (cs : List Change) →
    map entry_item (es ++ entries n v cs) ≡ map entry_item es ++ group n v (map step cs)
items_append n v es cs =
    map-append entry_item es (entries n v cs) ∙ ap {B = List Item} (λ r. map entry_item es ++ r) (items_entries n v cs)

pub length-entries : (n v : ℕ) (cs : List Change) → length (entries n v cs) ≡ length cs
length-entries n v [] = refl
length-entries n v (c ∷ cs) = ap suc (length-entries n v cs)
