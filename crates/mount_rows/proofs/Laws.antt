-- The cases of a piece met on a page, and a turn of each loop. Assumes nothing.
use Rattle.std.proofs.Common.{◌≡◌, refl, sym, ap, ◌∙◌, Bool, true, false, ◌&&◌, List, length, get_or, eq-eqb, ne_eqb, lt-ltb, le-ltb, leb}
use Rattle.std.proofs.Common.{ℕ, zero, suc, ◌+◌, ◌-◌, ◌≤◌, ◌<◌, add-zero, zero-add, arith}
use Rattle.std.proofs.Math.Bool.{and-false}
use Rattle.std.proofs.Math.ListN.{set}
use Rattle.std.proofs.Math.Seq.{set-get_or}
use Rattle.laws.specs.Loops.{all_from}
use Rattle.laws.specs.BigEndian.{number, number_at}
use Rattle.account.specs.declared.Mode.{Mode}
use Rattle.account.specs.declared.Mode.TheVariants.{Log, Disk}
use Rattle.wire.specs.Field.{payload_at}
use Rattle.flash_rows.specs.Row.{no_row}
use Rattle.flash_rows.specs.Step.{noted, fresh}
use Rattle.flash_rows.specs.declared.Row.{Row}
use Rattle.flash_blocks.specs.Pages.{page_at}
use Rattle.mount_rows.specs.Seen.{one_more, lacks, seen, seen_at}
use Rattle.mount_rows.specs.Pieces.{seen_entry, seen_run, seen_node}
use Rattle.mount_rows.specs.Fill.{seen_page, within_three}

-- A piece on a page: a greater version, a page that the row lacks, or nothing new.
module _ (rows rows' : List Row) (id version : ℕ) (mode : Mode) (page : ℕ) (r : Row) (l : r ≡ get_or rows id no_row) where
  pub seen-fresh : (f x : Row) → r.version < version → f ≡ fresh version mode r → x ≡ noted page f → rows' ≡ set rows id x →
      rows' ≡ set rows id (seen version mode page (get_or rows id no_row))
  unfolding seen
  seen-fresh f x h a b e = rw (← l, lt-ltb r.version version h, ← a, ← b) e

  module _ (h : version ≤ r.version) where
    pub seen_more : (x : Row) (t : Bool) → t ≡ lacks version page r → t ≡ true → x ≡ one_more page r → rows' ≡ set rows id x →
        rows' ≡ set rows id (seen version mode page (get_or rows id no_row))
    unfolding seen
    seen_more x t a b d e = rw (← l, le-ltb r.version version h, ← a, b, ← d) e

    pub seen_same : (t : Bool) → t ≡ lacks version page r → t ≡ false → rows ≡ set rows id (seen version mode page (get_or rows id no_row))
    unfolding seen
    seen_same t a b = rw (← l, le-ltb r.version version h, ← a, b) (sym (ap (set rows id) l ∙ set-get_or rows id no_row))

-- An older version says nothing.
pub seen_older : (rows : List Row) (id version : ℕ) (mode : Mode) (page newest : ℕ) → newest ≡ (get_or rows id no_row).version → version < newest →
    rows ≡ set rows id (seen version mode page (get_or rows id no_row))
unfolding seen lacks
seen_older rows id version mode page newest e h =
    rw (le-ltb (get_or rows id no_row).version version (omega arith), ne_eqb (get_or rows id no_row).version version (λ z. omega arith))
    (sym (set-get_or rows id no_row))

-- The node exists, or not.
module _ (nodes id version : ℕ) (mode : Mode) (page : ℕ) (rows : List Row) where
  pub at_in : (rows' : List Row) → id < nodes → rows' ≡ set rows id (seen version mode page (get_or rows id no_row)) →
      rows' ≡ seen_at nodes id version mode page rows
  unfolding seen_at
  at_in rows' h e = rw (lt-ltb id nodes h) e

  pub at_out : nodes ≤ id → rows ≡ seen_at nodes id version mode page rows
  unfolding seen_at
  at_out h = rw (le-ltb id nodes h) refl

pub entry_seen : (nodes page : ℕ) (p : List ℕ) (rows rows' : List Row) (id version : ℕ) → id ≡ number_at 2 p 0 → version ≡ number_at 4 p 2 →
    rows' ≡ seen_at nodes id version Log page rows → rows' ≡ seen_entry nodes page p rows
unfolding seen_entry
entry_seen nodes page p rows rows' id version i v e = rw (← i, ← v) e

-- The loop over a page's entries.
module _ (nodes page : ℕ) (bytes : List ℕ) where
  pub run_more : (left at : ℕ) (rows : List Row) → 0 < left → length (payload_at bytes at 0x12) ≡ 15 →
      seen_run nodes page (left - 1) bytes (at + 18) (seen_entry nodes page (payload_at bytes at 0x12) rows) ≡ seen_run nodes page left bytes at rows
  unfolding seen_run
  run_more left at rows h e =
      let turn : left ≡ suc (left - 1) = omega arith in
      sym (ap (λ (k : ℕ). seen_run nodes page k bytes at rows) turn ∙ rw (eq-eqb (length (payload_at bytes at 0x12)) 15 e, seen_run) refl)

  pub run_stop : (left at : ℕ) (rows : List Row) → 0 < left → (length (payload_at bytes at 0x12) ≡ 15 → ⊥) →
      seen_run nodes page left bytes at rows ≡ rows
  unfolding seen_run
  run_stop left at rows h e =
      let turn : left ≡ suc (left - 1) = omega arith in
      ap (λ (k : ℕ). seen_run nodes page k bytes at rows) turn ∙ rw (ne_eqb (length (payload_at bytes at 0x12)) 15 e, seen_run) refl

  pub run-done : (left at : ℕ) (rows : List Row) → left ≤ 0 → seen_run nodes page left bytes at rows ≡ rows
  unfolding seen_run
  run-done left at rows h =
      let over : left ≡ 0 = omega arith in
      ap (λ (k : ℕ). seen_run nodes page k bytes at rows) over

  -- No node on the page, or one.
  pub node_none : (p : List ℕ) (rows : List Row) → p ≡ payload_at bytes 7 0x11 → length p < 7 → rows ≡ seen_node nodes page bytes rows
  unfolding seen_node
  node_none p rows e h = rw (← e, lt-ltb (length p) 7 h) refl

  pub node_seen : (p : List ℕ) (rows rows' : List Row) (id version : ℕ) → p ≡ payload_at bytes 7 0x11 → 7 ≤ length p → id ≡ number_at 2 p 0 →
      version ≡ number (payload_at bytes 0 0x10) → rows' ≡ seen_at nodes id version Disk page rows → rows' ≡ seen_node nodes page bytes rows
  unfolding seen_node
  node_seen p rows rows' id version e h i v x = rw (← e, le-ltb (length p) 7 h, ← i, ← v) x

-- The entries of a page, then its node.
pub page_seen : (nodes : ℕ) (pages : List (List ℕ)) (q : ℕ) (b : List ℕ) (rows middle rows' : List Row) → b ≡ page_at pages q →
    middle ≡ seen_run nodes q 27 b 7 rows → rows' ≡ seen_node nodes q b middle → rows' ≡ seen_page nodes pages q rows
unfolding seen_page
page_seen nodes pages q b rows middle rows' is e f = rw (← is, ← e) f

-- The rows one after another, as the definition has them from the last one down.
abbrev pub few : List Row → ℕ → Bool
few rows id = leb (get_or rows id no_row).pages 3

all_last : (f : ℕ → Bool) (k i : ℕ) → all_from f (suc k) i ≡ (f (i + k) && all_from f k i)
unfolding all_from
all_last f zero i = rw add-zero refl
all_last f (suc k) i =
    let e : i + 1 + k ≡ i + suc k = omega arith in
    rw (all_last f k (i + 1), e) (go (f i) (f (i + suc k)) (all_from f k (i + 1)))
  where
    go : (t u r : Bool) → (t && (u && r)) ≡ (u && (t && r))
    go true u r = refl
    go false u r = sym (and-false u)

pub three-all : (rows : List Row) (n : ℕ) → all_from (few rows) n 0 ≡ within_three n rows
unfolding within_three all_from
three-all rows zero = refl
three-all rows (suc n) = rw (all_last (few rows) n 0, zero-add n, three-all rows n) refl
