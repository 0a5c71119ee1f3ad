-- What the entries of a log page do to the rows: where no row names the page yet, exactly those of log nodes that an entry speaks of under
-- their version note it, once, and nothing else changes. Assumes nothing.
use Rattle.std.specs.Prelude.{◌≡◌, Bool, not, ◌&&◌, ◌||◌, ◌⊎◌, ℕ, suc, ◌+◌, ◌<◌, eqb, Option, None, Some, slice_get}
use Rattle.std.proofs.Math.Path.{refl, ap, ap₂}
use Rattle.std.proofs.Common.{sym, ◌∙◌, subst, inl, inr, zero-add, add-zero, arith, lt-ltb, ltb-true, eqb-true, eq-eqb, ne_eqb, length-set, get_or-set_same, get_or-set_other}
use Rattle.std.proofs.Math.Bool.{true, false, or-true, or-false}
use mathlib.Core.List.{List, [], ◌∷◌, map}
use Rattle.std.proofs.lemmas.Bool.{eqb-false}
use Rattle.std.proofs.Math.Dec.{ltb}
use Rattle.std.proofs.Math.ListN.{length}
use Rattle.laws.specs.Tests.{choose}
use Rattle.laws.specs.Order.{eq_or}
use Rattle.laws.specs.Loops.{steps}
use Rattle.laws.specs.Counts.{bit, empty, cons_if}
use Rattle.laws.specs.Every.{Every}
use Rattle.layout.specs.Layout.{bound32}
use Rattle.account.specs.declared.Mode.{Mode}
use Rattle.account.specs.declared.Mode.TheVariants.{Log, Disk}
use Rattle.node.specs.Replay.{step}
use Rattle.page.specs.Page.{Entry}
use Rattle.page.specs.Limits.{EntryFits}
use Rattle.store.specs.Item.{entry_item, pieces_in}
use Rattle.flash_rows.specs.Row.{no_row}
use Rattle.flash_rows.specs.Step.{names, noted, by_mode, claim, settled}
use Rattle.flash_rows.specs.declared.Row.{Row}
use Rattle.flash_log.specs.Claim.{claim_row, claim_entry, claim_entries}
use Rattle.flash_refines.specs.Store.Mirror.{row_at}
use Rattle.flash_refines.specs.Store.Follows.{BufferIs}
use Rattle.flash_refines.specs.Store.Notes.{after, names-noted, pages-noted, Keeps, keeps_same, keeps_noted}
use Rattle.flash_refines.specs.Store.Buffer.{id-at, version-at}

-- Whether some of the entries is of a node and a version.
abbrev pub speak_of : ℕ → ℕ → List Entry → Bool
speak_of m version es = not (empty (pieces_in m version (map entry_item es)))

-- Whether they concern the row of a node: it is in log mode, and one of them is of its version.
abbrev pub concern : List Entry → ℕ → Row → Bool
concern es m r = by_mode r.mode (speak_of m r.version es) false

-- A row before and after the claims of entries that concern it, or do not.
pub record Claimed (concerned : Bool) (page : ℕ) (r r' : Row) : Type 0 where
  pub keeps : Keeps r r'
  pub pages : r'.pages ≡ r.pages + bit concerned
  pub names : (x : ℕ) → names x r' ≡ (names x r || (concerned && eqb page x))

-- ---- the row of one claim

module _ (page : ℕ) (r : Row) where
  claim_disk : r.mode ≡ Disk → (version : ℕ) → claim version page r ≡ None
  unfolding claim
  claim_disk e version = rw e refl

  claim-other : (version : ℕ) → (r.version ≡ version → ⊥) → claim version page r ≡ None
  unfolding claim
  claim-other version d = rw (ne_eqb r.version version d) (go r.mode)
    where
      go : (m : Mode) → by_mode {A = Option Row} m None None ≡ None
      go Log = refl
      go Disk = refl

  claim-named : names page r ≡ true → (version : ℕ) → claim version page r ≡ None
  unfolding claim
  claim-named e version = rw e (go r.mode (eqb r.version version))
    where
      go : (m : Mode) (t : Bool) → by_mode {A = Option Row} m (choose t None None) None ≡ None
      go Log true = refl
      go Log false = refl
      go Disk t = refl

  claim_new : r.mode ≡ Log → names page r ≡ false → claim r.version page r ≡ Some (noted page r)
  unfolding claim
  claim_new e n =
      ap (λ (m : Mode). by_mode m (choose (eqb r.version r.version) (choose (names page r) None (Some (noted page r))) None) None) e ∙
      ap (λ (t : Bool). choose t (choose (names page r) None (Some (noted page r))) None) (eq-eqb r.version r.version refl) ∙
      ap (λ (t : Bool). choose t None (Some (noted page r))) n

  -- a row that noted the page, and one that may have
  noted-named : r.pages < 3 → names page (noted page r) ≡ true
  noted-named l = names-noted r page page l ∙ rw (eq-eqb page page refl) (or-true (names page r))

  noted_if : (t : Bool) → (t ≡ true → r.pages < 3) → Claimed t page r (choose t (noted page r) r)
  noted_if true room =
      record { keeps = keeps_noted r page; pages = pages-noted r page (room refl); names = λ x. names-noted r page x (room refl) }
  noted_if false room = record { keeps = keeps_same; pages = sym (add-zero r.pages); names = λ x. sym (or-false (names x r)) }

-- ---- the rows of one entry

settled-own : (c : Option Row) (n : ℕ) (rows : List Row) → n < length rows → row_at (settled c n rows) n ≡ after c (row_at rows n)
settled-own None n rows l = refl
settled-own (Some r) n rows l = get_or-set_same rows n r no_row l

settled-other : (c : Option Row) (n m : ℕ) (rows : List Row) → (m ≡ n → ⊥) → row_at (settled c n rows) m ≡ row_at rows m
settled-other None n m rows d = refl
settled-other (Some r) n m rows d = get_or-set_other rows n m r no_row d

length-settled : (c : Option Row) (n : ℕ) (rows : List Row) → length (settled c n rows) ≡ length rows
length-settled None n rows = refl
length-settled (Some r) n rows = length-set rows n r

-- The rows after one entry claimed the page, and after several in order.
abbrev claim_one : ℕ → ℕ → Entry → List Row → List Row
claim_one nodes page e rows = choose (ltb e.id nodes) (claim_row e.id e.version page rows) rows

abbrev claim_all : ℕ → ℕ → List Entry → List Row → List Row
claim_all nodes page [] rows = rows
claim_all nodes page (e ∷ es) rows = claim_all nodes page es (claim_one nodes page e rows)

module _ (nodes page : ℕ) where
  length-one : (e : Entry) (rows : List Row) → length (claim_one nodes page e rows) ≡ length rows
  unfolding claim_row
  length-one e rows = go (ltb e.id nodes)
    where
      go : (t : Bool) → length (choose t (claim_row e.id e.version page rows) rows) ≡ length rows
      go true = length-settled (claim e.version page (row_at rows e.id)) e.id rows
      go false = refl

  one-other : (e : Entry) (rows : List Row) (m : ℕ) → (e.id < nodes → e.id ≡ m → ⊥) → row_at (claim_one nodes page e rows) m ≡ row_at rows m
  unfolding claim_row
  one-other e rows m d = go (ltb e.id nodes) refl
    where
      go : (t : Bool) → ltb e.id nodes ≡ t → row_at (choose t (claim_row e.id e.version page rows) rows) m ≡ row_at rows m
      go true q = settled-other (claim e.version page (row_at rows e.id)) e.id m rows (λ z. d (ltb-true e.id nodes q) (sym z))
      go false q = refl

  length-all : (es : List Entry) (rows : List Row) → length (claim_all nodes page es rows) ≡ length rows
  length-all [] rows = refl
  length-all (e ∷ es) rows = length-all es (claim_one nodes page e rows) ∙ length-one e rows

  module _ (m : ℕ) (there : m < nodes) where
    one-own : (e : Entry) (rows : List Row) → e.id ≡ m → m < length rows →
        row_at (claim_one nodes page e rows) m ≡ after (claim e.version page (row_at rows m)) (row_at rows m)
    unfolding claim_row
    one-own e rows q l =
        rw (lt-ltb e.id nodes (omega arith), q) (settled-own (claim e.version page (row_at rows m)) m rows l)

    -- the row of an entry that claims nothing
    one_idle : (e : Entry) (rows : List Row) → m < length rows → (e.id ≡ m → claim e.version page (row_at rows m) ≡ None) →
        row_at (claim_one nodes page e rows) m ≡ row_at rows m
    one_idle e rows l idle = go (eq_or e.id m)
      where
        go : (e.id ≡ m) ⊎ (e.id ≡ m → ⊥) → row_at (claim_one nodes page e rows) m ≡ row_at rows m
        go (inl q) = one-own e rows q l ∙ ap (λ (c : Option Row). after c (row_at rows m)) (idle q)
        go (inr d) = one-other e rows m (λ h. d)

    all_idle : (es : List Entry) (rows : List Row) → m < length rows → ((version : ℕ) → claim version page (row_at rows m) ≡ None) →
        row_at (claim_all nodes page es rows) m ≡ row_at rows m
    all_idle [] rows l idle = refl
    all_idle (e ∷ es) rows l idle =
        all_idle es (claim_one nodes page e rows) (rw (length-one e rows) l) (λ version. rw same (idle version)) ∙ same
      where
        same : row_at (claim_one nodes page e rows) m ≡ row_at rows m
        same = one_idle e rows l (λ q. idle e.version)

    -- the row of a log node that does not name the page yet
    all_new : (r : Row) → r.mode ≡ Log → names page r ≡ false → (es : List Entry) (rows : List Row) → row_at rows m ≡ r → m < length rows →
        (speak_of m r.version es ≡ true → r.pages < 3) → row_at (claim_all nodes page es rows) m ≡ choose (speak_of m r.version es) (noted page r) r
    all_new r mode new [] rows e l room = e
    all_new r mode new (x ∷ es) rows e l room =
        go (eqb x.id m) refl (eqb x.version r.version) refl room (λ q h. all_new r mode new es (claim_one nodes page x rows) q long h)
      where
        long : m < length (claim_one nodes page x rows)
        long = rw (length-one x rows) l

        speak : Bool → Bool
        speak t = not (empty (cons_if t (step x.change) (pieces_in m r.version (map entry_item es))))

        same : (x.id ≡ m → r.version ≡ x.version → ⊥) → row_at (claim_one nodes page x rows) m ≡ r
        same d = one_idle x rows l (λ q. rw e (claim-other page r x.version (d q))) ∙ e

        noted_here : x.id ≡ m → x.version ≡ r.version → row_at (claim_one nodes page x rows) m ≡ noted page r
        noted_here q u = one-own x rows q l ∙ rw (e, u, claim_new page r mode new) refl

        go : (a : Bool) → eqb x.id m ≡ a → (b : Bool) → eqb x.version r.version ≡ b → (speak (a && b) ≡ true → r.pages < 3) →
            (row_at (claim_one nodes page x rows) m ≡ r → (speak_of m r.version es ≡ true → r.pages < 3) →
            row_at (claim_all nodes page es (claim_one nodes page x rows)) m ≡ choose (speak_of m r.version es) (noted page r) r) →
            row_at (claim_all nodes page es (claim_one nodes page x rows)) m ≡ choose (speak (a && b)) (noted page r) r
        go true p true q few rest =
            let here = noted_here (eqb-true x.id m p) (eqb-true x.version r.version q) in
            all_idle es (claim_one nodes page x rows) long (λ version. rw here (claim-named page (noted page r) (noted-named page r (few refl)) version)) ∙ here
        go true p false q few rest = rest (same (λ z u. eqb-false x.version r.version q (sym u))) few
        go false p b q few rest = rest (same (λ z u. eqb-false x.id m p z)) few

-- ---- the buffer's entries

module _ {buffer : List ℕ} {entries : ℕ} {es : List Entry} (b : BufferIs buffer entries es) {n : ℕ} (l : n < bound32) (f : Every (EntryFits n) es)
    (nodes page : ℕ) (rows : List Row) where
  entries-claim : claim_entries buffer nodes page entries rows ≡ claim_all nodes page es rows
  unfolding claim_entries claim_entry steps
  entries-claim =
      ap (λ (k : ℕ). steps (claim_entry buffer nodes page) k 0 rows) b.number ∙
      go es 0 rows (λ k e q now. ap (λ (j : ℕ). claim_entry buffer nodes page j now) (zero-add k) ∙ one k e q now)
    where
      one : (k : ℕ) (e : Entry) → slice_get es k ≡ Some e → (now : List Row) → claim_entry buffer nodes page k now ≡ claim_one nodes page e now
      one k e q now =
          ap₂ (λ (id version : ℕ). choose (ltb id nodes) (claim_row id version page now) now) (id-at b k e q l f) (version-at b k e q l f)

      go : (rest : List Entry) (i : ℕ) (now : List Row) →
          ((k : ℕ) (e : Entry) → slice_get rest k ≡ Some e → (now : List Row) → claim_entry buffer nodes page (i + k) now ≡ claim_one nodes page e now) →
          steps (claim_entry buffer nodes page) (length rest) i now ≡ claim_all nodes page rest now
      go [] i now each = refl
      go (e ∷ rest) i now each =
          ap (steps (claim_entry buffer nodes page) (length rest) (i + 1))
          (ap (λ (j : ℕ). claim_entry buffer nodes page j now) (sym (add-zero i)) ∙ each 0 e refl now) ∙
          go rest (i + 1) (claim_one nodes page e now)
          (λ k x q t. ap (λ (j : ℕ). claim_entry buffer nodes page j t) (behind k) ∙ each (suc k) x q t)
        where
          behind : (k : ℕ) → i + 1 + k ≡ i + suc k
          behind k = omega arith

  -- As many rows.
  pub length-claimed : length (claim_entries buffer nodes page entries rows) ≡ length rows
  length-claimed = ap length entries-claim ∙ length-all nodes page es rows

  -- THE ROW OF A NODE that does not name the page yet, and has a slot for it where entries concern it
  pub claimed-row : (m : ℕ) → m < nodes → m < length rows → names page (row_at rows m) ≡ false →
      (concern es m (row_at rows m) ≡ true → (row_at rows m).pages < 3) →
      Claimed (concern es m (row_at rows m)) page (row_at rows m) (row_at (claim_entries buffer nodes page entries rows) m)
  claimed-row m there long new room =
      subst (λ (t : List Row). Claimed (concern es m (row_at rows m)) page (row_at rows m) (row_at t m)) (sym entries-claim) (go (row_at rows m).mode refl room)
    where
      r : Row
      r = row_at rows m

      speak : Bool
      speak = speak_of m (row_at rows m).version es

      go : (mode : Mode) → r.mode ≡ mode → (by_mode mode speak false ≡ true → r.pages < 3) →
          Claimed (by_mode mode speak false) page r (row_at (claim_all nodes page es rows) m)
      go Disk e few = subst (Claimed false page r) (sym (all_idle nodes page m there es rows long (claim_disk page r e))) (noted_if page r false few)
      go Log e few = subst (Claimed speak page r) (sym (all_new nodes page m there r e new es rows refl long few)) (noted_if page r speak few)
