-- What the writers of each kind of page are given, and the page that they write. Assumes nothing.
use Rattle.std.specs.Prelude.{◌≡◌, refl, true, List, [], ◌∷◌, ◌++◌, map, ℕ, zero, suc, ◌+◌, get_or}
use Rattle.std.proofs.Common.{sym, ap}
use Rattle.laws.specs.Every.{Every, map_back}
use Rattle.laws.specs.BigEndian.{Bytes, big_endian}
use Rattle.layout.specs.Layout.{page_bytes}
use Rattle.pairs.specs.Pairs.{Pair}
use Rattle.node.specs.declared.Shape.{Shape}
use Rattle.node.specs.Node.{node}
use Rattle.node.specs.Change.{Change}
use Rattle.page.specs.Page.{Entry, log, whole, Page, page}
use Rattle.page.specs.Image.{
  change_number,
  change_key,
  change_pointer,
  entry_bytes,
  fields,
  content_bytes,
  numbered,
  sealed,
  image,
}
use Rattle.page.specs.Decode.{entry_ok, entry_of}
use Rattle.page.specs.Spelled.{entry_bytes_of}
use Rattle.page_write.specs.Chunks.{chunks}

-- ---- log pages: from the log buffer, 15 bytes an entry

-- The bytes of one, from its numbers; those of an entry where the numbers are its change's.
unfoldable pub entry_record : ℕ → ℕ → ℕ → ℕ → ℕ → List ℕ
entry_record id version kind key pointer = big_endian 2 id ++ (big_endian 4 version ++ (kind ∷ (big_endian 4 key ++ big_endian 4 pointer)))

pub entry_record-bytes : (id version : ℕ) (c : Change) →
    entry_record id version (change_number c) (change_key c) (change_pointer c) ≡ entry_bytes (record { id = id; version = version; change = c })
unfolding entry_record entry_bytes
entry_record-bytes id version c = refl

-- What stands before the sums of a log page of the first n entries of a buffer.
unfoldable pub log_body : ℕ → ℕ → List ℕ → List ℕ
log_body s n buffer = numbered s (fields 0x12 (chunks 15 n buffer 0))

unfoldable pub log_image : ℕ → ℕ → List ℕ → List ℕ
log_image s n buffer = sealed page_bytes (log_body s n buffer)

-- The entries that a buffer spells.
unfoldable pub entries_in : ℕ → List ℕ → List Entry
entries_in n buffer = map entry_of (chunks 15 n buffer 0)

-- Where each may stand on the page, it is the page of these entries.
pub log_image-is : (s n : ℕ) (buffer : List ℕ) → Every (λ p. (entry_ok s p ≡ true) × Bytes p) (chunks 15 n buffer 0) →
    log_image s n buffer ≡ image (page s (log (entries_in n buffer)))
unfolding log_image log_body entries_in image content_bytes
log_image-is s n buffer h =
    let forth = map_back entry_of entry_bytes (λ p f. entry_bytes_of s p f.1 f.0) (chunks 15 n buffer 0) h in
    ap (λ (ps : List (List ℕ)). sealed page_bytes (numbered s (fields 0x12 ps))) (sym forth)

-- ---- every page

-- What stands before the sums.
unfoldable pub body_of : Page → List ℕ
body_of (page s c) = numbered s (content_bytes c)

pub image-sealed : (p : Page) → sealed page_bytes (body_of p) ≡ image p
unfolding body_of image
image-sealed (page s c) = refl

-- ---- node pages: from arrays of keys and pointers

-- The first n pairs from a place on.
unfoldable pub first_pairs : ℕ → List ℕ → List ℕ → ℕ → List Pair
first_pairs zero keys pointers i = []
first_pairs (suc n) keys pointers i = (get_or keys i 0, get_or pointers i 0) ∷ first_pairs n keys pointers (i + 1)

unfoldable pub node_page : ℕ → ℕ → Shape → ℕ → List ℕ → List ℕ → ℕ → Page
node_page s id shape n keys pointers l = page s (whole id (node shape (first_pairs n keys pointers 0) l))
