-- The log buffer that holds entries: each read back at its place, all of them the content of a log page, and one or several more
-- appended. Assumes nothing.
use Rattle.std.specs.Prelude.{◌≡◌, Bool, true, false, ℕ, zero, suc, ◌+◌, ◌*◌, ◌≤◌, ◌<◌, ltb, length, Some, slice_get}
use Rattle.std.proofs.Math.Path.{refl, sym, ap, subst}
use Rattle.std.proofs.Common.{ap₂, ◌∙◌, zero-add, add-zero, arith, lt-ltb}
use mathlib.Core.List.{List, [], ◌∷◌, ◌++◌, map, append-nil, append_assoc, map-append}
use Rattle.std.proofs.Math.ListN.{length-append}
use Rattle.laws.specs.Tests.{choose}
use Rattle.laws.specs.Every.{Every}
use Rattle.laws.specs.Lay.{lay, part, part-lay, part-lay-before, length-lay}
use Rattle.laws.specs.BigEndian.{number_at, number_at-part}
use Rattle.laws.specs.Elements.{every_get}
use Rattle.layout.specs.Layout.{page_bytes, most_entries, bound32}
use Rattle.node.specs.Change.{Change}
use Rattle.page.specs.Page.{Entry, page, log}
use Rattle.page.specs.Image.{entry_bytes, fields, content_bytes, numbered, sealed, image}
use Rattle.page.specs.Decode as Decode
use Rattle.page.specs.Limits.{EntryFits}
use Rattle.page.specs.Spelled.{length-entry_bytes, entry_of-bytes}
use Rattle.page_write.specs.Chunks.{chunks}
use Rattle.page_write.specs.Pages.{log_body, log_image}
use Rattle.store.specs.Item.{entries}
use Rattle.flash_rows.specs.Worktable.{with_buffer}
use Rattle.flash_log.specs.Entry.{Logged, logged, entry_of, entered, append, append_all}
use Rattle.flash_log.specs.Claim.{id_at, version_at}
use Rattle.flash_refines.specs.Store.Follows.{BufferIs}
use Rattle.flash_allocate.specs.State.{with_entries}

-- Bytes that are those of entries one behind another have those of the k-th at its place.
bytes-at : (es : List Entry) (s : List ℕ) (at : ℕ) → chunks 15 (length es) s at ≡ map entry_bytes es → (k : ℕ) (e : Entry) → slice_get es k ≡ Some e →
    part s (at + 15 * k) 15 ≡ entry_bytes e
unfolding chunks
bytes-at [] s at h k e q = cc
bytes-at (x ∷ es) s at h zero e q =
    let here : at + 15 * 0 ≡ at = omega arith in
    let same : x ≡ e = cc in
    rw (here, ← same) (cc)
bytes-at (x ∷ es) s at h (suc k) e q =
    let behind : at + 15 * suc k ≡ at + 15 + 15 * k = omega arith in
    rw behind (bytes-at es s (at + 15) (cc) k e q)

-- The node and the version of an entry, from its bytes.
module _ (n : ℕ) (e : Entry) (l : n < bound32) (f : EntryFits n e) where
  id-bytes : number_at 2 (entry_bytes e) 0 ≡ e.id
  unfolding Decode.entry_of
  id-bytes = ap (λ (x : Entry). x.id) (entry_of-bytes n e l f)

  version-bytes : number_at 4 (entry_bytes e) 2 ≡ e.version
  unfolding Decode.entry_of
  version-bytes = ap (λ (x : Entry). x.version) (entry_of-bytes n e l f)

module _ {buffer : List ℕ} {entries : ℕ} {es : List Entry} (b : BufferIs buffer entries es) where
  -- the same buffer in another state
  pub buffer_same : {buffer' : List ℕ} {entries' : ℕ} → entries' ≡ entries → buffer' ≡ buffer → BufferIs buffer' entries' es
  buffer_same e d =
      record {
        size = ap length d ∙ b.size;
        number = e ∙ b.number;
        bytes = ap (λ (z : List ℕ). chunks 15 (length es) z 0) d ∙ b.bytes;
      }

  -- THE ENTRIES READ, one by one
  module _ (k : ℕ) (e : Entry) (q : slice_get es k ≡ Some e) where
    pub entry_at : part buffer (15 * k) 15 ≡ entry_bytes e
    entry_at = ap (λ (i : ℕ). part buffer i 15) (sym (zero-add (15 * k))) ∙ bytes-at es buffer 0 b.bytes k e q

    module _ {n : ℕ} (l : n < bound32) (f : Every (EntryFits n) es) where
      pub id-at : id_at buffer k ≡ e.id
      id-at =
          ap (number_at 2 buffer) (sym (add-zero (15 * k))) ∙
          sym (number_at-part 2 buffer (15 * k) 15 0 (omega arith)) ∙
          ap (λ (p : List ℕ). number_at 2 p 0) entry_at ∙
          id-bytes n e l (every_get f k e q)

      pub version-at : version_at buffer k ≡ e.version
      version-at =
          sym (number_at-part 4 buffer (15 * k) 15 2 (omega arith)) ∙
          ap (λ (p : List ℕ). number_at 4 p 2) entry_at ∙
          version-bytes n e l (every_get f k e q)

  -- THE BUFFER AS A PAGE
  pub image_log : (n : ℕ) → log_image n entries buffer ≡ image (page n (log es))
  unfolding log_image log_body image content_bytes
  image_log n =
      ap (λ (k : ℕ). sealed page_bytes (numbered n (fields 0x12 (chunks 15 k buffer 0)))) b.number ∙
      ap (λ (ps : List (List ℕ)). sealed page_bytes (numbered n (fields 0x12 ps))) b.bytes

-- A record laid behind n others.
chunks-behind : (n : ℕ) (s : List ℕ) (at to : ℕ) (xs : List ℕ) → length xs ≡ 15 → at + 15 * n ≡ to → to ≤ length s →
    chunks 15 (suc n) (lay s to xs) at ≡ chunks 15 n s at ++ (xs ∷ [])
unfolding chunks
chunks-behind zero s at to xs l e h =
    let here : at ≡ to = omega arith in
    ap (λ (p : List ℕ). p ∷ []) (rw (here, ← l) (part-lay s to xs h))
chunks-behind (suc n) s at to xs l e h =
    ap₂ ◌∷◌ (part-lay-before s to xs h at 15 (omega arith)) (chunks-behind n s (at + 15) to xs l (omega arith) h)

-- The buffer of a work table and a state.
abbrev pub Buffered : Logged → List Entry → Type 0
Buffered l es = BufferIs l.table.buffer l.state.entries es

module _ (id version : ℕ) where
  -- ONE ENTRY MORE, where there is room
  pub append-is : (c : Change) (l : Logged) {es : List Entry} → Buffered l es → length es < most_entries →
      Buffered (append id version c l) (es ++ (entry_of id version c ∷ []))
  unfolding append entered with_entries
  append-is c l {es} b few =
      rw (lt-ltb l.state.entries most_entries (omega (arith, b.number)))
      (record {
        size = length-lay buffer at (entry_bytes e) (omega (arith, length-entry_bytes e, b.size, b.number)) ∙ b.size;
        number = omega (arith, b.number, more);
        bytes =
            ap (λ (k : ℕ). chunks 15 k (lay buffer at (entry_bytes e)) 0) more ∙
            chunks-behind (length es) buffer 0 at (entry_bytes e) (length-entry_bytes e)
            (omega (arith, b.number)) (omega (arith, b.size, b.number)) ∙
            ap (λ (ps : List (List ℕ)). ps ++ (entry_bytes e ∷ [])) b.bytes ∙
            sym (map-append entry_bytes es (e ∷ []));
      })
    where
      e : Entry
      e = entry_of id version c

      buffer : List ℕ
      buffer = l.table.buffer

      at : ℕ
      at = 15 * l.state.entries

      more : length (es ++ (entry_of id version c ∷ [])) ≡ suc (length es)
      more = omega (arith, length-append es (entry_of id version c ∷ []))

  -- SEVERAL, of one node and one version
  pub append_all-is : (cs : List Change) (l : Logged) {es : List Entry} → Buffered l es → length es + length cs ≤ most_entries →
      Buffered (append_all id version cs l) (es ++ entries id version cs)
  unfolding append_all
  append_all-is [] l {es} b few = rw append-nil b
  append_all-is (c ∷ cs) l {es} b few =
      subst (Buffered (append_all id version cs (append id version c l))) (append_assoc es (entry_of id version c ∷ []) (entries id version cs))
      (append_all-is cs (append id version c l) (append-is c l b (omega arith)) (omega (arith, length-append es (entry_of id version c ∷ []))))

  -- Nothing but the buffer and the number of its entries changes.
  abbrev pub only_buffer : Logged → Logged → Logged
  only_buffer l m = logged (with_buffer m.table.buffer l.table) (with_entries m.state.entries l.state)

  pub append-holds : (c : Change) (l : Logged) → append id version c l ≡ only_buffer l (append id version c l)
  unfolding append entered with_entries
  append-holds c l = go (ltb l.state.entries most_entries)
    where
      new : Logged
      new = entered (entry_bytes (entry_of id version c)) l

      go : (t : Bool) → choose t new l ≡ only_buffer l (choose t new l)
      go true = refl
      go false = refl

  pub append_all-holds : (cs : List Change) (l : Logged) → append_all id version cs l ≡ only_buffer l (append_all id version cs l)
  unfolding append_all with_entries
  append_all-holds [] l = refl
  append_all-holds (c ∷ cs) l =
      append_all-holds cs (append id version c l) ∙
      ap (λ (m : Logged). only_buffer m (append_all id version (c ∷ cs) l)) (append-holds c l)
