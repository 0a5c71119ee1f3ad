-- The two pages as the writers make them, and the ways out of prepare. Assumes nothing.
use Rattle.std.specs.Prelude.{Some}
use mathlib.Core.Path.{◌≡◌, refl, sym, ap, ◌∙◌}
use mathlib.Core.List.{List, [], ◌∷◌}
use Prim.Native.Nat.{ℕ, ◌+◌, ◌*◌}
use native.Mathlib.Omega.{arith}
use borrow.Author.Tests.{ne_eqb}
use lib.ListN.{length, replicate, length-replicate, replicate-append-replicate}
use Rattle.laws.specs.Lay.{lay, lay-next, lay-whole, part, part-whole}
use Rattle.laws.specs.BigEndian.{number_at}
use Rattle.layout.specs.Layout.{page_bytes, no_leaf}
use Rattle.account.specs.declared.Tariff.{Tariff}
use Rattle.node.specs.declared.Shape.TheVariants.{Leaf}
use Rattle.node.specs.Change.{link}
use Rattle.page.specs.Page.{Entry}
use Rattle.page.specs.Image.{entry_bytes, content_bytes, fields, numbered, sealed, image}
use Rattle.page.specs.Decode.{score_of}
use Rattle.page.specs.Spelled.{length-entry_bytes}
use Rattle.page_write.specs.Chunks.{chunks}
use Rattle.page_write.specs.Pages.{entry_record, entry_record-bytes, log_body, log_image}
use Rattle.page_checkpoint.specs.Checkpoint.{scores_in}
use Rattle.page_checkpoint.specs.Checkpoint as Writer
use Rattle.model.specs.PoolLaws.{IsPool}
use Rattle.model.specs.Questions.{first_no, of_prepare}
use Rattle.model.specs.Passes.{prepare_pool}
use Rattle.model.specs.Call.{prepare_of}
use Rattle.flash_blocks.specs.Pages.{erased_bytes}
use Rattle.prepare.specs.Prepared.{root_page, checkpoint_page, first_bytes, Leaves, prepared-bytes}

abbrev root : Entry
root = record { id = 0; version = 1; change = link Leaf no_leaf }

pub root-image : (buffer : List ℕ) → buffer ≡ lay (replicate 15 0) 0 (entry_record 0 1 3 0 no_leaf) → log_image 2 1 buffer ≡ image root_page
unfolding log_image log_body chunks image content_bytes
root-image buffer e = ap (λ (p : List ℕ). sealed page_bytes (numbered 2 (fields 0x12 (p ∷ [])))) whole
  where
    is : buffer ≡ entry_bytes root
    is =
        e ∙ ap (lay (replicate 15 0) 0) (entry_record-bytes 0 1 (link Leaf no_leaf)) ∙
        lay-whole (replicate 15 0) (entry_bytes root) (length-entry_bytes root)

    whole : part buffer 0 15 ≡ entry_bytes root
    whole = part-whole buffer 15 (ap length is ∙ length-entry_bytes root) ∙ is

pub checkpoint_page_lem : (t : Tariff) → Writer.records_page 3 (Some t) 1 (replicate 6 0) (Some 1) ≡ checkpoint_page t
unfolding Writer.records_page scores_in chunks score_of number_at part
checkpoint_page_lem t = refl

-- Erased so far, and the next block erased: erased so far and a block more. All erased: FF throughout.
pub erase_next : (s : List ℕ) (block : ℕ) → lay (lay s 0 (replicate (16384 * block) 255)) (16384 * block) erased_bytes ≡
    lay s 0 (replicate (16384 * (block + 1)) 255)
unfolding erased_bytes
erase_next s block = more (16384 * block) 16384 (16384 * (block + 1)) (omega arith)
  where
    more : (m n k : ℕ) → m + n ≡ k → lay (lay s 0 (replicate m 255)) m (replicate n 255) ≡ lay s 0 (replicate k 255)
    more m n k e =
        lay-next s 0 (replicate m 255) (replicate n 255) m (omega arith) (omega (arith, length-replicate {A = ℕ} m 255)) ∙
        ap (lay s 0) (replicate-append-replicate m n 255 ∙ ap (λ (i : ℕ). replicate i 255) e)

pub erase_end : (s : List ℕ) (n : ℕ) → length s ≡ n → lay s 0 (replicate n 255) ≡ replicate (length s) 255
erase_end s n e = lay-whole s (replicate n 255) (omega (arith, length-replicate {A = ℕ} n 255)) ∙ ap (λ (i : ℕ). replicate i 255) (sym e)

-- The bytes erased, then one page and the other.
pub first-written : (bytes : ℕ) (a b erased one two : List ℕ) → erased ≡ replicate bytes 255 → one ≡ lay erased 0 a →
    two ≡ lay one 512 b → two ≡ first_bytes bytes a b
unfolding first_bytes
first-written bytes a b erased one two e f g = g ∙ ap (λ (s : List ℕ). lay s 512 b) (f ∙ ap (λ (s : List ℕ). lay s 0 a) e)

-- Refused, or prepared.
module _ (pool : List ℕ) (t : Tariff) (n : ℕ) (is : n ≡ first_no (of_prepare pool t)) where
  pub refused-leaves : (n ≡ 0 → ⊥) → Leaves (prepare_of pool t) n pool
  unfolding prepare_of
  refused-leaves some = rw (← is, ne_eqb n 0 some) (record { number = refl; pool = refl })

  module _ (z : n ≡ 0) where
    pub is-prepared : IsPool pool
    is-prepared = prepare_pool pool t (sym is ∙ z)

    pub prepared-leaves : (a b left : List ℕ) → a ≡ image root_page → b ≡ image (checkpoint_page t) → length a ≡ page_bytes →
        length b ≡ page_bytes → left ≡ first_bytes (length pool) a b → Leaves (prepare_of pool t) 0 left
    unfolding prepare_of
    prepared-leaves a b left ea eb la lb e =
        rw (sym is ∙ z)
        (record {
          number = refl;
          pool = e ∙ rw (ea, eb) (prepared-bytes pool is-prepared t (ap length (sym ea) ∙ la) (ap length (sym eb) ∙ lb));
        })
