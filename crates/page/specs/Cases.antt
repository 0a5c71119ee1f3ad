-- The cases of `decode`, each from the facts that pick it. Assumes nothing.
use Rattle.std.specs.Prelude.{◌≡◌, refl, Bool, true, false, List, ℕ, ◌≤◌, ◌<◌, get_or}
use Rattle.std.proofs.Common.{ap, le-leb, ne_eqb}
use Rattle.std.proofs.lemmas.Bool.{lt-leb}
use Rattle.laws.specs.BigEndian.{number}
use Rattle.layout.specs.Layout.{most_entries}
use Rattle.wire.specs.Field.{payload_at}
use Rattle.page.specs.Page.{Page}
use Rattle.page.specs.Decode.{
  Decoded,
  blank,
  written,
  bad,
  all_blank,
  run,
  entry_ok,
  when,
  decode_log,
  decode_node,
  decode_checkpoint,
  decode_content,
  decode_written,
  decode,
}

module _ (b : List ℕ) where
  pub decode-blank : all_blank b ≡ true → decode b ≡ blank
  unfolding decode
  decode-blank t = rw (t, decode)

  pub decode-other : all_blank b ≡ false → decode b ≡ decode_written (number (payload_at b 0 0x10)) b
  unfolding decode
  decode-other t = rw (t, decode)

module _ (s : ℕ) (b : List ℕ) where
  pub written-zero : s < 1 → decode_written s b ≡ bad
  unfolding decode_written
  written-zero h = rw (lt-leb 1 s h, decode_written)

  pub written_from : 1 ≤ s → decode_written s b ≡ decode_content s (get_or b 7 0) b
  unfolding decode_written
  written_from h = rw (le-leb 1 s h, decode_written)

  module _ (tag : ℕ) where
    pub content_log : tag ≡ 0x12 → decode_content s tag b ≡ decode_log s (run (entry_ok s) 0x12 18 most_entries b 7) b
    unfolding decode_content
    content_log e = rw e

    pub content_node : tag ≡ 0x11 → decode_content s tag b ≡ decode_node s (payload_at b 7 0x11) b
    unfolding decode_content
    content_node e = rw e

    pub content-checkpoint : (tag ≡ 0x12 → ⊥) → (tag ≡ 0x11 → ⊥) → decode_content s tag b ≡ decode_checkpoint s (payload_at b 7 0x13) b
    unfolding decode_content
    content-checkpoint p q = rw (ne_eqb tag 0x12 p, decode_content) (rw (ne_eqb tag 0x11 q))

-- A page that passed its test is written, and the other way round.
pub when_true : (t : Bool) (p : Page) → t ≡ true → when t p ≡ written p
unfolding when
when_true t p e = rw e

pub when_false : (t : Bool) (p : Page) → t ≡ false → when t p ≡ bad
unfolding when
when_false t p e = rw e

pub record Passed (t : Bool) (p q : Page) : Type 0 where
  pub test : t ≡ true
  pub same : p ≡ q

page_of : Page → Decoded → Page
page_of p blank = p
page_of p (written q) = q
page_of p bad = p

pub when_passed : (t : Bool) (p q : Page) → when t p ≡ written q → Passed t p q
unfolding page_of when
when_passed true p q e = record { test = refl; same = ap (page_of p) e }
when_passed false p q e = record { test = cc; same = cc }
