-- `page_read::view::view_checkpoint` meets its contract. Where the scores begin and how many there may be goes by whether field
-- 13 was found. Assumes nothing.
use mathlib.Core.Path.{◌≡◌, sym, ap, ◌∙◌}
use mathlib.Core.Bool.{true}
use mathlib.Core.List.{List}
use Prim.Native.Nat.{ℕ}
use native.Mathlib.Omega.{arith}
use lib.ListN.{length}
use Rattle.wire.specs.Field.{payload_at}
use Rattle.page.specs.Decode.{found, taken, most_scores}
use Rattle.page.specs.Tags.{only_13}
use Rattle.page.proofs.ReadBack.{taken-found}
use Rattle.page_read.specs.Payload.{payload-empty, found_true}
use Rattle.page_read.specs.Steps.{checkpoint-is}
use Rattle.page_read.proofs.view.view_checkpoint.Goals as goal

pub view_scores-requires : goal.view_scores-requires
view_scores-requires c = let b = c.args.page.now in
    let z = payload-empty b 7 0x13 32 only_13 (λ y. c.if-t-ne-TARIFF_BYTES.true (ap length c.payload-t.ensures ∙ y)) in
    record {
      size = c.requires;
      tariff = sym (ap found z);
      limit = sym (ap (λ (p : List ℕ). most_scores (found p)) z);
      place = omega arith;
      few = c.count_scores-n.ensures.1;
    }

pub returns-then-t-ne-TARIFF_BYTES : goal.returns-then-t-ne-TARIFF_BYTES
returns-then-t-ne-TARIFF_BYTES c =
    let b = c.args.page.now in
    let t = payload_at b 7 0x13 in
    let z = payload-empty b 7 0x13 32 only_13 (λ y. c.if-t-ne-TARIFF_BYTES.true (ap length c.payload-t.ensures ∙ y)) in
    c.view_scores.ensures ∙
    checkpoint-is c.args.sequence t b 7 54 c.count_scores-n.result (omega (arith, ap taken z))
    (sym (ap (λ (p : List ℕ). most_scores (found p)) z)) c.count_scores-n.ensures.0

pub view_scores-requires-2 : goal.view_scores-requires-2
view_scores-requires-2 c = let b = c.args.page.now in
    let t = payload_at b 7 0x13 in
    let l : length t ≡ 32 = ap length (sym c.payload-t.ensures) ∙ c.if-t-ne-TARIFF_BYTES.false in
    let f : found t ≡ true = found_true t (omega arith) in
    record {
      size = c.requires;
      tariff = sym f;
      limit = sym (ap most_scores f);
      place = omega arith;
      few = omega (arith, c.count_scores-n-2.ensures.1);
    }

pub returns : goal.returns
returns c = let b = c.args.page.now in
    let t = payload_at b 7 0x13 in
    let l : length t ≡ 32 = ap length (sym c.payload-t.ensures) ∙ c.if-t-ne-TARIFF_BYTES.false in
    let f : found t ≡ true = found_true t (omega arith) in
    c.view_scores-2.ensures ∙
    checkpoint-is c.args.sequence t b 42 50
    c.count_scores-n-2.result (omega (arith, taken-found t (omega arith))) (sym (ap most_scores f))
    c.count_scores-n-2.ensures.0
