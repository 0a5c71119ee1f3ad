-- `page_read::view::view_scores` meets its contract. Each return is the view of the case that the tests before it pick. Assumes
-- nothing.
use mathlib.Core.Path.{◌≡◌, sym, ap, ap₂, ◌∙◌}
use mathlib.Core.Bool.{Bool, true, false, ◌||◌}
use Prim.Native.Nat.{◌+◌, ◌*◌, ◌≤◌}
use native.Mathlib.Omega.{arith}
use lib.Dec.{eqb}
use lib.ListN.{length}
use borrow.Author.Tests.{eq-eqb}
use Rattle.std.specs.Prelude.{Option, Some, ℕ}
use Rattle.laws.specs.BigEndian.{number, number_at-whole}
use Rattle.wire.specs.Field.{payload_at}
use Rattle.page.specs.Decode.{sealed_at, taken, found, most_scores, decode_counted}
use Rattle.page.specs.Tags.{only_15}
use Rattle.page.proofs.ReadBack.{taken-found}
use Rattle.page.proofs.Exact.{found-given}
use Rattle.page_read.specs.declared.view.PageView.TheVariants.{Checkpoint}
use Rattle.page_read.specs.Payload.{payload-empty, found_true}
use Rattle.page_read.specs.Steps.{scores-none, scores_unfilled, scores_unsealed, scores-sealed, nodes-none, nodes_some}
use Rattle.page_read.proofs.view.view_scores.Goals as goal

pub returns-then-n-lt1 : goal.returns-then-n-lt1
unfolding decode_counted
returns-then-n-lt1 c = let a = c.args in
    scores-none a.sequence (payload_at a.page.now 7 0x13) a.at a.n (payload_at a.page.now (a.at + 9 * a.n) 0x15) a.page.now c.if-n-lt1.true

pub returns-then-n-most : goal.returns-then-n-most
unfolding decode_counted
returns-then-n-most c =
    let a = c.args in
    let b = a.page.now in
    let z = payload-empty b (a.at + 9 * a.n) 0x15 2 only_15 (λ y. c.if-c-ne2.true (ap length c.payload-c.ensures ∙ y)) in
    scores_unfilled a.sequence (payload_at b 7 0x13) a.at a.n (payload_at b (a.at + 9 * a.n) 0x15) b c.if-n-lt1.false (ap found z)
    (λ y. c.if-n-most.true (y ∙ sym c.requires.limit))

pub returns-then-c-ne2 : goal.returns-then-c-ne2
unfolding decode_counted
returns-then-c-ne2 c =
    let a = c.args in
    let b = a.page.now in
    let t = payload_at b 7 0x13 in
    let count = payload_at b (a.at + 9 * a.n) 0x15 in
    let z = payload-empty b (a.at + 9 * a.n) 0x15 2 only_15 (λ y. c.if-c-ne2.true (ap length c.payload-c.ensures ∙ y)) in
    let f : found count ≡ false = ap found z in
    let m : (found count || eqb a.n (most_scores (found t))) ≡ true =
    ap (λ (x : Bool). x || eqb a.n (most_scores (found t))) f ∙ eq-eqb a.n (most_scores (found t)) (c.if-n-most.false ∙ c.requires.limit) in
    let e : a.at + 9 * a.n ≡ a.at + 9 * a.n + taken count = omega (arith, ap taken z) in
    ap₂ (λ (x : Bool) (y : Option ℕ). Checkpoint a.sequence x a.n y) (c.requires.tariff ∙ found-given t) (nodes-none count f) ∙
    scores-sealed a.sequence t a.at a.n count b c.if-n-lt1.false m (ap (sealed_at b) (sym e) ∙ sym c.is_sealed.ensures ∙ c.if-not-is_sealed.false)

pub returns-then-not-is_sealed : goal.returns-then-not-is_sealed
unfolding decode_counted
returns-then-not-is_sealed c =
    let a = c.args in
    let b = a.page.now in
    let t = payload_at b 7 0x13 in
    let count = payload_at b (a.at + 9 * a.n) 0x15 in
    let z = payload-empty b (a.at + 9 * a.n) 0x15 2 only_15 (λ y. c.if-c-ne2.true (ap length c.payload-c.ensures ∙ y)) in
    let f : found count ≡ false = ap found z in
    let m : (found count || eqb a.n (most_scores (found t))) ≡ true =
    ap (λ (x : Bool). x || eqb a.n (most_scores (found t))) f ∙ eq-eqb a.n (most_scores (found t)) (c.if-n-most.false ∙ c.requires.limit) in
    let e : a.at + 9 * a.n ≡ a.at + 9 * a.n + taken count = omega (arith, ap taken z) in
    scores_unsealed a.sequence t a.at a.n count b c.if-n-lt1.false m (ap (sealed_at b) (sym e) ∙ sym c.is_sealed.ensures ∙ c.if-not-is_sealed.true)

pub returns : goal.returns
unfolding decode_counted
returns c = let a = c.args in
    let b = a.page.now in
    let t = payload_at b 7 0x13 in
    let count = payload_at b (a.at + 9 * a.n) 0x15 in
    let q = c.payload-c.ensures in
    let two : length count ≡ 2 = ap length (sym q) ∙ c.if-c-ne2.false in
    let l : 1 ≤ length count = omega arith in
    let f : found count ≡ true = found_true count l in
    let m : (found count || eqb a.n (most_scores (found t))) ≡ true = ap (λ (x : Bool). x || eqb a.n (most_scores (found t))) f in
    let e : a.at + 9 * a.n + 5 ≡ a.at + 9 * a.n + taken count = omega (arith, taken-found count l) in
    let v : c.read16.result ≡ number count = c.read16.ensures.is ∙ number_at-whole 2
    c.payload-c.result.now c.if-c-ne2.false ∙ ap number
    q in
    ap₂ (λ (x : Bool) (y : Option ℕ). Checkpoint a.sequence x a.n y)
    (c.requires.tariff ∙ found-given t)
    (ap Some v ∙ nodes_some count f) ∙
    scores-sealed a.sequence t a.at a.n count b c.if-n-lt1.false m
    (ap (sealed_at b) (sym e) ∙ sym c.is_sealed-2.ensures ∙ c.if-not-is_sealed-2.false)

pub returns-then-not-is_sealed-2 : goal.returns-then-not-is_sealed-2
unfolding decode_counted
returns-then-not-is_sealed-2 c = let a = c.args in
    let b = a.page.now in
    let t = payload_at b 7 0x13 in
    let count = payload_at b (a.at + 9 * a.n) 0x15 in
    let q = c.payload-c.ensures in
    let two : length count ≡ 2 = ap length (sym q) ∙ c.if-c-ne2.false in
    let l : 1 ≤ length count = omega arith in
    let m : (found count || eqb a.n (most_scores (found t))) ≡ true = ap (λ (x : Bool). x || eqb a.n (most_scores (found t))) (found_true count l) in
    let e : a.at + 9 * a.n + 5 ≡ a.at + 9 * a.n + taken count = omega (arith, taken-found count l) in
    scores_unsealed a.sequence t a.at a.n count b c.if-n-lt1.false m
    (ap (sealed_at b) (sym e) ∙ sym c.is_sealed-2.ensures ∙ c.if-not-is_sealed-2.true)
