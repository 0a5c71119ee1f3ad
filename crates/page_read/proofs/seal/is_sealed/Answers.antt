-- `page_read::seal::is_sealed` meets its contract. Each return is the case of the definition that the tests before it pick;
-- where the sums are found they lie within the page. Assumes nothing.
use mathlib.Core.Path.{◌≡◌, sym, ap, ◌∙◌}
use mathlib.Core.List.{List}
use Prim.Native.Nat.{ℕ, ◌+◌, ◌-◌, ◌≤◌}
use native.Mathlib.Omega.{arith}
use lib.ListN.{length, drop, length-drop}
use lib.Seq.{length-take-le, take_all}
use Rattle.laws.specs.BigEndian.{number_at}
use Rattle.wire.specs.Field.{payload_at}
use Rattle.wire.specs.declared.sum.Sums.{Sums}
use Rattle.page.specs.Decode.{all_blank}
use Rattle.page_read.specs.Payload.{sums_within}
use Rattle.page_read.specs.Steps.{no_sums_lem, other_b, other_a, both_sums}
use Rattle.page_read.proofs.seal.is_sealed.Goals as goal
use Rattle.page_read.proofs.seal.is_sealed.Goals.{Else-read16-s-2, then-read16-s-via-then-read16-s, then-read16-s-via-else-read16-s+then-read16-s-2}

pub returns-then-p-ne4 : goal.returns-then-p-ne4
returns-then-p-ne4 c = no_sums_lem c.args.page.now c.args.end
    (λ z. c.if-p-ne4.true (ap length c.payload-p.ensures ∙ z))

pub slice_bounds-sum_bytes-end : goal.slice_bounds-sum_bytes-end
slice_bounds-sum_bytes-end c =
    sym (length-take-le c.args.end c.args.page.now
    (omega (
      arith,
      sums_within c.args.page.now c.args.end
          (ap length (sym c.payload-p.ensures) ∙ c.if-p-ne4.false),
    )))

pub sum_bytes-s-requires : goal.sum_bytes-s-requires
sum_bytes-s-requires c =
    let w = sums_within c.args.page.now
    c.args.end
    (ap length (sym c.payload-p.ensures) ∙ c.if-p-ne4.false) in
    omega (
      arith,
      length-take-le c.args.end
          c.args.page.now (omega arith),
      c.requires,
    )

pub returns-then-read16-s : goal.returns-then-read16-s
returns-then-read16-s c =
    let a = c.args in
    let q = c.payload-p.ensures in
    let b = c.read16.ensures.is in
    let s = c.sum_bytes-s.ensures in
    let four : length (payload_at a.page.now a.end 0x1F) ≡ 4 = ap length (sym q) ∙ c.if-p-ne4.false in
    elim c.then-read16-s.branch [
      | then-read16-s-via-then-read16-s w ↦
          other_b a.page.now a.end four
          (λ z. w.if-read16-s.true (b ∙ ap (λ (l : List ℕ). number_at 2 l 0) q ∙ z ∙ sym (ap (λ (x : Sums). x.b) s)))
      | then-read16-s-via-else-read16-s+then-read16-s-2 w ↦
          other_a a.page.now a.end four
          (ap (λ (l : List ℕ). number_at 2 l 0) (sym q) ∙ sym b ∙ w.if-read16-s.false ∙ ap (λ (x : Sums). x.b) s)
          (λ z. w.if-read16-s-2.true
          (w.read16-else-read16-s.ensures.is ∙ ap (λ (l : List ℕ). number_at 2 l 2) q ∙ z ∙ sym (ap (λ (x : Sums). x.a) s)))
    ]

-- The sums were found, so they lie within the page.
within : (c : Else-read16-s-2) → c.args.end
    + 7 ≤ length c.args.page.now
within c =
    sums_within c.args.page.now c.args.end
    (ap length (sym c.payload-p.ensures) ∙ c.if-p-ne4.false)

pub overflow_add-end : goal.overflow_add-end
overflow_add-end c = omega (arith, within (goal.at.overflow_add-end c).Else-read16-s-2)

pub slice_bounds-all_blank-count : goal.slice_bounds-all_blank-count
slice_bounds-all_blank-count c = omega (arith, within (goal.at.slice_bounds-all_blank-count c).Else-read16-s-2)

pub slice_bounds-all_blank-start : goal.slice_bounds-all_blank-start
slice_bounds-all_blank-start c = omega (arith, within (goal.at.slice_bounds-all_blank-start c).Else-read16-s-2)

pub returns : goal.returns
returns c = let a = c.args in
    let q = c.payload-p.ensures in
    let b = c.read16.ensures.is in
    let d = c.read16-else-read16-s.ensures.is in
    let s = c.sum_bytes-s.ensures in
    let w : length (drop (a.end + 7) a.page.now) ≤ length a.page.now - (a.end + 7) = simp length-drop (omega arith) in
    c.all_blank.ensures ∙
    ap all_blank (take_all (length a.page.now - (a.end + 7)) (drop (a.end + 7) a.page.now) w) ∙
    both_sums a.page.now a.end (ap length (sym q) ∙ c.if-p-ne4.false)
    (ap (λ (l : List ℕ). number_at 2 l 0) (sym q) ∙ sym b ∙ c.if-read16-s.false ∙ ap (λ (x : Sums). x.b) s)
    (ap (λ (l : List ℕ). number_at 2 l 2) (sym q) ∙ sym d ∙ c.if-read16-s-2.false ∙ ap (λ (x : Sums). x.a) s)
