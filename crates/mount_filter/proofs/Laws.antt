-- What a print laid among the marks does to what they tell. Assumes nothing.
use Rattle.std.proofs.Common.{◌≡◌, sym, ap, ◌∙◌, true, false, ◌⊎◌, inl, inr, List, [], ◌∷◌, ◌++◌, length, get_or, eq-eqb, ne_eqb}
use Rattle.std.proofs.Common.{ℕ, ◌+◌, ◌*◌, ◌<◌, ◌≤◌, zero-add, arith}
use Rattle.std.proofs.Math.ListN.{set}
use Rattle.laws.specs.Tests.{test_clash}
use Rattle.laws.specs.Order.{eq_or}
use Rattle.laws.specs.Lay.{lay, lay-nil, lay-cons, get_or-lay-one, get_or-lay-other}
use Rattle.laws.specs.Counts.{bit, count, count-append}
use Rattle.laws.specs.BigEndian.{number_at}
use Rattle.mount_sequences.specs.Row.{row, row_snoc, row-lay-before}
use Rattle.mount_sequences.specs.Strict.{is}
use Rattle.mount_filter.specs.Marks.{mark_of, fingerprint, with_fingerprint, excludes, Room, Tells}

-- A byte stored.
pub set-lay : (t : List ℕ) (at x : ℕ) → at < length t → set t at x ≡ lay t at (x ∷ [])
set-lay t at x h = sym (lay-nil (set t at x) (at + 1)) ∙ lay-cons t at x [] h

-- The cases of a mark with one print more, and of what a mark rules out.
module _ (mark print : ℕ) where
  pub printed_first : mark ≡ 0 → print ≡ with_fingerprint mark print
  unfolding with_fingerprint
  printed_first e = rw (eq-eqb mark 0 e)

  module _ (some : mark ≡ 0 → ⊥) where
    pub printed_again : mark ≡ print → print ≡ with_fingerprint mark print
    unfolding with_fingerprint
    printed_again e = rw (ne_eqb mark 0 some, eq-eqb mark print e)

    pub printed_other : (mark ≡ print → ⊥) → 255 ≡ with_fingerprint mark print
    unfolding with_fingerprint
    printed_other e = rw (ne_eqb mark 0 some, ne_eqb mark print e)

module _ (mark v : ℕ) where
  pub rules_none : mark ≡ 0 → true ≡ excludes mark v
  unfolding excludes
  rules_none e = rw (eq-eqb mark 0 e)

  module _ (some : mark ≡ 0 → ⊥) where
    pub rules_several : mark ≡ 255 → false ≡ excludes mark v
    unfolding excludes
    rules_several e = rw (ne_eqb mark 0 some, eq-eqb mark 255 e)

    module _ (one : mark ≡ 255 → ⊥) where
      pub rules_same : mark ≡ fingerprint v → false ≡ excludes mark v
      unfolding excludes
      rules_same e = rw (ne_eqb mark 0 some, ne_eqb mark 255 one, eq-eqb mark (fingerprint v) e)

print_some : (x : ℕ) → fingerprint x ≡ 0 → ⊥
unfolding fingerprint
print_some x e = omega arith

print_one : (x : ℕ) → fingerprint x ≡ 255 → ⊥
unfolding fingerprint
print_one x e = omega arith

-- Its own number's print does not rule a number out, nor does the mark of several.
own_print : (x v : ℕ) → excludes (fingerprint x) v ≡ true → x ≡ v → ⊥
own_print x v t e = test_clash (excludes (fingerprint x) v) t (sym (rules_same (fingerprint x) v (print_some x) (print_one x) (ap fingerprint e)))

several : (mark v : ℕ) → mark ≡ 255 → excludes mark v ≡ true → ⊥
several mark v e t = test_clash (excludes mark v) t (sym (rules_several mark v (λ z. omega arith) e))

-- What a mark with one print more rules out, it ruled out before, and it is not the number printed.
record Ruled (mark x v : ℕ) : Type 0 where
  before : excludes mark v ≡ true
  other : x ≡ v → ⊥

printed_rules : (mark x v : ℕ) → excludes (with_fingerprint mark (fingerprint x)) v ≡ true → Ruled mark x v
printed_rules mark x v t = go (eq_or mark 0) (eq_or mark (fingerprint x))
  where
    go : (mark ≡ 0) ⊎ (mark ≡ 0 → ⊥) → (mark ≡ fingerprint x) ⊎ (mark ≡ fingerprint x → ⊥) → Ruled mark x v
    go (inl z) q =
        let own : excludes (fingerprint x) v ≡ true = ap (λ (m : ℕ). excludes m v) (printed_first mark (fingerprint x) z) ∙ t in
        record { before = sym (rules_none mark v z); other = own_print x v own }
    go (inr z) (inl q) =
        let own : excludes (fingerprint x) v ≡ true = ap (λ (m : ℕ). excludes m v) (printed_again mark (fingerprint x) z q) ∙ t in
        record { before = ap (λ (m : ℕ). excludes m v) q ∙ own; other = own_print x v own }
    go (inr z) (inr q) = absurd (several (with_fingerprint mark (fingerprint x)) v (sym (printed_other mark (fingerprint x) z q)) t)

-- The print of number i laid in its place.
module _
    (t : List ℕ) (n blocks i x at byte : ℕ) (room : Room t n blocks) (h : i < n) (here : x ≡ number_at 4 t (4 * i)) (place : at ≡ mark_of blocks x)
    (inside : at < 512 * blocks) (is-print : byte ≡ with_fingerprint (get_or t (512 * blocks + at) 0) (fingerprint x))
  where
    abbrev marking : List ℕ
    marking = lay t (512 * blocks + at) (byte ∷ [])

    pub row-marked : (k : ℕ) → k ≤ n → row k 0 marking ≡ row k 0 t
    row-marked k l = row-lay-before t (512 * blocks + at) (byte ∷ []) (omega (arith, room.size)) k 0 (omega (arith, room.few))

    pub tells_marked : Tells blocks i t → Tells blocks (i + 1) marking
    tells_marked tells v z = go (eq_or (mark_of blocks v) at)
      where
        one_more_lem : count (is v) (row (i + 1) 0 marking) ≡ count (is v) (row i 0 t) + (bit (is v x) + 0)
        one_more_lem =
            ap (count (is v)) (row-marked (i + 1) (omega arith) ∙ rw (zero-add (4 * i)) at (row_snoc i 0 t)) ∙
            ap (λ (y : ℕ). count (is v) (row i 0 t ++ (y ∷ []))) (sym here) ∙
            count-append (is v) (row i 0 t) (x ∷ [])

        none : (x ≡ v → ⊥) → excludes (get_or t (512 * blocks + mark_of blocks v) 0) v ≡ true → count (is v) (row (i + 1) 0 marking) ≡ 0
        none q r = omega (arith, one_more_lem, ap bit (ne_eqb x v q), tells v r)

        go : (mark_of blocks v ≡ at) ⊎ (mark_of blocks v ≡ at → ⊥) → count (is v) (row (i + 1) 0 marking) ≡ 0
        go (inl e) =
            let w : 512 * blocks + mark_of blocks v ≡ 512 * blocks + at = omega arith in
            let byte-is = get_or-lay-one t (512 * blocks + at) byte (512 * blocks + mark_of blocks v) (omega (arith, room.size)) w ∙ is-print in
            let ruled = printed_rules (get_or t (512 * blocks + at) 0) x v (sym (ap (λ (m : ℕ). excludes m v) byte-is) ∙ z) in
            none ruled.other (ap (λ (k : ℕ). excludes (get_or t k 0) v) w ∙ ruled.before)
        go (inr e) =
            let apart : 512 * blocks + mark_of blocks v ≡ 512 * blocks + at → ⊥ = λ q. e (omega arith) in
            let same_byte = get_or-lay-other t (512 * blocks + at) byte (512 * blocks + mark_of blocks v) (omega (arith, room.size)) apart in
            none (λ q. e (ap (mark_of blocks) (sym q) ∙ sym place)) (sym (ap (λ (m : ℕ). excludes m v) same_byte) ∙ z)

pub room-kept : (t s : List ℕ) (n blocks : ℕ) → Room t n blocks → length s ≡ length t → Room s n blocks
room-kept t s n blocks r e = record { enough = r.enough; size = e ∙ r.size; few = r.few }
