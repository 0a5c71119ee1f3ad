-- Sixteen columns, row by row: why they come to the two sums. Assumes nothing.
use mathlib.Core.Path.{◌≡◌, refl, sym, ap, ◌∙◌, subst}
use mathlib.Core.List.{List, ◌++◌}
use Prim.Native.Nat.{ℕ, ◌+◌, ◌*◌, ◌≤◌, ◌<◌}
use native.Mathlib.Omega.{arith}
use lib.ListN.{length, get_or, take, drop, set, replicate, length-drop, length-set}
use lib.Seq.{take-add, length-take-le, get_or-take, get_or-drop}
use Rattle.wire.specs.declared.sum.Sums.{Sums}
use Rattle.wire.specs.Sum.{total, running, plain_sums}
use Rattle.wire.specs.Columns.{column_sums, Few}
use Rattle.wire.proofs.Running.{sums_same, total-append, running-append, total-set, lead_16, most_16}
use Rattle.wire.proofs.Plus.{plus, plus_from, length-plus, total-plus, running-plus, plus_from-next, plus_from-set, plus_from_end, plus_from_most}

-- Row k: sixteen bytes.
unfoldable pub row : ℕ → List ℕ → List ℕ
row k s = take 16 (drop (16 * k) s)

pub length-row : (s : List ℕ) (k : ℕ) → 16 * k + 16 ≤ length s → length (row k s) ≡ 16
unfolding row
length-row s k h = length-take-le 16 (drop (16 * k) s) (rw (length-drop (16 * k) s) (omega arith))

pub row_at : (s : List ℕ) (k i : ℕ) → i < 16 → get_or (row k s) i 0 ≡ get_or s (16 * k + i) 0
unfolding row
row_at s k i h = get_or-take 16 (drop (16 * k) s) i 0 h ∙ get_or-drop (16 * k) s i 0

-- The columns after k rows of s: their sums are those of the bytes so far, and small.
pub record Columns (s : List ℕ) (k : ℕ) (low high : List ℕ) : Type 0 where
  pub few : Few k low high
  pub are : column_sums low high k ≡ plain_sums (take (16 * k) s)

-- A row more: each high takes up its low, each low its byte.
pub columns_row : (s low high low' high' : List ℕ) (k : ℕ) → k ≤ 255 → 16 * k + 16 ≤ length s → Columns s k low high →
    low' ≡ plus low (row k s) → high' ≡ plus high low → total low' ≤ total low + 4080 → Columns s (k + 1) low' high'
unfolding row
columns_row s low high low' high' k h m c p q less =
    let r = row k s in
    let f = c.few in
    let rows : length r ≡ 16 = length-row s k m in
    let tl : total low' ≡ total low + total r = ap total p ∙ total-plus low r (f.lows ∙ sym rows) in
    let th : total high' ≡ total high + total low = ap total q ∙ total-plus high low (f.highs ∙ sym f.lows) in
    let rl : running 0 low' ≡ running 0 low + running 0 r = ap (running 0) p ∙ running-plus low r 0 0 (f.lows ∙ sym rows) in
    let ca : 1 + total low ≡ 1 + total (take (16 * k) s) = ap (λ (z : Sums). z.a) c.are in
    let cb : 16 * (k + total high) + running 0 low ≡ running 1 (take (16 * k) s) = ap (λ (z : Sums). z.b) c.are in
    let next : take (16 * (k + 1)) s ≡ take (16 * k) s ++ r = ap (λ (n : ℕ). take n s) (sixteen k) ∙ take-add (16 * k) 16 s in
    let na : total (take (16 * (k + 1)) s) ≡ total (take (16 * k) s) + total r = ap total next ∙ total-append (take (16 * k) s) r in
    let nb : running 1 (take (16 * (k + 1)) s) ≡ running 1 (take (16 * k) s) + running (1 + total (take (16 * k) s)) r =
    ap (running 1) next ∙ running-append (take (16 * k) s) r 1 in
    let lead : running (1 + total (take (16 * k) s)) r ≡ 16 * (1 + total (take (16 * k) s)) + running 0 r = lead_16 r (1 + total (take (16 * k) s)) rows in
    record {
      few = record {
        lows = ap length p ∙ length-plus low r (f.lows ∙ sym rows) ∙ f.lows;
        highs = ap length q ∙ length-plus high low (f.highs ∙ sym f.lows) ∙ f.highs;
        low_sum = omega arith;
        high_sum = omega arith;
      };
      are = sums_same (omega arith) (omega arith);
    }
  where
    sixteen : (k : ℕ) → 16 * (k + 1) ≡ 16 * k + 16
    sixteen k = omega arith

-- Before the first row every column is zero.
pub columns_none : (s low high : List ℕ) → low ≡ replicate 16 0 → high ≡ replicate 16 0 → Columns s 0 low high
columns_none s low high p q = rw (p, q) (record { few = record { lows = refl; highs = refl; low_sum = omega arith; high_sum = omega arith }; are = refl })

pub columns_at : (s low high : List ℕ) (k rows : ℕ) → k ≡ rows → Columns s k low high → Columns s rows low high
columns_at s low high k rows e c = subst (λ (n : ℕ). Columns s n low high) e c

-- What they come to is small.
pub columns_small : (s low high : List ℕ) (r : Sums) (rows : ℕ) → Columns s rows low high → r ≡ column_sums low high rows →
    (r ≡ plain_sums (take (16 * rows) s)) × (r.a ≤ 1 + 4080 * rows) × (r.b ≤ 16711696 * rows)
columns_small s low high r rows c e =
    let f = c.few in
    let a : r.a ≡ 1 + total low = ap (λ (z : Sums). z.a) e in
    let b : r.b ≡ 16 * (rows + total high) + running 0 low = ap (λ (z : Sums). z.b) e in
    (e ∙ c.are, omega (arith, f.low_sum), omega (arith, f.low_sum, f.high_sum, most_16 low f.lows))

-- ** A row, a byte at a time.

-- The columns where the first j bytes of the row r are added: the others, added from here, give the whole row added.
pub record Adding (r low₀ high₀ low high : List ℕ) (j : ℕ) : Type 0 where
  pub lows : length low ≡ 16
  pub highs : length high ≡ 16
  pub less : total low ≤ total low₀ + 255 * j
  pub low_left : plus_from j low r ≡ plus low₀ r
  pub high_left : plus_from j high low ≡ plus high₀ low₀

pub adding_none : (r low high : List ℕ) {k : ℕ} → Few k low high → Adding r low high low high 0
adding_none r low high f = record { lows = f.lows; highs = f.highs; less = omega arith; low_left = refl; high_left = refl }

module _ (r low₀ high₀ low high : List ℕ) (j : ℕ) (h : j < 16) (m : Adding r low₀ high₀ low high j) where
  pub adding_fits : length low₀ ≡ 16 → length high₀ ≡ 16 → get_or high j 0 + get_or low j 0 ≤ total high₀ + total low₀
  adding_fits p q = let e : total (plus_from j high low) ≡ total high₀ + total low₀ = ap total m.high_left ∙ total-plus high₀ low₀ (q ∙ sym p) in
      omega (arith, plus_from_most high low j (omega arith) (omega arith))

  pub adding_next : (v : ℕ) → length r ≡ 16 → v ≡ get_or r j 0 → v < 256 →
      Adding r low₀ high₀ (set low j (get_or low j 0 + v)) (set high j (get_or high j 0 + get_or low j 0)) (j + 1)
  adding_next v n e b = record {
    lows = length-set low j (get_or low j 0 + v) ∙ m.lows;
    highs = length-set high j (get_or high j 0 + get_or low j 0) ∙ m.highs;
    less = omega (arith, total-set low j v (omega arith));
    low_left = ap (λ (w : ℕ). plus_from (j + 1) (set low j (get_or low j 0 + w)) r) e ∙ plus_from-next low r j (omega arith) (omega arith) ∙ m.low_left;
    high_left = plus_from-set (set high j (get_or high j 0 + get_or low j 0)) low j (get_or low j 0 + v) ∙
        plus_from-next high low j (omega arith) (omega arith) ∙ m.high_left;
  }

pub adding_end : (s low₀ high₀ low high : List ℕ) (k j : ℕ) → k ≤ 255 → 16 * k + 16 ≤ length s → j ≡ 16 → Columns s k low₀ high₀ →
    Adding (row k s) low₀ high₀ low high j → Columns s (k + 1) low high
adding_end s low₀ high₀ low high k j h m e c a =
    let rows = length-row s k m in
    columns_row s low₀ high₀ low high k h m c
    (sym (plus_from_end low (row k s) j (a.lows ∙ sym rows) (omega (arith, a.lows))) ∙ a.low_left)
    (sym (plus_from_end high low j (a.highs ∙ sym a.lows) (omega (arith, a.highs))) ∙ a.high_left)
    (omega (arith, a.less))
