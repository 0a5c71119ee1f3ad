-- Laws of a list's total and of its running sums. Assumes nothing.
use mathlib.Core.Path.{◌≡◌, refl, sym, ap, ◌∙◌}
use mathlib.Core.List.{List, [], ◌∷◌, ◌++◌}
use Prim.Native.Nat.{ℕ, zero, suc, ◌+◌, ◌-◌, ◌*◌, ◌%◌, ◌≤◌, ◌<◌}
use native.Mathlib.Nat.{add-zero, zero-add, add_assoc, suc-mul}
use native.Mathlib.Numerals.{add-one}
use native.Mathlib.Omega.{arith}
use lib.ListN.{length, get_or, take, drop, set, length-drop, drop_of_length-le}
use lib.Seq.{drop-cons, take-suc, take_all}
use Rattle.wire.specs.declared.sum.Sums.{Sums}
use Rattle.wire.specs.Sum.{total, running, plain_sums, sums_of, sums_of_plain}

-- ** Lists put together.

pub total-append : (x y : List ℕ) → total (x ++ y) ≡ total x + total y
total-append [] y = omega arith
total-append (x ∷ xs) y = omega (arith, total-append xs y)

pub running-append : (x y : List ℕ) (a : ℕ) → running a (x ++ y) ≡ running a x + running (a + total x) y
running-append [] y a = rw (add-zero a) (omega arith)
running-append (x ∷ xs) y a = rw (← add_assoc a x (total xs)) (omega (arith, running-append xs y (a + x)))

pub sums_same : {a a' b b' : ℕ} → a ≡ a' → b ≡ b' → ◌≡◌ {A = Sums} (record { a = a; b = b }) (record { a = a'; b = b' })
sums_same p q = rw (p, q) refl

abbrev remainders : Sums → Sums
remainders z = record { a = z.a % 65535; b = z.b % 65535 }

-- One byte more; and all bytes, when the remainders are taken.
pub plain_next : (s : List ℕ) (i a b x : ℕ) → i < length s → x ≡ get_or s i 0 → ◌≡◌ {A = Sums} (record { a = a; b = b }) (plain_sums (take i s)) →
    ◌≡◌ {A = Sums} (record { a = a + x; b = b + (a + x) }) (plain_sums (take (i + 1) s))
plain_next s i a b x h e p =
    let q : a ≡ 1 + total (take i s) = ap (λ (z : Sums). z.a) p in
    let r : b ≡ running 1 (take i s) = ap (λ (z : Sums). z.b) p in
    rw (add-one i, take-suc s i 0 h, total-append (take i s) (get_or s i 0 ∷ []), running-append (take i s) (get_or s i 0 ∷ []) 1)
    (sums_same (omega arith) (omega arith))

pub plain_end : (s : List ℕ) (i a b : ℕ) → length s ≤ i → ◌≡◌ {A = Sums} (record { a = a; b = b }) (plain_sums (take i s)) →
    ◌≡◌ {A = Sums} (record { a = a % 65535; b = b % 65535 }) (sums_of s)
plain_end s i a b h p =
    let q = p ∙ ap plain_sums (take_all i s h) in
    ap remainders q ∙ sym (sums_of_plain s)

-- ** What is left of a list, a place at a time.

pub total-next : (x : List ℕ) (i : ℕ) → i < length x → total (drop i x) ≡ get_or x i 0 + total (drop (i + 1) x)
total-next x i h = rw (add-one i, drop-cons x i 0 h) refl

pub total_end : (x : List ℕ) (i : ℕ) → length x ≤ i → total (drop i x) ≡ 0
total_end x i h = ap total (drop_of_length-le x {i = i} h)

running-next : (x : List ℕ) (i a : ℕ) → i < length x →
    running a (drop i x) ≡ (a + get_or x i 0) + running (a + get_or x i 0) (drop (i + 1) x)
running-next x i a h = rw (add-one i, drop-cons x i 0 h) refl

pub running_end : (x : List ℕ) (i a : ℕ) → length x ≤ i → running a (drop i x) ≡ 0
running_end x i a h = ap (running a) (drop_of_length-le x {i = i} h)

-- ** One element more.

pub total-set : (x : List ℕ) (i v : ℕ) → i < length x → total (set x i (get_or x i 0 + v)) ≡ total x + v
total-set [] i v h = absurd (omega arith)
total-set (x ∷ xs) zero v h = omega arith
total-set (x ∷ xs) (suc i) v h = omega (arith, total-set xs i v (omega arith))

-- ** What the first sum adds to the second, and how much that is at most.

-- n times a, as a sum.
abbrev times : ℕ → ℕ → ℕ
times zero a = 0
times (suc n) a = a + times n a

running_lead : (x : List ℕ) (a c : ℕ) → running (a + c) x ≡ times (length x) a + running c x
running_lead [] a c = omega arith
running_lead (x ∷ xs) a c = rw (add_assoc a c x) (omega (arith, running_lead xs a (c + x)))

times-mul : (n a : ℕ) → times n a ≡ n * a
times-mul zero a = omega arith
times-mul (suc n) a = omega (arith, times-mul n a, suc-mul n a)

-- The first of what is left stands in each of the sums that are left.
pub running-first : (x : List ℕ) (i : ℕ) → length x ≡ 16 → i < 16 →
    running 0 (drop i x) ≡ (16 - i) * get_or x i 0 + running 0 (drop (i + 1) x)
running-first x i e h =
    let v = get_or x i 0 in
    let rest = drop (i + 1) x in
    let n : length rest ≡ 15 - i = length-drop (i + 1) x ∙ omega arith in
    let p : running (v + 0) rest ≡ (15 - i) * v + running 0 rest =
    running_lead rest v 0 ∙ ap (◌+ running 0 rest) (times-mul (length rest) v ∙ ap (◌* v) n) in
    let q : running v rest ≡ running (v + 0) rest = ap (λ (z : ℕ). running z rest) (sym (add-zero v)) in
    let r : (16 - i) * v ≡ (15 - i) * v + v = ap (◌* v) (above i h) ∙ suc-mul (15 - i) v in
    running-next x i 0 (omega arith) ∙ rw (zero-add v) (omega (arith, p, q, r))
  where
    above : (i : ℕ) → i < 16 → 16 - i ≡ suc (15 - i)
    above i h = omega arith

running_most : (x : List ℕ) (a : ℕ) → running a x ≤ times (length x) (a + total x)
running_most [] a = omega arith
running_most (x ∷ xs) a = rw (← add_assoc a x (total xs)) (omega (arith, running_most xs (a + x)))

pub lead_16 : (x : List ℕ) (a : ℕ) → length x ≡ 16 → running a x ≡ 16 * a + running 0 x
lead_16 x a e =
    let p : running (a + 0) x ≡ times 16 a + running 0 x = running_lead x a 0 ∙ ap (λ (n : ℕ). times n a + running 0 x) e in
    let q : running a x ≡ running (a + 0) x = ap (λ (n : ℕ). running n x) (sym (add-zero a)) in
    q ∙ p ∙ omega arith

pub most_16 : (x : List ℕ) → length x ≡ 16 → running 0 x ≤ 16 * total x
most_16 x e =
    let p : times (length x) (0 + total x) ≡ times 16 (0 + total x) = ap (λ (n : ℕ). times n (0 + total x)) e in
    omega (arith, running_most x 0, p)
