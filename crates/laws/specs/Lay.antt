-- A write at a place of a buffer, `lay`, and the part of a buffer from a place on, with the laws by which one follows another.
-- Every writer says what it leaves as `lay`, so its callers never speak of single stores. Assumes nothing.
use Rattle.std.specs.Prelude.{◌≡◌, set, replicate}
use Rattle.std.proofs.Math.Path.{refl, sym, ap}
use Rattle.std.proofs.Common.{◌∙◌, add_assoc, add-zero, zero-add, add-one, length-drop, take-append-drop, drop_of_length-le, drop-drop, drop_at, take-add, take-take, take_all, drop-cons, get_or-drop}
use mathlib.Core.List.{List, [], ◌∷◌, ◌++◌, append_assoc, append-nil}
use Prim.Native.Nat.{ℕ, zero, suc, ◌+◌, ◌-◌, ◌≤◌, ◌<◌}
use Rattle.std.proofs.Math.Nat.{sub-zero, zero-sub, suc-sub-suc}
use native.Mathlib.Omega.{arith}
use Rattle.std.proofs.Math.ListN.{get_or-append, get_or, length, take, drop, length-append}
use Rattle.std.proofs.lemmas.List.Edits.{sets, sets-eq}
use Rattle.std.proofs.Math.Seq.{length-take-le, take_at, drop-append-add, take-append-le, take-set-lt, get_or-append-add, get_or-take}
use Rattle.std.proofs.lemmas.List.{drop-append-le}
use borrow.Rule.Slice.PartMut.{put_mid, Post-is}
use Rattle.laws.specs.Order.{Tri, less, same, more, tri}

-- The buffer with the bytes laid over it at a place.
unfoldable pub lay : List ℕ → ℕ → List ℕ → List ℕ
lay s at bs = take at s ++ (bs ++ drop (at + length bs) s)

-- The n bytes from a place on.
unfoldable pub part : List ℕ → ℕ → ℕ → List ℕ
part s at n = take n (drop at s)

-- A run of stores from a place on is the bytes laid there.
pub lay_sets : (vs s : List ℕ) (at : ℕ) → at + length vs ≤ length s → sets s at vs ≡ lay s at vs
unfolding lay
lay_sets vs s at h = sets-eq vs s at h ∙ append_assoc (take at s) vs (drop (at + length vs) s)

-- Bytes laid in the first k, and the first k with bytes laid.
take_sets : (vs s : List ℕ) (k at : ℕ) → at + length vs ≤ k → take k (sets s at vs) ≡ sets (take k s) at vs
take_sets [] s k at h = refl
take_sets (v ∷ vs) s k at h =
    take_sets vs _ k (suc at) (omega arith) ∙ ap (λ (l : List ℕ). sets l (suc at) vs) (take-set-lt k s at v (omega arith))

pub take-laid : (s vs : List ℕ) (k at : ℕ) → k ≤ length s → at + length vs ≤ k → take k (lay s at vs) ≡ lay (take k s) at vs
take-laid s vs k at l h =
    ap (take k) (sym (lay_sets vs s at (omega arith))) ∙
    take_sets vs s k at h ∙
    lay_sets vs (take k s) at (rw (length-take-le k s l) h)

pub lay-nil : (s : List ℕ) (at : ℕ) → lay s at [] ≡ s
unfolding lay
lay-nil s at = rw add-zero (take-append-drop at s)

module _ (s : List ℕ) (at : ℕ) (xs : List ℕ) where
  lay-split : lay s at xs ≡ (take at s ++ xs) ++ drop (at + length xs) s
  unfolding lay
  lay-split = sym (append_assoc (take at s) xs (drop (at + length xs) s))

  length_front : at ≤ length s → length (take at s ++ xs) ≡ at + length xs
  length_front h = length-append (take at s) xs ∙ ap (λ (k : ℕ). k + length xs) (length-take-le at s h)

  -- up to the end of what was laid, and from there on
  pub take-lay : at ≤ length s → take (at + length xs) (lay s at xs) ≡ take at s ++ xs
  take-lay h =
      ap (λ (l : List ℕ). take (at + length xs) l) lay-split ∙
      take_at (take at s ++ xs) (drop (at + length xs) s) (at + length xs) (length_front h)

  pub drop-lay : (k : ℕ) → at ≤ length s → drop (at + length xs + k) (lay s at xs) ≡ drop (at + length xs + k) s
  drop-lay k h =
      ap (λ (l : List ℕ). drop (at + length xs + k) l) lay-split ∙
      ap (λ (n : ℕ). drop (n + k) ((take at s ++ xs) ++ drop (at + length xs) s)) (sym (length_front h)) ∙
      drop-append-add (take at s ++ xs) (drop (at + length xs) s) k ∙
      drop-drop k (at + length xs) s

  pub length-lay : at + length xs ≤ length s → length (lay s at xs) ≡ length s
  length-lay h =
      rw lay-split
      (let e : length (take at s) ≡ at = length-take-le at s (omega arith) in
      simp (length-append, length-drop, e) (omega arith))

  -- bytes laid behind those just laid
  pub lay-lay : (ys : List ℕ) → at ≤ length s → lay (lay s at xs) (at + length xs) ys ≡ lay s at (xs ++ ys)
  unfolding lay
  lay-lay ys h = rw (take-lay h, drop-lay (length ys) h) (simp (append_assoc, length-append, add_assoc))

  -- the same, at a place that is known by an equation
  pub lay-next : (ys : List ℕ) (n : ℕ) → at ≤ length s → n ≡ at + length xs → lay (lay s at xs) n ys ≡ lay s at (xs ++ ys)
  lay-next ys n h e = rw e (lay-lay ys h)

-- A store, and the rest behind it.
pub lay-cons : (s : List ℕ) (at x : ℕ) (xs : List ℕ) → at < length s → lay (set s at x) (at + 1) xs ≡ lay s at (x ∷ xs)
lay-cons s at x xs h =
    let e : set s at x ≡ lay s at (x ∷ []) = lay_sets (x ∷ []) s at (omega arith) in
    rw e (lay-lay s at (x ∷ []) xs (omega arith))

-- Bytes laid over the whole buffer.
pub lay-whole : (s xs : List ℕ) → length xs ≡ length s → lay s 0 xs ≡ xs
unfolding lay
lay-whole s xs e =
    let h : length s ≤ 0 + length xs = omega arith in
    rw (drop_of_length-le s h) (append-nil xs)

pub drop-replicate : (k n a : ℕ) → drop k (replicate n a) ≡ replicate (n - k) a
drop-replicate zero n a = rw sub-zero
drop-replicate (suc k) zero a = rw zero-sub
drop-replicate (suc k) (suc n) a = rw suc-sub-suc (drop-replicate k n a)

pub take-replicate : (n m x : ℕ) → n ≤ m → take n (replicate m x) ≡ replicate n x
take-replicate zero m x l = refl
take-replicate (suc n) zero x l = absurd (omega arith)
take-replicate (suc n) (suc m) x l = ap {B = List ℕ} (x ∷◌) (take-replicate n m x (omega arith))

-- Bytes laid over a buffer of one byte repeated.
pub lay-replicate : (n a : ℕ) (xs : List ℕ) → lay (replicate n a) 0 xs ≡ xs ++ replicate (n - length xs) a
unfolding lay
lay-replicate n a xs = rw (drop-replicate, zero-add)

-- A part that was lent and came back with other bytes, as many as it had: these bytes, laid.
pub lay-lent : (from to : ℕ) (s ys : List ℕ) → from ≤ to → length ys ≡ to - from → put_mid from (to - from) s ys ≡ lay s from ys
unfolding lay
lay-lent from to s ys h l =
    let k : to ≡ from + length ys = omega arith in
    ap (λ (r : List ℕ). take from s ++ (ys ++ r)) (Post-is from to s h) ∙
    ap (λ (i : ℕ). take from s ++ (ys ++ drop i s)) k

-- Single bytes: of what was laid, before it, behind it.
module _ (s : List ℕ) (at : ℕ) (xs : List ℕ) where
  pub get_or-lay : (j : ℕ) → at ≤ length s → j < length xs → get_or (lay s at xs) (at + j) 0 ≡ get_or xs j 0
  unfolding lay
  get_or-lay j h k =
      ap (λ (i : ℕ). get_or (lay s at xs) (i + j) 0) (sym (length-take-le at s h)) ∙
      get_or-append-add (take at s) (xs ++ drop (at + length xs) s) j 0 ∙
      get_or-append xs (drop (at + length xs) s) 0 j k

  pub get_or-lay-before : (i : ℕ) → at ≤ length s → i < at → get_or (lay s at xs) i 0 ≡ get_or s i 0
  unfolding lay
  get_or-lay-before i h k =
      let l : i < length (take at s) = rw (length-take-le at s h) k in
      get_or-append (take at s) (xs ++ drop (at + length xs) s) 0 i l ∙ get_or-take at s i 0 k

  pub get_or-lay-behind : (i : ℕ) → at ≤ length s → at + length xs ≤ i → get_or (lay s at xs) i 0 ≡ get_or s i 0
  get_or-lay-behind i h k =
      let e : i ≡ length (take at s ++ xs) + (i - (at + length xs)) = omega (arith, length_front s at xs h) in
      let f : at + length xs + (i - (at + length xs)) ≡ i = omega arith in
      rw (lay-split s at xs)
      (ap (λ (n : ℕ). get_or ((take at s ++ xs) ++ drop (at + length xs) s) n 0) e ∙
      get_or-append-add (take at s ++ xs) (drop (at + length xs) s) (i - (at + length xs)) 0 ∙
      get_or-drop (at + length xs) s (i - (at + length xs)) 0 ∙
      ap (λ (n : ℕ). get_or s n 0) f)

-- A single byte laid: read there, and elsewhere.
module _ (s : List ℕ) (at x i : ℕ) (h : at < length s) where
  pub get_or-lay-one : i ≡ at → get_or (lay s at (x ∷ [])) i 0 ≡ x
  get_or-lay-one e = ap (λ (k : ℕ). get_or (lay s at (x ∷ [])) k 0) (e ∙ sym (add-zero at)) ∙ get_or-lay s at (x ∷ []) 0 (omega arith) (omega arith)

  pub get_or-lay-other : (i ≡ at → ⊥) → get_or (lay s at (x ∷ [])) i 0 ≡ get_or s i 0
  get_or-lay-other e = go (tri i at)
    where
      go : Tri i at → get_or (lay s at (x ∷ [])) i 0 ≡ get_or s i 0
      go (less l) = get_or-lay-before s at (x ∷ []) i (omega arith) l
      go (same l) = absurd (e l)
      go (more l) = get_or-lay-behind s at (x ∷ []) i (omega arith) (omega arith)

-- Parts: the part laid, and those that it does not touch.
module _ (s : List ℕ) (at : ℕ) (xs : List ℕ) (h : at ≤ length s) where
  pub part-lay : part (lay s at xs) at (length xs) ≡ xs
  unfolding part lay
  part-lay =
      let r : List ℕ = drop (at + length xs) s in
      ap (λ (l : List ℕ). take (length xs) l) (drop_at (take at s) (xs ++ r) at (length-take-le at s h)) ∙
      take_at xs r (length xs) refl

  pub part-lay-behind : (a n : ℕ) → at + length xs ≤ a → part (lay s at xs) a n ≡ part s a n
  unfolding part
  part-lay-behind a n k =
      let e : at + length xs + (a - (at + length xs)) ≡ a = omega arith in
      let d : drop a (lay s at xs) ≡ drop a s = rw e at (drop-lay s at xs (a - (at + length xs)) h) in
      ap (λ (l : List ℕ). take n l) d

  pub part-lay-before : (a n : ℕ) → a + n ≤ at → part (lay s at xs) a n ≡ part s a n
  unfolding part lay
  part-lay-before a n k =
      let l : length (take at s) ≡ at = length-take-le at s h in
      let m : n ≤ length (drop a (take at s)) = rw (length-drop a (take at s)) (omega arith) in
      let y : List ℕ = xs ++ drop (at + length xs) s in
      ap (λ (x : List ℕ). take n x) (drop-append-le a (take at s) y (omega arith)) ∙
      take-append-le n (drop a (take at s)) y m ∙
      sym (take-append-le n (drop a (take at s)) (drop at s) m) ∙
      ap (λ (x : List ℕ). take n x) (sym (drop-append-le a (take at s) (drop at s) (omega arith))) ∙
      ap (λ (x : List ℕ). take n (drop a x)) (take-append-drop at s)

-- A part has the length asked for where the buffer reaches so far.
pub length_part : (s : List ℕ) (at n : ℕ) → at + n ≤ length s → length (part s at n) ≡ n
unfolding part
length_part s at n h =
    let d : length (drop at s) ≡ length s - at = length-drop at s in
    length-take-le n (drop at s) (omega arith)

-- Parts one behind the other, of one byte more, and within parts.
pub part-add : (s : List ℕ) (at m n : ℕ) → part s at (m + n) ≡ part s at m ++ part s (at + m) n
unfolding part
part-add s at m n = take-add m n (drop at s) ∙ ap (λ (l : List ℕ). take m (drop at s) ++ take n l) (drop-drop m at s)

pub part-cons : (s : List ℕ) (at n : ℕ) → at < length s → part s at (suc n) ≡ get_or s at 0 ∷ part s (at + 1) n
unfolding part
part-cons s at n h = rw (drop-cons s at 0, add-one)

pub part-drop : (s : List ℕ) (k at n : ℕ) → part (drop k s) at n ≡ part s (k + at) n
unfolding part
part-drop s k at n = ap (λ (l : List ℕ). take n l) (drop-drop at k s)

pub part-take : (s : List ℕ) (k at n : ℕ) → at + n ≤ k → part (take k s) at n ≡ part s at n
unfolding part
part-take s k zero n h = take-take n k s (omega arith)
part-take [] zero (suc at) n h = refl
part-take [] (suc k) (suc at) n h = refl
part-take (x ∷ s) zero (suc at) n h = absurd (omega arith)
part-take (x ∷ s) (suc k) (suc at) n h = part-take s k at n (omega arith)

pub part-part : (s : List ℕ) (at n i m : ℕ) → i + m ≤ n → part (part s at n) i m ≡ part s (at + i) m
unfolding part
part-part s at n i m h = part-take (drop at s) n i m h ∙ part-drop s at i m

-- From the start, of one byte, of a byte repeated, and as the code lends it.
pub part-zero : (s : List ℕ) (n : ℕ) → part s 0 n ≡ take n s
unfolding part
part-zero s n = refl

pub part-one : (s : List ℕ) (at : ℕ) → at < length s → part s at 1 ≡ get_or s at 0 ∷ []
unfolding part
part-one s at h = part-cons s at 0 h

pub part-replicate : (m a at n : ℕ) → at + n ≤ m → part (replicate m a) at n ≡ replicate n a
unfolding part
part-replicate m a at n l = ap (take n) (drop-replicate at m a) ∙ take-replicate n (m - at) a (omega arith)

pub part-lent : (s : List ℕ) (from to n : ℕ) → to ≡ from + n → take (to - from) (drop from s) ≡ part s from n
unfolding part
part-lent s from to n e = let size : to - from ≡ n = omega arith in ap (λ (k : ℕ). take k (drop from s)) size

-- Parts of joined lists: of the second, and the whole first.
pub part-append : (a b : List ℕ) (i n : ℕ) → part (a ++ b) (length a + i) n ≡ part b i n
unfolding part
part-append a b i n = ap (λ (l : List ℕ). take n l) (drop-append-add a b i)

pub part-front : (a b : List ℕ) (n : ℕ) → length a ≡ n → part (a ++ b) 0 n ≡ a
unfolding part
part-front a b n e = take_at a b n e

-- The whole buffer, and the rest of it from a place on.
pub part-whole : (s : List ℕ) (n : ℕ) → length s ≡ n → part s 0 n ≡ s
unfolding part
part-whole s n e = take_all n s (omega arith)
