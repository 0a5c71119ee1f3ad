-- A record in a slot of its table: read from its bytes, and laid over them. Assumes nothing.
use Rattle.std.proofs.Common.{◌≡◌, refl, sym, ap, ◌∙◌, List, [], map, ℕ, ◌+◌, ◌-◌, ◌*◌, ◌/◌, ◌≤◌, ◌<◌, length, take, drop, get_or, set, arith, mul_comm, mul-add, length-drop, length-take-le}
use Rattle.std.proofs.Math.ListN.{get_or-map}
use Rattle.std.proofs.lemmas.Nat.{le-div}
use borrow.Rule.Slice.PartMut.{put_mid}
use Rattle.laws.specs.Lay.{lay, part, lay-lent}
use Rattle.laws.specs.Chunks.{chunks, get-chunks, lay-chunks, map-set}

module _ {A : Type 0} (bytes : ℕ) (some : 1 ≤ bytes) (decoded : List ℕ → A) (table : List ℕ → List A)
    (tabled : (s : List ℕ) → table s ≡ map decoded (chunks bytes s)) (s : List ℕ) (slot : ℕ) (h : bytes * slot + bytes ≤ length s) where
  in_table : slot < length s / bytes
  in_table =
      let n : slot + 1 ≤ length s / bytes = le-div (slot + 1) (length s) bytes some (rw (mul_comm (slot + 1) bytes, mul-add) (omega arith)) in
      omega arith

  module _ (size : ℕ) (e : size ≡ bytes) where
    pub record_at : (nothing : A) → nothing ≡ decoded [] →
        decoded (take (size * slot + size - size * slot) (drop (size * slot) s)) ≡ get_or (table s) slot nothing
    unfolding part
    record_at nothing n =
        let all : bytes * slot + bytes - bytes * slot ≡ bytes = omega arith in
        rw (e, all, n, tabled s)
        (sym (get_or-map decoded (chunks bytes s) slot _ ∙ ap decoded (get-chunks bytes s slot _ in_table)))

    pub record_laid : (bs : List ℕ) (r : A) → length bs ≡ length (take (size * slot + size - size * slot) (drop (size * slot) s)) → decoded bs ≡ r →
        table (put_mid (size * slot) (size * slot + size - size * slot) s bs) ≡ set (table s) slot r
    record_laid bs r m d =
        let front : size * slot + size ≤ length s = rw e h in
        let l : length bs ≡ bytes = m ∙ length-take-le _ (drop (size * slot) s) (rw (length-drop (size * slot) s) (omega arith)) ∙ omega arith in
        rw e
        (ap table (lay-lent (bytes * slot) (bytes * slot + bytes) s bs (omega arith) (omega arith)) ∙
        tabled (lay s (bytes * slot) bs) ∙
        ap (map decoded) (lay-chunks bytes s slot bs l in_table h) ∙
        map-set decoded (chunks bytes s) slot bs ∙
        rw (d, tabled s) refl)
