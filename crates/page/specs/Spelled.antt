-- Payloads and what they spell: the bytes of a value are read as the value, and a payload that was read is the value's bytes.
-- Assumes nothing.
use Rattle.std.specs.Prelude.{◌≡◌, refl, Bool, true, false, ◌&&◌, ℕ, ◌+◌, ◌≤◌, ◌<◌, eqb, leb, ltb, length}
use Rattle.std.proofs.Common.{sym, ap, ◌∙◌, arith}
use Rattle.std.proofs.Math.Path.{ap₂}
use mathlib.Core.List.{List, [], ◌∷◌, ◌++◌}
use Rattle.std.proofs.Math.ListN.{get_or}
use borrow.Author.Tests.{eqb-true, leb-true, ltb-true, le-leb, lt-ltb}
use Rattle.laws.specs.Tests.{choose, and_left, and_right}
use Rattle.laws.specs.Lay.{part, part-add, part-whole, part-one}
use Rattle.laws.specs.BigEndian.{big_endian, number, number_at, Bytes, number-big_endian, big_endian-number_at, number_at_lt}
use Rattle.layout.specs.Layout.{bound32}
use Rattle.account.specs.declared.Costs.{Costs}
use Rattle.account.specs.declared.Tariff.{Tariff}
use Rattle.node.specs.declared.Shape.TheVariants.{Leaf, Branch}
use Rattle.node.specs.Change.{Change, put, remove, link}
use Rattle.node.specs.Narrow.{NarrowChange}
use Rattle.page.specs.Page.{Entry, Score}
use Rattle.page.specs.Image.{change_number, change_key, change_pointer, entry_bytes, tariff_bytes, score_bytes}
use Rattle.page.specs.Decode.{change_ok, change_of, entry_ok, entry_of, tariff_of, score_of}
use Rattle.page.specs.Limits.{EntryFits, TariffFits, ScoreFits}

abbrev score_of_lem : ℕ → ℕ → Score
score_of_lem i s = record { id = i; score = s }

abbrev costs_of : ℕ → ℕ → ℕ → ℕ → Costs
costs_of r e w n = record { read = r; edit = e; rewrite = w; enter = n }

abbrev tariff_of_lem : Costs → Costs → Tariff
tariff_of_lem l d = record { log = l; disk = d }

-- Parts one behind another, by their widths: together the part that they make up.
abbrev pub parts : ℕ → List ℕ → List ℕ → ℕ → List ℕ
parts w [] s at = part s at w
parts w (v ∷ vs) s at = part s at w ++ parts v vs s (at + w)

abbrev pub total : ℕ → List ℕ → ℕ
total w [] = w
total w (v ∷ vs) = w + total v vs

parts_join : (w : ℕ) (vs s : List ℕ) (at : ℕ) → parts w vs s at ≡ part s at (total w vs)
parts_join w [] s at = refl
parts_join w (v ∷ vs) s at =
    ap (λ (l : List ℕ). part s at w ++ l) (parts_join v vs s (at + w)) ∙ sym (part-add s at w (total v vs))

pub parts_whole : (w : ℕ) (vs s : List ℕ) → length s ≡ total w vs → parts w vs s 0 ≡ s
parts_whole w vs s e = parts_join w vs s 0 ∙ part-whole s (total w vs) e

-- ---- changes and entries

pub change_of-number : (c : Change) → change_of (change_number c) (change_key c) (change_pointer c) ≡ c
unfolding change_of
change_of-number (put k p) = refl
change_of-number (remove k) = refl
change_of-number (link Leaf p) = refl
change_of-number (link Branch p) = refl

change_ok-number : (c : Change) → change_ok (change_number c) (change_key c) (change_pointer c) ≡ true
unfolding change_ok
change_ok-number (put k p) = refl
change_ok-number (remove k) = refl
change_ok-number (link Leaf p) = refl
change_ok-number (link Branch p) = refl

change_key_lt : (c : Change) → NarrowChange c → change_key c < bound32
change_key_lt (put k p) h = h.0
change_key_lt (remove k) h = h
change_key_lt (link kind p) h = omega arith

change_pointer_lt : (c : Change) → NarrowChange c → change_pointer c < bound32
change_pointer_lt (put k p) h = h.1
change_pointer_lt (remove k) h = omega arith
change_pointer_lt (link kind p) h = h

-- A kind, key and pointer that may stand are those of the change that they spell.
record Spells (kind key pointer : ℕ) : Type 0 where
  same_kind : change_number (change_of kind key pointer) ≡ kind
  same_key : change_key (change_of kind key pointer) ≡ key
  same_pointer : change_pointer (change_of kind key pointer) ≡ pointer

spells_change : (kind key pointer : ℕ) → change_ok kind key pointer ≡ true → Spells kind key pointer
unfolding change_ok change_of
spells_change kind key pointer t = go (eqb kind 1) (eqb kind 2) (eqb kind 3) (eqb kind 4) refl refl refl refl
  where
    go : (a b c d : Bool) → eqb kind 1 ≡ a → eqb kind 2 ≡ b → eqb kind 3 ≡ c → eqb kind 4 ≡ d → Spells kind key pointer
    go true b c d e₁ e₂ e₃ e₄ = rw (eqb-true kind 1 e₁) (record { same_kind = refl; same_key = refl; same_pointer = refl })
    go false true c d e₁ e₂ e₃ e₄ =
        let z : pointer ≡ 0 = eqb-true pointer 0 (simp (e₁, e₂) at t) in
        rw (eqb-true kind 2 e₂) (record { same_kind = refl; same_key = refl; same_pointer = sym z })
    go false false true d e₁ e₂ e₃ e₄ =
        let z : key ≡ 0 = eqb-true key 0 (simp (e₁, e₂, e₃) at t) in
        rw (eqb-true kind 3 e₃) (record { same_kind = refl; same_key = sym z; same_pointer = refl })
    go false false false true e₁ e₂ e₃ e₄ =
        let z : key ≡ 0 = eqb-true key 0 (simp (e₁, e₂, e₃, e₄) at t) in
        rw (eqb-true kind 4 e₄) (record { same_kind = refl; same_key = sym z; same_pointer = refl })
    go false false false false e₁ e₂ e₃ e₄ =
        let z : ◌≡◌ {A = Bool} false true = simp (e₁, e₂, e₃, e₄) at t in
        record { same_kind = cc; same_key = cc; same_pointer = cc }

pub length-entry_bytes : (e : Entry) → length (entry_bytes e) ≡ 15
unfolding entry_bytes
length-entry_bytes e = refl

-- Whatever kind, a change has the numbers that it was made of.
change_of-fits : (kind key pointer : ℕ) → key < bound32 → pointer < bound32 → NarrowChange (change_of kind key pointer)
unfolding change_of
change_of-fits kind key pointer h k = go (eqb kind 1) (eqb kind 2) (eqb kind 3)
  where
    go : (a b c : Bool) → NarrowChange (choose a (put key pointer) (choose b (remove key) (choose c (link Leaf pointer) (link Branch pointer))))
    go true b c = (h, k)
    go false true c = h
    go false false true = k
    go false false false = k

-- The numbers of an entry's bytes.
record EntryRead (e : Entry) : Type 0 where
  id : number_at 2 (entry_bytes e) 0 ≡ e.id
  version : number_at 4 (entry_bytes e) 2 ≡ e.version
  kind : get_or (entry_bytes e) 6 0 ≡ change_number e.change
  key : number_at 4 (entry_bytes e) 7 ≡ change_key e.change
  pointer : number_at 4 (entry_bytes e) 11 ≡ change_pointer e.change

entry_read : (s : ℕ) (e : Entry) → s < bound32 → EntryFits s e → EntryRead e
unfolding entry_bytes number_at part
entry_read s e l h =
    record {
      id = number-big_endian 2 e.id h.id;
      version = number-big_endian 4 e.version (omega (arith, h.below));
      kind = refl;
      key = number-big_endian 4 (change_key e.change) (change_key_lt e.change h.change);
      pointer = number-big_endian 4 (change_pointer e.change) (change_pointer_lt e.change h.change);
    }

module _ (s : ℕ) (e : Entry) (l : s < bound32) (h : EntryFits s e) where
  entry_bytes-change : change_of (get_or (entry_bytes e) 6 0) (number_at 4 (entry_bytes e) 7) (number_at 4 (entry_bytes e) 11) ≡ e.change
  entry_bytes-change =
      let r = entry_read s e l h in
      rw (r.kind, r.key, r.pointer) (change_of-number e.change)

  pub entry_of-bytes : entry_of (entry_bytes e) ≡ e
  unfolding entry_of
  entry_of-bytes =
      let r = entry_read s e l h in
      rw (r.id, r.version, entry_bytes-change)

  pub entry_ok-bytes : entry_ok s (entry_bytes e) ≡ true
  unfolding entry_ok
  entry_ok-bytes =
      let r = entry_read s e l h in
      rw (length-entry_bytes e, r.version, le-leb 1 e.version h.from, lt-ltb e.version s h.below, r.kind, r.key, r.pointer)
      (change_ok-number e.change)

-- A payload that passes is the bytes of its entry.
module _ (s : ℕ) (p : List ℕ) (b : Bytes p) (t : entry_ok s p ≡ true) where
  -- the tests, one by one
  pub length-entry_ok : length p ≡ 15
  unfolding entry_ok
  length-entry_ok = eqb-true (length p) 15 (and_left (eqb (length p) 15) _ t)

  versions : (leb 1 (number_at 4 p 2) && (ltb (number_at 4 p 2) s && change_ok (get_or p 6 0) (number_at 4 p 7) (number_at 4 p 11))) ≡ true
  unfolding entry_ok
  versions = and_right (eqb (length p) 15) _ t

  changes : (ltb (number_at 4 p 2) s && change_ok (get_or p 6 0) (number_at 4 p 7) (number_at 4 p 11)) ≡ true
  changes = and_right (leb 1 (number_at 4 p 2)) _ versions

  spells : Spells (get_or p 6 0) (number_at 4 p 7) (number_at 4 p 11)
  spells = spells_change _ _ _ (and_right (ltb (number_at 4 p 2) s) _ changes)

  pub entry_bytes_of : entry_bytes (entry_of p) ≡ p
  unfolding entry_bytes entry_of
  entry_bytes_of =
      let l = length-entry_ok in
      let r = spells in
      let i : big_endian 2 (number_at 2 p 0) ≡ part p 0 2 = big_endian-number_at 2 p 0 b (omega arith) in
      let v : big_endian 4 (number_at 4 p 2) ≡ part p 2 4 = big_endian-number_at 4 p 2 b (omega arith) in
      let k : big_endian 4 (number_at 4 p 7) ≡ part p 7 4 = big_endian-number_at 4 p 7 b (omega arith) in
      let q : big_endian 4 (number_at 4 p 11) ≡ part p 11 4 = big_endian-number_at 4 p 11 b (omega arith) in
      let o : part p 6 1 ≡ get_or p 6 0 ∷ [] = part-one p 6 (omega arith) in
      rw (r.same_kind, r.same_key, r.same_pointer)
      (ap₂ ◌++◌ i (ap₂ ◌++◌ v (ap₂ ◌++◌ (sym o) (ap₂ ◌++◌ k q))) ∙ parts_whole 2 (4 ∷ 1 ∷ 4 ∷ 4 ∷ []) p l)

  pub entry_of-fits : EntryFits s (entry_of p)
  unfolding entry_of
  entry_of-fits =
      let l = length-entry_ok in
      record {
        id = number_at_lt 2 p 0 b (omega arith);
        from = leb-true 1 (number_at 4 p 2) (and_left (leb 1 (number_at 4 p 2)) _ versions);
        below = ltb-true (number_at 4 p 2) s (and_left (ltb (number_at 4 p 2) s) _ changes);
        change = change_of-fits (get_or p 6 0) (number_at 4 p 7) (number_at 4 p 11) (number_at_lt 4 p 7 b (omega arith)) (number_at_lt 4 p 11 b (omega arith));
      }

-- ---- scores

pub length-score_bytes : (s : Score) → length (score_bytes s) ≡ 6
unfolding score_bytes
length-score_bytes s = refl

pub score_of-bytes : (s : Score) → ScoreFits s → score_of (score_bytes s) ≡ s
unfolding score_of score_bytes number_at part
score_of-bytes s h =
    let i : number_at 2 (score_bytes s) 0 ≡ s.id = number-big_endian 2 s.id h.id in
    let v : number_at 4 (score_bytes s) 2 ≡ s.score = number-big_endian 4 s.score h.score in
    ap₂ score_of_lem i v

module _ (p : List ℕ) (b : Bytes p) (l : length p ≡ 6) where
  pub score_bytes_of : score_bytes (score_of p) ≡ p
  unfolding score_bytes score_of
  score_bytes_of =
      ap₂ ◌++◌ (big_endian-number_at 2 p 0 b (omega arith)) (big_endian-number_at 4 p 2 b (omega arith)) ∙
      parts_whole 2 (4 ∷ []) p l

  pub score_of-fits : ScoreFits (score_of p)
  unfolding score_of
  score_of-fits = record { id = number_at_lt 2 p 0 b (omega arith); score = number_at_lt 4 p 2 b (omega arith) }

-- ---- the tariff

pub length-tariff_bytes : (t : Tariff) → length (tariff_bytes t) ≡ 32
unfolding tariff_bytes
length-tariff_bytes t = refl

costs_eq : (a b c d a' b' c' d' : ℕ) → a ≡ a' → b ≡ b' → c ≡ c' → d ≡ d' →
    costs_of a b c d ≡ costs_of a' b' c' d'
costs_eq a b c d a' b' c' d' e f g h = rw (e, f, g, h)

pub tariff_of-bytes : (t : Tariff) → TariffFits t → tariff_of (tariff_bytes t) ≡ t
unfolding tariff_of tariff_bytes number_at part
tariff_of-bytes t h =
    let n : (v : ℕ) → v < bound32 → number (big_endian 4 v) ≡ v = λ v l. number-big_endian 4 v l in
    ap₂ tariff_of_lem
    (costs_eq _ _ _ _ _ _ _ _ (n t.log.read h.log.read) (n t.log.edit h.log.edit) (n t.log.rewrite h.log.rewrite)
    (n t.log.enter h.log.enter))
    (costs_eq _ _ _ _ _ _ _ _ (n t.disk.read h.disk.read) (n t.disk.edit h.disk.edit) (n t.disk.rewrite h.disk.rewrite)
    (n t.disk.enter h.disk.enter))

module _ (p : List ℕ) (b : Bytes p) (l : length p ≡ 32) where
  four : (at : ℕ) → at + 4 ≤ 32 → big_endian 4 (number_at 4 p at) ≡ part p at 4
  four at h = big_endian-number_at 4 p at b (omega arith)

  small : (at : ℕ) → at + 4 ≤ 32 → number_at 4 p at < bound32
  small at h = number_at_lt 4 p at b (omega arith)

  pub tariff_bytes_of : tariff_bytes (tariff_of p) ≡ p
  unfolding tariff_bytes tariff_of
  tariff_bytes_of =
      ap₂ ◌++◌ (four 0 (omega arith)) (ap₂ ◌++◌ (four 4 (omega arith)) (ap₂ ◌++◌ (four 8 (omega arith)) (ap₂ ◌++◌ (four 12 (omega arith))
      (ap₂ ◌++◌ (four 16 (omega arith)) (ap₂ ◌++◌ (four 20 (omega arith)) (ap₂ ◌++◌ (four 24 (omega arith)) (four 28 (omega arith)))))))) ∙
      parts_whole 4 (4 ∷ 4 ∷ 4 ∷ 4 ∷ 4 ∷ 4 ∷ 4 ∷ []) p l

  pub tariff_of-fits : TariffFits (tariff_of p)
  unfolding tariff_of
  tariff_of-fits =
      record {
        log = record { read = small 0 (omega arith); edit = small 4 (omega arith); rewrite = small 8 (omega arith); enter = small 28 (omega arith) };
        disk = record { read = small 12 (omega arith); edit = small 16 (omega arith); rewrite = small 20 (omega arith); enter = small 24 (omega arith) };
      }
