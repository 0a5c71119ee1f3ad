-- Dues in bytes: what was encoded is decoded, one laid in its slot is an element set, and children pushed stand in front. Assumes nothing.
use Rattle.std.specs.Prelude.{◌≡◌, refl, List, [], ◌∷◌, ◌++◌, ℕ, zero, suc, ◌+◌, ◌*◌, ◌/◌, ◌%◌, ◌≤◌, ◌<◌, length, get_or, set, drop}
use Rattle.std.proofs.Common.{sym, ap, ap₂, ◌∙◌, arith, length-set, drop_of_length-le, drop-cons, drop-set-lt, get_or-set_same}
use Rattle.std.proofs.lemmas.List.{length-map}
use Rattle.laws.specs.Lay.{lay, part, lay-next, lay-whole}
use Rattle.laws.specs.BigEndian.{number_at, number-big_endian, big_endian}
use Rattle.laws.specs.Chunks.{chunks, length-chunks}
use Rattle.layout.specs.Layout.{bound32, due_bytes}
use Rattle.pairs.specs.Pairs.{Pair}
use Rattle.node.specs.Search.{key_at, pointer_at}
use Rattle.mount_tree.specs.declared.due.Due.{Due}
use Rattle.mount_tree.specs.Due.{decode, encode, dues_of, no_due, children_of}

-- The numbers of a node due are within their widths.
pub record Fits (d : Due) : Type 0 where
  pub id : d.id < bound32
  pub depth : d.depth < bound32
  pub high : d.high / bound32 < bound32

due_same : {i i' d d' h h' : ℕ} → i ≡ i' → d ≡ d' → h ≡ h' →
    ◌≡◌ {A = Due} (record { id = i; depth = d; high = h }) (record { id = i'; depth = d'; high = h' })
due_same ei ed eh = cc

halves : (h upper lower : ℕ) → upper ≡ h / bound32 → lower ≡ h % bound32 → upper * bound32 + lower ≡ h
halves h upper lower e f = omega arith

pub decode-encode : (d : Due) → Fits d → decode (encode d) ≡ d
unfolding decode encode number_at part
decode-encode d f =
    due_same
    (number-big_endian 4 d.id f.id)
    (number-big_endian 4 d.depth f.depth)
    (halves d.high _ _
    (number-big_endian 4 (d.high / bound32) f.high)
    (number-big_endian 4 (d.high % bound32) (omega arith)))

-- Its numbers laid one behind another are its bytes.
pub due_laid : (s : List ℕ) (d : Due) → length s ≡ due_bytes →
    lay (lay (lay (lay s 0 (big_endian 4 d.id)) 4 (big_endian 4 d.depth)) 8 (big_endian 4 (d.high / bound32))) 12 (big_endian 4 (d.high % bound32)) ≡
    encode d
unfolding encode
due_laid s d e =
    let a = big_endian 4 d.id ++ big_endian 4 d.depth in
    let b = a ++ big_endian 4 (d.high / bound32) in
    rw (
      lay-next s 0 (big_endian 4 d.id) (big_endian 4 d.depth) 4 (omega arith) refl,
      lay-next s 0 a (big_endian 4 (d.high / bound32)) 8 (omega arith) refl,
      lay-next s 0 b (big_endian 4 (d.high % bound32)) 12 (omega arith) refl,
    )
    (lay-whole s (encode d) (sym e))

pub length_dues : (stack : List ℕ) → length (dues_of stack) ≡ length stack / due_bytes
unfolding dues_of
length_dues stack = length-map (chunks due_bytes stack) decode ∙ length-chunks due_bytes stack

-- The children of a branch: as many as its keys and one more.
pub length-children : (depth : ℕ) (ps : List Pair) (last high : ℕ) → length (children_of depth ps last high) ≡ suc (length ps)
unfolding children_of
length-children depth [] last high = refl
length-children depth (p ∷ ps) last high = ap suc (length-children depth ps last high)

pub get-child : (depth : ℕ) (ps : List Pair) (last high i : ℕ) → i < length ps →
    get_or (children_of depth ps last high) i no_due ≡ record { id = pointer_at ps last i; depth = depth; high = key_at ps i }
unfolding children_of
get-child depth [] last high i l = absurd (omega arith)
get-child depth (p ∷ ps) last high zero l = refl
get-child depth (p ∷ ps) last high (suc i) l = get-child depth ps last high i (omega arith)

pub get-last : (depth : ℕ) (ps : List Pair) (last high i : ℕ) → i ≡ length ps →
    get_or (children_of depth ps last high) i no_due ≡ record { id = pointer_at ps last i; depth = depth; high = high }
unfolding children_of
get-last depth [] last high zero e = refl
get-last depth [] last high (suc i) e = absurd (omega arith)
get-last depth (p ∷ ps) last high zero e = absurd (omega arith)
get-last depth (p ∷ ps) last high (suc i) e = get-last depth ps last high i (omega arith)

-- Elements written from the last to the first, in front of the rest: what stands from a slot on is what is written so far and the rest.
module _ (xs rest : List Due) (base left : ℕ) where
  pub push_begin : (dues : List Due) (end : ℕ) → left ≡ length xs → end ≡ base + left → rest ≡ drop end dues →
      drop (base + left) dues ≡ drop left xs ++ rest
  push_begin dues end e f r =
      let l : length xs ≤ left = omega arith in
      rw (drop_of_length-le xs l) (ap (λ (n : ℕ). drop n dues) (sym f) ∙ sym r)

  pub push_more : (dues dues' : List Due) (x : Due) (next : ℕ) → next ≡ suc left → left < length xs → base + left < length dues →
      x ≡ get_or xs left no_due → dues' ≡ set dues (base + left) x → drop (base + next) dues ≡ drop next xs ++ rest →
      drop (base + left) dues' ≡ drop left xs ++ rest
  push_more dues dues' x next n l h e s before =
      let follows : suc (base + left) ≡ base + next = omega arith in
      let size : base + left < length dues' = rw (s, length-set dues (base + left) x) h in
      drop-cons dues' (base + left) no_due size ∙
      ap₂ {C = List Due} ◌∷◌
      (ap (λ (ds : List Due). get_or ds (base + left) no_due) s ∙ get_or-set_same dues (base + left) x no_due h ∙ e)
      (ap (drop (suc (base + left))) s ∙ drop-set-lt (suc (base + left)) dues (base + left) x (omega arith) ∙
      ap (λ (k : ℕ). drop k dues) follows ∙ before ∙ ap (λ (k : ℕ). drop k xs ++ rest) n) ∙
      ap (λ (ds : List Due). ds ++ rest) (sym (drop-cons xs left no_due l))

  pub push_done : (dues : List Due) → left ≡ 0 → drop (base + left) dues ≡ drop left xs ++ rest → drop base dues ≡ xs ++ rest
  push_done dues z e = let at : base ≡ base + left = omega arith in ap (λ (k : ℕ). drop k dues) at ∙ e ∙ ap (λ (k : ℕ). drop k xs ++ rest) z
