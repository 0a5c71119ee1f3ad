-- The pieces of a content laid one behind another make the content. Assumes nothing.
use Rattle.std.specs.Prelude.{◌≡◌, refl, List, [], ◌∷◌, ◌++◌, ℕ, zero, suc, ◌+◌, ◌-◌, ◌*◌, ◌≤◌, ◌<◌, length, get_or}
use Rattle.std.proofs.Common.{sym, ap, ◌∙◌, arith, length-append}
use Rattle.laws.specs.Lay.{lay, lay-nil, lay-next, length-lay}
use Rattle.laws.specs.BigEndian.{big_endian}
use Rattle.node.specs.declared.Shape.{Shape}
use Rattle.node.specs.Node.{node}
use Rattle.wire.specs.Field.{field, head}
use Rattle.wire.specs.FieldLaws.{length-field}
use Rattle.page.specs.Image.{shape_number, pairs_bytes, whole_bytes, content_bytes, numbered}
use Rattle.page.specs.SpelledNode.{length-whole_bytes}
use Rattle.page_write.specs.Chunks.{length_chunk_fields}
use Rattle.page_write.specs.Laid.{numbered-laid}
use Rattle.page_write.specs.Pages.{entry_record, log_body, first_pairs, body_of, node_page}

-- ---- log pages

pub entry-laid : (s : List ℕ) (at id version kind key pointer : ℕ) → at + 15 ≤ length s →
    lay (lay (lay (lay (lay s at (big_endian 2 id)) (at + 2) (big_endian 4 version)) (at + 6) (kind ∷ [])) (at + 7) (big_endian 4 key)) (at + 11)
    (big_endian 4 pointer) ≡
    lay s at (entry_record id version kind key pointer)
unfolding entry_record
entry-laid s at id version kind key pointer h =
    let s₁ = lay s at (big_endian 2 id) in
    let s₂ = lay s₁ (at + 2) (big_endian 4 version) in
    let s₃ = lay s₂ (at + 6) (kind ∷ []) in
    let l₁ : length s₁ ≡ length s = length-lay s at (big_endian 2 id) (omega arith) in
    let l₂ : length s₂ ≡ length s₁ = length-lay s₁ (at + 2) (big_endian 4 version) (omega arith) in
    let l₃ : length s₃ ≡ length s₂ = length-lay s₂ (at + 6) (kind ∷ []) (omega arith) in
    lay-next s₃ (at + 7) (big_endian 4 key) (big_endian 4 pointer) (at + 11) (omega arith) (omega arith) ∙
    lay-next s₂ (at + 6) (kind ∷ []) (big_endian 4 key ++ big_endian 4 pointer) (at + 7) (omega arith) (omega arith) ∙
    lay-next s₁ (at + 2) (big_endian 4 version) (kind ∷ (big_endian 4 key ++ big_endian 4 pointer)) (at + 6) (omega arith) (omega arith) ∙
    lay-next s at (big_endian 2 id) (big_endian 4 version ++ (kind ∷ (big_endian 4 key ++ big_endian 4 pointer))) (at + 2) (omega arith) refl

pub length-log_body : (s n : ℕ) (buffer : List ℕ) → 15 * n ≤ length buffer → 7 + 18 * n ≡ length (log_body s n buffer)
unfolding log_body numbered field
length-log_body s n buffer h = omega (arith, length_chunk_fields 0x12 15 n buffer h)

-- ---- node pages

pub pairs_next : (left : ℕ) (dst keys pointers : List ℕ) (at i : ℕ) → 0 < left → at + 8 ≤ length dst →
    lay (lay (lay dst at (big_endian 4 (get_or keys i 0))) (at + 4) (big_endian 4 (get_or pointers i 0))) (at + 8)
    (pairs_bytes (first_pairs (left - 1) keys pointers (i + 1))) ≡
    lay dst at (pairs_bytes (first_pairs left keys pointers i))
unfolding first_pairs pairs_bytes
pairs_next left dst keys pointers at i h k =
    let e : left ≡ suc (left - 1) = omega arith in
    let rest = pairs_bytes (first_pairs (left - 1) keys pointers (i + 1)) in
    let key = big_endian 4 (get_or keys i 0) in
    let pointer = big_endian 4 (get_or pointers i 0) in
    let l : length (lay dst at key) ≡ length dst = length-lay dst at key (omega arith) in
    lay-next (lay dst at key) (at + 4) pointer rest (at + 8) (omega arith) (omega arith) ∙
    lay-next dst at key (pointer ++ rest) (at + 4) (omega arith) refl ∙
    sym (ap (λ (n : ℕ). lay dst at (pairs_bytes (first_pairs n keys pointers i))) e)

pub pairs_end : (left : ℕ) (dst keys pointers : List ℕ) (at i : ℕ) → left ≤ 0 → lay dst at (pairs_bytes (first_pairs left keys pointers i)) ≡ dst
unfolding first_pairs pairs_bytes
pairs_end left dst keys pointers at i h =
    let e : left ≡ 0 = omega arith in
    ap (λ (n : ℕ). lay dst at (pairs_bytes (first_pairs n keys pointers i))) e ∙ lay-nil dst at

pub length-first_pairs : (n : ℕ) (keys pointers : List ℕ) (i : ℕ) → length (first_pairs n keys pointers i) ≡ n
unfolding first_pairs
length-first_pairs zero keys pointers i = refl
length-first_pairs (suc n) keys pointers i = ap suc (length-first_pairs n keys pointers (i + 1))

-- What stands before the pairs in field 11.
unfoldable pub node_head : ℕ → Shape → ℕ → ℕ → List ℕ
node_head id shape l n = head 0x11 (7 + 8 * n) ++ (big_endian 2 id ++ (shape_number shape ∷ big_endian 4 l))

pub node_head-laid : (s : List ℕ) (at id k : ℕ) (shape : Shape) (l n : ℕ) → at + 10 ≤ length s → k ≡ shape_number shape →
    lay (lay (lay (lay s at (head 0x11 (7 + 8 * n))) (at + 3) (big_endian 2 id)) (at + 5) (k ∷ [])) (at + 6) (big_endian 4 l) ≡ lay s at (node_head id shape l n)
unfolding node_head
node_head-laid s at id k shape l n h e =
    let h₁ = head 0x11 (7 + 8 * n) in
    let s₁ = lay s at h₁ in
    let s₂ = lay s₁ (at + 3) (big_endian 2 id) in
    let l₁ : length s₁ ≡ length s = length-lay s at h₁ (omega arith) in
    let l₂ : length s₂ ≡ length s₁ = length-lay s₁ (at + 3) (big_endian 2 id) (omega arith) in
    rw (← e)
    (lay-next s₂ (at + 5) (k ∷ []) (big_endian 4 l) (at + 6) (omega arith) (omega arith) ∙
    lay-next s₁ (at + 3) (big_endian 2 id) (k ∷ big_endian 4 l) (at + 5) (omega arith) (omega arith) ∙
    lay-next s at h₁ (big_endian 2 id ++ (k ∷ big_endian 4 l)) (at + 3) (omega arith) refl)

-- With the pairs behind it, it is field 11.
head_and_pairs : (id : ℕ) (shape : Shape) (l n : ℕ) (pairs w : List ℕ) →
    (big_endian 2 id ++ (shape_number shape ∷ (big_endian 4 l ++ pairs))) ≡ w → 7 + 8 * n ≡ length w → node_head id shape l n ++ pairs ≡ field 0x11 w
unfolding node_head field
head_and_pairs id shape l n pairs w e k =
    ap (λ (i : ℕ). head 0x11 i ++ (big_endian 2 id ++ (shape_number shape ∷ (big_endian 4 l ++ pairs)))) k ∙
    ap (λ (x : List ℕ). head 0x11 (length w) ++ x) e

pub node_laid : (p : List ℕ) (s id : ℕ) (shape : Shape) (n : ℕ) (keys pointers : List ℕ) (l : ℕ) → 17 ≤ length p →
    lay (lay (lay p 0 (field 0x10 (big_endian 4 s))) 7 (node_head id shape l n)) 17 (pairs_bytes (first_pairs n keys pointers 0)) ≡
    lay p 0 (body_of (node_page s id shape n keys pointers l))
unfolding body_of node_page content_bytes node_head whole_bytes
node_laid p s id shape n keys pointers l h =
    let ps = first_pairs n keys pointers 0 in
    let w = whole_bytes id (node shape ps l) in
    let p₁ = lay p 0 (field 0x10 (big_endian 4 s)) in
    let k : length (field 0x10 (big_endian 4 s)) ≡ 7 = length-field 0x10 (big_endian 4 s) in
    let l₁ : length p₁ ≡ length p = length-lay p 0 (field 0x10 (big_endian 4 s)) (omega arith) in
    let lw : 7 + 8 * n ≡ length w = omega (arith, length-whole_bytes id shape ps l, length-first_pairs n keys pointers 0) in
    lay-next p₁ 7 (node_head id shape l n) (pairs_bytes ps) 17 (omega arith) refl ∙
    ap (λ (bs : List ℕ). lay p₁ 7 bs) (head_and_pairs id shape l n (pairs_bytes ps) w refl lw) ∙
    numbered-laid p s (field 0x11 w)

pub length_node_body : (s id : ℕ) (shape : Shape) (n : ℕ) (keys pointers : List ℕ) (l : ℕ) → 17 + 8 * n ≡ length (body_of (node_page s id shape n keys pointers l))
unfolding body_of node_page content_bytes numbered
length_node_body s id shape n keys pointers l =
    let ps = first_pairs n keys pointers 0 in
    let w = whole_bytes id (node shape ps l) in
    omega (
      arith,
      length-append (field 0x10 (big_endian 4 s)) (field 0x11 w),
      length-field 0x10 (big_endian 4 s),
      length-field 0x11 w,
      length-whole_bytes id shape ps l,
      length-first_pairs n keys pointers 0,
    )
