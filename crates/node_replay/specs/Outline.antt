-- A draft taken apart: its keys, its pointers, and its outline, which is the rest; and what the replay of each change makes of the three, where keys
-- and pointers stand at the front, and where they stand from a place on. Assumes nothing.
use Rattle.std.specs.Prelude.{◌≡◌, ℕ, ◌+◌, ◌-◌, ◌≤◌, ◌<◌, ltb, length, get_or, take, set, Bool, Option, None, Some, Ok, Err, true, false, List, []}
use Rattle.std.proofs.Common.{refl, ap₂, ap, ◌∙◌, arith, lt-ltb, le-ltb, length-set}
use Rattle.layout.specs.Layout.{most_keys, bound32}
use Rattle.pairs.specs.Pairs.{Pair, Within}
use Rattle.node.specs.declared.Shape.{Shape}
use Rattle.node.specs.declared.Shape.TheVariants.{Leaf}
use Rattle.node.specs.declared.NodeValue.{NodeValue}
use Rattle.node.specs.declared.DraftState.{DraftState}
use Rattle.node.specs.declared.DraftState.TheVariants.{Unlinked, Made, Broken}
use Rattle.node.specs.declared.DraftValue.{DraftValue}
use Rattle.node.specs.Change.{put, remove, link}
use Rattle.node.specs.Node.{node}
use Rattle.node.specs.Splice.{zip, insert_at, remove_at}
use Rattle.node.specs.Found.{found}
use Rattle.node.specs.FoundIn.{found_in_at, found_in_above}
use Rattle.node.specs.Replay.{Draft, unlinked, made, same_shape, redo}
use Rattle.node.specs.Value.{pairs_in, Held}
use Rattle.node.specs.Edits.{stands_added, stands_removed, stands_repointed, becomes_replaced, becomes_added, becomes_removed, becomes_same, becomes_linked}
use Rattle.node.specs.Edits.{at-inside, length-put-at, length-put-above}
use Rattle.node.specs.Drafts.{draft_as, draft_of, Redone, redone_put, redone_full, redone_delete, redone_first, redone_again, redone_other}
use Rattle.node_replay.specs.declared.outline.Outline.{Outline}
use Rattle.node_replay.specs.Front.{lowered, lowered_none, length-lowered, get_or-lowered, lowered-behind, lowered-ahead, lowered-first}

-- The node and the draft that the three make together.
abbrev pub node_from : Outline → List ℕ → List ℕ → NodeValue
node_from o ks ps = record { shape = o.shape; count = o.count; keys = ks; pointers = ps; link = o.link }

abbrev pub draft_from : Outline → List ℕ → List ℕ → DraftValue
draft_from o ks ps = record { state = o.state; node = node_from o ks ps }

abbrev pub outline_of : DraftValue → Outline
outline_of d = record { state = d.state; shape = d.node.shape; first = 0; count = d.node.count; link = d.node.link }

-- The outlines that a replay makes: of nothing yet, with another count, linked, and broken.
abbrev pub empty_outline : Outline
empty_outline = record { state = Unlinked; shape = Leaf; first = 0; count = 0; link = 0 }

abbrev pub counted_at : Outline → ℕ → Outline
counted_at o n = record { state = o.state; shape = o.shape; first = o.first; count = n; link = o.link }

abbrev pub linked_at : Outline → Shape → ℕ → Outline
linked_at o shape to = record { state = Made; shape = shape; first = o.first; count = o.count; link = to }

abbrev pub broken_at : Outline → Outline
broken_at o = record { state = Broken; shape = o.shape; first = o.first; count = o.count; link = o.link }

-- With the keys at the front, and with so many of them there: more than fit, or so many that there is no number, break it.
abbrev pub settled_at : Outline → Outline
settled_at o = record { state = o.state; shape = o.shape; first = 0; count = o.count; link = o.link }

abbrev counted_by : Bool → Outline → ℕ → Outline
counted_by true o n = broken_at (settled_at o)
counted_by false o n = counted_at (settled_at o) n

unfoldable pub counted_to : Outline → Option ℕ → Outline
counted_to o (Some n) = counted_by (ltb most_keys n) o n
counted_to o None = broken_at (settled_at o)

-- Without the first key.
abbrev pub ahead_at : Outline → Outline
ahead_at o = record { state = o.state; shape = o.shape; first = o.first + 1; count = o.count - 1; link = o.link }

-- Keys or pointers that stand from the outline's first place on, moved to the front.
abbrev pub down_in : Outline → List ℕ → List ℕ
down_in o xs = lowered o.first o.count xs

-- What they stand for then, that the keys ascend, and that they are what a replay makes.
abbrev pub draft_in : Outline → List ℕ → List ℕ → Draft
draft_in o ks ps = draft_of (draft_from o (down_in o ks) (down_in o ps))

pub record HeldIn (o : Outline) (ks ps : List ℕ) : Type 0 where
  pub room : o.first + o.count ≤ most_keys
  pub key_room : length ks ≡ most_keys
  pub pointer_room : length ps ≡ most_keys
  pub held : Held (node_from o (down_in o ks) (down_in o ps))

pub record RedoneIn (o : Outline) (ks ps : List ℕ) (d : Draft) : Type 0 where
  pub is : draft_in o ks ps ≡ d
  pub held : HeldIn o ks ps

-- An outline is what a link makes of another, whatever the keys and pointers are.
pub record Links (o : Outline) (shape : Shape) (to : ℕ) (r : Outline) : Type 0 where
  pub is : (ks ps : List ℕ) → Held (node_from o ks ps) → Redone (draft_from r ks ps) (redo (draft_of (draft_from o ks ps)) (link shape to))
  pub first : r.first ≡ o.first
  pub count : r.count ≡ o.count

-- The outline of so many keys, where they fit and where not.
module _ (o : Outline) (n : ℕ) where
  counted_fits : n ≤ most_keys → counted_to o (Some n) ≡ counted_at (settled_at o) n
  unfolding counted_to
  counted_fits h = rw (le-ltb most_keys n h) refl

  counted_over : most_keys < n → counted_to o (Some n) ≡ broken_at (settled_at o)
  unfolding counted_to
  counted_over h = rw (lt-ltb most_keys n h) refl

  pub redone_fits : n ≤ most_keys → (ks ps : List ℕ) (d : Draft) →
      Redone (draft_from (counted_at o n) ks ps) d → Redone (draft_from (counted_to o (Some n)) ks ps) d
  redone_fits h ks ps d x = rw (counted_fits h) x

  pub redone_over : most_keys < n → (ks ps : List ℕ) (d : Draft) →
      Redone (draft_from (broken_at o) ks ps) d → Redone (draft_from (counted_to o (Some n)) ks ps) d
  redone_over h ks ps d x = rw (counted_over h) x

pub redone_uncounted : (o : Outline) (ks ps : List ℕ) (d : Draft) →
    Redone (draft_from (broken_at o) ks ps) d → Redone (draft_from (counted_to o None) ks ps) d
unfolding counted_to
redone_uncounted o ks ps d x = x

counted_first : (o : Outline) (n : Option ℕ) → (counted_to o n).first ≡ 0
unfolding counted_to
counted_first o (Some n) = go (ltb most_keys n)
  where
    go : (b : Bool) → (counted_by b o n).first ≡ 0
    go true = refl
    go false = refl
counted_first o None = refl

-- A put, by what the search found.
module _ (o : Outline) (ks ps : List ℕ) (h : Held (node_from o ks ps)) (key i p : ℕ) where
  pub redone_replaced :
      key < bound32 → found key (pairs_in (node_from o ks ps)) ≡ Ok i →
      Redone (draft_from o ks (set ps i p)) (redo (draft_of (draft_from o ks ps)) (put key p))
  redone_replaced l e =
      let v = node_from o ks ps in
      let w = node_from o ks (set ps i p) in
      redone_put v w key p o.state (becomes_replaced v w h key i p l e (stands_repointed v h.sized i p (at-inside v h key i e)))
      (omega (arith, length-put-at v h key i p e, h.sized.size))

  module _ (e : found key (pairs_in (node_from o ks ps)) ≡ Err i) where
    pub redone_added :
        key < bound32 → o.count < most_keys → (ks' ps' : List ℕ) →
        (take (o.count + 1) ks' ≡ insert_at i key (take o.count ks)) × (length ks' ≡ most_keys) →
        (take (o.count + 1) ps' ≡ insert_at i p (take o.count ps)) × (length ps' ≡ most_keys) →
        Redone (draft_from (counted_at o (o.count + 1)) ks' ps') (redo (draft_of (draft_from o ks ps)) (put key p))
    redone_added l m ks' ps' k q =
        let v = node_from o ks ps in
        let w = node_from (counted_at o (o.count + 1)) ks' ps' in
        redone_put v w key p o.state
        (becomes_added v w h key i p l e (stands_added v h.sized i key p ks' ps' m k.0 q.0 k.1 q.1))
        (omega (arith, length-put-above v h key i p e))

    pub redone_overfull : most_keys ≤ o.count → Redone (draft_from (broken_at o) ks ps) (redo (draft_of (draft_from o ks ps)) (put key p))
    redone_overfull m =
        let v = node_from o ks ps in
        redone_full v v key p o.state h (omega (arith, length-put-above v h key i p e))

-- A removal, by what the search found.
module _ (o : Outline) (ks ps : List ℕ) (h : Held (node_from o ks ps)) (key i : ℕ) where
  pub redone_removed :
      found key (pairs_in (node_from o ks ps)) ≡ Ok i → (ks' ps' : List ℕ) →
      (take (o.count - 1) ks' ≡ remove_at i (take o.count ks)) × (length ks' ≡ most_keys) →
      (take (o.count - 1) ps' ≡ remove_at i (take o.count ps)) × (length ps' ≡ most_keys) →
      Redone (draft_from (counted_at o (o.count - 1)) ks' ps') (redo (draft_of (draft_from o ks ps)) (remove key))
  redone_removed e ks' ps' k q =
      let v = node_from o ks ps in
      let w = node_from (counted_at o (o.count - 1)) ks' ps' in
      redone_delete v w key 0 o.state
      (becomes_removed v w h key i e (stands_removed v h.sized i ks' ps' k.0 q.0 k.1 q.1))

  pub redone_kept : found key (pairs_in (node_from o ks ps)) ≡ Err i → Redone (draft_from o ks ps) (redo (draft_of (draft_from o ks ps)) (remove key))
  redone_kept e = let v = node_from o ks ps in redone_delete v v key 0 o.state (becomes_same v h key i e)

-- A link, by the state of the draft.
module _ (o : Outline) (shape : Shape) (to : ℕ) where
  pub links_first : o.state ≡ Unlinked → Links o shape to (linked_at o shape to)
  links_first s = record { is = go; first = refl; count = refl }
    where
      go : (ks ps : List ℕ) → Held (node_from o ks ps) → Redone (draft_from (linked_at o shape to) ks ps) (redo (draft_of (draft_from o ks ps)) (link shape to))
      go ks ps h =
          let v = node_from o ks ps in
          rw s (redone_first v (node_from (linked_at o shape to) ks ps) shape to (becomes_linked v h shape to))

  pub links_again : o.state ≡ Made → same_shape o.shape shape ≡ true → Links o shape to (linked_at o o.shape to)
  links_again s e = record { is = go; first = refl; count = refl }
    where
      go : (ks ps : List ℕ) → Held (node_from o ks ps) → Redone (draft_from (linked_at o o.shape to) ks ps) (redo (draft_of (draft_from o ks ps)) (link shape to))
      go ks ps h =
          let v = node_from o ks ps in
          rw s (redone_again v (node_from (linked_at o o.shape to) ks ps) shape to (becomes_linked v h o.shape to) e)

  pub links_other : o.state ≡ Made → same_shape o.shape shape ≡ false → Links o shape to (broken_at o)
  links_other s e = record { is = go; first = refl; count = refl }
    where
      go : (ks ps : List ℕ) → Held (node_from o ks ps) → Redone (draft_from (broken_at o) ks ps) (redo (draft_of (draft_from o ks ps)) (link shape to))
      go ks ps h = let v = node_from o ks ps in rw s (redone_other v v shape to h e)

  pub links_broken : o.state ≡ Broken → Links o shape to o
  unfolding redo
  links_broken s = record { is = go; first = refl; count = refl }
    where
      go : (ks ps : List ℕ) → Held (node_from o ks ps) → Redone (draft_from o ks ps) (redo (draft_of (draft_from o ks ps)) (link shape to))
      go ks ps h = record { is = rw s refl; held = h }

-- ---- keys and pointers that stand from a place on

-- At the front already.
pub redone_settled : (o : Outline) (ks ps : List ℕ) (d : Draft) → o.first ≡ 0 → Redone (draft_from o ks ps) d → RedoneIn o ks ps d
redone_settled o ks ps d e x =
    let same : (xs : List ℕ) → down_in o xs ≡ xs = λ xs. ap (λ (n : ℕ). lowered n o.count xs) e ∙ lowered_none o.count xs in
    let s = x.held.sized in
    record {
      is = ap₂ (λ (a b : List ℕ). draft_of (draft_from o a b)) (same ks) (same ps) ∙ x.is;
      held = record { room = omega (arith, e, s.size); key_room = s.key_room; pointer_room = s.pointer_room; held = rw (same ks, same ps) x.held };
    }

pub redone_counted : (o : Outline) (n : Option ℕ) (ks ps : List ℕ) (d : Draft) → Redone (draft_from (counted_to o n) ks ps) d → RedoneIn (counted_to o n) ks ps d
redone_counted o n ks ps d x = redone_settled (counted_to o n) ks ps d (counted_first o n) x

-- Nothing replayed yet: the arrays may hold anything.
pub redone_nothing : (ks ps : List ℕ) → length ks ≡ most_keys → length ps ≡ most_keys → RedoneIn empty_outline ks ps (unlinked [])
unfolding pairs_in Within
redone_nothing ks ps k p =
    redone_settled empty_outline ks ps (unlinked []) refl
    (record { is = refl; held = record { sized = record { size = omega arith; key_room = k; pointer_room = p }; ascending = tt } })

-- As it is.
pub redone_as : (o : Outline) (ks ps : List ℕ) → HeldIn o ks ps → RedoneIn o ks ps (draft_in o ks ps)
redone_as o ks ps h = record { is = refl; held = h }

-- A link.
pub links_in : (o : Outline) (shape : Shape) (to : ℕ) (r : Outline) → Links o shape to r → (ks ps : List ℕ) → HeldIn o ks ps →
    RedoneIn r ks ps (redo (draft_in o ks ps) (link shape to))
links_in o shape to r l ks ps h =
    let same : (xs : List ℕ) → down_in r xs ≡ down_in o xs = λ xs. ap₂ (λ (n m : ℕ). lowered n m xs) l.first l.count in
    let x = l.is (down_in o ks) (down_in o ps) h.held in
    record {
      is = ap₂ (λ (a b : List ℕ). draft_of (draft_from r a b)) (same ks) (same ps) ∙ x.is;
      held = record {
        room = omega (arith, l.first, l.count, h.room);
        key_room = h.key_room;
        pointer_room = h.pointer_room;
        held = rw (same ks, same ps) x.held;
      };
    }

-- Arrays with the same first values.
module _ (o : Outline) (ks ps ks' ps' : List ℕ) (k : take o.count ks' ≡ take o.count ks) (p : take o.count ps' ≡ take o.count ps) where
  pairs_agree : pairs_in (node_from o ks' ps') ≡ pairs_in (node_from o ks ps)
  unfolding pairs_in
  pairs_agree = ap₂ zip k p

  drafts_agree : (s : DraftState) → draft_as s (node_from o ks' ps') ≡ draft_as s (node_from o ks ps)
  drafts_agree Unlinked = ap unlinked pairs_agree
  drafts_agree Made = ap (λ (qs : List Pair). made (node o.shape qs o.link)) pairs_agree
  drafts_agree Broken = refl

  redone_agrees : (d : Draft) → length ks' ≡ most_keys → length ps' ≡ most_keys → Redone (draft_from o ks ps) d → Redone (draft_from o ks' ps') d
  redone_agrees d a b x =
      record {
        is = drafts_agree o.state ∙ x.is;
        held = record {
          sized = record { size = x.held.sized.size; key_room = a; pointer_room = b };
          ascending = rw pairs_agree x.held.ascending;
        };
      }

-- A put behind all others, a put of the first key, and its removal.
module _ (o : Outline) (ks ps : List ℕ) (h : HeldIn o ks ps) (key : ℕ) where
  inside : o.first + o.count ≤ length ks
  inside = omega (arith, h.room, h.key_room)

  beside : o.first + o.count ≤ length ps
  beside = omega (arith, h.room, h.pointer_room)

  found_first : 0 < o.count → get_or ks o.first 0 ≡ key → found key (pairs_in (node_from o (down_in o ks) (down_in o ps))) ≡ Ok 0
  found_first l e =
      let here : get_or (down_in o ks) 0 0 ≡ key =
      get_or-lowered o.first o.count ks inside 0 l ∙ ap (λ (n : ℕ). get_or ks n 0) (omega arith) ∙ e in
      (found_in_at (down_in o ks) o.count key 0 l here).is (node_from o (down_in o ks) (down_in o ps)) h.held refl refl

  found-behind : (0 < o.count → get_or ks (o.first + o.count - 1) 0 < key) →
      found key (pairs_in (node_from o (down_in o ks) (down_in o ps))) ≡ Err o.count
  found-behind f =
      let before : 0 < o.count → get_or (down_in o ks) (o.count - 1) 0 < key = λ z.
      rw (get_or-lowered o.first o.count ks inside (o.count - 1) (omega arith))
      (omega (arith, f z, ap {B = ℕ} (λ (n : ℕ). get_or ks n 0) {x = o.first + (o.count - 1)} {y = o.first + o.count - 1} (omega arith))) in
      (found_in_above (down_in o ks) o.count key o.count (omega arith) before (λ z. absurd (omega arith))).is
      (node_from o (down_in o ks) (down_in o ps)) h.held refl refl

  pub redone_behind : (p : ℕ) → key < bound32 → o.first + o.count < most_keys → (0 < o.count → get_or ks (o.first + o.count - 1) 0 < key) →
      RedoneIn (counted_at o (o.count + 1)) (set ks (o.first + o.count) key) (set ps (o.first + o.count) p) (redo (draft_in o ks ps) (put key p))
  redone_behind p l m f =
      let ks' = set ks (o.first + o.count) key in
      let ps' = set ps (o.first + o.count) p in
      let lk : length ks' ≡ most_keys = length-set ks (o.first + o.count) key ∙ h.key_room in
      let lp : length ps' ≡ most_keys = length-set ps (o.first + o.count) p ∙ h.pointer_room in
      let x = redone_added o (down_in o ks) (down_in o ps) h.held key o.count p (found-behind f) l (omega arith)
      (lowered o.first (o.count + 1) ks') (lowered o.first (o.count + 1) ps')
      (lowered-behind o.first o.count ks key (omega (arith, h.key_room)), length-lowered o.first (o.count + 1) ks' (omega arith) ∙ lk)
      (lowered-behind o.first o.count ps p (omega (arith, h.pointer_room)), length-lowered o.first (o.count + 1) ps' (omega arith) ∙ lp) in
      record { is = x.is; held = record { room = omega arith; key_room = lk; pointer_room = lp; held = x.held } }

  module _ (l : 0 < o.count) (e : get_or ks o.first 0 ≡ key) where
    pub redone_front : (p : ℕ) → key < bound32 → RedoneIn o ks (set ps o.first p) (redo (draft_in o ks ps) (put key p))
    redone_front p b =
        let ps' = set ps o.first p in
        let lp : length ps' ≡ most_keys = length-set ps o.first p ∙ h.pointer_room in
        let x = redone_replaced o (down_in o ks) (down_in o ps) h.held key 0 p b (found_first l e) in
        let y = redone_agrees o (down_in o ks) (set (down_in o ps) 0 p) (down_in o ks) (down_in o ps') refl
        (lowered-first o.first o.count ps p l beside) (redo (draft_in o ks ps) (put key p))
        (length-lowered o.first o.count ks inside ∙ h.key_room)
        (length-lowered o.first o.count ps' (omega (arith, lp, h.room)) ∙ lp) x in
        record { is = y.is; held = record { room = h.room; key_room = h.key_room; pointer_room = lp; held = y.held } }

    pub redone_ahead : RedoneIn (ahead_at o) ks ps (redo (draft_in o ks ps) (remove key))
    redone_ahead =
        let x = redone_removed o (down_in o ks) (down_in o ps) h.held key 0 (found_first l e)
        (lowered (o.first + 1) (o.count - 1) ks) (lowered (o.first + 1) (o.count - 1) ps)
        (lowered-ahead o.first o.count ks l inside, length-lowered (o.first + 1) (o.count - 1) ks (omega (arith, inside)) ∙ h.key_room)
        (lowered-ahead o.first o.count ps l beside, length-lowered (o.first + 1) (o.count - 1) ps (omega (arith, beside)) ∙ h.pointer_room) in
        record { is = x.is; held = record { room = omega (arith, h.room); key_room = h.key_room; pointer_room = h.pointer_room; held = x.held } }
