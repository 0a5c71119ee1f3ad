-- What the code replays of the pages that a row names: where each sequence number that has pieces has its page in a slot, and there are as many
-- of them as slots in use, it is the pieces of all of them, in the order of the numbers. Assumes nothing.
use Rattle.std.specs.Prelude.{◌≡◌, true, false, ℕ, ◌≤◌, eqb, length}
use Rattle.std.proofs.Math.Path.{refl, sym, ap}
use Rattle.std.proofs.Common.{◌∙◌, arith}
use mathlib.Core.List.{List, [], ◌∷◌, ◌++◌}
use Rattle.laws.specs.Tests.{choose}
use Rattle.laws.specs.Counts.{empty}
use Rattle.node.specs.Replay.{Piece, Draft, redo_piece, replay_from}
use Rattle.flash_rows.specs.Step.{names}
use Rattle.flash_rows.specs.declared.Row.{Row}
use Rattle.flash_read.specs.Slots.{slot_at, redo_at, redo_two, redo_three}
use Rattle.flash_read.specs.Content.{redo_pages}
use Rattle.flash_refines.specs.Read.Sequences.{joined, Falling, end, next}
use Rattle.flash_refines.specs.Read.SlotOrder.{Tells, two_redone, three_redone}
use Rattle.flash_refines.specs.Read.SlotsInUse.{in_one, in_two, in_three}

-- Replaying pieces in a row.
pub replay_from-append : (d : Draft) (xs ys : List Piece) → replay_from d (xs ++ ys) ≡ replay_from (replay_from d xs) ys
unfolding replay_from
replay_from-append d [] ys = refl
replay_from-append d (x ∷ xs) ys = replay_from-append (redo_piece d x) xs ys

module _ (pages : List (List ℕ)) (row : Row) (n : ℕ) (f : ℕ → List Piece) where
  -- The page of a sequence number is one that the row names.
  pub record Named (s : ℕ) : Type 0 where
    pub place : ℕ
    pub named : names place row ≡ true
    pub tells : Tells pages n row.version f s (slot_at pages place)

  -- with so many slots in use
  redo_by : ℕ → Draft → Draft
  redo_by k d =
      choose (eqb k 0) d
      (choose (eqb k 1)
      (redo_at pages row.first n row.version d)
      (choose (eqb k 2)
      (redo_two pages (slot_at pages row.first) (slot_at pages row.second) n row.version d)
      (redo_three pages (slot_at pages row.first) (slot_at pages row.second) (slot_at pages row.third) n row.version d)))

  module _ (all : (s : ℕ) → empty (f s) ≡ false → Named s) where
    abbrev Told : ℕ → ℕ → Type 0
    Told s x = Tells pages n row.version f s (slot_at pages x)

    sequences_redone : {high : ℕ} (ss : List ℕ) → Falling f high ss → row.pages ≡ length ss → length ss ≤ 3 → (d : Draft) →
        redo_by (length ss) d ≡ replay_from d (joined f ss)
    unfolding redo_by slot_at replay_from
    sequences_redone [] end e l d = refl
    sequences_redone (s ∷ []) (next b has end) e l d =
        let x = all s has in
        (in_one (Told s) x.tells row x.named (omega arith)).redo d
    sequences_redone (t ∷ s ∷ []) (next b₁ has₁ (next b₂ has₂ end)) e l d =
        let x = all s has₂ in
        let y = all t has₁ in
        two_redone pages n row.version f s t b₂ (slot_at pages row.first) (slot_at pages row.second)
        (in_two (Told s) x.tells row x.named (omega arith)) (in_two (Told t) y.tells row y.named (omega arith)) d ∙
        sym (replay_from-append d (f s) (f t))
    sequences_redone (u ∷ t ∷ s ∷ []) (next b₁ has₁ (next b₂ has₂ (next b₃ has₃ end))) e l d =
        let x = all s has₃ in
        let y = all t has₂ in
        let z = all u has₁ in
        three_redone pages n row.version f s t u b₃ b₂ (slot_at pages row.first) (slot_at pages row.second) (slot_at pages row.third)
        (in_three (Told s) x.tells row x.named) (in_three (Told t) y.tells row y.named) (in_three (Told u) z.tells row z.named) d ∙
        ap (λ (c : Draft). replay_from c (f u)) (sym (replay_from-append d (f s) (f t))) ∙
        sym (replay_from-append d (f s ++ f t) (f u))
    sequences_redone (u ∷ t ∷ s ∷ r ∷ ss) h e l d = absurd (omega arith)

    -- THE PAGES OF A ROW
    pub row_redone : {high : ℕ} (ss : List ℕ) → Falling f high ss → row.pages ≡ length ss → length ss ≤ 3 → (d : Draft) →
        redo_pages pages row n d ≡ replay_from d (joined f ss)
    unfolding redo_pages redo_by
    row_redone ss h e l d = ap (λ (k : ℕ). redo_by k d) e ∙ sequences_redone ss h e l d
