-- The written pages of a pool as one list: cell by cell, and block by block. Every rule on pages is told by their sequence numbers.
-- Assumes nothing.
use Rattle.std.specs.Prelude.{◌≡◌, refl, Bool, ◌&&◌, List, [], ◌∷◌, ◌++◌, map, ℕ, ◌+◌, max, eqb}
use Rattle.std.proofs.Common.{ap, ap₂, ◌∙◌, sym, arith}
use Rattle.std.proofs.Math.Bool.{and_assoc}
use Rattle.laws.specs.Counts.{bit, count, tally, count-append}
use Rattle.page.specs.Page.{Page, sequence}
use Rattle.store.specs.Pool.{Blocks, numbered}
use Rattle.store.specs.Reopen.{Cells, greatest_of, newest, differ_in, differ, every, every_page}
use Rattle.mount_sequences.specs.Digits.{greatest}
use Rattle.mount_sequences.specs.Strict.{is}
use Rattle.mount_sequences.specs.Differ.{differs}
use Rattle.store_laws.specs.WrittenPages.{pages_in, pages_over, pages_over-tally}

-- The sequence numbers of the written pages of cells.
abbrev pub sequences_in : Cells → List ℕ
sequences_in c = map sequence (pages_in c)

-- The model's tests of blocks, of the one list of pages.
every_append : (f : Page → Bool) (xs ys : List Page) → every f (xs ++ ys) ≡ (every f xs && every f ys)
every_append f [] ys = refl
every_append f (x ∷ xs) ys = ap (λ z. f x && z) (every_append f xs ys) ∙ sym (and_assoc (f x) (every f xs) (every f ys))

pub every-pages : (f : Page → Bool) (bs : Blocks) → every f (pages_over bs) ≡ every_page f bs
every-pages f [] = refl
every-pages f (b ∷ bs) = every_append f b (pages_over bs) ∙ ap (λ z. every f b && z) (every-pages f bs)

pub count_sequences : (v : ℕ) (ps : List Page) → count (is v) (map sequence ps) ≡ count (numbered v) ps
count_sequences v [] = refl
count_sequences v (p ∷ ps) = ap (λ n. bit (numbered v p) + n) (count_sequences v ps)

pub greatest-pages : (bs : Blocks) → greatest (map sequence (pages_over bs)) ≡ newest bs
unfolding greatest
greatest-pages [] = refl
greatest-pages (b ∷ bs) = go (greatest-pages bs) b
  where
    go : greatest (map sequence (pages_over bs)) ≡ newest bs → (b : List Page) →
        greatest (map sequence (b ++ pages_over bs)) ≡ max (greatest_of b) (newest bs)
    go rest [] = omega (arith, rest)
    go rest (p ∷ b) = omega (arith, go rest b)

pub differs-pages : (bs : Blocks) → differs (map sequence (pages_over bs)) ≡ differ bs
unfolding differs
differs-pages [] = refl
differs-pages (b ∷ bs) = go (differs-pages bs) b
  where
    alone : (s : ℕ) (b : List Page) → count (is s) (map sequence (b ++ pages_over bs)) ≡ count (numbered s) b + tally (numbered s) bs
    alone s b = count_sequences s (b ++ pages_over bs) ∙ count-append (numbered s) b (pages_over bs) ∙ omega (arith, pages_over-tally (numbered s) bs)

    go : differs (map sequence (pages_over bs)) ≡ differ bs → (b : List Page) →
        differs (map sequence (b ++ pages_over bs)) ≡ (differ_in b bs && differ bs)
    go rest [] = rest
    go rest (p ∷ b) =
        ap₂ (λ n t. eqb n 0 && t) (alone (sequence p) b) (go rest b) ∙
        sym (and_assoc (eqb (count (numbered (sequence p)) b + tally (numbered (sequence p)) bs) 0) (differ_in b bs) (differ bs))
