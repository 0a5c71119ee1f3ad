-- A scan's answer laid a pair at a time, and its head last. Assumes nothing.
use Rattle.std.specs.Prelude.{◌≡◌, List, [], ◌∷◌, ◌++◌, ℕ, ◌+◌, ◌*◌, ◌≤◌, ◌<◌, length, get_or, take}
use Rattle.std.proofs.Common.{sym, ap, ◌∙◌, add-one, arith, length-take-le, take-suc, take_all}
use Rattle.laws.specs.Lay.{lay, lay-nil}
use Rattle.pairs.specs.Pairs.{Pair}
use Rattle.wire.specs.Field.{head}
use Rattle.command.specs.Answer.{pair_bytes, pairs_bytes, scan_tag, scan_bytes}
use Rattle.command.specs.AnswerLaws.{length-scan_bytes, scan-append, scan-close}
use Rattle.run_scan.specs.declared.Pairs.{Pairs}
use Rattle.run_scan.specs.Pairs.{pairs_of, Sized, length-listed, get_or-listed}

-- A buffer with the first i pairs behind the place of the head.
abbrev pub pairs_laid : List ℕ → ℕ → Pairs → ℕ → List ℕ
pairs_laid s at p i = lay s (at + 3) (pairs_bytes (take i (pairs_of p)))

pub laid_none : (s : List ℕ) (at : ℕ) (p : Pairs) → s ≡ pairs_laid s at p 0
laid_none s at p = sym (lay-nil s (at + 3))

module _ (s : List ℕ) (at : ℕ) (p : Pairs) (z : Sized p) (room : at + (3 + 8 * p.count) ≤ length s) (b c : List ℕ) (i : ℕ) (e : b ≡ pairs_laid s at p i) where
  size : length (pairs_of p) ≡ p.count
  size = length-listed p.count p.keys p.values z.key_room z.value_room z.size

  -- one pair more
  pub laid_more : i < p.count → c ≡ lay b (at + 3 + 8 * i) (pair_bytes (get_or p.keys i 0, get_or p.values i 0)) → c ≡ pairs_laid s at p (i + 1)
  laid_more l f =
      let pair : Pair = (get_or p.keys i 0, get_or p.values i 0) in
      let more : take (i + 1) (pairs_of p) ≡ take i (pairs_of p) ++ (pair ∷ []) =
      ap (λ (n : ℕ). take n (pairs_of p)) (add-one i) ∙
      take-suc (pairs_of p) i (0, 0) (omega (arith, size)) ∙
      ap (λ (q : Pair). take i (pairs_of p) ++ (q ∷ [])) (get_or-listed p.count p.keys p.values z.key_room z.value_room i l) in
      f ∙
      ap (λ (bytes : List ℕ). lay bytes (at + 3 + 8 * i) (pair_bytes pair)) e ∙
      scan-append s at (take i (pairs_of p)) pair (at + 3 + 8 * i) (omega arith) (omega (arith, length-take-le i (pairs_of p) (omega (arith, size)))) ∙
      ap (λ (ps : List Pair). lay s (at + 3) (pairs_bytes ps)) (sym more)

  -- all of them, and the head
  pub laid-scan :
      i ≡ p.count → c ≡ lay b at (head scan_tag (8 * i)) →
      (c ≡ lay s at (scan_bytes (pairs_of p))) × (at + 3 + 8 * i ≡ at + length (scan_bytes (pairs_of p)))
  laid-scan l f =
      let whole : take i (pairs_of p) ≡ pairs_of p = take_all i (pairs_of p) (omega (arith, size)) in
      let many : i ≡ length (pairs_of p) = omega (arith, size) in (
        f ∙
            ap (λ (bytes : List ℕ). lay bytes at (head scan_tag (8 * i))) (e ∙ ap (λ (ps : List Pair). lay s (at + 3) (pairs_bytes ps)) whole) ∙
            ap (λ (n : ℕ). lay (lay s (at + 3) (pairs_bytes (pairs_of p))) at (head scan_tag (8 * n))) many ∙
            scan-close s at (pairs_of p) (omega arith),
        omega (arith, length-scan_bytes (pairs_of p)),
      )
