-- The pairs that a scan has found, by value: at most 32 (document 01, command 04). Assumes nothing.
use Rattle.std.specs.Prelude.{◌≡◌, refl, List, [], ◌∷◌, ◌++◌, ℕ, ◌+◌, ◌≤◌, ◌<◌, length, get_or, set}
use Rattle.std.proofs.Math.Path.{ap}
use Rattle.std.proofs.Common.{◌∙◌, add-one, arith}
use Rattle.std.proofs.Math.ListN.{take}
use Rattle.std.proofs.Math.Seq.{length-take-le, get_or-take, take-suc-set}
use Rattle.pairs.specs.Pairs.{Pair}
use Rattle.node.specs.Splice.{zip, length-zip, get_d_zip, zip-set}
use Rattle.layout.specs.Layout.{most_pairs}
use Rattle.run_scan.specs.declared.Pairs.{Pairs}

-- The first n keys with the values beside them.
unfoldable pub listed : ℕ → List ℕ → List ℕ → List Pair
listed n keys values = take n (zip keys values)

abbrev pub pairs_of : Pairs → List Pair
pairs_of p = listed p.count p.keys p.values

-- Its count is within its arrays.
pub record Sized (p : Pairs) : Type 0 where
  pub size : p.count ≤ most_pairs
  pub key_room : length p.keys ≡ most_pairs
  pub value_room : length p.values ≡ most_pairs

pub listed-none : (keys values : List ℕ) → listed 0 keys values ≡ []
unfolding listed
listed-none keys values = refl

module _ (n : ℕ) (keys values : List ℕ) (e : length keys ≡ most_pairs) (f : length values ≡ most_pairs) where
  pub length-listed : n ≤ most_pairs → length (listed n keys values) ≡ n
  unfolding listed
  length-listed l = length-take-le n (zip keys values) (omega (arith, length-zip keys values (omega arith)))

  -- one pair more
  pub listed_more : (k v : ℕ) → n < most_pairs → listed (n + 1) (set keys n k) (set values n v) ≡ listed n keys values ++ ((k, v) ∷ [])
  unfolding listed
  listed_more k v l =
      ap (take (n + 1)) (zip-set keys values n k v) ∙
      ap (λ (m : ℕ). take m (set (zip keys values) n (k, v))) (add-one n) ∙
      take-suc-set (zip keys values) n (k, v) (omega (arith, length-zip keys values (omega arith)))

  pub get_or-listed : (i : ℕ) → i < n → get_or (listed n keys values) i (0, 0) ≡ (get_or keys i 0, get_or values i 0)
  unfolding listed
  get_or-listed i l = get_or-take n (zip keys values) i (0, 0) l ∙ get_d_zip keys values i (omega arith)
