-- Whether a table is sound depends on its nodes below the count alone, and not on what stands there for a node that no sound tree has: a sound
-- tree reaches every id below the count, and each of its nodes is neat, a branch with a key. Assumes nothing.
use Rattle.std.specs.Prelude.{◌≡◌, true, List, ◌⊎◌, ℕ}
use Rattle.std.proofs.Common.{sym, inl, inr, arith}
use Rattle.laws.specs.Tests.{test_same}
use Rattle.layout.specs.Layout.{no_leaf, bound32}
use Rattle.pairs.specs.Pairs.{Pair}
use Rattle.tree.specs.Table.{Table}
use Rattle.tree.specs.Spells.{Spells, map_of}
use Rattle.tree.specs.Sound.{sound}
use Rattle.tree_laws.specs.Ids.{used-below}
use Rattle.tree_laws.specs.Standing.{Proper, stands_keep}
use Rattle.tree_laws.specs.SoundLaws.{sound-limit, sound_spells, spells_sound}
use Rattle.tree_laws.specs.GetLaws.{node_proper}
use Rattle.tree_laws.specs.Agree.{Agree, AgreeProper}

spells_agree : (count : ℕ) (table table' : Table) (pairs : List Pair) → Agree count table table' → Spells table count pairs → Spells table' count pairs
spells_agree count table table' pairs e s =
    record {
      depth = s.depth;
      tree = s.tree;
      stands =
          stands_keep s.depth table table' s.tree 0 bound32 no_leaf (λ i l. sym (e i (used-below count i (omega (arith, s.ids i))))) s.stands;
      root = s.root;
      ids = s.ids;
      spelled = s.spelled;
    }

-- A sound table's nodes are proper, so where two tables agree so far they are the same.
proper_agree : (limit count : ℕ) (table table' : Table) → AgreeProper count table table' → sound limit count table ≡ true → Agree count table table'
proper_agree limit count table table' e s i l = go (e i l)
  where
    go : (table i ≡ table' i) ⊎ ((Proper (table i) → ⊥) × (Proper (table' i) → ⊥)) → table i ≡ table' i
    go (inl f) = f
    go (inr f) = absurd (f.0 (node_proper table count (map_of count table) (sound_spells limit count table s) i l))

sound-over : (limit count : ℕ) (table table' : Table) → AgreeProper count table table' → sound limit count table ≡ true → sound limit count table' ≡ true
sound-over limit count table table' e s =
    spells_sound limit count table' (map_of count table)
    (spells_agree count table table' (map_of count table) (proper_agree limit count table table' e s) (sound_spells limit count table s))
    (sound-limit limit count table s)

agree_back : (count : ℕ) (table table' : Table) → AgreeProper count table table' → AgreeProper count table' table
agree_back count table table' e i l = go (e i l)
  where
    go : (table i ≡ table' i) ⊎ ((Proper (table i) → ⊥) × (Proper (table' i) → ⊥)) →
        (table' i ≡ table i) ⊎ ((Proper (table' i) → ⊥) × (Proper (table i) → ⊥))
    go (inl f) = inl (sym f)
    go (inr f) = inr (f.1, f.0)

pub sound_proper : (limit count : ℕ) (table table' : Table) → AgreeProper count table table' → sound limit count table ≡ sound limit count table'
sound_proper limit count table table' e =
    test_same _ _ (sound-over limit count table table' e) (sound-over limit count table' table (agree_back count table table' e))
