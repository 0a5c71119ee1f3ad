-- A delete of a present key is one edit behind the reads, which makes a sound table that spells the map without the key; of an
-- absent key it is reads alone. Assumes nothing.
use Rattle.std.specs.Prelude.{◌≡◌, refl, List, [], ◌∷◌, ℕ, ◌≤◌, ◌<◌, Option, None, Some}
use Rattle.std.proofs.Common.{append-nil, arith}
use Rattle.layout.specs.Layout.{bound32}
use Rattle.pairs.specs.Pairs.{Pair, lookup, delete}
use Rattle.pairs.proofs.Sizes.{length-delete, delete-absent}
use Rattle.pairs.proofs.LocalEdit.{delete_local}
use Rattle.node.specs.Change.{remove}
use Rattle.tree.specs.Table.{Table, path, leaf_for}
use Rattle.tree.specs.NodeRequest.{edit, count_after_all}
use Rattle.tree.specs.Get.{reads_to}
use Rattle.tree.specs.Put.{work, finish, write_requests}
use Rattle.tree.specs.Delete.{delete_requests}
use Rattle.tree.specs.Spells.{Spells}
use Rattle.tree_laws.specs.Settled.{remove_says}
use Rattle.tree_laws.specs.Written.{final_count, write-count, write_spells, write-fits}
use Rattle.tree_laws.specs.IdsNeeded.{finish_single}
use Rattle.tree_laws.specs.Served.{Served}
use Rattle.tree_laws.specs.GetLaws.{leaf-found, get-answer, get-served}

module _ (table : Table) (count : ℕ) (pairs : List Pair) (s : Spells table count pairs) (k : ℕ) (small : k < bound32) where
  -- the work of a removal is one edit
  deletion_single :
      (finish table (work table k (remove k) count (path count table k 0)) ≡ edit (leaf_for count table k 0) (remove k) ∷ []) ×
      (final_count table (work table k (remove k) count (path count table k 0)) ≡ count)
  deletion_single =
      let l = leaf-found table count pairs s k small in
      finish_single table k (remove k) count count (rw l.content (omega (arith, l.size, length-delete k l.pairs)))

  pub delete-absent-requests : lookup k pairs ≡ None → delete_requests count table k ≡ reads_to count table k
  unfolding delete_requests
  delete-absent-requests e = rw (get-answer table count pairs s k small, e) (append-nil (reads_to count table k))

  pub delete-present-requests : (old : ℕ) → lookup k pairs ≡ Some old → delete_requests count table k ≡ write_requests count table k (remove k)
  unfolding delete_requests
  delete-present-requests old e = rw (get-answer table count pairs s k small, e, deletion_single.0)

  pub delete-served : (limit : ℕ) → count ≤ limit → Served limit table count (delete_requests count table k) (delete k pairs)
  delete-served limit l = go (lookup k pairs) refl
    where
      n : count_after_all (write_requests count table k (remove k)) count ≡ final_count table (work table k (remove k) count (path count table k 0))
      n = write-count table count pairs s k small (remove k) (delete k) (delete_local k) (remove_says k)

      m : final_count table (work table k (remove k) count (path count table k 0)) ≤ limit
      m = omega (arith, deletion_single.1, l)

      go : (o : Option ℕ) → lookup k pairs ≡ o → Served limit table count (delete_requests count table k) (delete k pairs)
      go None e = rw (delete-absent-requests e, delete-absent k pairs e) (get-served table count pairs s k small limit l)
      go (Some old) e =
          rw (delete-present-requests old e)
          record {
            kept = rw n m;
            fits = rw n (write-fits table count pairs s k small (remove k) (delete k) (delete_local k) (remove_says k) limit m);
            spells = rw n (write_spells table count pairs s k small (remove k) (delete k) (delete_local k) (remove_says k));
          }
