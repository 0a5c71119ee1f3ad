-- Strip (command 03): reads from root to leaf, then one edit if the key is present. Assumes nothing.
use Rattle.std.specs.Prelude.{List, [], ◌∷◌, ◌++◌, ℕ, Option, None, Some}
use Rattle.node.specs.Change.{remove}
use Rattle.tree.specs.Table.{Table, leaf_for}
use Rattle.tree.specs.NodeRequest.{NodeRequest, edit}
use Rattle.tree.specs.Get.{reads_to, get_answer}

-- The edit of the leaf, for a key that is present; leaves are never joined.
abbrev pub deletion_for : Option ℕ → ℕ → ℕ → List NodeRequest
deletion_for None leaf k = []
deletion_for (Some old) leaf k = edit leaf (remove k) ∷ []

-- All reads first, then the edit.
unfoldable pub delete_requests : ℕ → Table → ℕ → List NodeRequest
delete_requests count table k = reads_to count table k ++ deletion_for (get_answer count table k) (leaf_for count table k 0) k
