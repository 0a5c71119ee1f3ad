-- GET, DELETE, SCAN AND CEILING by the code agree with the model's: what is left, the charge, the answer. Assumes nothing.
use Rattle.std.proofs.Math.Path.{◌≡◌, refl, sym, ap, ap₂}
use Rattle.std.proofs.Common.{◌∙◌, arith}
use Rattle.std.specs.Prelude.{Bool, ltb, Option, None, Some}
use Rattle.std.proofs.Math.Bool.{true, false}
use mathlib.Core.List.{List, [], ◌++◌, map, map-append}
use Prim.Native.Nat.{ℕ, ◌+◌, ◌<◌}
use Rattle.layout.specs.Layout.{node_limit, last_key, bound32}
use Rattle.pairs.specs.Pairs.{Pair, lookup, first}
use Rattle.account.specs.declared.Tariff.{Tariff}
use Rattle.command.specs.declared.Answer.TheVariants.{Got, Deleted}
use Rattle.command.specs.declared.Command.TheVariants.{Get, Delete, Scan, Ceiling}
use Rattle.command.specs.Answer.{value_or}
use Rattle.node.specs.Node.{Node, pairs_of}
use Rattle.node.specs.Change.{remove}
use Rattle.tree.specs.Table.{Table, path, leaf_for}
use Rattle.tree.specs.NodeRequest.{NodeRequest, read}
use Rattle.tree.specs.Get.{get_answer}
use Rattle.tree.specs.Delete.{deletion_for, delete_requests}
use Rattle.tree.specs.Scan.{leaves_after, pairs_from, scan_reads, scan_answer}
use Rattle.book.specs.Command.{short, listed, ceiling_reply, requests, answer}
use Rattle.book.specs.Session.{Session}
use Rattle.store.specs.Serve as Store
use Rattle.store_laws.specs.Numbers.{last}
use Rattle.model.specs.State.{State, book_of, serve_all}
use Rattle.demands.specs.Says.{book_of-count}
use Rattle.demands.specs.Run.{Holds}
use Rattle.demands.specs.BatchFits.{most_numbers}
use Rattle.flash_allocate.specs.World.{World}
use Rattle.run_path.specs.Path.{table_in}
use Rattle.run_path.specs.Reads.{read_all, read_charges}
use Rattle.run_path.specs.Descend.{descent}
use Rattle.run_lookup.specs.Value.{value_in}
use Rattle.run_lookup.specs.Delete.{deletion, deletion_charge, delete, delete_charge}
use Rattle.run_scan.specs.Scan.{pairs_along, leaves_along, scan_world, scan_charge, scan_pairs}
use Rattle.run_refines.specs.Commands.Lists.{served_all, charged_all, Runs}
use Rattle.run_refines.proofs.Commands.Lists.{served_all-append, charged_all-append}
use Rattle.run_refines.specs.Commands.Tables.{table_agrees}
use Rattle.run_refines.specs.Commands.Holding.{serve_holding_lem}
use Rattle.run_refines.proofs.Commands.Descents.{Walked, descent_walked}
use Rattle.run_refines.proofs.Commands.Commands.{reads-served, reads-charged}

module _ {blocks : ℕ} {w : World} {s : State} (k : Runs blocks w s) (ps : List Pair) (h : Holds (node_limit blocks) (book_of s) ps)
    (number : 1 + (most_numbers + last s.run) < bound32) (n : Session) where
  abbrev t : Tariff
  t = n.tariff

  abbrev limit : ℕ
  limit = node_limit blocks

  abbrev count : ℕ
  count = (book_of s).count

  abbrev table : Table
  table = (book_of s).table

  -- the model's path to a key, its reads, and the leaf at its end
  abbrev on_path : ℕ → List ℕ
  on_path key = path count table key 0

  abbrev reads : ℕ → List NodeRequest
  reads key = map read (on_path key)

  abbrev leaf : ℕ → ℕ
  leaf key = leaf_for count table key 0

  -- the walk down of the code
  module _ (key : ℕ) (small : key < bound32) where
    down : Walked blocks t w s table count (on_path key) (leaf key) (descent t key w)
    down = descent_walked k ps h t key small (omega (arith, h.most, k.few))

    -- the value that the code finds is the model's
    pub value-is : value_in t key w ≡ get_answer count table key
    unfolding get_answer
    value-is = ap (λ (x : Node). lookup key (pairs_of x)) down.node

    -- GET
    pub get-world : (descent t key w).now ≡ served_all t (requests limit n (Get key) (book_of s)) w
    unfolding requests
    get-world = down.world

    pub get-charge : (descent t key w).charge ≡ charged_all t (requests limit n (Get key) (book_of s)) w
    unfolding requests
    get-charge = down.charge

    pub get-answer : answer limit n (Get key) (book_of s) ≡ short (value_or Got (value_in t key w))
    unfolding answer
    get-answer = ap (λ (o : Option ℕ). short (value_or Got o)) (sym value-is)

    -- DELETE: the content in hand is that of the leaf after the reads
    held : (descent t key w).node ≡ (book_of (serve_all t (reads key) s)).table (descent t key w).leaf
    held = down.node ∙ ap₂ (λ (z : Table) (n : ℕ). z n) (sym down.same_table) (sym down.leaf)

    abbrev after : World
    after = (descent t key w).now

    deletion-served : (o : Option ℕ) →
        deletion t o (descent t key w).leaf (descent t key w).node key after ≡ served_all t (deletion_for o (descent t key w).leaf key) after
    deletion-served None = refl
    deletion-served (Some old) =
        serve_holding_lem down.runs (descent t key w).leaf (descent t key w).node held t (Store.edit (remove key))

    deletion-charged : (o : Option ℕ) → deletion_charge t o (descent t key w).leaf key after ≡ charged_all t (deletion_for o (descent t key w).leaf key) after
    deletion-charged None = refl
    deletion-charged (Some old) = omega arith

    abbrev deletions : List NodeRequest
    deletions = deletion_for (get_answer count table key) (leaf key) key

    deletions_are : deletion_for (value_in t key w) (descent t key w).leaf key ≡ deletions
    deletions_are = ap₂ (λ (o : Option ℕ) (n : ℕ). deletion_for o n key) value-is down.leaf

    pub delete-world : delete t key w ≡ served_all t (requests limit n (Delete key) (book_of s)) w
    unfolding delete requests delete_requests
    delete-world =
        deletion-served (value_in t key w) ∙
        ap₂ (served_all t) deletions_are down.world ∙
        sym (served_all-append t (reads key) deletions w)

    pub delete-charge : delete_charge t key w ≡ charged_all t (requests limit n (Delete key) (book_of s)) w
    unfolding delete_charge requests delete_requests
    delete-charge =
        ap₂ ◌+◌ down.charge (deletion-charged (value_in t key w) ∙ ap₂ (charged_all t) deletions_are down.world) ∙
        sym (charged_all-append t (reads key) deletions w)

    pub delete-answer : answer limit n (Delete key) (book_of s) ≡ short (value_or Deleted (value_in t key w))
    unfolding answer
    delete-answer = ap (λ (o : Option ℕ). short (value_or Deleted o)) (sym value-is)

  -- SCAN
  module _ (low high most : ℕ) (small : low < bound32) where
    walked : Walked blocks t w s table count (on_path low) (leaf low) (descent t low w)
    walked = down low small

    abbrev behind : List ℕ
    behind = leaves_after count table low high most (leaf low)

    -- the world after the walk has the same nodes
    nodes_are : (descent t low w).now.state.nodes ≡ count
    nodes_are = walked.runs.agrees.nodes ∙ sym (book_of-count (serve_all t (reads low) s)) ∙ walked.same_count

    table_is : table_in (descent t low w).now ≡ table
    table_is = table_agrees walked.runs ∙ walked.same_table

    leaves_are : leaves_along low high most (descent t low w) ≡ behind
    leaves_are =
        ap₂ (λ (n : ℕ) (z : Table). leaves_after n z low high most (descent t low w).leaf) nodes_are table_is ∙
        ap (leaves_after count table low high most) walked.leaf

    pairs_are : pairs_along low high most (descent t low w) ≡ pairs_from count table low high most (leaf low)
    pairs_are =
        ap₂ (λ (n : ℕ) (z : Table). pairs_from n z low high most (descent t low w).leaf) nodes_are table_is ∙
        ap (pairs_from count table low high most) walked.leaf

    -- the reads of both lists in one
    read-world : read_all t (leaves_along low high most (descent t low w)) (descent t low w).now ≡ served_all t (map read (on_path low ++ behind)) w
    read-world =
        ap₂ (read_all t) leaves_are walked.world ∙
        reads-served t behind (served_all t (reads low) w) ∙
        sym (served_all-append t (reads low) (map read behind) w) ∙
        ap (λ (rs : List NodeRequest). served_all t rs w) (sym (map-append read (on_path low) behind))

    read-charge : (descent t low w).charge + read_charges t (leaves_along low high most (descent t low w)) (descent t low w).now ≡
        charged_all t (map read (on_path low ++ behind)) w
    read-charge =
        ap₂ ◌+◌ walked.charge (ap₂ (read_charges t) leaves_are walked.world ∙ reads-charged t behind (served_all t (reads low) w)) ∙
        sym (charged_all-append t (reads low) (map read behind) w) ∙
        ap (λ (rs : List NodeRequest). charged_all t rs w) (sym (map-append read (on_path low) behind))

    -- "Low above high: an empty list and no node read."
    pub scan-world : scan_world t low high most w ≡ served_all t (requests limit n (Scan low high most) (book_of s)) w
    unfolding scan_world requests scan_reads
    scan-world = go (ltb high low)
      where
        go : (b : Bool) →
            elim b [ true ↦ w | false ↦ read_all t (leaves_along low high most (descent t low w)) (descent t low w).now ] ≡
            served_all t (map read (elim b [ true ↦ [] | false ↦ on_path low ++ behind ])) w
        go true = refl
        go false = read-world

    pub scan-charge : scan_charge t low high most w ≡ charged_all t (requests limit n (Scan low high most) (book_of s)) w
    unfolding scan_charge requests scan_reads
    scan-charge = go (ltb high low)
      where
        go : (b : Bool) →
            elim b [
              | true ↦ 0
              | false ↦ (descent t low w).charge + read_charges t (leaves_along low high most (descent t low w)) (descent t low w).now
            ] ≡
            charged_all t (map read (elim b [ true ↦ [] | false ↦ on_path low ++ behind ])) w
        go true = refl
        go false = read-charge

    pub scan-pairs : scan_answer count table low high most ≡ scan_pairs t low high most w
    unfolding scan_answer scan_pairs
    scan-pairs = go (ltb high low)
      where
        go : (b : Bool) →
            ◌≡◌ {A = List Pair} (elim b [ true ↦ [] | false ↦ pairs_from count table low high most (leaf low) ])
            (elim b [ true ↦ [] | false ↦ pairs_along low high most (descent t low w) ])
        go true = refl
        go false = sym pairs_are

    pub scan-answer : answer limit n (Scan low high most) (book_of s) ≡ listed (scan_pairs t low high most w)
    unfolding answer
    scan-answer = ap listed scan-pairs

  -- CEILING: what is served is that scan's, up to the greatest key and with a most of 1; it answers the first pair
  module _ (key : ℕ) (small : key < bound32) where
    pub ceiling-world : scan_world t key last_key 1 w ≡ served_all t (requests limit n (Ceiling key) (book_of s)) w
    unfolding requests
    ceiling-world = scan-world key last_key 1 small

    pub ceiling-charge : scan_charge t key last_key 1 w ≡ charged_all t (requests limit n (Ceiling key) (book_of s)) w
    unfolding requests
    ceiling-charge = scan-charge key last_key 1 small

    pub ceiling-answer : answer limit n (Ceiling key) (book_of s) ≡ ceiling_reply (first (scan_pairs t key last_key 1 w))
    unfolding answer
    ceiling-answer = ap (λ (found : List Pair). ceiling_reply (first found)) (scan-pairs key last_key 1 small)
