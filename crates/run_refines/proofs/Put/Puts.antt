-- THE COMMAND PUT THAT THE CODE CARRIES OUT agrees with the model's: pages, rows and state afterwards, the charge, and the answer. Assumes nothing.
use Rattle.std.specs.Prelude.{◌≡◌, Bool, false, ℕ, ◌+◌, ◌*◌, ◌≤◌, ◌<◌, length, Option, None, Result, Ok, Err}
use Rattle.std.proofs.Math.Path.{refl, sym, ap, ap₂}
use Rattle.std.proofs.Common.{◌∙◌, subst}
use Rattle.std.proofs.Math.Bool.{true}
use mathlib.Core.List.{List, [], ◌∷◌, ◌++◌, map, append_assoc}
use native.Mathlib.Omega.{arith}
use Rattle.std.proofs.Math.Dec.{ltb}
use Rattle.laws.specs.Every.{none}
use Rattle.laws.specs.Tests.{choose}
use Rattle.layout.specs.Layout.{node_limit, bound32, most_nodes}
use Rattle.account.specs.declared.Tariff.{Tariff}
use Rattle.command.specs.declared.Answer.{Answer}
use Rattle.command.specs.declared.Answer.TheVariants.{Absent, Replaced, Refused}
use Rattle.command.specs.declared.Command.TheVariants.{Put}
use Rattle.command.specs.Answer.{value_or}
use Rattle.pairs.specs.Pairs.{Pair, lookup}
use Rattle.node.specs.Node.{Node, pairs_of}
use Rattle.node.specs.Change as Change
use Rattle.node.specs.Search.{lookup_absent}
use Rattle.node.specs.Found.{above-absent}
use Rattle.tree.specs.Table.{Table, path, leaf_for}
use Rattle.tree.specs.NodeRequest.{NodeRequest, read, edit, apply_all, count_after_all}
use Rattle.tree.specs.Fit.{Fits}
use Rattle.tree.specs.Get.{get_answer}
use Rattle.tree.specs.Put.{work, finish, ids_needed, put_refused, put_requests}
use Rattle.tree.specs.Sound.{sound}
use Rattle.tree.specs.Spells.{Spells}
use Rattle.tree_laws.specs.SoundLaws.{spells_sound}
use Rattle.tree_laws.specs.Levels.{path_enough, leaf_for_enough}
use Rattle.tree_laws.specs.GetLaws.{node_neat, leaf-found, path-found}
use Rattle.tree_laws.specs.LeafOfKey.{LeafOf}
use Rattle.tree_laws.specs.NarrowLaws.{put_narrow}
use Rattle.tree_laws.specs.IdsNeeded.{finish_single}
use Rattle.tree_laws.specs.Requests.{apply_all-append, apply_all-reads}
use Rattle.tree_laws.specs.Served.{count-reads}
use Rattle.tree_laws.specs.PutLaws.{count_put, refused_past, put_refused_lem, put-accepted, put-served}
use Rattle.store_laws.specs.Numbers.{last}
use Rattle.book.specs.Command.{short, answer}
use Rattle.book.specs.Session.{Session}
use Rattle.model.specs.State.{State, book_of, serve_all, charges}
use Rattle.demands.specs.Says.{book_of-count}
use Rattle.demands.specs.NodesNarrow.{book_narrow}
use Rattle.flash_allocate.specs.World.{World}
use Rattle.run_path.specs.Path.{table_in, steps_in}
use Rattle.run_path.specs.Reads.{read_all, read_charges}
use Rattle.run_serve.specs.Serve.{serve_holding, charge}
use Rattle.store.specs.Serve as Store
use Rattle.node.specs.Fit.{by_fit, fit_of, full-above}
use Rattle.run_split.specs.Absorbing.{Absorbing, absorbing}
use Rattle.run_split.specs.SplitUpwards.{split_upwards}
use Rattle.run_put.specs.Put.{read_and_edit, read_and_split, Doing, doing, answering, refused, put_splitting, put_in, put}
use Rattle.run_refines.specs.Commands.Lists.{served_all, charged_all, Runs}
use Rattle.run_refines.proofs.Commands.Lists.{served_all-append, charged_all-append}
use Rattle.run_refines.proofs.Commands.Commands.{reads-served, reads-charged}
use Rattle.run_refines.specs.Commands.Holding.{serve-here}
use Rattle.run_refines.proofs.Put.Lists.{Suits, served_together}
use Rattle.run_refines.proofs.Put.Moments.{nodes_are, blocks_are, table_is, Moment, moment}
use Rattle.run_refines.specs.Put.Sizes.{room-size, pairs-put}
use Rattle.run_refines.specs.Put.Paths.{path_walked, path-head}
use Rattle.run_refines.proofs.Put.Splits.{Course, fits-behind, count_after_all-append}
use Rattle.run_refines.proofs.Put.SplitsUpwards.{split_upwards-is}

-- What the code's put leaves, as the model has it.
pub record PutAgrees (B : ℕ) (n : Session) (key value : ℕ) (s : State) (w : World) (rs : List NodeRequest) : Type 0 where
  pub runs : Runs B (put n.tariff key value w).now (serve_all n.tariff rs s)
  pub charge : (put n.tariff key value w).charge ≡ charges n.tariff rs s
  pub answer : short (put n.tariff key value w).answer ≡ answer (node_limit B) n (Put key value) (book_of s)

module _ (n : Session) {B : ℕ} (s : State) (w : World) (a : Runs B w s) (pairs : List Pair) (spells : Spells (book_of s).table (book_of s).count pairs)
    (key value : ℕ) (small : key < bound32) (narrow : value < bound32)
    (number : 1 + (4 * length (put_requests (node_limit B) (book_of s).count (book_of s).table key value) + last s.run) < bound32) where
  abbrev t : Tariff
  t = n.tariff

  abbrev table : Table
  table = (book_of s).table

  abbrev count : ℕ
  count = (book_of s).count

  abbrev limit : ℕ
  limit = node_limit B

  abbrev rs : List NodeRequest
  rs = put_requests limit count table key value

  abbrev on_path : List ℕ
  on_path = path count table key 0

  abbrev leaf : ℕ
  leaf = leaf_for count table key 0

  abbrev work_list : List NodeRequest
  work_list = finish table (work table key (Change.put key value) count on_path)

  within : count ≤ limit
  within = omega (arith, book_of-count s, a.sound.good.invariant.nodes)

  few : count ≤ most_nodes
  few = omega (arith, within, a.few)

  sound-here : sound most_nodes count table ≡ true
  sound-here = spells_sound most_nodes count table pairs spells few

  path-is : path (steps_in w) table key 0 ≡ on_path
  path-is = path_enough most_nodes count table sound-here key (steps_in w) (omega (arith, nodes_are a))

  leaf-is : leaf_for (steps_in w) table key 0 ≡ leaf
  leaf-is = leaf_for_enough most_nodes count table sound-here key (steps_in w) (omega (arith, nodes_are a))

  -- The put on this table, its path and its leaf, by whether the pair fits.
  put-by : (f : Result (Unit {0}) ℕ) → fit_of key (pairs_of (table leaf)) ≡ f →
      put t key value w ≡
      by_fit f (answering (value_or Replaced (get_answer count table key)) (read_and_edit t on_path leaf (table leaf) key value w))
      (put_splitting t on_path (ids_needed table on_path) key value w)
  unfolding put_in get_answer
  put-by f e =
      ap (λ (z : Table). put_in z t key value w) (table_is a) ∙
      ap₂
      (λ (ids : List ℕ) (i : ℕ).
      by_fit (fit_of key (pairs_of (table i)))
      (answering (value_or Replaced (lookup key (pairs_of (table i)))) (read_and_edit t ids i (table i) key value w))
      (put_splitting t ids (ids_needed table ids) key value w))
      path-is leaf-is ∙
      ap
      (λ (z : Result (Unit {0}) ℕ).
      by_fit z (answering (value_or Replaced (lookup key (pairs_of (table leaf)))) (read_and_edit t on_path leaf (table leaf) key value w))
      (put_splitting t on_path (ids_needed table on_path) key value w))
      e

  found : LeafOf spells.depth table spells.tree key 0 bound32 leaf
  found = leaf-found table count pairs spells key small

  -- A put that is carried out, said as a list of requests that the code served.
  agreed : (answer' : Answer) → put t key value w ≡ doing (served_all t rs w) (charged_all t rs w) answer' →
      short answer' ≡ answer limit n (Put key value) (book_of s) → Suits B rs s (count_after_all rs count) → PutAgrees B n key value s w rs
  agreed answer' e f suits =
      let together = served_together t rs s w (count_after_all rs count) a suits in
      record {
        runs = subst (λ (z : World). Runs B z (serve_all t rs s)) (sym (ap (λ (d : Doing). d.now) e)) together.runs;
        charge = ap (λ (d : Doing). d.charge) e ∙ together.charge;
        answer = ap (λ (d : Doing). short d.answer) e ∙ f;
      }

  suits_accepted : put_refused limit count table key ≡ false → Suits B rs s (count_after_all rs count)
  suits_accepted e =
      record {
        fits = (put-served table count pairs spells key value small limit within e).fits;
        narrow = put_narrow table count pairs spells (omega (arith, few)) (λ i l. book_narrow s a.fits.now i) key small limit value narrow;
        number = number;
      }

  answer-accepted : put_refused limit count table key ≡ false → short (value_or Replaced (get_answer count table key)) ≡ answer limit n (Put key value) (book_of s)
  unfolding answer
  answer-accepted e = rw e refl

  requests_are : put_refused limit count table key ≡ false → rs ≡ map read on_path ++ work_list
  requests_are e = put-accepted table count pairs spells key value small limit within e

  -- ONE EDIT
  module _ (room : fit_of key (pairs_of (table leaf)) ≡ Ok tt) where
    single : (work_list ≡ edit leaf (Change.put key value) ∷ []) × (count_put table count pairs spells key value small ≡ count)
    single =
        finish_single table key (Change.put key value) count count
        (omega (
          arith,
          ap length (pairs-put key value (table leaf)),
          room-size key value (pairs_of (table leaf)) (omega (arith, ap (λ (n : Node). length (pairs_of n)) found.content, found.size)) room,
        ))

    accepted : put_refused limit count table key ≡ false
    accepted = go (put_refused limit count table key) refl
      where
        go : (b : Bool) → put_refused limit count table key ≡ b → b ≡ false
        go true e = absurd (omega (arith, refused_past table count pairs spells key value small limit within e, single.1, within))
        go false e = refl

    edit-is : read_and_edit t on_path leaf (table leaf) key value w ≡ record { now = served_all t rs w; charge = charged_all t rs w }
    unfolding read_and_edit
    edit-is =
        let reads = map read on_path in
        let one = edit leaf (Change.put key value) ∷ [] in
        let list : rs ≡ reads ++ one = requests_are accepted ∙ ap (λ (z : List NodeRequest). reads ++ z) single.0 in
        let m = moment t s w rs (count_after_all rs count) a (suits_accepted accepted) reads one (sym list) in
        let held : table leaf ≡ table_in (served_all t reads w) leaf = ap (λ (z : Table). z leaf) (sym (m.table ∙ apply_all-reads on_path table)) in
        let now : serve_holding t leaf (table leaf) (Store.edit (Change.put key value)) (read_all t on_path w) ≡ served_all t rs w =
        ap (serve_holding t leaf (table leaf) (Store.edit (Change.put key value))) (reads-served t on_path w) ∙
        serve-here t leaf (table leaf) (Store.edit (Change.put key value)) (served_all t reads w) held ∙
        sym (served_all-append t reads one w) ∙
        ap (λ (z : List NodeRequest). served_all t z w) (sym list) in
        let paid : read_charges t on_path w + charge t leaf (Store.edit (Change.put key value)) (read_all t on_path w) ≡ charged_all t rs w =
        omega (
          arith,
          reads-charged t on_path w,
          ap (charge t leaf (Store.edit (Change.put key value))) (reads-served t on_path w),
          charged_all-append t reads one w,
          ap (λ (z : List NodeRequest). charged_all t z w) list,
        ) in
        λ i. record { now = now i; charge = paid i }

    put-edits : PutAgrees B n key value s w rs
    put-edits =
        agreed (value_or Replaced (get_answer count table key))
        (put-by (Ok tt) room ∙ ap (answering (value_or Replaced (get_answer count table key))) edit-is)
        (answer-accepted accepted) (suits_accepted accepted)

  -- A NEW KEY FOR A FULL LEAF
  module _ (at : ℕ) (full : fit_of key (pairs_of (table leaf)) ≡ Err at) where
    new_key : get_answer count table key ≡ None
    unfolding get_answer
    new_key =
        lookup_absent key found.bottom found.top (pairs_of (table leaf)) (rw found.content found.within)
        (above-absent key (pairs_of (table leaf)) at (full-above key (pairs_of (table leaf)) at full).0)

    asked : (b : Bool) → ltb limit (count + ids_needed table on_path) ≡ b → put_refused limit count table key ≡ b
    unfolding put_refused
    asked b e = rw new_key e

    new_by : (b : Bool) → ltb limit (count + ids_needed table on_path) ≡ b →
        put t key value w ≡ choose b (refused w) (answering Absent (read_and_split t on_path key value w))
    unfolding put_splitting
    new_by b e =
        put-by (Err at) full ∙
        ap (λ (z : Bool). choose z (refused w) (answering Absent (read_and_split t on_path key value w)))
        (ap₂ (λ (m n : ℕ). ltb (node_limit m) (n + ids_needed table on_path)) (blocks_are a) (nodes_are a) ∙ e)

    -- refused
    put-refuses : ltb limit (count + ids_needed table on_path) ≡ true → PutAgrees B n key value s w rs
    unfolding answer
    put-refuses e =
        let none-asked : rs ≡ [] = put_refused_lem table count pairs spells key value small limit within (asked true e) in
        agreed (Refused 9)
        (new_by true e ∙ ap (λ (z : List NodeRequest). doing (served_all t z w) (charged_all t z w) (Refused 9)) (sym none-asked))
        (rw (asked true e) refl)
        (subst (λ (z : List NodeRequest). Suits B z s (count_after_all z count)) (sym none-asked)
        (record { fits = refl; narrow = none; number = omega (arith, number) }))

    -- carried out
    module _ (e : ltb limit (count + ids_needed table on_path) ≡ false) where
      accepted_new : put_refused limit count table key ≡ false
      accepted_new = asked false e

      abbrev reads : List NodeRequest
      reads = map read on_path

      suits_all : Suits B (reads ++ work_list) s (count_after_all (reads ++ work_list) count)
      suits_all = subst (λ (z : List NodeRequest). Suits B z s (count_after_all z count)) (requests_are accepted_new) (suits_accepted accepted_new)

      read_here : read_all t on_path w ≡ served_all t reads w
      read_here = reads-served t on_path w

      -- the requests behind the reads, on the world that the reads leave
      later : (xs more : List NodeRequest) → xs ++ more ≡ work_list → Moment B t table count (served_all t reads w) xs
      later xs more f =
          let m =
          moment t s w (reads ++ work_list) (count_after_all (reads ++ work_list) count) a suits_all (reads ++ xs) more
          (append_assoc reads xs more ∙ ap (λ (z : List NodeRequest). reads ++ z) f) in
          let same = served_all-append t reads xs w in
          record {
            table =
                ap table_in (sym same) ∙
                m.table ∙
                apply_all-append reads xs table ∙
                ap (apply_all xs) (apply_all-reads on_path table);
            nodes =
                ap (λ (z : World). z.state.nodes) (sym same) ∙
                m.nodes ∙
                count_after_all-append reads xs count ∙
                ap (count_after_all xs) (count-reads on_path count);
            blocks = ap (λ (z : World). z.state.blocks) (sym same) ∙ m.blocks;
          }

      course : Course B t table count (served_all t reads w) work_list
      course =
          record {
            final = count_after_all (reads ++ work_list) count;
            fits =
                subst (λ (z : Table). Fits limit work_list z count (count_after_all (reads ++ work_list) count)) (apply_all-reads on_path table)
                (subst (λ (z : ℕ). Fits limit work_list (apply_all reads table) z (count_after_all (reads ++ work_list) count)) (count-reads on_path count)
                (fits-behind limit reads work_list table count (count_after_all (reads ++ work_list) count) suits_all.fits));
            moments = later;
            neat = λ i l. node_neat table count pairs spells i l;
          }

      split_upwards-done : split_upwards t key value on_path (served_all t reads w) ≡
          absorbing (served_all t work_list (served_all t reads w)) (charged_all t work_list (served_all t reads w)) None
      split_upwards-done =
          let head = path-head count table key 0 in
          ap (λ (ids : List ℕ). split_upwards t key value ids (served_all t reads w)) head.1 ∙
          split_upwards-is course key value head.0 (rw head.1 at (path_walked table count pairs spells key small))
          (rw head.1 at (path-found table count pairs spells key small).0)
          (ap (λ (ids : List ℕ). finish table (work table key (Change.put key value) count ids)) (sym head.1))

      split-is : read_and_split t on_path key value w ≡ record { now = served_all t rs w; charge = charged_all t rs w }
      unfolding read_and_split
      split-is =
          let list = requests_are accepted_new in
          let whole : split_upwards t key value on_path (read_all t on_path w) ≡
          absorbing (served_all t work_list (served_all t reads w)) (charged_all t work_list (served_all t reads w)) None =
          ap (split_upwards t key value on_path) read_here ∙ split_upwards-done in
          let now : (split_upwards t key value on_path (read_all t on_path w)).now ≡ served_all t rs w =
          ap (λ (c : Absorbing). c.now) whole ∙ sym (served_all-append t reads work_list w) ∙ ap (λ (z : List NodeRequest). served_all t z w) (sym list) in
          let paid : read_charges t on_path w + (split_upwards t key value on_path (read_all t on_path w)).charge ≡ charged_all t rs w =
          omega (
            arith,
            reads-charged t on_path w,
            ap (λ (c : Absorbing). c.charge) whole,
            charged_all-append t reads work_list w,
            ap (λ (z : List NodeRequest). charged_all t z w) list,
          ) in
          λ i. record { now = now i; charge = paid i }

      put_splits : PutAgrees B n key value s w rs
      put_splits =
          agreed Absent (new_by false e ∙ ap (answering Absent) split-is)
          (ap (λ (o : Option ℕ). short (value_or Replaced o)) (sym new_key) ∙ answer-accepted accepted_new) (suits_accepted accepted_new)

  -- EVERY PUT
  pub put_agrees : PutAgrees B n key value s w rs
  put_agrees = go (fit_of key (pairs_of (table leaf))) refl
    where
      new : (at : ℕ) → fit_of key (pairs_of (table leaf)) ≡ Err at → (b : Bool) → ltb limit (count + ids_needed table on_path) ≡ b → PutAgrees B n key value s w rs
      new at f true e = put-refuses at f e
      new at f false e = put_splits at f e

      go : (f : Result (Unit {0}) ℕ) → fit_of key (pairs_of (table leaf)) ≡ f → PutAgrees B n key value s w rs
      go (Ok tt) f = put-edits f
      go (Err at) f = new at f (ltb limit (count + ids_needed table on_path)) refl
