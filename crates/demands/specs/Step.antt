-- One node request: what the state of the run says afterwards is what the reference model says. Assumes nothing.
use Rattle.std.specs.Prelude.{◌≡◌, refl, ◌⊎◌, Option, None}
use Rattle.std.proofs.Common.{sym, ap, ◌∙◌, subst, inl, inr, arith}
use Rattle.std.proofs.Math.Path.{fun_ext}
use Prim.Native.Nat.{ℕ, ◌≤◌, ◌<◌}
use Rattle.laws.specs.Order.{eq_or}
use Rattle.laws.specs.Update.{update, update_same, update_other, update_self}
use Rattle.layout.specs.Layout.{node_limit}
use Rattle.account.specs.declared.Mode.{Mode}
use Rattle.account.specs.declared.Request.{Request}
use Rattle.account.specs.declared.Tariff.{Tariff}
use Rattle.account.specs.declared.Account.{Account}
use Rattle.account.specs.Serve.{fresh}
use Rattle.tree.specs.Table.{Table}
use Rattle.tree.specs.NodeRequest.{NodeRequest, read, edit, rewrite, create, apply, count_after, id_of}
use Rattle.tree.specs.Fit.{Fit}
use Rattle.store.specs.Store.{no_node}
use Rattle.store.specs.Run.{Run}
use Rattle.store.specs.Serve as Store
use Rattle.store_laws.specs.Keeps.{Keeps}
use Rattle.store_laws.proofs.Keeps.{serve_keeps, create_keeps}
use Rattle.book.specs.Book.{Book, request_of, account_by}
use Rattle.book.specs.Book as Book
use Rattle.tree_laws.specs.Requests.{apply-other, count_after_le}
use Rattle.model.specs.State.{State, book_of, write, serve}
use Rattle.demands.specs.Says.{book_of_trimmed, Sound, Says, score-is, says}

update_mode : (f : ℕ → Account) (n : ℕ) (a : Account) → update (λ k. (f k).mode) n a.mode ≡ (λ k. (update f n a k).mode)
update_mode f n a = fun_ext (λ k. go k (eq_or k n))
  where
    go : (k : ℕ) → (k ≡ n) ⊎ (k ≡ n → ⊥) → update (λ k. (f k).mode) n a.mode k ≡ (update f n a k).mode
    go k (inl q) = update_same (λ k. (f k).mode) n a.mode k q ∙ ap (λ (z : Account). z.mode) (sym (update_same f n a k q))
    go k (inr q) = update_other (λ k. (f k).mode) n a.mode k q ∙ ap (λ (z : Account). z.mode) (sym (update_other f n a k q))

module _ {blocks : ℕ} {table : Table} {count : ℕ} {m : ℕ → Mode} {run : Run} (v : Keeps blocks count table m run) where
  -- What a request writes leaves the store with the request's table, count and mode.
  write_keeps : (r : NodeRequest) (mode : Mode) → (request_of r ≡ None → mode ≡ fresh.mode) → Fit (node_limit blocks) r table count →
      Keeps blocks (count_after r count) (apply r table) (update m (id_of r) mode) (write mode r run)
  write_keeps (read n) mode h f =
      subst (λ (z : Table). Keeps blocks count z (update m n mode) (Store.serve mode n Store.read run)) (update_self table n (table n) refl)
      (serve_keeps v n f mode Store.read tt)
  write_keeps (edit n c) mode h f = serve_keeps v n f.0 mode (Store.edit c) (f.2, f.1)
  write_keeps (rewrite n x) mode h f = serve_keeps v n f.0 mode (Store.rewrite x) f.1
  write_keeps (create n x) mode h f =
      rw (h refl, f.0) (create_keeps v (omega (arith, f)) x f.2)

module _ {blocks : ℕ} (t : Tariff) (s : State) (v : Sound blocks s) (r : NodeRequest) where
  abbrev b : Book
  b = book_of s

  abbrev served : Account
  served = account_by t (request_of r) (b.account (id_of r))

  created_log : request_of r ≡ None → served.mode ≡ fresh.mode
  created_log e = ap (λ (q : Option Request). (account_by t q (b.account (id_of r))).mode) e

  in_count : (r : NodeRequest) (limit : ℕ) (table : Table) (count : ℕ) → Fit limit r table count → id_of r < count_after r count
  in_count (read n) limit table count f = f
  in_count (edit n c) limit table count f = f.0
  in_count (rewrite n x) limit table count f = f.0
  in_count (create n x) limit table count f = omega (arith, f.0)

  -- within the new count a node other than the request's was there before
  there_before : (r : NodeRequest) (limit : ℕ) (table : Table) (count : ℕ) → Fit limit r table count → (k : ℕ) → k < count_after r count →
      (k ≡ id_of r → ⊥) → k < count
  there_before (read n) limit table count f k l e = l
  there_before (edit n c) limit table count f k l e = l
  there_before (rewrite n x) limit table count f k l e = l
  there_before (create n x) limit table count f k l e = go (eq_or k count)
    where
      go : (k ≡ count) ⊎ (k ≡ count → ⊥) → k < count
      go (inl q) = absurd (e (q ∙ sym f.0))
      go (inr q) = omega arith

  -- ONE REQUEST: the state says the reference model's book.
  pub serve-says : Fit (node_limit blocks) r b.table b.count → Says blocks (serve t r s) (Book.serve t r b)
  unfolding serve Book.serve
  serve-says f =
      says (Book.serve t r b) (serve t r s)
      (subst (λ (z : ℕ → Mode). Keeps blocks (count_after r b.count) (apply r b.table) z (write served.mode r s.run))
      (update_mode b.account (id_of r) served) (write_keeps v r served.mode created_log f))
      (record { table = λ n l. clear_table n l; account = λ n l. clear_account n l })
      (λ n l. scores n l (eq_or n (id_of r)))
    where
      id : ℕ
      id = id_of r

      below : id < count_after r b.count
      below = in_count r (node_limit blocks) b.table b.count f

      clear_table : (n : ℕ) → count_after r b.count ≤ n → apply r b.table n ≡ no_node
      clear_table n l =
          apply-other r b.table n (λ e. omega (arith, below)) ∙ (book_of_trimmed s).table n (omega (arith, count_after_le r b.count))

      clear_account : (n : ℕ) → count_after r b.count ≤ n → update b.account id served n ≡ fresh
      clear_account n l =
          update_other b.account id served n (λ e. omega (arith, below)) ∙
          (book_of_trimmed s).account n (omega (arith, count_after_le r b.count))

      scores : (n : ℕ) → n < count_after r b.count → (n ≡ id) ⊎ (n ≡ id → ⊥) →
          update s.score id served.score n ≡ (update b.account id served n).score
      scores n l (inl q) =
          update_same s.score id served.score n q ∙
          ap (λ (z : Account). z.score) (sym (update_same b.account id served n q))
      scores n l (inr q) =
          update_other s.score id served.score n q ∙
          score-is s n (there_before r (node_limit blocks) b.table b.count f n l q) ∙
          ap (λ (z : Account). z.score) (sym (update_other b.account id served n q))
