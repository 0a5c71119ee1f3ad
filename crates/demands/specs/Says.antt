-- A state of a run says a book of the reference model: the store holds the book's nodes in the book's modes, and the scores are the
-- book's. Then the book read out of the state IS the book. Assumes nothing.
use Rattle.std.specs.Prelude.{◌≡◌, refl, Bool, true, false, ℕ, ◌≤◌, ◌<◌, ltb}
use Rattle.std.proofs.Common.{sym, ap, subst, arith, lt-ltb, le-ltb, ltb-true, ltb-false}
use Rattle.std.proofs.Math.Path.{fun_ext}
use Rattle.laws.specs.Tests.{choose}
use Rattle.account.specs.declared.Mode.{Mode}
use Rattle.account.specs.declared.Account.{Account}
use Rattle.account.specs.Serve.{fresh}
use Rattle.store.specs.Store.{no_node, node_of, mode_of}
use Rattle.store_laws.specs.Keeps.{Keeps}
use Rattle.store_laws.proofs.Keeps.{holds_node, holds_mode}
use Rattle.book.specs.Book.{Book}
use Rattle.model.specs.State.{State, book_of}

abbrev pub modes : Book → ℕ → Mode
modes b n = (b.account n).mode

-- At ids that no node has, a book has no node and a new node's account.
pub record Trimmed (b : Book) : Type 0 where
  pub table : (n : ℕ) → b.count ≤ n → b.table n ≡ no_node
  pub account : (n : ℕ) → b.count ≤ n → b.account n ≡ fresh

pub book_of_trimmed : (s : State) → Trimmed (book_of s)
unfolding book_of
book_of_trimmed s =
    record { table = λ n l. rw (le-ltb n s.run.nodes l); account = λ n l. rw (le-ltb n s.run.nodes l) }

-- The store holds what the state says.
abbrev pub Sound : ℕ → State → Type 0
Sound blocks s = Keeps blocks (book_of s).count (book_of s).table (modes (book_of s)) s.run

pub record Says (blocks : ℕ) (s : State) (b : Book) : Type 0 where
  pub sound : Sound blocks s
  pub is : book_of s ≡ b

module _ (s : State) (n : ℕ) (there : n < s.run.nodes) where
  pub book_of-table : (book_of s).table n ≡ node_of s.run.now n
  unfolding book_of
  book_of-table = rw (lt-ltb n s.run.nodes there)

  pub book_of-account : (book_of s).account n ≡ record { mode = mode_of s.run.now n; score = s.score n }
  unfolding book_of
  book_of-account = rw (lt-ltb n s.run.nodes there)

pub book_of-count : (s : State) → (book_of s).count ≡ s.run.nodes
unfolding book_of
book_of-count s = refl

pub score-is : (s : State) (n : ℕ) → n < (book_of s).count → s.score n ≡ ((book_of s).account n).score
score-is s n l = sym (ap (λ (a : Account). a.score) (book_of-account s n (rw (book_of-count s) at l)))

pub says : {blocks : ℕ} (b : Book) (s : State) → Keeps blocks b.count b.table (modes b) s.run → Trimmed b →
    ((n : ℕ) → n < b.count → s.score n ≡ (b.account n).score) → Says blocks s b
unfolding book_of
says {blocks} b s v c q = record { sound = subst (λ (z : Book). Keeps blocks z.count z.table (modes z) s.run) (sym e) v; is = e }
  where
    content : (n : ℕ) (t : Bool) → ltb n s.run.nodes ≡ t → choose t (node_of s.run.now n) no_node ≡ b.table n
    content n true h = holds_node (v.holds n (omega (arith, v.nodes, ltb-true n s.run.nodes h)))
    content n false h = sym (c.table n (omega (arith, v.nodes, ltb-false n s.run.nodes h)))

    account : (n : ℕ) (t : Bool) → ltb n s.run.nodes ≡ t →
        choose t (record { mode = mode_of s.run.now n; score = s.score n }) fresh ≡ b.account n
    account n true h =
        let l : n < b.count = omega (arith, v.nodes, ltb-true n s.run.nodes h) in
        let m : mode_of s.run.now n ≡ modes b n = holds_mode (modes b n) (v.holds n l) in
        let r : s.score n ≡ (b.account n).score = q n l in
        λ i. record { mode = m i; score = r i }
    account n false h = sym (c.account n (omega (arith, v.nodes, ltb-false n s.run.nodes h)))

    e : book_of s ≡ b
    e =
        let x = v.nodes in
        let y = fun_ext (λ (n : ℕ). content n (ltb n s.run.nodes) refl) in
        let z = fun_ext (λ (n : ℕ). account n (ltb n s.run.nodes) refl) in
        λ i. record { count = x i; table = y i; account = z i }
