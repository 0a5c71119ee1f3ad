-- The next route up (document 02, P3), worked: batches on the pool that a prepare leaves, each with its number, its answers and the charges; and which
-- nodes are read where a leaf is empty. By computation. Assumes nothing.
use Rattle.std.specs.Prelude.{◌≡◌, refl, [], ◌∷◌, ◌++◌, map, ℕ, zero, suc, replicate}
use Rattle.layout.specs.Layout.{no_leaf}
use Rattle.account.specs.Serve.{fresh}
use Rattle.node.specs.declared.Shape.TheVariants.{Leaf, Branch}
use Rattle.node.specs.Node.{Node, node}
use Rattle.command.specs.declared.Command.TheVariants.{Ceiling}
use Rattle.command.specs.declared.Answer.TheVariants.{Absent}
use Rattle.tree.specs.NodeRequest.{read}
use Rattle.book.specs.Book.{Book}
use Rattle.book.specs.Command.{short, nearest, requests, answer}
use Rattle.book.specs.Session.{Session}
use Rattle.model.specs.Computes.{computes}
use Rattle.cases.specs.Pools.{pairs}
use Rattle.cases.specs.Batches.{greatest, put, ceiling_at, ceiling, absent, found_at, found, result, result_of, none, first}

-- Keys 7 and 9: below the first, at it, between, and above both.
pub nearest_above : result_of 58 (put 7 100 ++ put 9 200 ++ ceiling 0 ++ ceiling 7 ++ ceiling 8 ++ ceiling 10) ≡
    result 0 (absent ++ absent ++ found 7 100 ++ found 7 100 ++ found 9 200 ++ absent) (first 19)
unfolding computes
nearest_above = refl

-- FFFFFFFF can be asked for, and be found.
pub last-key : result_of 40 ((0x02 ∷ 0 ∷ 8 ∷ greatest ++ (0 ∷ 0 ∷ 0 ∷ 1 ∷ [])) ++ ceiling_at greatest ++ ceiling 8 ++ ceiling 0) ≡
    result 0 (absent ++ found_at greatest 1 ++ found_at greatest 1 ++ found_at greatest 1) (first 14)
unfolding computes
last-key = refl

-- "It needs 11 answer bytes", whatever is answered.
pub eleven_bytes : map (λ room. result_of room (ceiling 0)) (10 ∷ 11 ∷ []) ≡ result 4 [] none ∷ result 0 absent (first 3) ∷ []
unfolding computes
eleven_bytes = refl

-- Another length, both ways, and the tags beside it.
pub no_such_command : map (result_of 11)
    ((0x07 ∷ 0 ∷ 5 ∷ replicate 5 0) ∷ (0x07 ∷ 0 ∷ 3 ∷ replicate 3 0) ∷ (0x06 ∷ 0 ∷ 4 ∷ replicate 4 0) ∷ (0x08 ∷ 0 ∷ 0 ∷ []) ∷ []) ≡
    replicate 4 (result 3 [] none)
unfolding computes
no_such_command = refl

-- Keys 0 to 11 in node 1, none in node 2, 24 to 36 in node 3; and the same tree without any key in its leaves.
abbrev leaves : ℕ → Node
leaves zero = node Branch ((12, 1) ∷ (24, 2) ∷ []) 3
leaves (suc zero) = node Leaf (pairs 12 0) 2
leaves (suc (suc zero)) = node Leaf [] 3
leaves (suc (suc (suc i))) = node Leaf (pairs 13 24) no_leaf

abbrev emptied : ℕ → Node
emptied zero = leaves zero
emptied (suc zero) = node Leaf [] 2
emptied (suc (suc zero)) = node Leaf [] 3
emptied (suc (suc (suc i))) = node Leaf [] no_leaf

abbrev with : (ℕ → Node) → Book
with table = record { count = 4; table = table; account = λ i. fresh }

-- Root to leaf; then leaf after leaf by links while no key at or above was met, an empty leaf too; after the last leaf none.
pub nodes-read : (n : Session) → map (λ k. requests 20 n (Ceiling k) (with leaves)) (11 ∷ 12 ∷ 37 ∷ []) ≡
    (read 0 ∷ read 1 ∷ []) ∷ (read 0 ∷ read 2 ∷ read 3 ∷ []) ∷ (read 0 ∷ read 3 ∷ []) ∷ []
unfolding computes
nodes-read n = refl

pub answers_there : (n : Session) →
    map (λ k. answer 20 n (Ceiling k) (with leaves)) (11 ∷ 12 ∷ 37 ∷ []) ≡ nearest (11, 111) ∷ nearest (24, 124) ∷ short Absent ∷ []
unfolding computes
answers_there n = refl

pub all_read : (n : Session) → requests 20 n (Ceiling 0) (with emptied) ≡ read 0 ∷ read 1 ∷ read 2 ∷ read 3 ∷ []
unfolding computes
all_read n = refl
