-- A store seen without its places: the items at each sequence number, those in the buffer, and the last number taken. What
-- document 01 says of a node's content is said of this alone, so nothing can depend on where a page lies. Assumes nothing.
use Rattle.std.specs.Prelude.{not, List, [], ◌++◌, ℕ, zero, suc, ◌+◌, max}
use Rattle.laws.specs.Counts.{bit, empty}
use Rattle.node.specs.Replay.{Piece}
use Rattle.store.specs.Item.{Item, pieces_in, greatest_in}

pub record View : Type 0 where
  pub at : ℕ → List Item
  pub buffer : List Item
  pub last : ℕ

-- Over the sequence numbers 1 to k: lists in a row, a sum, the greatest.
abbrev pub gather : (ℕ → List Piece) → ℕ → List Piece
gather f zero = []
gather f (suc k) = gather f k ++ f (suc k)

abbrev pub sum_to : (ℕ → ℕ) → ℕ → ℕ
sum_to f zero = 0
sum_to f (suc k) = sum_to f k + f (suc k)

abbrev pub greatest_to : (ℕ → ℕ) → ℕ → ℕ
greatest_to f zero = 0
greatest_to f (suc k) = max (greatest_to f k) (f (suc k))

-- 1 where there is a piece.
abbrev pub some? : List Piece → ℕ
some? xs = bit (not (empty xs))

-- The greatest version of a node, buffer included; 0 where it has none.
unfoldable pub greatest : View → ℕ → ℕ
greatest w n = max (greatest_to (λ s. greatest_in n (w.at s)) w.last) (greatest_in n w.buffer)

-- The pieces of a version of a node: "entries taken by page stamp, then by position, those in the buffer last".
abbrev pub pieces_at : View → ℕ → ℕ → List Piece
pieces_at w n v = gather (λ s. pieces_in n v (w.at s)) w.last ++ pieces_in n v w.buffer

-- "A node's content is that of its greatest version."
unfoldable pub pieces : View → ℕ → List Piece
pieces w n = pieces_at w n (greatest w n)

-- The part of them that stands in the buffer.
unfoldable pub buffered : View → ℕ → List Piece
buffered w n = pieces_in n (greatest w n) w.buffer

-- On how many pages a version of a node lies.
abbrev pub pages_at : View → ℕ → ℕ → ℕ
pages_at w n v = sum_to (λ s. some? (pieces_in n v (w.at s))) w.last

-- "A log node lies on the log pages, told apart by stamp, that have an entry of its greatest version, not on the buffer."
unfoldable pub pages : View → ℕ → ℕ
pages w n = pages_at w n (greatest w n)
