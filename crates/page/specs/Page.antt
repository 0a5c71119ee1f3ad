-- A written page of the pool: its sequence number and one kind of content (document 01, "Pages"). Assumes nothing.
use Rattle.std.specs.Prelude.{List, ℕ, Option}
use Rattle.account.specs.declared.Tariff.{Tariff}
use Rattle.node.specs.Node.{Node}
use Rattle.node.specs.Change.{Change}

-- Field 12: one change of a node. Its version is the sequence number that the node's fresh start in log mode took.
pub record Entry : Type 0 where
  pub id : ℕ
  pub version : ℕ
  pub change : Change

-- Field 14: the score of a node.
pub record Score : Type 0 where
  pub id : ℕ
  pub score : ℕ

-- Log page: fields 12. Node page (document 01: disk page): field 11, the whole node. Checkpoint page (document 01: closing
-- page): field 13, the tariff, where it is the first; fields 14; field 15, the node count, where it is the last.
pub data Content : Type 0 where
  log : List Entry → Content
  whole : ℕ → Node → Content
  checkpoint : Option Tariff → List Score → Option ℕ → Content

-- Field 10, the sequence number (document 01: stamp), and the content.
pub data Page : Type 0 where
  page : ℕ → Content → Page

abbrev pub sequence : Page → ℕ
sequence (page s c) = s

abbrev pub content_of : Page → Content
content_of (page s c) = c
