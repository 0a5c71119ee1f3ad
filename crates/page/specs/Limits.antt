-- The pages that document 01 allows: what every number of a page has to keep to, and how many fields it has. Assumes nothing.
use Rattle.std.specs.Prelude.{Bool, true, false, List, ◌≡◌, ℕ, ◌≤◌, ◌<◌, length, Option, None, Some}
use Rattle.laws.specs.Every.{Every}
use Rattle.layout.specs.Layout.{most_entries, most_keys, bound32}
use Rattle.pairs.specs.Pairs.{Pair}
use Rattle.account.specs.declared.Costs.{Costs}
use Rattle.account.specs.declared.Tariff.{Tariff}
use Rattle.node.specs.Node.{node}
use Rattle.node.specs.Narrow.{NarrowChange, NarrowPair}
use Rattle.page.specs.Page.{Entry, Score, Content, log, whole, checkpoint, Page, page}
use Rattle.page.specs.Decode.{most_scores}

-- Node ids and the node count have 16 bits.
abbrev pub bound16 : ℕ
bound16 = 65536

-- An entry of a log page with a sequence number.
pub record EntryFits (s : ℕ) (e : Entry) : Type 0 where
  pub id : e.id < bound16
  pub from : 1 ≤ e.version
  pub below : e.version < s
  pub change : NarrowChange e.change

pub record NodeFits (pairs : List Pair) (l : ℕ) : Type 0 where
  pub few : length pairs ≤ most_keys
  pub numbers : Every NarrowPair pairs
  pub link : l < bound32

pub record CostsFit (c : Costs) : Type 0 where
  pub read : c.read < bound32
  pub edit : c.edit < bound32
  pub rewrite : c.rewrite < bound32
  pub enter : c.enter < bound32

pub record TariffFits (t : Tariff) : Type 0 where
  pub log : CostsFit t.log
  pub disk : CostsFit t.disk

pub record ScoreFits (s : Score) : Type 0 where
  pub id : s.id < bound16
  pub score : s.score < bound32

-- Whether there is one.
abbrev pub given : {A : Type 0} → Option A → Bool
given None = false
given (Some a) = true

abbrev pub TariffIfFits : Option Tariff → Type 0
TariffIfFits None = Unit {0}
TariffIfFits (Some t) = TariffFits t

-- A last page has a count; any other is full.
abbrev pub Filled : ℕ → ℕ → Option ℕ → Type 0
Filled most n None = n ≡ most
Filled most n (Some c) = c < bound16

pub record LogFits (s : ℕ) (es : List Entry) : Type 0 where
  pub some : 1 ≤ length es
  pub few : length es ≤ most_entries
  pub entries : Every (EntryFits s) es

pub record WholeFits (number : ℕ) (pairs : List Pair) (l : ℕ) : Type 0 where
  pub id : number < bound16
  pub node : NodeFits pairs l

pub record CheckpointFits (t : Option Tariff) (ss : List Score) (c : Option ℕ) : Type 0 where
  pub tariff : TariffIfFits t
  pub some : 1 ≤ length ss
  pub few : length ss ≤ most_scores (given t)
  pub scores : Every ScoreFits ss
  pub filled : Filled (most_scores (given t)) (length ss) c

abbrev pub ContentFits : ℕ → Content → Type 0
ContentFits s (log es) = LogFits s es
ContentFits s (whole id (node shape pairs l)) = WholeFits id pairs l
ContentFits s (checkpoint t ss c) = CheckpointFits t ss c

-- A page within its limits: a sequence number from 1, of 32 bits, and a content that a page of that number may have.
pub record Fits (s : ℕ) (c : Content) : Type 0 where
  pub from : 1 ≤ s
  pub below : s < bound32
  pub content : ContentFits s c

abbrev pub PageFits : Page → Type 0
PageFits (page s c) = Fits s c
