-- The tags in use (document 02, P4): those that commands and the fields of pages have in their bytes, of one command and one page of each kind.
-- Assumes nothing.
use Rattle.std.specs.Prelude.{◌≡◌, refl, List, [], ◌∷◌, ◌++◌, map, ℕ, zero, suc, ◌+◌, eqb, ltb, length, get_or, drop}
use Rattle.laws.specs.BigEndian.{number_at}
use Rattle.laws.specs.Counts.{count, filter}
use Rattle.laws.specs.Lay.{part}
use Rattle.laws.specs.Tests.{choose}
use Rattle.laws.specs.Update.{list_below}
use Rattle.wire.specs.Field.{field}
use Rattle.wire.specs.Tag.{Row, rows}
use Rattle.command.specs.declared.Command.{Command}
use Rattle.command.specs.declared.Command.TheVariants.{Get, Put, Delete, Scan, Panel, Ceiling}
use Rattle.command.specs.Command.{command_bytes}
use Rattle.command.specs.Spelled.{batch_bytes}
use Rattle.page.specs.Page.{Content, log, whole, checkpoint, Page, content_of}
use Rattle.page.specs.Image.{entry_bytes, pairs_bytes, whole_bytes, tariff_bytes, score_bytes, fields, content_bytes, numbered, sums_field, sealed, image}
use Rattle.page.specs.Worked.{prepared_node, prepared_checkpoint, leaf_page}

-- The tags of fields one behind the other, each "one-byte tag, two-byte length, payload"; on a page "FF to the end" follows them.
abbrev tags_from : ℕ → List ℕ → List ℕ
tags_from zero s = []
tags_from (suc most) [] = []
tags_from (suc most) (tag ∷ s) = choose (eqb tag 0xFF) [] (tag ∷ tags_from most (drop (2 + number_at 2 s 0) s))

abbrev pub tags_in : List ℕ → List ℕ
tags_in s = tags_from (length s) s

-- ONE OF EACH KIND: a batch of every command, and a page of every content, with all the fields that it may have.
abbrev pub command_kinds : List Command
command_kinds = Get 0 ∷ Put 0 0 ∷ Delete 0 ∷ Scan 0 0 1 ∷ Panel 0 ∷ Ceiling 0 ∷ []

abbrev pub page_kinds : List Page
page_kinds = prepared_node ∷ leaf_page ∷ prepared_checkpoint ∷ []

-- No kind is missing, and none is there twice: the tag of any command, its first byte, is that of one of these,
abbrev pub tag_of : Command → ℕ
tag_of c = get_or (command_bytes c) 0 0

pub every_command : (c : Command) → count (λ (k : Command). eqb (tag_of k) (tag_of c)) command_kinds ≡ 1
unfolding command_bytes field
every_command (Get k) = refl
every_command (Put k v) = refl
every_command (Delete k) = refl
every_command (Scan low high most) = refl
every_command (Panel panel) = refl
every_command (Ceiling k) = refl

-- and the content of any page is of the kind of one of these.
abbrev pub kind_of : Content → ℕ
kind_of (log es) = 0
kind_of (whole id n) = 1
kind_of (checkpoint t ss c) = 2

pub every_page_lem : (c : Content) → count (λ (p : Page). eqb (kind_of (content_of p)) (kind_of c)) page_kinds ≡ 1
every_page_lem (log es) = refl
every_page_lem (whole id n) = refl
every_page_lem (checkpoint t ss c) = refl

-- THE TAGS IN USE, of the 256 that a byte may be: "each command and page field in use".
abbrev page_tags : List Page → List ℕ
page_tags [] = []
page_tags (p ∷ ps) = tags_in (image p) ++ page_tags ps

abbrev pub tags_in_use : List ℕ
tags_in_use = filter (λ tag. ltb 0 (count (eqb tag) (tags_in (batch_bytes command_kinds) ++ page_tags page_kinds))) (list_below 256 (λ tag. tag))

-- THE TABLE has a row for each, "none besides".
pub rows_in_use : map (λ (r : Row). r.tag) rows ≡ tags_in_use
unfolding rows command_bytes field number_at part entry_bytes pairs_bytes whole_bytes tariff_bytes score_bytes fields content_bytes numbered sums_field sealed image
rows_in_use = refl
