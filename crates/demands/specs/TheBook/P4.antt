-- DOCUMENT 02, P4. "It keeps one entry for each command and page field in use, none besides, and is indexed by the tag byte no more. Every answer and
-- every promise is unchanged." The entries of the table are the rows, one for one, by the contract of `wire::tag::find`. Assumes nothing.
use Rattle.std.specs.Prelude.{◌≡◌, map, eqb}
use Rattle.laws.specs.Counts.{count}
use Rattle.wire.specs.Tag.{Row, rows}
use Rattle.command.specs.declared.Command.{Command}
use Rattle.page.specs.Page.{Content, Page, content_of}
use Rattle.demands.specs.Tags.{command_kinds, page_kinds, tag_of, kind_of, every_command, every_page_lem, tags_in_use, rows_in_use}

-- The rows have the tags that stand in the bytes of commands and of page fields, each once, in ascending order, and no other. What is in use is read
-- off the bytes of one command and one page of each kind; there is no further kind.
pub no_other_tags : map (λ (r : Row). r.tag) rows ≡ tags_in_use
no_other_tags = rows_in_use

pub all-commands : (c : Command) → count (λ (k : Command). eqb (tag_of k) (tag_of c)) command_kinds ≡ 1
all-commands = every_command

pub all-pages : (c : Content) → count (λ (p : Page). eqb (kind_of (content_of p)) (kind_of c)) page_kinds ≡ 1
all-pages = every_page_lem
