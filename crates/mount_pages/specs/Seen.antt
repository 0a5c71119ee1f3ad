-- What the survey sees of one page: nothing, a sequence number, or bytes that do not check. Assumes nothing.
use Rattle.std.specs.Prelude.{◌≡◌, refl, List, ℕ}
use Rattle.std.proofs.Common.{sym, ap, ◌∙◌}
use Rattle.page.specs.Page.{log, whole, checkpoint, page, sequence}
use Rattle.page.specs.Decode.{Decoded, blank, written, bad, decode}
use Rattle.page_read.specs.View as read
use Rattle.page_read.specs.declared.view.PageView.{PageView}
use Rattle.page_read.specs.declared.view.PageView.TheVariants as view

pub data Seen : Type 0 where
  Blank : Seen
  Numbered : ℕ → Seen
  Bad : Seen

-- A page's view in short.
abbrev pub seen_in : PageView → Seen
seen_in view.Blank = Blank
seen_in (view.Log s n) = Numbered s
seen_in (view.NodePage s id shape n) = Numbered s
seen_in (view.Checkpoint s first n nodes) = Numbered s
seen_in view.Bad = Bad

-- What bytes are that were judged as a page.
abbrev pub seen : Decoded → Seen
seen blank = Blank
seen (written p) = Numbered (sequence p)
seen bad = Bad

unfoldable pub seen_of : List ℕ → Seen
seen_of b = seen (decode b)

pub seen-view : (d : Decoded) → seen_in (read.view d) ≡ seen d
seen-view blank = refl
seen-view (written (page s (log es))) = refl
seen-view (written (page s (whole id n))) = refl
seen-view (written (page s (checkpoint t ss c))) = refl
seen-view bad = refl

-- The same of the view that the code has of a page.
pub view-seen : (b : List ℕ) (v : PageView) → v ≡ read.view_of b → seen_of b ≡ seen_in v
unfolding seen_of read.view_of
view-seen b v e = sym (ap seen_in e ∙ seen-view (decode b))
