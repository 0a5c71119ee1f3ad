-- `wall_book_prepare` meets its contract: the tariff made of the eight numbers is the one that the definition takes. Assumes nothing.
use Rattle.wall_book.proofs.wall_book_prepare.Goals as goal

pub returns : goal.returns
returns c = rw c.number_of.ensures (rw c.tariff_of-tariff.ensures at c.prepare.ensures)
