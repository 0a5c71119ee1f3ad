-- Every definition that a worked case computes with, crate by crate: `unfolding computes` opens them all. Assumes nothing.
use Rattle.laws.specs.Update as LawsUpdate
use Rattle.laws.specs.BigEndian as LawsBigEndian
use Rattle.laws.specs.Lay as LawsLay
use Rattle.pairs.specs.Pairs as PairsPairs
use Rattle.node.specs.Replay as NodeReplay
use Rattle.node.specs.Halves as NodeHalves
use Rattle.node.specs.Ascends as NodeAscends
use Rattle.node.specs.Search as NodeSearch
use Rattle.account.specs.Serve as AccountServe
use Rattle.account.specs.Range as AccountRange
use Rattle.wire.specs.Field as WireField
use Rattle.wire.specs.Tag as WireTag
use Rattle.command.specs.Answer as CommandAnswer
use Rattle.command.specs.Command as CommandCommand
use Rattle.command.specs.Batch as CommandBatch
use Rattle.page.specs.Image as PageImage
use Rattle.page.specs.Decode as PageDecode
use Rattle.tree.specs.Table as TreeTable
use Rattle.tree.specs.Get as TreeGet
use Rattle.tree.specs.Put as TreePut
use Rattle.tree.specs.Delete as TreeDelete
use Rattle.tree.specs.Scan as TreeScan
use Rattle.tree.specs.Sound as TreeSound
use Rattle.store.specs.View as StoreView
use Rattle.store.specs.Pool as StorePool
use Rattle.store.specs.Store as StoreStore
use Rattle.store.specs.Live as StoreLive
use Rattle.store.specs.Allocate as StoreAllocate
use Rattle.store.specs.Write as StoreWrite
use Rattle.store.specs.Run as StoreRun
use Rattle.store.specs.Serve as StoreServe
use Rattle.store.specs.Checkpoint as StoreCheckpoint
use Rattle.store.specs.Reopen as StoreReopen
use Rattle.book.specs.Book as BookBook
use Rattle.book.specs.Command as BookCommand
use Rattle.book.specs.InTurn as BookInTurn
use Rattle.model.specs.State as ModelState
use Rattle.model.specs.Batch as ModelBatch
use Rattle.model.specs.Mount as ModelMount
use Rattle.model.specs.Prepare as ModelPrepare
use Rattle.model.specs.Bytes as ModelBytes
use Rattle.model.specs.Pool as ModelPool
use Rattle.model.specs.Questions as ModelQuestions
use Rattle.model.specs.Call as ModelCall
use Rattle.model.specs.Calls as ModelCalls

-- Numbers, fields and tags in bytes; commands and answers.
unfoldable of_bytes : Unit {0}
unfolding LawsUpdate.update LawsBigEndian.number_at LawsLay.lay LawsLay.part WireField.field WireField.field_at WireField.payload_at WireField.stands_at
    WireTag.rows WireTag.find WireTag.length_of WireTag.is_node_bytes CommandCommand.in_range CommandCommand.command_of CommandCommand.command_at
    CommandBatch.run CommandBatch.commands_from CommandBatch.commands_of CommandAnswer.answer_bytes CommandAnswer.scan_bytes
    CommandAnswer.ceiling_bytes
of_bytes = tt

-- Pages, written and read.
unfoldable of_pages : Unit {0}
unfolding PageImage.entry_bytes PageImage.pairs_bytes PageImage.whole_bytes PageImage.tariff_bytes PageImage.score_bytes PageImage.fields
    PageImage.content_bytes PageImage.numbered PageImage.sums_field PageImage.sealed PageImage.image PageImage.blank_bytes PageDecode.all_blank
    PageDecode.sealed_at PageDecode.run PageDecode.payloads PageDecode.change_ok PageDecode.change_of PageDecode.entry_ok PageDecode.entry_of
    PageDecode.pairs_from PageDecode.node_ok PageDecode.node_of PageDecode.tariff_of PageDecode.score_of PageDecode.when PageDecode.decode_log
    PageDecode.decode_node PageDecode.decode_scores PageDecode.decode_counted PageDecode.decode_checkpoint PageDecode.decode_content
    PageDecode.decode_written PageDecode.decode
of_pages = tt

-- The account; nodes and the tree over them.
unfoldable of_tree : Unit {0}
unfolding AccountServe.serve_of AccountRange.within_range AccountRange.costs_in_range AccountRange.in_range PairsPairs.lookup PairsPairs.insert
    PairsPairs.delete PairsPairs.range PairsPairs.has_above NodeReplay.redo NodeReplay.redo_piece NodeReplay.replay_from NodeReplay.replay
    NodeHalves.lower_half NodeHalves.upper_half NodeHalves.middle_key NodeAscends.ascends NodeSearch.place TreeTable.slot TreeTable.path
    TreeTable.leaf_for TreeGet.get_answer TreePut.renamed TreePut.settle TreePut.work TreePut.finish TreePut.full_run TreePut.ids_needed
    TreePut.put_refused TreePut.put_requests TreeDelete.delete_requests TreeScan.stops_in TreeScan.pairs_from TreeScan.leaves_after TreeScan.scan_reads
    TreeScan.scan_answer TreeSound.in_order TreeSound.visit_leaf TreeSound.visit_children TreeSound.visit_branch TreeSound.visit TreeSound.leftmost
    TreeSound.all_marked TreeSound.complete TreeSound.walk_from TreeSound.sound
of_tree = tt

-- The flash store.
unfoldable of_store : Unit {0}
unfolding StoreView.greatest StoreView.pieces StoreView.buffered StoreView.pages StorePool.above StoreStore.draft_of StoreStore.node_of StoreStore.mode_of
    StoreLive.carries StoreLive.checkpoint_since StoreAllocate.spot StoreWrite.found StoreWrite.place StoreWrite.flush StoreWrite.enter
    StoreWrite.start StoreWrite.node_page StoreRun.written StoreRun.write StoreRun.make_room StoreRun.write_group StoreRun.write_edit StoreServe.serve
    StoreServe.create StoreCheckpoint.checkpoint_pages StoreCheckpoint.close StoreCheckpoint.collect StoreCheckpoint.checkpoint_of
    StoreCheckpoint.score_in StoreCheckpoint.complete StoreReopen.cells_in StoreReopen.reopened StoreReopen.blocks_pass StoreReopen.pages_pass
of_store = tt

-- The book, prepare and batch.
unfoldable pub computes : Unit {0}
unfolding of_bytes of_pages of_tree of_store BookBook.serve BookBook.charge BookCommand.requests BookCommand.refuses BookCommand.answer BookInTurn.each_panel
    ModelState.book_of ModelState.serve ModelBatch.closed ModelMount.state_of ModelMount.three_pages ModelMount.scores_below ModelMount.TreeSound
    ModelMount.mount_cells ModelPrepare.prepared ModelBytes.cells_from ModelBytes.cells_of ModelPool.pool_length ModelPool.mount_of ModelQuestions.of_buffers
    ModelQuestions.of_pool ModelQuestions.of_prepare ModelCall.outcome ModelCall.prepare_of ModelCalls.book_in
computes = tt
