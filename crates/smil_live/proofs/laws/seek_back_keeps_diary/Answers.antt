use Rattle.smil_live.proofs.RebuiltSame.{diary_back}
use Rattle.smil_live.proofs.laws.seek_back_keeps_diary.Goals as goal

pub returns : goal.returns
returns c p to diary state before settled =
    diary_back p.document p.log p.now to diary state.document.numbered state.log state.logged settled before
