use Rattle.smil_outside.proofs.FirstLineFeed.{none_anywhere, first_feed}
use Rattle.smil_outside.proofs.window.Window.line_feed.Goals as goal

pub returns-in_err-at : goal.returns-in_err-at
returns-in_err-at c =
    rw c.from_residual.ensures (none_anywhere c.args.self.now.bytes c.bytes.result.now c.args.from c.bytes.ensures.value c.requires.before c.in_err-at.ensures)

pub returns : goal.returns
returns c =
    first_feed c.args.self.now.bytes c.bytes.result.now c.args.from c.in_ok-at.at c.bytes.ensures.value c.requires.within c.requires.before c.in_ok-at.ensures.0 c.in_ok-at.ensures.1
