use Rattle.std.proofs.Common.{◌≡◌, Ok, subst}
use Rattle.smil_switch.specs.Choices.{pushed}
use Rattle.smil_top.proofs.LineLevels.{kept-level}
use Rattle.smil_top.proofs.loading.Loading.push_chosen.Goals as goal

pub push_kept-requires : goal.push_kept-requires
push_kept-requires c =
    let before = c.self.inside.chooser in
    let line = c.args.line.now in
    kept-level before c.push.new.self line c.in-Kept.removed c.if-line-gt-LINE_BYTES.false
    (subst (λ answer. pushed before line ≡ Ok (c.push.new.self, answer)) c.in-Kept.is c.in_ok-chosen.ensures)
