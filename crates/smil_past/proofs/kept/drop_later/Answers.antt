use Rattle.std.proofs.Common.{rules, ◌≡◌, sym, subst, take, Bool, nat_le}
use Rattle.std.specs.Prelude.{filter}
use Rattle.std.proofs.lemmas.Bool.{leb-true}
use Rattle.std.proofs.lemmas.Fn.{filter_same}
use Rattle.smil_past.specs.declared.kept.KeptReadings.{KeptReadings}
use Rattle.smil_past.specs.Kept.{AreKept}
use Rattle.smil_past.proofs.KeptFronts.{kept_filtered}
use Rattle.smil_past.proofs.kept.drop_later.Goals as goal

pub returns : goal.returns
returns c = λ document log diary are.
    let test : KeptReadings → Bool = λ (k : KeptReadings). nat_le k.len c.args.len in
    let left : c.retain.new.self.items ≡ filter test c.args.kept.now.items = filter_same _ test _ (λ x b f' k. search rules) _ _ c.retain.ensures.filtered in
    subst (AreKept document log (take c.args.len diary)) (sym left)
    (kept_filtered document log diary c.args.len test (λ k passes. leb-true k.len c.args.len passes) c.args.kept.now.items are)
