use Rattle.std.proofs.Common.{◌∙◌, ap, ◌++◌, List}
use Rattle.std.proofs.lemmas.Result.{on_ok_weaker}
use Rattle.smil_instances.specs.declared.syncbase.Syncbase.{Syncbase}
use Rattle.smil_past.specs.Syncs.{listed}
use Rattle.smil_past.proofs.ItemReferences.{default_told}
use Rattle.smil_past.proofs.syncs.lists.Reader.put_default.Goals as goal

pub returns : goal.returns
returns c =
    on_ok_weaker c.push_some.result
    (λ pushed e here none.
    pushed
    ∙ ap (λ (own : List Syncbase). c.args.syncs.now.items ++ own)
    (ap listed c.sync_from.ensures
    ∙ default_told c.args.self.now.graph.now.nodes c.args.place e c.args.self.now.dependents.now c.source-source.result c.requires here none c.source-source.ensures))
    c.push_some.ensures
