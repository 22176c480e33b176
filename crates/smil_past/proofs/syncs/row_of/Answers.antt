use Rattle.std.proofs.Common.{◌≡◌, ◌≤◌, ◌∙◌, ◌++◌, ap, sym, subst, List, Some, length, take, drop, arith}
use Rattle.std.proofs.Math.Seq.{drop-append_seam, take-append_seam}
use Rattle.std.specs.Prelude.{slice_get}
use Rattle.smil_model.specs.declared.document.Node.{Node}
use Rattle.smil_model.specs.declared.document.Attrs.{Attrs}
use Rattle.smil_model.specs.declared.document.Edge.TheVariants.{Begin, End}
use Rattle.smil_model.specs.document.Document.{elements, node_at}
use Rattle.smil_instances.specs.declared.syncbase.Syncbase.{Syncbase}
use Rattle.smil_instances.proofs.SiblingBefore.{element_is}
use Rattle.smil_past.specs.Syncs.{syncs_of, sync_row, SyncRow}
use Rattle.smil_past.proofs.ItemReferences.{attrs_are, kept_known, row_is, stands}
use Rattle.std.proofs.lemmas.Result.{IfOk-weaker}
use Rattle.smil_past.proofs.syncs.row_of.Goals as goal

pub new-requires : goal.new-requires
new-requires c = omega (arith, c.len-begins.ensures, c.in_ok-put_ends.ensures.most)

pub returns : goal.returns
returns c =
    let nodes = c.args.tree.now.nodes in
    let place = c.args.place in
    let who = c.args.who in
    let first = c.put_begins.new.syncs.items in
    let all = c.put_ends.new.syncs.items in
    let count = c.len-begins.result in
    let counted : count ≡ length first = c.len-begins.ensures.value in
    IfOk-weaker c.new.result
    (λ (row : SyncRow). row ≡ record { serial = who; begins = take count all; ends = drop count all; makeup = c.makeup_of.result })
    (λ (row : SyncRow). (e : Node) → slice_get (elements nodes) place ≡ Some e → node_at nodes who ≡ Some e → row ≡ sync_row nodes e)
    (λ row made e here known.
    let found : node_at (elements nodes) who ≡ Some e = kept_known nodes who e known (element_is nodes place e here) in
    let attrs : e.attrs ≡ c.attrs-attrs.result.now = attrs_are nodes who e c.attrs-attrs.result.now c.attrs-attrs.ensures known in
    let begins : first ≡ syncs_of nodes Begin e =
    subst (λ (ns : List Node). slice_get (elements ns) place ≡ Some e → node_at (elements ns) who ≡ Some e → e.attrs.begin ≡ c.attrs-attrs.result.now.begin → first ≡ syncs_of ns Begin e) c.requires.graph
    (λ at known_at same. c.in_ok-put_begins.ensures e at known_at same ∙ ap (λ (syncs : List Syncbase). syncs ++ syncs_of c.args.reader.now.graph.now.nodes Begin e) c.new-syncs.ensures.items) here found (ap (λ (a : Attrs). a.begin) attrs) in
    let both : all ≡ first ++ syncs_of nodes End e =
    subst (λ (ns : List Node). slice_get (elements ns) place ≡ Some e → node_at (elements ns) who ≡ Some e → e.attrs.«end» ≡ c.attrs-attrs.result.now.«end» → all ≡ first ++ syncs_of ns End e) c.requires.graph (c.in_ok-put_ends.ensures.told e) here found (ap (λ (a : Attrs). a.«end») attrs) in
    row_is nodes e who (take count all) (drop count all) c.makeup_of.result row made (sym (stands nodes who e known).serial)
    (ap (λ n. take n all) counted ∙ ap (take (length first)) both ∙ take-append_seam first (syncs_of nodes End e) ∙ begins)
    (ap (λ n. drop n all) counted ∙ ap (drop (length first)) both ∙ drop-append_seam first (syncs_of nodes End e)) (c.makeup_of.ensures e known))
    c.new.ensures
