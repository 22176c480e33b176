use Rattle.std.proofs.Common.{◌≡◌, ◌<◌, ◌≤◌, [], ◌∷◌, sym, length, slice_index_or, rules}
use Rattle.std.proofs.lemmas.List.{get_or_past}
use Rattle.smil_flat_lists.specs.Cuts.{cut}
use Rattle.smil_flat_lists.proofs.CutLists.{length_cut, cut_at, rise_at}
use Rattle.smil_flat_lists.proofs.flat_lists.FlatLists.at.Goals as goal

pub part-requires : goal.part-requires
part-requires g c =
    let low : c.args.index < length c.self.inside.ends.items = search rules in
    let rise = rise_at 0 c.self.inside.ends.items (length c.self.inside.values.items) c.args.index c.self.invariant low in
    let end : c.in-Some.end.now ≡ slice_index_or c.self.inside.ends.items c.args.index 0 = search rules in
    let start : c.start_of.result ≡ slice_index_or (0 ∷ c.self.inside.ends.items) c.args.index 0 = search rules in
    record {
      start = rw (start, end) rise.0;
      end = rw (end, c.deref.ensures.value) rise.1;
    }

pub returns-in-Some : goal.returns-in-Some
returns-in-Some g c =
    let low : c.args.index < length c.self.inside.ends.items = search rules in
    let end : c.in-Some.end.now ≡ slice_index_or c.self.inside.ends.items c.args.index 0 = search rules in
    let start : c.start_of.result ≡ slice_index_or (0 ∷ c.self.inside.ends.items) c.args.index 0 = search rules in
    let at = cut_at 0 c.self.inside.ends.items c.self.inside.values.items c.args.index low in
    rw (← c.self.view_is, at, ← start, ← end, ← c.deref.ensures.value) c.part.ensures

pub returns-in-None : goal.returns-in-None
returns-in-None g c =
    let past : length c.self.inside.ends.items ≤ c.args.index = search rules in
    rw (← c.self.view_is) (sym (get_or_past (cut 0 c.self.inside.ends.items c.self.inside.values.items) c.args.index []
    (rw length_cut past)))
