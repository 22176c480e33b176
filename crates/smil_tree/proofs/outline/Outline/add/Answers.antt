use Rattle.std.proofs.Common.{◌≡◌, ◌+◌, ◌++◌, ◌∷◌, [], sym, ap, subst, ◌∙◌, cond, length, take, arith}
use Rattle.std.specs.Result.{is_ok}
use Rattle.std.proofs.lemmas.List.{length-append}
use Rattle.std.proofs.lemmas.Option.{slice_get_within}
use Rattle.smil_model.specs.document.Document.{serials, time_children, elements, is_element}
use Rattle.smil_laws.proofs.NumberedTrees.{ordered}
use Rattle.smil_tree.proofs.KinLists.{serials-append}
use Rattle.smil_tree.proofs.OutlineRows.{few_children, few_elements, children_more, elements_more, serial_if, RowsAre, rows_more}
use Rattle.smil_tree.proofs.outline.Outline.add.Goals as goal

pub unwrap-requires : goal.unwrap-requires
unwrap-requires c =
    let kin = ap length (c.time_children.ensures ∙ c.requires.kin.time_children c.args.node.now.serial) in
    c.extend_from_slice.ensures.succeeds
    (omega (
      arith,
      kin,
      c.requires.begun.children,
      c.requires.begun.room.children,
      children_more c.args.nodes.now (length c.args.self.now.rows.items) c.args.node.now c.requires.here,
      few_children c.args.nodes.now (length c.args.self.now.rows.items + 1) (ordered _ c.requires.valid.1.numbered),
    ))

pub add_element-requires : goal.add_element-requires
add_element-requires c =
    let within = slice_get_within c.args.nodes.now (length c.args.self.now.rows.items) c.args.node.now c.requires.here in
    omega (arith, ap length c.requires.begun.elements, few_elements c.args.nodes.now (length c.args.self.now.rows.items), within, c.requires.begun.room.elements)

pub unwrap-requires-2 : goal.unwrap-requires-2
unwrap-requires-2 c =
    let within = slice_get_within c.args.nodes.now (length c.args.self.now.rows.items) c.args.node.now c.requires.here in
    c.push.ensures.succeeds (omega (arith, within, c.requires.begun.room.rows))

pub returns : goal.returns
returns c =
    let rows : c.push.new.self.items ≡ c.args.self.now.rows.items ++ c.row_of-row.result ∷ [] =
    c.push.ensures.items ∙ ap (λ b. cond b (c.args.self.now.rows.items ++ c.row_of-row.result ∷ []) c.args.self.now.rows.items) (ap is_ok c.unwrap-2.ensures) in
    let kids : c.extend_from_slice.new.self.items ≡ c.args.self.now.children.items ++ serials (time_children c.args.nodes.now c.args.node.now.serial) =
    c.extend_from_slice.ensures.items
    ∙ ap (λ b. cond b (c.args.self.now.children.items ++ c.time_children.result.now) c.args.self.now.children.items) (ap is_ok c.unwrap.ensures)
    ∙ ap (λ xs. c.args.self.now.children.items ++ xs) (c.time_children.ensures ∙ c.requires.kin.time_children c.args.node.now.serial) in
    record {
      count = omega (arith, ap length rows, length-append c.args.self.now.rows.items (c.row_of-row.result ∷ []));
      rows =
          subst (λ xs. RowsAre c.args.nodes.now xs c.extend_from_slice.new.self.items) (sym rows)
          (subst (λ ys. RowsAre c.args.nodes.now (c.args.self.now.rows.items ++ c.row_of-row.result ∷ []) ys) (sym kids)
          (rows_more c.args.nodes.now c.args.self.now.rows.items c.args.self.now.children.items (serials (time_children c.args.nodes.now c.args.node.now.serial)) c.args.node.now c.row_of-row.result c.requires.begun.rows c.requires.here c.row_of-row.ensures.row c.row_of-row.ensures.children));
      children =
          omega (
            arith,
            ap length kids,
            length-append c.args.self.now.children.items (serials (time_children c.args.nodes.now c.args.node.now.serial)),
            c.requires.begun.children,
            children_more c.args.nodes.now (length c.args.self.now.rows.items) c.args.node.now c.requires.here,
          );
      elements =
          c.add_element.ensures.items
          ∙ ap (λ xs. xs ++ cond (is_element c.args.node.now) (c.args.node.now.serial ∷ []) []) c.requires.begun.elements
          ∙ ap (λ xs. serials (elements (take (length c.args.self.now.rows.items) c.args.nodes.now)) ++ xs) (sym (serial_if (is_element c.args.node.now) c.args.node.now))
          ∙ sym (serials-append (elements (take (length c.args.self.now.rows.items) c.args.nodes.now)) (cond (is_element c.args.node.now) (c.args.node.now ∷ []) []))
          ∙ ap serials (sym (elements_more c.args.nodes.now (length c.args.self.now.rows.items) c.args.node.now c.requires.here));
      room = record {
        rows = omega (arith, c.requires.begun.room.rows, c.push.ensures.capacity);
        children = omega (arith, c.requires.begun.room.children, c.extend_from_slice.ensures.capacity);
        elements = omega (arith, c.requires.begun.room.elements, c.add_element.ensures.capacity);
      };
    }
