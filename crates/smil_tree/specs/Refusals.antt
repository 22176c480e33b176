-- The fault of an edit, as the refusal of an order.
use Rattle.smil_model.specs.declared.order.Refusal.{Refusal}
use Rattle.smil_model.specs.declared.order.Refusal.TheVariants as refusal
use Rattle.smil_tree.specs.declared.fault.TreeFault.{TreeFault}
use Rattle.smil_tree.specs.declared.fault.TreeFault.TheVariants as tree_fault

abbrev pub of_tree : TreeFault → Refusal
of_tree tree_fault.TooDeep = refusal.TooDeep
of_tree tree_fault.BadPlace = refusal.BadPlace
of_tree tree_fault.DuplicateId = refusal.DuplicateId
of_tree tree_fault.TooManyElements = refusal.TooManyElements
of_tree tree_fault.TooManyReferences = refusal.TooManyReferences
of_tree tree_fault.Root = refusal.Root
of_tree tree_fault.Memory = refusal.Memory
