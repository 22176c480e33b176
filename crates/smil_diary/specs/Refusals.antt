-- The fault of a diary, as the refusal of an order.
use Rattle.smil_model.specs.declared.order.Refusal.{Refusal}
use Rattle.smil_model.specs.declared.order.Refusal.TheVariants as refusal
use Rattle.smil_diary.specs.declared.fault.BookFault.{BookFault}
use Rattle.smil_diary.specs.declared.fault.BookFault.TheVariants as book_fault

abbrev pub of_book : BookFault → Refusal
of_book book_fault.DiaryFull = refusal.DiaryFull
of_book book_fault.Memory = refusal.Memory
