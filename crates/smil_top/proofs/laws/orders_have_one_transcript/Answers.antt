use Rattle.smil_top.specs.Answers.{answer_within, check_within}
use Rattle.smil_top.proofs.TranscriptAnswers.{is_one, is_some, is_enough}
use Rattle.smil_top.proofs.OrdersNeedNoMemory.{never_lacks, checked_never_lacks}
use Rattle.smil_top.proofs.laws.orders_have_one_transcript.Goals as goal

pub returns-clause-never : goal.returns-clause-never
returns-clause-never c = λ allowed. (
  λ session order. never_lacks allowed session order,
  λ session order. checked_never_lacks allowed session order,
)

pub returns-clause-some : goal.returns-clause-some
returns-clause-some c = λ allowed. (
  λ orders. (is_some (answer_within allowed) orders, is_enough (answer_within allowed) (never_lacks allowed) orders),
  λ orders. (is_some (check_within allowed) orders, is_enough (check_within allowed) (checked_never_lacks allowed) orders),
)

pub returns-clause-one : goal.returns-clause-one
returns-clause-one c = λ answering orders told transcript memory. is_one answering transcript memory
