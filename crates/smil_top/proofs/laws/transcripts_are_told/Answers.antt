use Rattle.smil_top.proofs.TranscriptAnswers.{is_told, each_is_told, with_ease_told, text_of_answers}
use Rattle.smil_top.proofs.laws.transcripts_are_told.Goals as goal

pub returns-clause-told : goal.returns-clause-told
returns-clause-told c = λ answering orders told transcript. is_told answering transcript

pub returns-clause-each : goal.returns-clause-each
returns-clause-each c = λ answering tried. each_is_told answering tried

pub returns-clause-none : goal.returns-clause-none
returns-clause-none c = λ answering orders. with_ease_told answering orders

pub returns-clause-text : goal.returns-clause-text
returns-clause-text c = λ answering tried. text_of_answers answering tried
