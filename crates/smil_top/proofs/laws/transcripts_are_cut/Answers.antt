use Rattle.smil_top.proofs.InputParts.{has_front, front_and_one, any_part}
use Rattle.smil_top.proofs.laws.transcripts_are_cut.Goals as goal

pub returns-clause-fronts : goal.returns-clause-fronts
returns-clause-fronts c = λ answering first later told transcript. has_front answering first later told transcript

pub returns-clause-cut : goal.returns-clause-cut
returns-clause-cut c = λ answering came more. front_and_one answering came more

pub returns-clause-all : goal.returns-clause-all
returns-clause-all c = λ answering came more whole transcript. any_part answering came more whole transcript
