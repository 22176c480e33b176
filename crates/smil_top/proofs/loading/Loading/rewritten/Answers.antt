use Rattle.std.proofs.Common.{ℕ, List, Bor, to_z, of_z, w64}
use Rattle.std.specs.Prelude.{option_map}
use Rattle.smil_top.proofs.FaultColumns.{near-fault}
use Rattle.smil_top.proofs.loading.Loading.rewritten.Goals as goal

pub refusal-requires : goal.refusal-requires
refusal-requires c =
    near-fault (option_map {T = Bor (List ℕ)} {U = List ℕ} (λ t. t.now) c.match-self.root) (to_z w64 (of_z w64 c.args.start)) c.line.result.now c.in-Err.fault
    c.in-Err.ensures.line c.in-Err.ensures.within
