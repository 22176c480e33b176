-- The limits of documents and diaries as a value, so that what is ordered has a meaning under
-- smaller limits too.
use Rattle.std.specs.Prelude.{ℕ}
use Rattle.smil_model.specs.declared.limits.TheConstants.{NODES, REFERENCES, DIARY_ENTRIES}

-- the greatest number of nodes of a document, of its items that are references,
-- and of the entries of its diary
pub record Limits : Type 0 where
  pub nodes : ℕ
  pub references : ℕ
  pub entries : ℕ

-- the limits that hold
abbrev pub limits : Limits
limits = record { nodes = NODES; references = REFERENCES; entries = DIARY_ENTRIES }
