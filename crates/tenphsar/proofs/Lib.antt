pub mod LooseValues
pub mod HandleValues
mod PiecesCopied
