pub mod PieceCount
pub mod ReferenceSubjects
pub mod ItemJoins
pub mod PrintableItems
pub mod ItemRoundTrip
pub mod ListRoundTrip
