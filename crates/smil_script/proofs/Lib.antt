pub mod CopiedLines
pub mod EventLines
pub mod EventNames
pub mod SerialNumbers
