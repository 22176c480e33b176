pub mod Rising
pub mod Next
