pub mod Histories
pub mod Names
pub mod Sets
pub mod ShownViews
pub mod Told
pub mod ViewTable
