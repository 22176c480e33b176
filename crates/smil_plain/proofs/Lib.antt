pub mod ElementsTold
