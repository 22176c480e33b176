pub mod MovedBegin
