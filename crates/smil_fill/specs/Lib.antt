pub mod Numbers
pub mod Current
