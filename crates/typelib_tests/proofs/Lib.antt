pub mod ConstantLibraries
