pub mod Growth
pub mod OptionWords
