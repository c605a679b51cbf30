pub mod ContextualWords
pub mod Items
pub mod Literals
pub mod Texts
