pub mod Words
pub mod Programs
pub mod Answers
pub mod Reports
pub mod Headline
