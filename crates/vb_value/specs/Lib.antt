pub mod Stop
pub mod Datum
pub mod Store
