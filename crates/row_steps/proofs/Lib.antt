pub mod NullsWritten
pub mod ValuesMet
