pub mod PlainPages
