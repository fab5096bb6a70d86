pub mod FileResult
