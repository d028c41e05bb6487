pub mod MergerBytes
