pub mod CallLaws
pub mod CrcLaws
pub mod ScrambleLaws
