pub mod Writer
pub mod Reports
pub mod ReportLines
pub mod MirrorLines
