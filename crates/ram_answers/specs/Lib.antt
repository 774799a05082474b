pub mod Outcomes
pub mod Texts
pub mod TextRuns
pub mod TextEnds
pub mod TextAsks
pub mod StateRuns
pub mod Reports
pub mod Telling
